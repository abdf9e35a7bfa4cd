-- What a context of the code stands for.
use Rattle.std.specs.Prelude.{◌≡◌, ℕ, ◌-◌, true, false, [], length, Option, None, Some, if◌then◌else◌}
use Rattle.gn_value.specs.declared.value.Place.{Place}
use Rattle.gn_value.specs.declared.value.Place.TheVariants.{Point, Edge, Face, Corner}
use Rattle.gn_value.specs.declared.value.Value.{Value}
use Rattle.gn_value.specs.declared.value.ValueKind.{ValueKind}
use Rattle.gn_value.specs.declared.op.Topology as code
use Rattle.gn_plain.specs.Topology.{Topology, shape_of, IsValid, IsNumbered}
use Rattle.gn_plain.specs.Interpolation.{interpolated}
use Rattle.gn_plain.specs.Contexts.{Component, Context, nowhere, on, is_of_mesh}

-- the place of the elements; the empty context has none
abbrev pub place_of : Context → Option Place
place_of nowhere = None
place_of (on c p) = Some p

-- the same component on one of its places
abbrev pub on_place : Context → Place → Option Context
on_place nowhere p = None
on_place (on c q) p = if c.has p then Some (on c p) else None

-- ---- the topology of a context

abbrev pub topology_of : code.Topology → Topology
topology_of t = record { points = t.points; edges = t.edges.now; corner_points = t.corner_points.now; corner_edges = t.corner_edges.now; faces = t.faces.now }

-- how many elements a place has
abbrev pub count_on : Topology → Place → ℕ
count_on t Point = t.points
count_on t Edge = length t.edges
count_on t Face = length t.faces - 1
count_on t Corner = length t.corner_points
count_on t _ = 0

-- a mesh's component has the elements of a topology, and interpolates by it
pub record HasTopology (c : Component) (t : Topology) : Type 0 where
  pub valid : IsValid t
  pub numbered : IsNumbered t
  pub has : (p : Place) → c.has p ≡ is_of_mesh p
  pub count : (p : Place) → is_of_mesh p ≡ true → c.count p ≡ count_on t p
  pub interpolated : (kind : ValueKind) (from to : Place) (value : ℕ → Value) (i : ℕ) → c.interpolated kind from to value i ≡ interpolated (shape_of [] t) kind from to value i

-- values on the places of a component are those on one of them
abbrev pub KeepsValues : Component → Place → Type 0
KeepsValues c p = (kind : ValueKind) (q : Place) (value : ℕ → Value) (i : ℕ) → c.has q ≡ true → c.interpolated kind q p value i ≡ value i

-- a component has one place
abbrev pub HasOnly : Component → Place → Type 0
HasOnly c p = (q : Place) → c.has q ≡ true → q ≡ p

-- a place of a mesh has a topology; another component has none, and one place alone
abbrev pub IsTopologyOf : Context → Option code.Topology → Type 0
IsTopologyOf nowhere None = Unit {0}
IsTopologyOf nowhere (Some t) = ⊥
IsTopologyOf (on c p) None = (is_of_mesh p ≡ false) × (KeepsValues c p × HasOnly c p)
IsTopologyOf (on c p) (Some t) = (is_of_mesh p ≡ true) × HasTopology c (topology_of t)
