-- Parts that share no block, as they are gathered.
use Rattle.std.proofs.Common.{◌≡◌, ℕ, ◌<◌, List, [], ◌∷◌, length, set, get_or, sym, subst}
use Rattle.std.specs.List.{All}
use Rattle.std.proofs.lemmas.List.Elements.{All-append, All-cons, All-head, All-map, All-nil, All-set, All-tail}
use Rattle.gn_plain.specs.Columns.{Entry}
use Rattle.gn_attr.specs.Columns.{AreSole}
use Rattle.gn_attr.specs.declared.column.Column.{Column}
use Rattle.gn_geometry.specs.declared.geometry.Transform.{Transform}
use Rattle.gn_geometry.specs.Clouds as clouds
use Rattle.gn_geometry.specs.Clouds.{CloudView}
use Rattle.gn_geometry.specs.Meshes as meshes
use Rattle.gn_geometry.specs.Meshes.{MeshView}
use Rattle.gn_geometry.specs.Geometries.{GeometryView, geometry, InstancesView, instances, Parts, no_parts, part, instances_in, list_of, parts_in, parts_of, with_columns, AreSoleInstances, AreSoleParts, IsSole}
use Rattle.gn_join.specs.declared.placed.Slot.{Slot}
use Rattle.gn_join.specs.declared.placed.Slot.TheVariants.{Waiting, At}
use Rattle.gn_join.specs.Gathering.{slots_of, IsSoleSlot, Numbers, StaySole}

pub sole_step : (before after : List GeometryView) (slots now : List Slot) (i n : ℕ) (s s' : Slot) → i < length slots → s ≡ get_or slots i s → Numbers s before after n s' → now ≡ set slots i s' → StaySole before slots after now
sole_step before after slots now i n (Waiting g) s' below at nums is parts waiting =
    let here : IsSole g = subst IsSoleSlot (sym at) (waiting i (Waiting g) below) in (
      subst (λ (gs : List GeometryView). All IsSole gs) (sym nums.0) (All-append IsSole before (g ∷ []) parts (All-cons IsSole g [] here (All-nil IsSole))),
      subst (λ (ss : List Slot). All IsSoleSlot ss) (sym is) (All-set IsSoleSlot slots i s' (subst IsSoleSlot (sym nums.2) tt) waiting),
    )
sole_step before after slots now i n (At k) s' below at nums is parts waiting = (
  subst (λ (gs : List GeometryView). All IsSole gs) (sym nums.0) parts,
  subst (λ (ss : List Slot). All IsSoleSlot ss) (sym is) (All-set IsSoleSlot slots i s' (subst IsSoleSlot (sym nums.2) tt) waiting),
)

list_sole : (ps : Parts) → AreSoleParts ps → All IsSole (list_of ps)
list_sole no_parts sole = All-nil IsSole
list_sole (part g gs) sole = All-cons IsSole g (list_of gs) sole.0 (list_sole gs sole.1)

-- the parts of instances
pub parts_sole : (is : InstancesView) → AreSoleInstances is → All IsSole (parts_in is)
parts_sole (instances parts items columns) sole = list_sole parts sole.0

pub slots_sole : (ps : List GeometryView) → All IsSole ps → All IsSoleSlot (slots_of ps)
slots_sole ps sole = All-map IsSoleSlot Waiting ps sole

pub instances_sole : (g : GeometryView) → IsSole g → AreSoleInstances (instances_in g)
instances_sole (geometry m c is) sole = sole.2

-- the instances of a geometry that is at this number
pub sole_there : (gs : List GeometryView) (i : ℕ) (g : GeometryView) → i < length gs → g ≡ get_or gs i g → All IsSole gs → AreSoleInstances (instances_in g)
sole_there gs i g below at sole = instances_sole g (subst IsSole (sym at) (sole i g below))

parts_made : (ps : List GeometryView) → All IsSole ps → AreSoleParts (parts_of ps)
parts_made [] sole = tt
parts_made (g ∷ gs) sole = (All-head IsSole g gs sole, parts_made gs (All-tail IsSole g gs sole))

-- instances that are made of sole parts
pub made_sole : (ps : List GeometryView) (items : List (Transform × ℕ)) (is : InstancesView) → is ≡ instances (parts_of ps) items [] → All IsSole ps → AreSoleInstances is
made_sole ps items is same sole = subst AreSoleInstances (sym same) (parts_made ps sole, tt)

columns_made : (is : InstancesView) (columns : List (Entry Column)) → AreSoleInstances is → AreSole columns → AreSoleInstances (with_columns is columns)
columns_made (instances parts items old) columns sole new = (sole.0, new)

-- the join
pub joined_sole : (m : MeshView) (c : CloudView) (is now : InstancesView) (columns : List (Entry Column)) → meshes.IsSole m → clouds.IsSole c → AreSole columns → now ≡ with_columns is columns → AreSoleInstances is → IsSole (geometry m c now)
joined_sole m c is now columns mesh cloud new same sole = (mesh, cloud, subst AreSoleInstances (sym same) (columns_made is columns sole new))
