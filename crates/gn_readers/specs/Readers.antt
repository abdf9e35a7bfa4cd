-- Which links lead to the outputs of a node.
use Rattle.std.specs.Prelude.{◌≡◌, ◌≢◌, ◌↔◌, ◌<◌, ◌==◌, ◌&&◌, ◌||◌, ℕ, Bool, true, false, List, [], map, length, nat_lt, Option, Some, option_and_then, slice_get, slice_index_or}
use Rattle.std.specs.declared.alloc.Global.{Global}
use Rattle.std.specs.declared.vec.Vec.{Vec}
use Rattle.gn_lazy.specs.Graphs.{Nodes}
use Rattle.gn_lazy.specs.declared.graph.Origin.TheVariants.{Out}
use Rattle.gn_lazy.specs.declared.graph.Link.{Link}
use Rattle.gn_node_set.specs.Meanings.{Has, AllDiffer}
use Rattle.gn_readers.specs.declared.place.Place.{Place}
use Rattle.gn_readers.specs.declared.place.Place.TheVariants.{Input, Root}
use Rattle.gn_readers.specs.declared.place.Reader.{Reader}

abbrev pub lists_of : {A : Type 0} → List (Vec A Global) → List (List A)
lists_of rows = map (λ row. row.items) rows

module _ {G : Type 0} (g : Nodes G) where
  -- the link whose value goes to a place
  abbrev pub link_at : Place → Option Link
  link_at (Input node input) = option_and_then (λ at. slice_get at.inputs.items input) (slice_get g.nodes node)
  link_at (Root root) = slice_get g.roots root

  -- the reader is a link that leads to an output of the node
  abbrev pub LeadsTo : ℕ → Reader → Type 0
  LeadsTo n r = (link : Link) × (link_at r.place ≡ Some link) × (link.origin ≡ Out n r.output)

  -- of the links at some places the readers are just those that lead to outputs of the node, each once
  pub record AreReadersAt (looked : Place → Bool) (n : ℕ) (rs : List Reader) : Type 0 where
    pub each : (r : Reader) → Has rs r ↔ ((looked r.place ≡ true) × LeadsTo n r)
    pub differ : AllDiffer (map (λ r. r.place) rs)

  -- the readers are just the links that lead to outputs of the node, each once
  pub record AreReaders (n : ℕ) (rs : List Reader) : Type 0 where
    pub each : (r : Reader) → Has rs r ↔ LeadsTo n r
    pub differ : AllDiffer (map (λ r. r.place) rs)

  -- there are readers for each node, of the links at some places
  pub record HaveReadersAt (looked : Place → Bool) (rows : List (List Reader)) : Type 0 where
    pub all : length rows ≡ length g.nodes
    pub each_node : (n : ℕ) → n < length g.nodes → AreReadersAt looked n (slice_index_or rows n [])

  -- there are readers for each node
  pub record HaveReaders (rows : List (List Reader)) : Type 0 where
    pub all : length rows ≡ length g.nodes
    pub each_node : (n : ℕ) → n < length g.nodes → AreReaders n (slice_index_or rows n [])

-- the places that come before an input, and those that come before a root; roots come behind all inputs
abbrev pub before_input : ℕ → ℕ → Place → Bool
before_input node input (Input n i) = nat_lt n node || (n == node && nat_lt i input)
before_input node input (Root r) = false

abbrev pub before_root : ℕ → Place → Bool
before_root root (Input n i) = true
before_root root (Root r) = nat_lt r root

-- one place more
pub record IsOneMore (looked : Place → Bool) (place : Place) (looked' : Place → Bool) : Type 0 where
  pub new : looked place ≡ false
  pub here : looked' place ≡ true
  pub others : (p : Place) → p ≢ place → looked' p ≡ looked p
