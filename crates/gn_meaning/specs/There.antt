-- The sites that are there in a tree.
use Rattle.std.specs.Prelude.{◌≡◌, ◌<◌, ℕ, List, length, Some}
use Rattle.gn_tree.specs.Trees.{Node, Tree}
use Rattle.gn_rules.specs.Sockets.{node_at, outputs_of}
use Rattle.gn_meaning.specs.Sites.{Way, the_tree, into, plain_step, turn_step, Site, at_output, at_input, at_item, at_constant, nowhere, Read}
use Rattle.gn_meaning.specs.Bodies.{Body, tree_body}
use Rattle.gn_meaning.specs.Reads.{Run, a_group, a_repeat, part_at}

module _ (t : Tree) where
  -- the way leads to that list, into group nodes and into turns of zones
  pub data LeadsTo : Way → Body → Type 0 where
    to_the_tree : LeadsTo the_tree (tree_body t)
    into_group : {way : Way} {b inner : Body} (n : ℕ) (reads : List Read) → LeadsTo way b → part_at t way n ≡ Some (a_group inner reads) → LeadsTo (into way (plain_step n)) inner
    into_turn : {way : Way} {b inner : Body} (n k : ℕ) (run : Run) → LeadsTo way b → part_at t way n ≡ Some (a_repeat run inner) → LeadsTo (into way (turn_step n k)) inner

  -- an output that a node declares, an input that a list has, an item of a zone, or a constant
  abbrev pub IsThere : Site → Type 0
  IsThere (at_output way n s) = (b : Body) × LeadsTo way b × (x : Node) × (node_at b.scope.nodes n ≡ Some x) × (s < length (outputs_of b.scope.groups x))
  IsThere (at_input way i) = (b : Body) × LeadsTo way b × (i < length b.scope.entries)
  IsThere (at_item way n k i) = (b : Body) × LeadsTo way b × (run : Run) × (inner : Body) × (part_at t way n ≡ Some (a_repeat run inner)) × (i < length inner.sockets)
  IsThere (at_constant c) = Unit {0}
  IsThere nowhere = ⊥
