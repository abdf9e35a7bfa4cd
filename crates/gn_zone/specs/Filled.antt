-- What a zone opens over its constants themselves, in which values are filled in.
use Rattle.std.specs.Prelude.{◌≡◌, ℕ, map, length, Some}
use Rattle.gn_nodes.specs.declared.values.Opened.{Opened as CodeOpened}
use Rattle.gn_tree.specs.declared.kind.Kind.{Kind}
use Rattle.gn_tree.specs.NodeKinds as tree
use Rattle.gn_node_kind.specs.Seen.{written_as}
use Rattle.gn_node_set.specs.Paths.{Path}
use Rattle.gn_node_set.specs.Meanings.{Opened}
use Rattle.gn_exec_laws.specs.Tasks.{opened_of}
use Rattle.gn_meaning.specs.Denotation.{Given}
use Rattle.gn_stands.specs.Zones.{opened_within}
use Rattle.gn_found.specs.Filled.{by_name, fill_link, fill_node}
use Rattle.gn_table.specs.declared.constant.Constant.{Constant}
use Rattle.gn_table.specs.Constants.{name_of}
use Rattle.gn_lower.specs.Lowered.{Named}
use Rattle.gn_zone.specs.Opens.{Opens}

module _ {V : Type 0} (given : Given V) (nothing : V) where
  -- a zone reads no input of the tree, so nothing is filled in for it
  abbrev pub fill_opened : Opened tree.Kind Named → Opened tree.Kind V
  fill_opened opened = record { nodes = map (fill_node given nothing) opened.nodes; outputs = map (fill_link given nothing) opened.outputs }

  -- what was opened, with nodes by their paths and constants by the values that are given for them
  abbrev pub opened_by_value : ℕ → ℕ → CodeOpened Kind Constant → Opened tree.Kind V
  opened_by_value items base opened =
      opened_of written_as nothing items base opened.nodes.items (map (λ c. given.constant (name_of c)) opened.constants.items) opened.outputs.items

-- what is found for a zone over given values is what is found over names, filled in
abbrev pub FoundZonesAreFilledIn : (V : Type 0) → Type 0
FoundZonesAreFilledIn V = (given : Given V) (nothing : V) (kind : tree.Kind) (path : Path) (k turns : ℕ) (opened : Opened tree.Kind Named)
    → opened_within kind path by_name k turns ≡ Some opened → opened_within kind path given k turns ≡ Some (fill_opened given nothing opened)

-- what the code opens for a zone by name is, with values in the place of names, what is found for the zone over these values
abbrev pub OpenedZonesAreFound : (V : Type 0) → Type 0
OpenedZonesAreFound V = (given : Given V) (nothing : V) (kind : Kind) (path : Path) (base turns : ℕ) (opened : CodeOpened Kind Constant) → (opens : Opens kind path base turns opened)
    → opened_within (written_as kind) path given opens.steps turns ≡ Some (opened_by_value given nothing (length opens.body.sockets) base opened)
