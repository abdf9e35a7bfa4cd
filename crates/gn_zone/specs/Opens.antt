-- When what the code opens for a zone is what is found for its kind.
use Rattle.std.specs.Prelude.{◌≡◌, ℕ, map, length, Some, None, All}
use Rattle.gn_nodes.specs.declared.values.Opened.{Opened as CodeOpened}
use Rattle.gn_nodes.specs.Calls.{AreInside}
use Rattle.gn_tree.specs.declared.kind.Kind.{Kind}
use Rattle.gn_tree.specs.NodeKinds as tree
use Rattle.gn_node_kind.specs.Seen.{written_as}
use Rattle.gn_node_set.specs.Paths.{Path}
use Rattle.gn_node_set.specs.Meanings.{Opened}
use Rattle.gn_exec_laws.specs.Tasks.{opened_of}
use Rattle.gn_meaning.specs.Bodies.{Body}
use Rattle.gn_stands.specs.Zones.{zone_inside, opened_within}
use Rattle.gn_found.specs.Filled.{by_name}
use Rattle.gn_table.specs.declared.constant.Constant.{Constant}
use Rattle.gn_table.specs.Constants.{name_of}
use Rattle.gn_lower.specs.Lowered.{Named}

-- what was opened, with nodes by their paths and constants by name, where the zone has that number of items
abbrev pub opened_by_name : ℕ → ℕ → CodeOpened Kind Constant → Opened tree.Kind Named
opened_by_name items base opened =
    opened_of written_as None items base opened.nodes.items (map (λ c. Some (name_of c)) opened.constants.items) opened.outputs.items

-- it is what the zone of the kind at the path opens for its turns, and each link leads to something in it
pub record Opens (kind : Kind) (path : Path) (base turns : ℕ) (opened : CodeOpened Kind Constant) : Type 0 where
  pub body : Body
  pub is_body : zone_inside (written_as kind) path ≡ Some body
  pub steps : ℕ
  pub found : opened_within (written_as kind) path by_name steps turns ≡ Some (opened_by_name (length body.sockets) base opened)
  pub inputs : All (λ node. AreInside (length body.sockets) base opened.nodes.items (length opened.constants.items) node.inputs.items) opened.nodes.items
  pub outputs : AreInside (length body.sockets) base opened.nodes.items (length opened.constants.items) opened.outputs.items

-- a zone has a link for each item of its body
abbrev pub EachOutputIsOpened : Type 0
EachOutputIsOpened = (kind : Kind) (path : Path) (base turns : ℕ) (opened : CodeOpened Kind Constant) → (opens : Opens kind path base turns opened) → length opened.outputs.items ≡ length opens.body.sockets
