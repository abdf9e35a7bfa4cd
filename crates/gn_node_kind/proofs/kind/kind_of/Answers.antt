use Rattle.std.proofs.Common.{map, ap, ◌∙◌}
use Rattle.std.specs.Arc.{arc_value}
use Rattle.gn_tree.specs.Nodes.{kind_in}
use Rattle.gn_tree.specs.Seen.{group_of}
use Rattle.gn_node_kind.specs.Kinds.{kind_with}
use Rattle.gn_node_kind.proofs.Many.{many_settings}
use Rattle.gn_node_kind.proofs.kind.kind_of.Goals as goal

pub returns-in_default : goal.returns-in_default
returns-in_default c =
    let groups = map group_of (arc_value c.args.groups.now).items in
    many_settings groups (kind_in c.args.node.now) c.settings.result.now c.in_default.len_at_least ∙ ap (kind_with groups (kind_in c.args.node.now)) c.settings.ensures
