use Rattle.std.proofs.Common.{length, sym, ap, ◌∙◌}
use Rattle.gn_scopes.specs.Seen.{scope_of}
use Rattle.gn_table.proofs.Parts.{a_group_node, a_run_node}
use Rattle.gn_table.proofs.table.part_of.Goals as goal

pub returns-in-Some : goal.returns-in-Some
returns-in-Some c = a_group_node (scope_of c.args.scope.now) c.args.node.now c.in-Some.number c.requires.form (sym c.group_number.ensures ∙ c.in-Some.is)

pub returns-in-None : goal.returns-in-None
returns-in-None c = a_run_node (scope_of c.args.scope.now) c.args.node.now c.len.result c.requires.form (sym c.group_number.ensures ∙ c.in-None.is) (c.len.ensures ∙ ap length c.outputs_of.ensures)
