use Rattle.std.proofs.Common.{map}
use Rattle.gn_tree.specs.Seen.{named_of}
use Rattle.gn_rules.specs.Walk.{breaks, first_input}
use Rattle.gn_scopes.specs.Scopes.{declared_by}
use Rattle.gn_scopes.specs.Seen.{scope_of}
use Rattle.gn_check.specs.Zones.{in_inputs_of_node}
use Rattle.gn_check.proofs.Walking.{is_same, inputs_way}
use Rattle.gn_check.proofs.walk.in_inputs.Goals as goal

pub returns : goal.returns
returns c =
    let r = c.args.scope.now.sought in
    let sc = scope_of c.args.scope.now in
    let ds = declared_by c.inputs_of-declared.result in
    let xs = map named_of c.inputs.result.now in
    is_same c.first_input.result (first_input (breaks r) sc ds xs) (in_inputs_of_node (breaks r) sc c.args.node.now) (inputs_way r sc c.args.node.now ds xs c.inputs_of-declared.ensures c.inputs.ensures) c.first_input.ensures
