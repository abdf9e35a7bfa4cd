use Rattle.std.proofs.Common.{List, Option, map, ap}
use Rattle.gn_pointers.specs.Pointers.{Pointer}
use Rattle.gn_tree.specs.Seen.{named_of}
use Rattle.gn_rules.specs.Sockets.{Declared, one_of}
use Rattle.gn_rules.specs.Walk.{breaks, first_input}
use Rattle.gn_scopes.specs.Groups.{sockets_in}
use Rattle.gn_scopes.specs.Scopes.{declared_by}
use Rattle.gn_scopes.specs.Seen.{scope_of}
use Rattle.gn_check.proofs.Walking.{is_same}
use Rattle.gn_check.proofs.walk.in_output.Goals as goal

pub returns : goal.returns
returns c =
    let way : List Declared → Option Pointer = λ ds. first_input (breaks c.args.scope.now.sought) (scope_of c.args.scope.now) ds (map named_of c.args.output.now) in
    is_same c.first_input.result (way (declared_by c.of_sockets-declared.result)) (way (map one_of (sockets_in c.args.sockets.now))) (ap way c.of_sockets-declared.ensures) c.first_input.ensures
