use Rattle.std.proofs.Common.{◌∙◌, ap, arith, length, sym}
use Rattle.gn_registers.proofs.Positions.{named_length}
use Rattle.gn_registers.proofs.arguments.Arguments.get.Goals as goal

pub register_named-requires-clause-there : goal.register_named-requires-clause-there
register_named-requires-clause-there c =
    let e = sym (named_length c.self.inside.registers.now c.self.inside.numbers.now c.self.invariant) ∙ ap length c.self.view_is in omega arith
