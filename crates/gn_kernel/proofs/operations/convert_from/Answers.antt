use Rattle.std.proofs.Common.{◌≡◌, ◌∙◌, Some, ap, map, refl, rules, slice_get, slice_index_or}
use Rattle.gn_value.specs.Registers.{register_kind}
use Rattle.gn_value.specs.Values.{converted}
use Rattle.gn_registers.specs.Arguments.{argument}
use Rattle.gn_registers.proofs.Positions.{argument_kind}
use Rattle.gn_kernel.proofs.operations.convert_from.Goals as goal

pub returns : goal.returns
returns g c = λ k h.
    let first : slice_get (map register_kind c.args.args.now) 0 ≡ Some g.A.OfKind.KIND = rw c.requires.kinds refl in
    let p = c.each.ensures k h in
    let e : g.T.OfKind.as_value (slice_index_or c.each.new.into k g.T.OfKind.zero) ≡ converted (g.A.OfKind.as_value (g.A.OfKind.in_value (argument k c.args.args.now 0))) g.T.OfKind.KIND = search rules in
    e ∙ ap (λ v. converted v g.T.OfKind.KIND) (g.met.A.OfKind.same _ (argument_kind k _ 0 _ first))
