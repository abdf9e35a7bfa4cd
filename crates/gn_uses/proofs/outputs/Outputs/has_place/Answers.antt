use Rattle.std.proofs.Common.{◌≡◌, length, ap, ◌∙◌, sym, subst, Decides}
use Rattle.std.specs.Prelude.{nat_lt}
use Rattle.gn_uses.specs.Sets.{rows_of, row, IsIn}
use Rattle.gn_uses.proofs.Flags.{by_size}
use Rattle.gn_uses.proofs.outputs.Outputs.has_place.Goals as goal

pub returns : goal.returns
returns c =
    let flags : c.flags_of.result.now ≡ row (rows_of c.self.inside.flags.items) c.args.out.node = c.flags_of.ensures ∙ ap (λ vs. row (rows_of vs) c.args.out.node) c.deref.ensures.value in
    subst (λ fs. Decides (nat_lt c.args.out.output (length fs)) (IsIn c.args.self.now.sizes c.args.out)) (sym flags)
    (by_size (rows_of c.self.inside.flags.items) c.args.self.now.sizes c.args.out (ap (λ s. s.sizes) c.self.view_is))
