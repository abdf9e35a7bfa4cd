use Rattle.std.proofs.Common.{◌≡◌, ◌⊎◌, inl, inr, Some, None, sym, ap, subst}
use Rattle.gn_node_set.specs.Meanings.{Has}
use Rattle.gn_uses.specs.Sets.{IsIn}
use Rattle.gn_uses.proofs.Reading.{has_index}
use Rattle.gn_uses.proofs.nodes.want_all.Goals as goal

pub want-requires : goal.want-requires
want-requires c x h =
    let sizes : c.loop-input.wanted.sizes ≡ c.args.wanted.now.sizes = ap (λ s. s.sizes) c.loop-input.invariant in
    elim h [
      | inl e ↦ subst (λ ss. IsIn ss x) (sym sizes) (c.requires x (subst (Has c.args.inputs.now) (sym e) (has_index c.args.inputs.now c.loop-input.input-index None c.loop-input-test.true)))
      | inr f ↦ absurd f
    ]
