use Rattle.std.proofs.Common.{◌≡◌, inl, inr, Some, None, sym, subst}
use Rattle.gn_node_set.specs.Meanings.{Has}
use Rattle.gn_uses.specs.Sets.{IsIn}
use Rattle.gn_uses.proofs.Reading.{has_index}
use Rattle.gn_uses.proofs.nodes.want_asked.Goals as goal

pub want_where-requires : goal.want_where-requires
want_where-requires c x h =
    elim h [
      | inl e ↦ subst (λ ss. IsIn ss x) (sym c.loop-output.invariant.sizes) (c.requires x (subst (Has c.args.results.now) (sym e) (has_index c.args.results.now c.loop-output.output None c.loop-output-test.true)))
      | inr f ↦ absurd f
    ]
