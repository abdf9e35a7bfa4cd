use Rattle.std.proofs.Common.{ℕ, ◌-◌, ◌++◌, ◌∷◌, [], List, ap, sym, ◌∙◌, arith}
use Rattle.gn_prim.proofs.Rows.{links_more, all_links}
use Rattle.gn_prim.proofs.lines.edges.Goals as goal

pub loop-next-preserved : goal.loop-next-preserved
loop-next-preserved c =
    let n = c.loop-next.next in
    record {
      edges = c.in_ok-push.ensures.items ∙ ap (λ (es : List (ℕ × ℕ)). es ++ (n - 1, n) ∷ []) c.loop-next.invariant.edges ∙ sym (links_more n c.loop-next.auto.next);
      near = omega (arith, c.loop-next-test.true);
    }

pub returns : goal.returns
returns c =
    let n = c.loop-next.next in
    c.loop-next.invariant.edges ∙ all_links n c.args.count c.loop-next.auto.next c.loop-next.invariant.near c.loop-next.auto.next-end c.loop-next-test.false
