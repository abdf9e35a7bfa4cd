use Rattle.std.proofs.Common.{◌≡◌, ◌+◌, ℕ, suc, ◌∷◌, map, get_or, drop, ◌∙◌, ap, subst, arith, drop-cons}
use Rattle.std.specs.Prelude.{max}
use Rattle.gn_stands.specs.Order.{greatest}
use Rattle.gn_order.specs.Heights.{at}
use Rattle.gn_order.proofs.heights.greatest_height.Goals as goal

joined : (a b new before rest whole : ℕ) → max b before ≡ whole → before ≡ max a rest → new ≡ max a b → max new rest ≡ whole
joined a b new before rest whole e f g = omega (arith, e, f, g)

pub loop-node-preserved : goal.loop-node-preserved
loop-node-preserved c =
    let heights = c.args.heights.now in
    let nodes = c.args.nodes.now in
    let i = c.loop-node.node-index in
    let next : drop i nodes ≡ get_or nodes i 0 ∷ drop (i + 1) nodes = subst (λ n. drop i nodes ≡ get_or nodes i 0 ∷ drop n nodes) (let e : suc i ≡ i + 1 = omega arith in e) (drop-cons nodes i 0 c.loop-node-test.true) in
    joined (at heights (get_or nodes i 0)) c.loop-node.most c.max-most.result (greatest (map (at heights) (drop i nodes))) (greatest (map (at heights) (drop (i + 1) nodes))) (greatest (map (at heights) nodes)) c.loop-node.invariant
    (ap (λ xs. greatest (map (at heights) xs)) next) (c.max-most.ensures ∙ ap (λ h. max h c.loop-node.most) c.height_of.ensures)
