use Rattle.std.proofs.Common.{◌≡◌, ◌≢◌, true, slice_index_or, rules, sym, ◌∙◌, subst}
use Rattle.std.specs.List.{AllPairs, list_any}
use Rattle.std.proofs.lemmas.Bool.{not-true, not-false}
use Rattle.std.proofs.lemmas.Map.Made.{AllPairs-from_IsDistinct}
use Rattle.std.proofs.lemmas.List.{take_all}
use Rattle.gn_edges.specs.Kept.{is_pair}
use Rattle.gn_edges.proofs.Walks.{pair_decides}
use Rattle.gn_geom.proofs.Joins.{there_twice, distinct_none, distinct_more}
use Rattle.gn_geom.proofs.checks.edges_differ.Goals as goal

pub returns-then-not-branch : goal.returns-then-not-branch
returns-then-not-branch c =
    let found = not-false _ (sym c.in_ok-insert.ensures.new ∙ c.if-not-branch.true) in
    let edge = slice_index_or c.args.edges.now c.loop-edge.edge-index (0, 0) in
    let there = subst (λ l. list_any (is_pair edge) l ≡ true) c.loop-edge.invariant.0 found in
    (λ t. absurd (search rules), λ differ. absurd (there_twice c.args.edges.now c.loop-edge.edge-index (0, 0) c.loop-edge-test.true there differ))

pub returns : goal.returns
returns c =
    let all = c.loop-edge.invariant.0 ∙ take_all c.loop-edge.edge-index c.args.edges.now c.loop-edge-test.false in
    (λ t. subst (λ l. AllPairs (λ a b. a ≢ b) l) all (AllPairs-from_IsDistinct pair_decides c.loop-edge.seen c.loop-edge.invariant.1), λ differ. search rules)

pub loop-edge-init : goal.loop-edge-init
loop-edge-init c = (c.new-seen.ensures, rw c.new-seen.ensures distinct_none)

pub loop-edge-preserved : goal.loop-edge-preserved
loop-edge-preserved c =
    let edge = slice_index_or c.args.edges.now c.loop-edge.edge-index (0, 0) in
    let apart = not-true (list_any (is_pair edge) c.loop-edge.seen) (sym c.in_ok-insert.ensures.new ∙ c.if-not-branch.false) in
    distinct_more c.args.edges.now c.loop-edge.seen c.insert.new.self c.loop-edge.edge-index c.loop-edge-test.true c.loop-edge.invariant.0 c.loop-edge.invariant.1 apart c.in_ok-insert.ensures.edges
