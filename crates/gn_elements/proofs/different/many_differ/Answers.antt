use Rattle.std.proofs.Common.{◌∙◌, sym, ap, get_or}
use Rattle.std.specs.Ordering.{nat_cmp}
use Rattle.std.specs.BTreeSet.{contains}
use Rattle.std.proofs.lemmas.Bool.{not-true, not-false}
use Rattle.std.proofs.lemmas.List.{take_all}
use Rattle.gn_elements.specs.Read.{all_differ}
use Rattle.gn_elements.proofs.Repeats.{stands_twice, one_vertex_more, one_key_more}
use Rattle.gn_elements.proofs.different.many_differ.Goals as goal

pub returns-then-not-branch : goal.returns-then-not-branch
returns-then-not-branch c =
    let vs = c.args.vertices.now in
    let v = get_or vs c.loop-vertex.vertex-index 0 in
    let there = not-false (contains nat_cmp c.loop-vertex.seen v) (sym c.in_ok-insert.ensures.added ∙ c.if-not-branch.true) in
    sym (stands_twice vs c.loop-vertex.vertex-index c.loop-vertex-test.true (sym (c.loop-vertex.invariant.keys v) ∙ there))

pub loop-vertex-preserved : goal.loop-vertex-preserved
loop-vertex-preserved c =
    let vs = c.args.vertices.now in
    let i = c.loop-vertex.vertex-index in
    let v = get_or vs i 0 in
    let new = not-true (contains nat_cmp c.loop-vertex.seen v) (sym c.in_ok-insert.ensures.added ∙ c.if-not-branch.false) in
    record {
      keys = λ q. one_key_more vs i c.loop-vertex-test.true q (contains nat_cmp c.loop-vertex.seen q) (contains nat_cmp c.insert.new.self q) (c.in_ok-insert.ensures.updates.0 q) (c.loop-vertex.invariant.keys q);
      differ = one_vertex_more vs i c.loop-vertex-test.true c.loop-vertex.invariant.differ (sym (c.loop-vertex.invariant.keys v) ∙ new);
    }

pub returns : goal.returns
returns c = sym (ap all_differ (sym (take_all c.loop-vertex.vertex-index c.args.vertices.now c.loop-vertex-test.false)) ∙ c.loop-vertex.invariant.differ)
