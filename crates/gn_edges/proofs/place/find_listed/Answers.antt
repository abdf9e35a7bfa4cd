use Rattle.std.proofs.Common.{◌≡◌, ◌∙◌, ◌-◌, sym, suc, arith}
use Rattle.gn_edges.proofs.Walks.{walk_out, walk_end, walk_at, walk_on}
use Rattle.gn_edges.proofs.place.find_listed.Goals as goal

pub returns-then-link-eq0 : goal.returns-then-link-eq0
returns-then-link-eq0 c = sym (walk_end c.args.pairs.now c.args.next.now c.args.edge c.loop-left.left c.loop-left.link c.loop-left-test.true c.if-link-eq0.true) ∙ c.loop-left.invariant.same

pub returns-then-eq : goal.returns-then-eq
returns-then-eq c =
    let link : c.loop-left.link ≡ suc (c.loop-left.link - 1) = omega arith in
    sym (walk_at c.args.pairs.now c.args.next.now c.args.edge c.loop-left.left c.loop-left.link (c.loop-left.link - 1) c.loop-left-test.true link (sym c.eq.ensures ∙ c.if-eq.true)) ∙ c.loop-left.invariant.same

pub loop-left-preserved : goal.loop-left-preserved
loop-left-preserved c =
    let link : c.loop-left.link ≡ suc (c.loop-left.link - 1) = omega arith in
    let left : c.loop-left.left ≡ suc (c.loop-left.left - 1) = omega arith in
    record {
      same = sym (walk_on c.args.pairs.now c.args.next.now c.args.edge c.loop-left.left c.loop-left.link (c.loop-left.link - 1) (c.loop-left.left - 1) left link (sym c.eq.ensures ∙ c.if-eq.false)) ∙ c.loop-left.invariant.same;
      link = c.requires.links (c.loop-left.link - 1);
    }

pub returns : goal.returns
returns c =
    let none : c.loop-left.left ≡ 0 = omega arith in
    sym (walk_out c.args.pairs.now c.args.next.now c.args.edge c.loop-left.left c.loop-left.link none) ∙ c.loop-left.invariant.same
