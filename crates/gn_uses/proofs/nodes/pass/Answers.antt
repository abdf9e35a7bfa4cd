use Rattle.std.proofs.Common.{◌≡◌, true, false, sym, ap, ◌∙◌}
use Rattle.gn_node_set.specs.Meanings.{member}
use Rattle.gn_uses.specs.Nodes.{all_set}
use Rattle.gn_uses.proofs.Reading.{passed_one, passed_all, stopped_before}
use Rattle.gn_uses.proofs.nodes.pass.Goals as goal

pub returns-then-not-is_case_set-clause-full : goal.returns-then-not-is_case_set-clause-full
returns-then-not-is_case_set-clause-full c =
    let free : all_set (member c.args.filled.now c.loop-at.at) ≡ false = sym c.is_case_set.ensures ∙ c.if-not-is_case_set.true in
    stopped_before c.args.filled.now c.loop-at.at c.args.front c.loop-at-test.true free

pub loop-at-preserved : goal.loop-at-preserved
loop-at-preserved c =
    let set : all_set (member c.args.filled.now c.loop-at.at) ≡ true = sym c.is_case_set.ensures ∙ c.if-not-is_case_set.false in
    passed_one c.args.filled.now c.loop-at.at c.loop-at.invariant set

pub returns-clause-full : goal.returns-clause-full
returns-clause-full c = passed_all c.args.filled.now c.loop-at.at c.args.front c.loop-at-test.false c.loop-at.invariant
