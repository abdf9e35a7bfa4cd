use Rattle.std.proofs.Common.{ap, rules, ◌∙◌}
use Rattle.std.proofs.lemmas.Iterator.Adapters.{YieldsList-from_vec}
use Rattle.std.proofs.lemmas.Iterator.Consumers.{YieldsList-end, YieldsList-turn}
use Rattle.gn_join.specs.Gathering.{slots_of}
use Rattle.gn_join.proofs.Gathering.{whole}
use Rattle.gn_join.proofs.Turns.{slots_more}
use Rattle.gn_join.proofs.placed.waiting.Goals as goal

pub loop-part-preserved : goal.loop-part-preserved
loop-part-preserved c =
    let all = YieldsList-from_vec {s = c.into_iter-part-iterator.result} c.args.parts.items (search rules) (search rules) in
    let turn = YieldsList-turn all c.loop-part.yielded c.loop-part.part-iterator c.loop-part.yielded_by c.next.result c.next.new.self c.in-Some.part c.in-Some.is c.next.ensures.steps in
    slots_more c.args.parts.items c.loop-part.yielded c.in-Some.part c.loop-part.slots.items c.push.new.self.items turn.0 turn.1 c.loop-part.invariant c.in_ok-push.ensures.items

pub returns : goal.returns
returns c =
    let all = YieldsList-from_vec {s = c.into_iter-part-iterator.result} c.args.parts.items (search rules) (search rules) in
    let end = YieldsList-end all c.loop-part.yielded c.loop-part.part-iterator c.loop-part.yielded_by c.next.result c.next.new.self c.in-None.is c.next.ensures.steps in
    c.loop-part.invariant ∙ ap slots_of (whole c.args.parts.items _ end.1)
