use Rattle.std.proofs.Common.{◌≡◌, ◌<◌, ◌+◌, ◌++◌, ◌∷◌, [], sym, subst, take, get_or, length, set, max, ap, ◌∙◌, arith}
use Rattle.std.proofs.lemmas.List.{take_more, get_or_read}
use Rattle.std.proofs.lemmas.List.Elements.{All-get_or}
use Rattle.gn_schedule.specs.Plans.{Marks}
use Rattle.gn_schedule.proofs.Reading.{marks_none, mark_one}
use Rattle.gn_schedule.proofs.readers.mark.Goals as goal

pub loop-arg-init : goal.loop-arg-init
loop-arg-init c = marks_none c.args.reader c.args.readers.now.items

pub loop-arg-preserved : goal.loop-arg-preserved
loop-arg-preserved c =
    let l = c.loop-arg in
    let args = c.args.args.now in
    let before = c.args.readers.now.items in
    let mid = l.readers.items in
    let a = get_or args l.arg-index 0 in
    let below : a < length before = All-get_or (λ j. j < length before) args l.arg-index 0 c.loop-arg-test.true c.requires in
    let within : a < length mid = omega (arith, below, l.invariant.long) in
    let more : take (l.arg-index + 1) args ≡ take l.arg-index args ++ a ∷ [] = take_more args l.arg-index 0 c.loop-arg-test.true in
    subst (λ ys. Marks c.args.reader ys before (set mid a c.later-last.result)) (sym more)
    (mark_one c.args.reader (take l.arg-index args) before mid a c.later-last.result l.invariant within (c.later-last.ensures ∙ ap (λ n. max n c.args.reader) (get_or_read mid a _ within c.index.ensures 0)))
