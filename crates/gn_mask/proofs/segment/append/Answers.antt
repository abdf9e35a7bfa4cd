use Rattle.std.proofs.Common.{◌≡◌, ◌∙◌, ◌+◌, ◌<◌, ◌++◌, suc, max, sym, ap, arith}
use Rattle.std.proofs.lemmas.List.{append_assoc}
use Rattle.gn_mask.specs.Numbers.{numbers}
use Rattle.gn_mask.specs.Segments.{elements}
use Rattle.gn_mask.proofs.Numbers.{numbers_split}
use Rattle.gn_mask.proofs.Segments.{behind, elements_more}
use Rattle.gn_mask.proofs.segment.append.Goals as goal

pub returns-clause-rises : goal.returns-clause-rises
returns-clause-rises c =
    let start = c.reopen-start.result in
    let end = c.args.end in
    let further : start < end = omega (arith, c.reopen-start.ensures.start, c.if-end-start.false) in
    let bound : max c.args.start end + 1 ≡ suc end = omega (arith, c.if-end-start.false) in
    rw (c.in_ok-push.ensures.items, bound) (behind 0 start c.reopen-start.new.segments.items (record { start = start; end = end }) c.reopen-start.ensures.rises (omega arith) further)

pub returns-clause-elements : goal.returns-clause-elements
returns-clause-elements c =
    let start = c.reopen-start.result in
    let front = c.reopen-start.new.segments.items in
    rw c.in_ok-push.ensures.items
    (elements_more front (record { start = start; end = c.args.end })
    ∙ ap (λ ns. elements front ++ ns) (sym (numbers_split start c.args.start c.args.end c.reopen-start.ensures.start (omega (arith, c.if-end-start.false))))
    ∙ sym (append_assoc (elements front) (numbers start c.args.start) (numbers c.args.start c.args.end))
    ∙ ap (λ ns. ns ++ numbers c.args.start c.args.end) c.reopen-start.ensures.elements)
