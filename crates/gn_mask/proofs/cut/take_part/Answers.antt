use Rattle.std.proofs.Common.{◌≡◌, ◌∙◌, ◌+◌, ◌-◌, ◌≤◌, ◌^◌, ◌++◌, max, sym, ap, get_or, take, drop, arith}
use Rattle.gn_mask.specs.Numbers.{numbers}
use Rattle.gn_mask.specs.Segments.{elements, rest}
use Rattle.gn_mask.proofs.Segments.{raise, rises_drop}
use Rattle.gn_mask.proofs.Steps.{start_top}
use Rattle.gn_mask.proofs.Parts.{rest_at, rest_start, is_at_in, is_in_start, next_start, taken_front, kept_front, taken_whole, kept_whole}
use Rattle.gn_mask.proofs.cut.take_part.Goals as goal

pub returns-then-left-width-clause-rises : goal.returns-then-left-width-clause-rises
returns-then-left-width-clause-rises c =
    let end = (next_start c.args.segments.now c.loop-index.index (record { start = 0; end = 0 }) c.requires.rises c.loop-index-test.true).1 in
    raise 0 (max c.loop-index.from (c.loop-index.from + c.loop-index.left) + 1) (2 ^ 32) c.append.new.segments.items (omega (arith, end, c.if-left-width.true)) c.in_ok-append.ensures.rises

pub returns-then-left-width-clause-elements : goal.returns-then-left-width-clause-elements
returns-then-left-width-clause-elements c =
    let ss = c.args.segments.now in
    let i = c.loop-index.index in
    let from = c.loop-index.from in
    let left = c.loop-index.left in
    let part = elements c.loop-index.part.items in
    let s = get_or ss i (record { start = 0; end = 0 }) in
    let within : left ≤ s.end - from = omega (arith, c.if-left-width.true) in
    c.in_ok-append.ensures.elements ∙ ap (λ ns. part ++ ns) (sym (taken_front from s.end left (elements (drop (i + 1) ss)) within))
    ∙ ap (λ ns. part ++ take left ns) (sym (rest_at ss i from (record { start = 0; end = 0 }) c.loop-index-test.true)) ∙ c.loop-index.invariant.taken

pub returns-then-left-width-clause-rest : goal.returns-then-left-width-clause-rest
returns-then-left-width-clause-rest c =
    let ss = c.args.segments.now in
    let i = c.loop-index.index in
    let from = c.loop-index.from in
    let left = c.loop-index.left in
    let s = get_or ss i (record { start = 0; end = 0 }) in
    let within : left ≤ s.end - from = omega (arith, c.if-left-width.true) in
    rest_at ss i (from + left) (record { start = 0; end = 0 }) c.loop-index-test.true ∙ sym (kept_front from s.end left (elements (drop (i + 1) ss)) within)
    ∙ ap (drop left) (sym (rest_at ss i from (record { start = 0; end = 0 }) c.loop-index-test.true)) ∙ c.loop-index.invariant.kept

pub loop-index-preserved : goal.loop-index-preserved
loop-index-preserved c =
    let ss = c.args.segments.now in
    let i = c.loop-index.index in
    let from = c.loop-index.from in
    let left = c.loop-index.left in
    let part = elements c.loop-index.part.items in
    let s = get_or ss i (record { start = 0; end = 0 }) in
    let next = drop (i + 1) ss in
    let rises = rises_drop 0 (2 ^ 32) (i + 1) ss c.requires.rises in
    let in_it = is_at_in ss i from (record { start = 0; end = 0 }) c.loop-index-test.true c.loop-index.invariant.at in
    let end = next_start ss i (record { start = 0; end = 0 }) c.requires.rises c.loop-index-test.true in
    let top = start_top next rises in
    let within : s.end - from ≤ left = omega (arith, c.if-left-width.false) in
    let same : rest ss (i + 1) c.start_at-from.result ≡ elements next = ap (λ f. rest ss (i + 1) f) c.start_at-from.ensures ∙ rest_start next in
    record {
      at = rw c.start_at-from.ensures (is_in_start (2 ^ 32) next rises);
      fits = omega (arith, c.start_at-from.ensures, top);
      rises = raise 0 (max from s.end + 1) (c.start_at-from.result + 1) c.append-in-loop-index.new.segments.items (omega (arith, c.start_at-from.ensures, end.0, in_it.1)) c.in_ok-append-2.ensures.rises;
      taken =
          ap (λ ns. ns ++ take (left - (s.end - from)) (rest ss (i + 1) c.start_at-from.result)) c.in_ok-append-2.ensures.elements
          ∙ ap (λ ns. (part ++ numbers from s.end) ++ take (left - (s.end - from)) ns) same
          ∙ sym (taken_whole from s.end left part (elements next) within)
          ∙ ap (λ ns. part ++ take left ns) (sym (rest_at ss i from (record { start = 0; end = 0 }) c.loop-index-test.true))
          ∙ c.loop-index.invariant.taken;
      kept =
          ap (drop (left - (s.end - from))) same ∙ sym (kept_whole from s.end left (elements next) within)
          ∙ ap (drop left) (sym (rest_at ss i from (record { start = 0; end = 0 }) c.loop-index-test.true)) ∙ c.loop-index.invariant.kept;
    }

pub returns-clause-rises : goal.returns-clause-rises
returns-clause-rises c = raise 0 (c.loop-index.from + 1) (2 ^ 32) c.loop-index.part.items (omega (arith, c.loop-index.invariant.fits)) c.loop-index.invariant.rises
