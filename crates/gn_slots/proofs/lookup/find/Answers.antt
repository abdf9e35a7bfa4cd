use Rattle.std.proofs.Common.{◌≡◌, ◌<◌, inl, inr, true, false, length, Some, refl, ap, sym, ◌∙◌, arith}
use Rattle.std.specs.Prelude.{slice_get}
use Rattle.std.proofs.lemmas.Option.{slice_get_read, slice_get_within}
use Rattle.gn_schedule.proofs.Reading.{one_of}
use Rattle.gn_slots.proofs.lookup.find.Goals as goal

pub returns-then-is_of-clause-found : goal.returns-then-is_of-clause-found
returns-then-is_of-clause-found c =
    let ws = c.args.wholes.now in
    let i = c.loop-whole.whole-index in
    let w = c.whole-item.result in
    let same = c.is_of.ensures.0 c.if-is_of.true in
    record { index = i; whole = w; is = slice_get_read ws (length ws) i w refl c.loop-whole-test.true c.whole-item.is; of_step = same.0; on_place = same.1; values = refl }

pub loop-whole-preserved : goal.loop-whole-preserved
loop-whole-preserved c i w before here same =
    let ws = c.args.wholes.now in
    let k = c.loop-whole.whole-index in
    let x = c.whole-item.result in
    elim (one_of i k) [
      | inl e ↦ (let there : slice_get ws k ≡ Some x = slice_get_read ws (length ws) k x refl c.loop-whole-test.true c.whole-item.is in
          let q : Some x ≡ Some w = sym there ∙ (ap (slice_get ws) (sym e) ∙ here) in
          let p : x ≡ w = cc in
          let t : c.is_of.result ≡ true = c.is_of.ensures.1 (ap (λ v. v.step) p ∙ same.0, ap (λ v. v.place) p ∙ same.1) in
          let f : c.is_of.result ≡ false = c.if-is_of.false in
          cc)
      | inr n ↦ c.loop-whole.invariant i w (omega (arith, before, n)) here same
    ]

pub returns-clause-none : goal.returns-clause-none
returns-clause-none c t =
    let f = t.1 in
    let within : f.index < c.loop-whole.whole-index = omega (arith, slice_get_within c.args.wholes.now f.index f.whole f.is, c.loop-whole-test.false) in
    c.loop-whole.invariant f.index f.whole within f.is (f.of_step, f.on_place)
