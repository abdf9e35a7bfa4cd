use Rattle.std.proofs.Common.{◌≡◌, ℕ, ◌<◌, ◌≤◌, [], length, take, get_or, Some, refl, ap, sym, ◌∙◌, subst, arith}
use Rattle.std.specs.Prelude.{slice_get, All, flat_map}
use Rattle.std.proofs.lemmas.List.{take_all}
use Rattle.std.proofs.lemmas.Option.{slice_get_read}
use Rattle.std.specs.List.{AllZip}
use Rattle.gn_plain.specs.Contexts.{length_of}
use Rattle.gn_run.specs.Evaluated.{AreFilled, GivesPart, IsPart}
use Rattle.gn_run.specs.Putting.{AllPut, CanPut}
use Rattle.gn_run.proofs.Putting.{can_put, filled_by, part_more, all_in_parts, within_part, given_part, zip_long}
use Rattle.gn_run.proofs.columns.fill_registers.Goals as goal

pub run_parts-requires-after_bounds : goal.run_parts-requires-after_bounds
run_parts-requires-after_bounds g c κs within =
    let P : ℕ → Type 0 = λ n. n < length_of (g.C.Context.meaning c.args.ready.now.1) in
    subst (All (All P)) (sym c.deref.ensures.value) (all_in_parts P c.in_ok-parts.parts.items (subst (All P) (sym c.in_ok-parts.ensures.follow) c.requires.within))

pub put_part-requires : goal.put_part-requires
put_part-requires g c =
    let sources = g.S.Source.sources in
    let meaning = g.C.Context.meaning c.args.ready.now.1 in
    let fields = c.args.ready.now.0 in
    let parts = c.in_ok-parts.parts.items in
    let results = c.in_ok-results.results.items in
    let values = c.deref-result-items in
    let l = c.loop-result in
    let k = l.result-index in
    let r = c.result-item.result in
    let part = c.in-Ok.part in
    let ns = get_or parts k [] in
    let all = subst (λ ps. AllZip (GivesPart sources meaning fields) ps results) c.deref.ensures.value c.in_ok-results.ensures in
    let there : slice_get results k ≡ Some r = subst (λ xs. slice_get xs k ≡ Some r) values.ensures.value (slice_get_read values.result.now (length values.result.now) k r refl c.loop-result-test.true c.result-item.is) in
    let one : IsPart sources meaning fields ns part = given_part sources meaning fields parts results k r part all there c.in-Ok.is in
    let below : k < length parts = omega (arith, c.loop-result-test.true, ap length values.ensures.value, zip_long (GivesPart sources meaning fields) parts results all) in
    let within = within_part (λ n. n < length_of meaning) parts c.args.mask.now k c.in_ok-parts.ensures.follow c.requires.within below in
    subst (λ ms. AllZip (CanPut ms) part.registers.items l.registers) (sym one.elements)
    (can_put sources meaning (flat_map (λ p. p) (take k parts)) ns fields part.registers.items l.registers within one.values l.invariant)

pub loop-result-preserved : goal.loop-result-preserved
loop-result-preserved g c =
    let sources = g.S.Source.sources in
    let meaning = g.C.Context.meaning c.args.ready.now.1 in
    let fields = c.args.ready.now.0 in
    let parts = c.in_ok-parts.parts.items in
    let results = c.in_ok-results.results.items in
    let values = c.deref-result-items in
    let l = c.loop-result in
    let k = l.result-index in
    let r = c.result-item.result in
    let part = c.in-Ok.part in
    let ns = get_or parts k [] in
    let after = c.put_part.new.registers in
    let all = subst (λ ps. AllZip (GivesPart sources meaning fields) ps results) c.deref.ensures.value c.in_ok-results.ensures in
    let there : slice_get results k ≡ Some r = subst (λ xs. slice_get xs k ≡ Some r) values.ensures.value (slice_get_read values.result.now (length values.result.now) k r refl c.loop-result-test.true c.result-item.is) in
    let one : IsPart sources meaning fields ns part = given_part sources meaning fields parts results k r part all there c.in-Ok.is in
    let below : k < length parts = omega (arith, c.loop-result-test.true, ap length values.ensures.value, zip_long (GivesPart sources meaning fields) parts results all) in
    let put : AllPut ns part.registers.items l.registers after = subst (λ ms. AllPut ms part.registers.items l.registers after) one.elements c.put_part.ensures in
    subst (λ ms. AreFilled sources meaning ms fields after) (sym (part_more parts k below))
    (filled_by sources meaning (flat_map (λ p. p) (take k parts)) ns fields part.registers.items l.registers after one.values put l.invariant)

pub returns : goal.returns
returns g c =
    let sources = g.S.Source.sources in
    let meaning = g.C.Context.meaning c.args.ready.now.1 in
    let fields = c.args.ready.now.0 in
    let parts = c.in_ok-parts.parts.items in
    let results = c.in_ok-results.results.items in
    let l = c.loop-result in
    let all = subst (λ ps. AllZip (GivesPart sources meaning fields) ps results) c.deref.ensures.value c.in_ok-results.ensures in
    let end : length parts ≤ l.result-index = omega (arith, c.loop-result-test.false, ap length c.deref-result-items.ensures.value, zip_long (GivesPart sources meaning fields) parts results all) in
    subst (λ ns. AreFilled sources meaning ns fields l.registers) (ap (flat_map (λ p. p)) (take_all l.result-index parts end) ∙ c.in_ok-parts.ensures.follow) l.invariant
