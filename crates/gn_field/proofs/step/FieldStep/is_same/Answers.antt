use Rattle.std.proofs.Common.{◌≡◌, sym, ◌∙◌, ap}
use Rattle.std.specs.Bool.{Decides}
use Rattle.std.proofs.lemmas.Bool.Decides.{Decides-eqb, Decides-at, Decides-like}
use Rattle.std.proofs.lemmas.Slice.Eq.{slice_eq-Decides}
use Rattle.gn_field.specs.Steps.{of_apply, of_sampled, key_of}
use Rattle.gn_field.proofs.Same.{op_decides, path_decides}
use Rattle.gn_field.proofs.step.FieldStep.is_same.Goals as goal

pub returns-then-eq : goal.returns-then-eq
returns-then-eq g c =
    let xs = c.in-Apply.xs.items in
    let ys = c.in-Apply-other.ys.items in
    let same : c.in-Apply.f ≡ c.in-Apply-other.g = (op_decides c.in-Apply.f c.in-Apply-other.g).0 (sym c.eq-in-Apply-other.ensures ∙ c.if-eq.true) in
    let v = c.as_slice.ensures.value in
    let w = c.as_slice-then-eq.ensures.value in
    let slices : Decides c.eq-then-eq.result (c.as_slice.result.now ≡ c.as_slice-then-eq.result.now) = slice_eq-Decides Decides-eqb c.as_slice.result.now c.as_slice-then-eq.result.now c.eq-then-eq.result c.eq-then-eq.ensures in
    let d : Decides c.eq-then-eq.result (xs ≡ ys) = Decides-like c.eq-then-eq.result (λ p. sym v ∙ (p ∙ w)) (λ q. v ∙ (q ∙ sym w)) slices in
    let a = ap key_of c.in-Apply.is in
    let b = ap key_of c.in-Apply-other.is in
    (λ e. let p = d.0 e in cc, λ e. d.1 (let k : of_apply c.in-Apply.f xs ≡ of_apply c.in-Apply-other.g ys = cc in cc))

pub returns-then-eq-2 : goal.returns-then-eq-2
returns-then-eq-2 g c =
    let p = c.in-Sampled.p.steps.items in
    let q = c.in-Sampled-other.q.steps.items in
    let same : p ≡ q = (path_decides c.in-Sampled.p c.in-Sampled-other.q).0 (sym c.eq-in-Sampled-other.ensures ∙ c.if-eq-2.true) in
    let d = Decides-eqb c.in-Sampled.x c.in-Sampled-other.y in
    let a = ap key_of c.in-Sampled.is in
    let b = ap key_of c.in-Sampled-other.is in
    (λ e. let r = d.0 e in cc, λ e. d.1 (let k : of_sampled p c.in-Sampled.x ≡ of_sampled q c.in-Sampled-other.y = cc in cc))

pub returns-else-eq-2 : goal.returns-else-eq-2
returns-else-eq-2 g c =
    let p = c.in-Sampled.p.steps.items in
    let q = c.in-Sampled-other.q.steps.items in
    let d : Decides c.eq-in-Sampled-other.result (p ≡ q) = Decides-at c.eq-in-Sampled-other.result _ c.eq-in-Sampled-other.ensures (path_decides c.in-Sampled.p c.in-Sampled-other.q) in
    let a = ap key_of c.in-Sampled.is in
    let b = ap key_of c.in-Sampled-other.is in
    (λ e. let f = c.if-eq-2.false in cc, λ e. d.1 (let k : of_sampled p c.in-Sampled.x ≡ of_sampled q c.in-Sampled-other.y = cc in cc))
