use Rattle.std.proofs.Common.{◌≡◌, ◌<◌, List, ℤ, pos, length, map, get_or, ap, sym, subst, ◌∙◌, arith}
use Rattle.std.proofs.lemmas.List.{length-map}
use Rattle.gn_value.specs.Arithmetic.{sat_int}
use Rattle.gn_value.specs.Values.{fx, v3, raw}
use Rattle.gn_value.specs.declared.vector.V3.{V3}
use Rattle.gn_value.specs.Registers.{register_len}
use Rattle.gn_value.specs.declared.op.Register.TheVariants as register
use Rattle.gn_value.specs.declared.value.Value.TheVariants as value
use Rattle.gn_field.specs.Steps.{plain_part}
use Rattle.gn_interp.specs.Numbers.{fixed_number}
use Rattle.gn_elsewhere.specs.Sums.{total_at, vector_total}
use Rattle.gn_elsewhere.proofs.Accumulating.{sum_at, sums_are}
use Rattle.gn_elsewhere.proofs.kinds.sums.Goals as goal

pub returns-in-Int-clause-sums : goal.returns-in-Int-clause-sums
returns-in-Int-clause-sums c = λ k below.
    let part = plain_part c.args.part in
    let of = c.in_ok-groups.groups.of.items in
    let is : c.args.values.now ≡ register.Int c.in-Int.values = cc (c.in-Int.is) in
    let same = c.deref.ensures.value in
    let within : k < length c.deref.result.now = subst (λ (xs : List ℤ). k < length xs) (sym same) (subst (λ r. k < register_len r) is below) in
    let given : value.Int (get_or c.in_ok-integer_sums-in-Int.field-0.items k (pos 0)) ≡ sum_at part of (register.Int c.in-Int.values) k =
    ap value.Int (c.in_ok-integer_sums-in-Int.ensures.sums k within ∙ ap (λ (xs : List ℤ). sat_int (total_at part xs of k)) same) in
    given ∙ (ap (λ r. sum_at part of r k) (sym is) ∙ sums_are c.args.groups.now c.in_ok-groups.groups.count of c.in_ok-groups.ensures part c.args.values.now k (sym c.requires.long) below)

pub returns-in-Fixed-clause-sums : goal.returns-in-Fixed-clause-sums
returns-in-Fixed-clause-sums c = λ k below.
    let part = plain_part c.args.part in
    let of = c.in_ok-groups.groups.of.items in
    let is : c.args.values.now ≡ register.Fixed c.in-Fixed.values = cc (c.in-Fixed.is) in
    let same : c.deref-in-Fixed-2.result.now ≡ map raw c.in-Fixed.values.items = c.deref-in-Fixed-2.ensures.value ∙ (c.in_ok-raws-in-Fixed.ensures ∙ ap (map raw) c.deref-in-Fixed.ensures.value) in
    let counts = ap length same in
    let all = length-map c.in-Fixed.values.items raw in
    let here : k < length c.in-Fixed.values.items = subst (λ r. k < register_len r) is below in
    let within : k < length c.deref-in-Fixed-2.result.now = omega (arith, here, counts, all) in
    let given : value.Fixed (get_or c.in_ok-sums_of_raw-in-Fixed.field-0.items k (fx (pos 0))) ≡ sum_at part of (register.Fixed c.in-Fixed.values) k =
    ap value.Fixed (c.in_ok-sums_of_raw-in-Fixed.ensures.sums k within ∙ ap (λ (xs : List ℤ). fixed_number (total_at part xs of k)) same) in
    given ∙ (ap (λ r. sum_at part of r k) (sym is) ∙ sums_are c.args.groups.now c.in_ok-groups.groups.count of c.in_ok-groups.ensures part c.args.values.now k (sym c.requires.long) below)

pub returns-clause-sums : goal.returns-clause-sums
returns-clause-sums c = λ k below.
    let part = plain_part c.args.part in
    let of = c.in_ok-groups.groups.of.items in
    let is : c.args.values.now ≡ register.Vector c.in-Vector.values = cc (c.in-Vector.is) in
    let same = c.deref-in-Vector.ensures.value in
    let here : k < length c.in-Vector.values.items = subst (λ r. k < register_len r) is below in
    let within : k < length c.deref-in-Vector.result.now = subst (λ (xs : List V3). k < length xs) (sym same) here in
    let given : value.Vector (get_or c.in_ok-vector_sums-in-Vector.field-0.items k (v3 (pos 0) (pos 0) (pos 0))) ≡ sum_at part of (register.Vector c.in-Vector.values) k =
    ap value.Vector (c.in_ok-vector_sums-in-Vector.ensures.sums k within ∙ ap (λ (xs : List V3). vector_total part xs of k) same) in
    given ∙ (ap (λ r. sum_at part of r k) (sym is) ∙ sums_are c.args.groups.now c.in_ok-groups.groups.count of c.in_ok-groups.ensures part c.args.values.now k (sym c.requires.long) below)
