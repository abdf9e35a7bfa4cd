use Rattle.std.proofs.Common.{◌≡◌, pos, neg_ℤ, ◌-ℤ◌, ◌<ℤ◌, to_z, of_z, arith, ◌∙◌}
use Rattle.std.specs.Int.{w128, w64, int_rem_euclid}
use Rattle.std.proofs.lemmas.Int.{ints}
use Rattle.gn_value.proofs.Modulo.{modulo_below_zero}
use Rattle.gn_value.proofs.whole.modulo_i64.Goals as goal

pub returns-then-b-lt0 : goal.returns-then-b-lt0
returns-then-b-lt0 c =
    let below : c.args.b <ℤ pos 0 = omega (arith, ints) in
    let a : to_z w128 (of_z w128 (pos 0 -ℤ to_z w128 (of_z w128 (to_z w64 (of_z w64 c.args.a))))) ≡ neg_ℤ c.args.a = omega (arith, ints) in
    let b : to_z w128 (of_z w128 (pos 0 -ℤ to_z w128 (of_z w128 (to_z w64 (of_z w64 c.args.b))))) ≡ neg_ℤ c.args.b = omega (arith, ints) in
    let value : c.rem_euclid-then-b-lt0.result ≡ int_rem_euclid (neg_ℤ c.args.a) (neg_ℤ c.args.b) =
    c.rem_euclid-then-b-lt0.ensures.value ∙ (λ i. int_rem_euclid (a i) (b i)) in
    omega (arith, ints, modulo_below_zero c.args.a c.args.b below, value)
