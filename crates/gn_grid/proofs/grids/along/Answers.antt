use Rattle.std.proofs.Common.{◌<◌, ◌≤◌, ◌^◌, ℤ, w64, unsigned_abs, rules, ap, sym, subst, ◌∙◌, arith}
use Rattle.std.specs.Int.{w128}
use Rattle.std.proofs.lemmas.Int.{ints, to_z-of_z}
use Rattle.gn_value.specs.Arithmetic.{sat, floor_div}
use Rattle.gn_grid.proofs.Sides.{over_read, under_read, over_fits, shared_evenly}
use Rattle.gn_grid.proofs.grids.along.Goals as goal

pub divide_down-requires-clause-a_has_negation : goal.divide_down-requires-clause-a_has_negation
divide_down-requires-clause-a_has_negation c =
    let few : c.args.count < 2 ^ 32 = search rules in
    let small : unsigned_abs c.args.size ≤ 2 ^ 63 = omega (arith, ints, c.ranges.size.sfits) in
    subst (λ (z : ℤ). unsigned_abs z ≤ 2 ^ 126) (sym (over_read c.args.size c.args.count c.args.number c.ranges.size small c.requires few)) (over_fits c.args.size c.args.count c.args.number c.ranges.size small c.requires few)

pub returns : goal.returns
returns c =
    let few : c.args.count < 2 ^ 32 = search rules in
    let small : unsigned_abs c.args.size ≤ 2 ^ 63 = omega (arith, ints, c.ranges.size.sfits) in
    let over = over_read c.args.size c.args.count c.args.number c.ranges.size small c.requires few in
    let under = under_read c.args.size c.args.count c.args.number c.ranges.size small c.requires few in
    to_z-of_z w64 c.saturate_i64.result (search rules) ∙ c.saturate_i64.ensures
    ∙ ap sat (to_z-of_z w128 c.divide_down.result (search rules) ∙ c.divide_down.ensures ∙ (λ i. floor_div (over i) (under i)))
    ∙ shared_evenly c.args.size c.args.count c.args.number c.if-count-eq1.false
