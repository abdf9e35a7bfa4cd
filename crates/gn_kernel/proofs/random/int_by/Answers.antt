use Rattle.std.proofs.Common.{◌≡◌, pos, ◌+ℤ◌, ◌-ℤ◌, ◌≤ℤ◌, arith}
use Rattle.std.proofs.lemmas.Int.{ints}
use Rattle.gn_kernel.proofs.Shares.{random_int_is}
use Rattle.gn_kernel.proofs.random.int_by.Goals as goal

pub returns : goal.returns
returns c =
    let order : c.args.low ≤ℤ c.args.high = omega (arith, ints) in
    let count : pos c.count_between.result ≡ c.args.high -ℤ c.args.low +ℤ pos 1 = omega (arith, ints) in
    omega (arith, ints, random_int_is c.args.low c.args.high c.args.hash c.count_between.result order count)
