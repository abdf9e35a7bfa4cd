use Rattle.std.proofs.Common.{◌≡◌, ◌<◌, false, length, get_or, ap, arith}
use Rattle.gn_uses.proofs.Flags.{put_number, read_unset}
use Rattle.gn_uses.proofs.numbers.Numbers.put.Goals as goal

pub invariant_of-self : goal.invariant_of-self
invariant_of-self c =
    let bound : length c.self.inside.flags.items ≡ c.args.self.now.bound = ap (λ s. s.bound) c.self.view_is in
    let inside : c.args.number < length c.self.inside.flags.items = omega (arith, c.requires, bound) in
    let free : get_or c.self.inside.flags.items c.args.number false ≡ false = read_unset c.self.inside.flags.items c.args.number c.index.result.now c.index.ensures c.if-index.false in
    rw (c.push_reserved.ensures.items, c.push_reserved.ensures.capacity) (put_number _ _ _ _ c.self.invariant inside free)
