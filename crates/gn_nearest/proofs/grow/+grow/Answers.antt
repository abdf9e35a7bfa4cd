use Rattle.std.proofs.Common.{◌≡◌, ◌+◌, ◌<◌, ◌^◌, ◌∙◌, Some, length, sym, arith, rules}
use Rattle.gn_nearest.specs.Boxes.{AreHalves}
use Rattle.gn_nearest.specs.declared.grow.Part.{Part}
use Rattle.gn_nearest.proofs.Growth.{grown_halves, grown_length, grown_more, split_length, whole_is}
use Rattle.gn_nearest.proofs.grow.+grow.Goals as goal

pub grow-returns-clause-grown : goal.grow-returns-clause-grown
grow-returns-clause-grown t c =
    let placed = c.args.placed.now.items in
    let es = c.args.entries.now in
    let more = c.grow_halves.new.placed.items in
    let old = c.args.parts.now.items in
    let new = c.grow_halves.new.parts.items in
    let g = c.in_ok-grow_halves.ensures.grown in
    let part : Part = record { bounds = c.round-bounds.result; from = c.len-from.result; to = c.len-from.result + length es; halves = Some c.in_ok-grow_halves.field-0 } in
    let from : c.len-from.result ≡ length placed = omega (arith, c.len-from.ensures) in
    let to : c.len-from.result + length es ≡ length placed + length es = omega arith in
    let h = c.in_ok-grow_halves.ensures.halves in
    let halves : AreHalves new (length new) c.len-from.result (c.len-from.result + length es) c.in_ok-grow_halves.field-0 = record {
      front = h.front;
      back = h.back;
      begin = h.begin ∙ sym from;
      middle = h.middle;
      end = h.end ∙ grown_length placed es more old new g ∙ sym to;
    } in
    grown_more placed es more old new c.push-2.new.self.items part g c.round-bounds.ensures from to halves c.in_ok-push-2.ensures.items

pub grow-returns-clause-whole : goal.grow-returns-clause-whole
grow-returns-clause-whole t c =
    let placed = c.args.placed.now.items in
    let es = c.args.entries.now in
    let part : Part = record { bounds = c.round-bounds.result; from = c.len-from.result; to = c.len-from.result + length es; halves = Some c.in_ok-grow_halves.field-0 } in
    let from : c.len-from.result ≡ length placed = omega (arith, c.len-from.ensures) in
    let to : c.len-from.result + length es ≡ length placed + length es = omega arith in
    whole_is placed es c.grow_halves.new.placed.items c.args.parts.now.items c.grow_halves.new.parts.items c.push-2.new.self.items part c.in_ok-grow_halves.ensures.grown from to c.in_ok-push-2.ensures.items

pub grow_halves-grow-requires-2 : goal.grow_halves-grow-requires-2
grow_halves-grow-requires-2 t c =
    let front = c.select_nth_unstable_by_key-front.result.0.now in
    let back = c.select_nth_unstable_by_key-front.result.2.now in
    let n : length c.args.entries.now ≡ length front + (1 + length back) = split_length c.args.entries.now front back c.select_nth_unstable_by_key-front.result.1.now c.select_nth_unstable_by_key-front.ensures.permutation in
    let len = c.select_nth_unstable_by_key-front.ensures.front_len in
    let some : 0 < length back = omega arith in
    let placed = grown_length c.args.placed.now.items front c.grow.new.placed.items c.args.parts.now.items c.grow.new.parts.items c.in_ok-grow.ensures.grown in
    let one = c.in_ok-push.ensures.len in
    let room : length c.push.new.self.items + length back < 2 ^ 32 = omega (arith, placed, one, n) in
    let few : length c.grow.new.parts.items + length back < 2 ^ 32 = omega (arith, c.in_ok-grow.ensures.count, n) in
    (search rules, (some, (room, few)))

pub grow_halves-overflow_cast-result : goal.grow_halves-overflow_cast-result
grow_halves-overflow_cast-result t c =
    let front = c.select_nth_unstable_by_key-front.result.0.now in
    let back = c.select_nth_unstable_by_key-front.result.2.now in
    let n : length c.args.entries.now ≡ length front + (1 + length back) = split_length c.args.entries.now front back c.select_nth_unstable_by_key-front.result.1.now c.select_nth_unstable_by_key-front.ensures.permutation in
    let low : c.len-2.result < 2 ^ 32 = omega (arith, n, c.in_ok-grow.ensures.count, c.in_ok-grow-2.ensures.count, c.len-2.ensures) in
    search rules

pub grow_halves-returns-clause-grown : goal.grow_halves-returns-clause-grown
grow_halves-returns-clause-grown t c =
    grown_halves c.args.placed.now.items c.args.entries.now c.select_nth_unstable_by_key-front.result.0.now c.select_nth_unstable_by_key-front.result.2.now c.grow.new.placed.items c.push.new.self.items c.grow-2.new.placed.items c.select_nth_unstable_by_key-front.result.1.now c.args.parts.now.items c.grow.new.parts.items c.grow-2.new.parts.items c.in_ok-grow.ensures.grown c.in_ok-push.ensures.items c.in_ok-grow-2.ensures.grown c.select_nth_unstable_by_key-front.ensures.permutation

pub grow_halves-returns-clause-count : goal.grow_halves-returns-clause-count
grow_halves-returns-clause-count t c =
    let front = c.select_nth_unstable_by_key-front.result.0.now in
    let back = c.select_nth_unstable_by_key-front.result.2.now in
    let n : length c.args.entries.now ≡ length front + (1 + length back) = split_length c.args.entries.now front back c.select_nth_unstable_by_key-front.result.1.now c.select_nth_unstable_by_key-front.ensures.permutation in
    omega (arith, n, c.in_ok-grow.ensures.count, c.in_ok-grow-2.ensures.count)
