use Rattle.std.proofs.Common.{◌<◌, ◌≤◌, length, arith, rules}
use Rattle.gn_nearest.specs.Boxes.{IsFirst, IsOf, part_at, points_of, rank}
use Rattle.gn_nearest.proofs.Listed.{first_least}
use Rattle.gn_nearest.proofs.Parts.{at_position, first_before, halves_first, none_before, opened}
use Rattle.gn_nearest.proofs.search.+descend.Goals as goal

pub descend-best-requires : goal.descend-best-requires
descend-best-requires t c =
    let es = c.args.entries.now in
    let ps = c.args.parts.now in
    let n = c.args.number in
    let h = opened es ps n (part_at ps n) c.in-Some.halves (c.requires.boxes n (omega arith) c.requires.number) c.in-Some.is in
    let k = c.in-Some.halves.back in
    let below : k < t = omega (arith, h.back) in
    let within : k < length ps = omega (arith, h.back) in
    let box = c.requires.boxes k (omega arith) within in
    let bound : IsFirst es (part_at ps k) c.args.to c.nearest-back.result = none_before es ps k (part_at ps k) c.args.to c.nearest-back.result box c.nearest-back.ensures in
    let best : IsOf (points_of es) c.args.to c.first-best.result = search rules in
    (below, (within, (c.requires.boxes, (c.requires.listed, (bound, best)))))

pub descend-requires : goal.descend-requires
descend-requires t c =
    let es = c.args.entries.now in
    let ps = c.args.parts.now in
    let n = c.args.number in
    let h = opened es ps n (part_at ps n) c.in-Some.halves (c.requires.boxes n (omega arith) c.requires.number) c.in-Some.is in
    let k = c.in-Some.halves.front in
    let below : k < t = omega (arith, h.front) in
    let within : k < length ps = omega (arith, h.front) in
    let box = c.requires.boxes k (omega arith) within in
    let bound : IsFirst es (part_at ps k) c.args.to c.nearest-front.result = none_before es ps k (part_at ps k) c.args.to c.nearest-front.result box c.nearest-front.ensures in
    (below, (within, (c.requires.boxes, (c.requires.listed, (bound, c.descend-best.ensures.of)))))

pub descend-best-requires-else-is_before : goal.descend-best-requires-else-is_before
descend-best-requires-else-is_before t c =
    let es = c.args.entries.now in
    let ps = c.args.parts.now in
    let n = c.args.number in
    let h = opened es ps n (part_at ps n) c.in-Some.halves (c.requires.boxes n (omega arith) c.requires.number) c.in-Some.is in
    let k = c.in-Some.halves.front in
    let below : k < t = omega (arith, h.front) in
    let within : k < length ps = omega (arith, h.front) in
    let box = c.requires.boxes k (omega arith) within in
    let bound : IsFirst es (part_at ps k) c.args.to c.nearest-front.result = none_before es ps k (part_at ps k) c.args.to c.nearest-front.result box c.nearest-front.ensures in
    let best : IsOf (points_of es) c.args.to c.first-best.result = search rules in
    (below, (within, (c.requires.boxes, (c.requires.listed, (bound, best)))))

pub descend-requires-else-is_before : goal.descend-requires-else-is_before
descend-requires-else-is_before t c =
    let es = c.args.entries.now in
    let ps = c.args.parts.now in
    let n = c.args.number in
    let h = opened es ps n (part_at ps n) c.in-Some.halves (c.requires.boxes n (omega arith) c.requires.number) c.in-Some.is in
    let k = c.in-Some.halves.back in
    let below : k < t = omega (arith, h.back) in
    let within : k < length ps = omega (arith, h.back) in
    let box = c.requires.boxes k (omega arith) within in
    let bound : IsFirst es (part_at ps k) c.args.to c.nearest-back.result = none_before es ps k (part_at ps k) c.args.to c.nearest-back.result box c.nearest-back.ensures in
    (below, (within, (c.requires.boxes, (c.requires.listed, (bound, c.descend-best-else-is_before.ensures.of)))))

pub returns-then-is_before-clause-first : goal.returns-then-is_before-clause-first
returns-then-is_before-clause-first t c =
    let es = c.args.entries.now in
    let ps = c.args.parts.now in
    let n = c.args.number in
    let box = c.requires.boxes n (omega arith) c.requires.number in
    let h = opened es ps n (part_at ps n) c.in-Some.halves box c.in-Some.is in
    let f = c.in-Some.halves.front in
    let b = c.in-Some.halves.back in
    let back_box = c.requires.boxes b (omega arith) (omega (arith, h.back)) in
    let within : (part_at ps f).to < length es = omega (arith, h.middle, back_box.rises, back_box.within) in
    let least = first_least c.args.best c.of.result c.first-best.result c.first-best.ensures in
    let low : rank c.descend.result ≤ rank c.of.result = omega (arith, least.1, c.descend-best.ensures.kept, c.descend.ensures.kept) in
    halves_first es ps n (part_at ps n) c.in-Some.halves c.args.to c.descend.result h c.descend.ensures.first (at_position es (part_at ps f).to c.args.to _ c.descend.result c.of.result within c.of.ensures low) (first_before es (part_at ps b) c.args.to c.descend-best.result c.descend.result c.descend.ensures.kept c.descend-best.ensures.first)

pub returns-else-is_before-clause-first : goal.returns-else-is_before-clause-first
returns-else-is_before-clause-first t c =
    let es = c.args.entries.now in
    let ps = c.args.parts.now in
    let n = c.args.number in
    let box = c.requires.boxes n (omega arith) c.requires.number in
    let h = opened es ps n (part_at ps n) c.in-Some.halves box c.in-Some.is in
    let f = c.in-Some.halves.front in
    let b = c.in-Some.halves.back in
    let back_box = c.requires.boxes b (omega arith) (omega (arith, h.back)) in
    let within : (part_at ps f).to < length es = omega (arith, h.middle, back_box.rises, back_box.within) in
    let least = first_least c.args.best c.of.result c.first-best.result c.first-best.ensures in
    let low : rank c.descend-else-is_before.result ≤ rank c.of.result = omega (arith, least.1, c.descend-best-else-is_before.ensures.kept, c.descend-else-is_before.ensures.kept) in
    halves_first es ps n (part_at ps n) c.in-Some.halves c.args.to c.descend-else-is_before.result h (first_before es (part_at ps f) c.args.to c.descend-best-else-is_before.result c.descend-else-is_before.result c.descend-else-is_before.ensures.kept c.descend-best-else-is_before.ensures.first) (at_position es (part_at ps f).to c.args.to _ c.descend-else-is_before.result c.of.result within c.of.ensures low) c.descend-else-is_before.ensures.first
