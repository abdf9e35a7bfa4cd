use Rattle.std.proofs.Common.{◌≡◌, ◌∙◌, sym, subst, Some, length, arith}
use Rattle.std.specs.BTreeMap.{get, Updates}
use Rattle.gn_edges.specs.Kept.{pair_cmp}
use Rattle.gn_edges.proofs.Numbers.{at_number, no_number, kept_map, new_crowded, kept_crowded}
use Rattle.gn_edges.proofs.edges.add_crowded.Goals as goal

pub returns-in-Some-clause-pairs : goal.returns-in-Some-clause-pairs
returns-in-Some-clause-pairs c =
    sym (at_number c.args.pairs.now.items c.args.first.now c.args.next.now.items c.args.crowd.now c.args.edge c.in-Some.number.now c.requires.kept (c.requires.unlisted (get pair_cmp c.args.crowd.now c.args.edge) ∙ sym c.in-Some.ensures.value)).0

pub returns-in-Some-clause-number : goal.returns-in-Some-clause-number
returns-in-Some-clause-number c =
    (at_number c.args.pairs.now.items c.args.first.now c.args.next.now.items c.args.crowd.now c.args.edge c.in-Some.number.now c.requires.kept (c.requires.unlisted (get pair_cmp c.args.crowd.now c.args.edge) ∙ sym c.in-Some.ensures.value)).1

pub returns-in_err-insert-clause-kept : goal.returns-in_err-insert-clause-kept
returns-in_err-insert-clause-kept c =
    rw (c.reserve.ensures.items, c.reserve-2.ensures.items) (kept_map c.args.pairs.now.items c.args.first.now c.args.next.now.items c.args.crowd.now c.insert.new.self c.in_err-insert.ensures.err c.requires.kept)

pub returns-clause-kept : goal.returns-clause-kept
returns-clause-kept c =
    let pairs = c.args.pairs.now.items in
    let next = c.args.next.now.items in
    let number : c.len-number.result ≡ length pairs = omega arith in
    let updates = subst (λ n. Updates pair_cmp c.args.crowd.now c.insert.new.self c.args.edge (Some n)) number c.in_ok-insert.ensures.updates in
    rw (c.in_ok-push-2.ensures.items, c.in_ok-push.ensures.items, c.reserve.ensures.items, c.reserve-2.ensures.items)
    (kept_crowded pairs c.args.first.now next c.args.crowd.now c.insert.new.self c.args.edge c.requires.kept c.requires.unlisted (sym c.in-None.ensures.value) updates)

pub returns-clause-pairs : goal.returns-clause-pairs
returns-clause-pairs c =
    let none = new_crowded c.args.pairs.now.items c.args.first.now c.args.next.now.items c.args.crowd.now c.insert.new.self c.args.edge c.requires.kept c.requires.unlisted (sym c.in-None.ensures.value) in
    rw (c.in_ok-push-2.ensures.items, c.reserve.ensures.items) (sym (no_number c.args.pairs.now.items c.args.first.now c.args.next.now.items c.args.crowd.now c.args.edge c.requires.kept none).0)

pub returns-clause-number : goal.returns-clause-number
returns-clause-number c =
    let none = new_crowded c.args.pairs.now.items c.args.first.now c.args.next.now.items c.args.crowd.now c.insert.new.self c.args.edge c.requires.kept c.requires.unlisted (sym c.in-None.ensures.value) in
    let number : c.len-number.result ≡ length c.args.pairs.now.items = omega arith in
    number ∙ (no_number c.args.pairs.now.items c.args.first.now c.args.next.now.items c.args.crowd.now c.args.edge c.requires.kept none).1
