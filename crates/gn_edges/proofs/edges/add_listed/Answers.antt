use Rattle.std.proofs.Common.{◌≡◌, ◌∙◌, sym, length, get_or, arith}
use Rattle.gn_edges.specs.Kept.{walk}
use Rattle.gn_edges.specs.declared.place.Place.TheVariants.{Nowhere}
use Rattle.gn_edges.proofs.Numbers.{no_number, kept_first, new_listed, kept_listed, few_from}
use Rattle.gn_edges.proofs.edges.add_listed.Goals as goal

pub returns-in_err-push_pair-clause-kept : goal.returns-in_err-push_pair-clause-kept
returns-in_err-push_pair-clause-kept c =
    rw (c.in_err-push_pair.ensures.pairs_refused, c.in_err-push_pair.ensures.next_refused)
    (kept_first c.args.pairs.now.items c.args.first.now.items c.make_room.new.first.items c.args.next.now.items c.args.crowd.now c.make_room.ensures.same c.requires.kept)

pub returns-clause-kept : goal.returns-clause-kept
returns-clause-kept c =
    let pairs = c.args.pairs.now.items in
    let first = c.make_room.new.first.items in
    let next = c.args.next.now.items in
    let crowd = c.args.crowd.now in
    let edge = c.args.edge in
    let few = few_from (length pairs) c.requires.few in
    let room = kept_first pairs c.args.first.now.items first next crowd c.make_room.ensures.same c.requires.kept in
    let ends : walk pairs next edge 8 (get_or first edge.0 0) ≡ Nowhere = rw (c.make_room.ensures.same edge.0) c.requires.ends in
    let number : c.len-number.result ≡ length pairs = omega arith in
    rw (c.in_ok-push_pair.ensures.pairs, c.in_ok-push_pair.ensures.next, c.first_link-link.ensures, c.deref.ensures.value, number)
    (kept_listed pairs first next crowd edge room ends few c.in_ok-make_room.ensures.room)

pub returns-clause-pairs : goal.returns-clause-pairs
returns-clause-pairs c =
    let few = few_from (length c.args.pairs.now.items) c.requires.few in
    let none = new_listed c.args.pairs.now.items c.args.first.now.items c.args.next.now.items c.args.crowd.now c.args.edge c.requires.kept c.requires.ends few in
    c.in_ok-push_pair.ensures.pairs ∙ sym (no_number c.args.pairs.now.items c.args.first.now.items c.args.next.now.items c.args.crowd.now c.args.edge c.requires.kept none).0

pub returns-clause-number : goal.returns-clause-number
returns-clause-number c =
    let few = few_from (length c.args.pairs.now.items) c.requires.few in
    let none = new_listed c.args.pairs.now.items c.args.first.now.items c.args.next.now.items c.args.crowd.now c.args.edge c.requires.kept c.requires.ends few in
    let number : c.len-number.result ≡ length c.args.pairs.now.items = omega arith in
    number ∙ (no_number c.args.pairs.now.items c.args.first.now.items c.args.next.now.items c.args.crowd.now c.args.edge c.requires.kept none).1
