use Rattle.std.proofs.Common.{◌≡◌, sym, refl, Some, get_or}
use Rattle.gn_edges.specs.Kept.{walk, number_of}
use Rattle.gn_edges.specs.declared.place.Place.TheVariants.{At}
use Rattle.gn_edges.proofs.Numbers.{at_number}
use Rattle.gn_edges.proofs.edges.add_pair.Goals as goal

pub returns-in-At-clause-pairs : goal.returns-in-At-clause-pairs
returns-in-At-clause-pairs c =
    let place : walk c.args.pairs.now.items c.args.next.now.items c.args.edge 8 (get_or c.args.first.now.items c.args.edge.0 0) ≡ At c.in-At.number =
    sym (rw (c.first_link-link.ensures, c.deref.ensures.value, c.deref-2.ensures.value, c.deref-3.ensures.value) at c.in-At.ensures) in
    let number : number_of c.args.pairs.now.items c.args.first.now.items c.args.next.now.items c.args.crowd.now c.args.edge ≡ Some c.in-At.number = rw place refl in
    sym (at_number c.args.pairs.now.items c.args.first.now.items c.args.next.now.items c.args.crowd.now c.args.edge c.in-At.number c.requires.kept number).0

pub returns-in-At-clause-number : goal.returns-in-At-clause-number
returns-in-At-clause-number c =
    let place : walk c.args.pairs.now.items c.args.next.now.items c.args.edge 8 (get_or c.args.first.now.items c.args.edge.0 0) ≡ At c.in-At.number =
    sym (rw (c.first_link-link.ensures, c.deref.ensures.value, c.deref-2.ensures.value, c.deref-3.ensures.value) at c.in-At.ensures) in
    let number : number_of c.args.pairs.now.items c.args.first.now.items c.args.next.now.items c.args.crowd.now c.args.edge ≡ Some c.in-At.number = rw place refl in
    (at_number c.args.pairs.now.items c.args.first.now.items c.args.next.now.items c.args.crowd.now c.args.edge c.in-At.number c.requires.kept number).1
