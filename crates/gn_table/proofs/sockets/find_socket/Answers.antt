use Rattle.std.proofs.Common.{◌≡◌, Some, [], length, map, get_or, sym, ap, ◌∙◌, subst, arith}
use Rattle.std.proofs.lemmas.List.{length-map}
use Rattle.gn_kinds.specs.declared.row.SocketKind.TheVariants.{Geometry}
use Rattle.gn_tree.specs.Seen.{socket_of}
use Rattle.gn_names.specs.First.{first_of}
use Rattle.gn_rules.specs.Things.{socket_names}
use Rattle.gn_scopes.proofs.Finding.{found_in, found_by_number}
use Rattle.gn_table.proofs.Finding.{socket_found, socket_lost}
use Rattle.gn_table.proofs.sockets.find_socket.Goals as goal

pub returns-in-Some-get-clause-found : goal.returns-in-Some-get-clause-found
returns-in-Some-get-clause-found c =
    let list = c.args.sockets.now.list.now in
    let x = c.in-Some-get.socket.now in
    let number : first_of (socket_names (map socket_of list)) c.args.name.now ≡ Some c.in-Some.number = ap (λ ns. first_of ns c.args.name.now) (sym c.args.sockets.now.named) ∙ (sym c.first.ensures ∙ c.in-Some.is) in
    let inside = (found_in list c.args.name.now c.in-Some.number x number).0 in
    sym (socket_found list c.args.name.now c.in-Some.number x number inside (subst (λ xs. x ≡ get_or xs c.in-Some.number x) c.list_of-list.ensures c.in-Some-get.ensures.lookup.1))

pub returns-in-Some-get-clause-small : goal.returns-in-Some-get-clause-small
returns-in-Some-get-clause-small c = omega (arith, c.in-Some-get.ensures.lookup, c.list_of-list.type_inv)

pub returns-in-None-get-clause-found : goal.returns-in-None-get-clause-found
returns-in-None-get-clause-found c =
    let list = c.args.sockets.now.list.now in
    let number : first_of (socket_names (map socket_of list)) c.args.name.now ≡ Some c.in-Some.number = ap (λ ns. first_of ns c.args.name.now) (sym c.args.sockets.now.named) ∙ (sym c.first.ensures ∙ c.in-Some.is) in
    let past = c.in-None-get.ensures.lookup in
    let inside = (found_by_number (map socket_of list) c.args.name.now c.in-Some.number (record { name = []; kind = Geometry }) number).0 in
    absurd (omega (arith, simp length-map at inside, past.3, ap length c.list_of-list.ensures))

pub returns-in-None-clause-found : goal.returns-in-None-clause-found
returns-in-None-clause-found c = sym (socket_lost c.args.sockets.now.list.now c.args.name.now (ap (λ ns. first_of ns c.args.name.now) (sym c.args.sockets.now.named) ∙ (sym c.first.ensures ∙ c.in-None.is)))
