use Rattle.std.proofs.Common.{◌≡◌, Some, [], map, sym, ap, ◌∙◌, arith}
use Rattle.std.specs.Prelude.{option_map}
use Rattle.std.proofs.lemmas.List.{length-map}
use Rattle.std.proofs.lemmas.Option.{slice_get-get_or, slice_get-map}
use Rattle.gn_kinds.specs.declared.row.SocketKind.TheVariants.{Geometry}
use Rattle.gn_tree.specs.Seen.{socket_of}
use Rattle.gn_names.specs.First.{first_of}
use Rattle.gn_rules.specs.Things.{socket_names}
use Rattle.gn_scopes.proofs.Finding.{found_in, found_by_number}
use Rattle.gn_origin.proofs.sockets.Sockets.find.Goals as goal

pub returns-in_err-socket : goal.returns-in_err-socket
returns-in_err-socket c =
    let number : first_of (socket_names (map socket_of c.args.self.now.list.now)) c.args.name.now ≡ Some c.in_ok-number.number = ap (λ ns. first_of ns c.args.name.now) (sym c.args.self.now.named) ∙ (sym c.first.ensures ∙ c.in_ok-number.was) in
    let inside = (found_by_number (map socket_of c.args.self.now.list.now) c.args.name.now c.in_ok-number.number (record { name = []; kind = Geometry }) number).0 in
    absurd (omega (arith, simp length-map at inside, c.in_err-socket.ensures.lookup))

pub returns : goal.returns
returns c =
    let list = c.args.self.now.list.now in
    let n = c.in_ok-number.number in
    let x = c.in_ok-socket.socket.now in
    let number : first_of (socket_names (map socket_of list)) c.args.name.now ≡ Some n = ap (λ ns. first_of ns c.args.name.now) (sym c.args.self.now.named) ∙ (sym c.first.ensures ∙ c.in_ok-number.was) in
    let found = found_in list c.args.name.now n x number in
    (number, slice_get-map socket_of list n ∙ ap (option_map socket_of) (slice_get-get_or list n x found.0 ∙ ap Some (sym c.in_ok-socket.ensures.lookup.1)))
