use Rattle.std.proofs.Common.{◌≡◌, Some, [], map, sym, ap, ◌∙◌, arith}
use Rattle.gn_kinds.specs.declared.row.SocketKind.TheVariants.{Geometry}
use Rattle.std.proofs.lemmas.List.{length-map}
use Rattle.gn_tree.specs.Seen.{socket_of}
use Rattle.gn_names.specs.First.{first_of}
use Rattle.gn_rules.specs.Sockets.{single}
use Rattle.gn_rules.specs.Things.{socket_names}
use Rattle.gn_scopes.proofs.Finding.{found_in, found_by_number, not_found}
use Rattle.gn_scopes.proofs.sockets.Sockets.find.Goals as goal

pub returns-in-Some-get : goal.returns-in-Some-get
returns-in-Some-get c =
    let list = c.args.self.now.list.now in
    let number : first_of (socket_names (map socket_of list)) c.args.name.now ≡ Some c.in-Some.position = ap (λ ns. first_of ns c.args.name.now) (sym c.args.self.now.named) ∙ (sym c.first.ensures ∙ c.in-Some.is) in
    let found = found_in list c.args.name.now c.in-Some.position c.in-Some-get.socket.now number in
    ap Some (c.single.ensures ∙ ap (λ x. single x.kind) c.in-Some-get.ensures.lookup.1) ∙ sym found.1

pub returns-in-None-get : goal.returns-in-None-get
returns-in-None-get c =
    let list = c.args.self.now.list.now in
    let number : first_of (socket_names (map socket_of list)) c.args.name.now ≡ Some c.in-Some.position = ap (λ ns. first_of ns c.args.name.now) (sym c.args.self.now.named) ∙ (sym c.first.ensures ∙ c.in-Some.is) in
    let past = c.in-None-get.ensures.lookup in
    let inside = (found_by_number (map socket_of list) c.args.name.now c.in-Some.position (record { name = []; kind = Geometry }) number).0 in
    absurd (omega (arith, simp length-map at inside, past.3))

pub returns-in-None : goal.returns-in-None
returns-in-None c =
    sym (not_found (map socket_of c.args.self.now.list.now) c.args.name.now (ap (λ ns. first_of ns c.args.name.now) (sym c.args.self.now.named) ∙ (sym c.first.ensures ∙ c.in-None.is)))
