use Rattle.std.proofs.Common.{◌≡◌, Some, None, map, codes, sym, ◌∙◌, ap, subst, arith}
use Rattle.std.specs.Prelude.{bytes_eq}
use Rattle.std.proofs.lemmas.Option.{slice_get-get_or}
use Rattle.gn_names.specs.First.{first_of}
use Rattle.gn_rules.specs.Sockets.{ids}
use Rattle.gn_tree.specs.Seen.{link_of, nodes_of, socket_of}
use Rattle.gn_meaning.specs.Reads.{link_read}
use Rattle.gn_origin.specs.Looking.{IsFound}
use Rattle.gn_origin.specs.Frames.{way_of}
use Rattle.gn_origin.specs.Reading.{tree_by, IsRead, node_read}
use Rattle.gn_origin.specs.declared.read.Site.TheVariants as site
use Rattle.gn_origin.proofs.Lists.{entry_found, entry_lost, link_lost, link_on, read_so}
use Rattle.gn_origin.proofs.Inner.{first_node_within}
use Rattle.gn_origin.proofs.list.List.link_read.Goals as goal

pub returns-in_err-number : goal.returns-in_err-number
returns-in_err-number c fs at =
    let l = c.args.self in
    let k = link_of c.args.link.now in
    let found : IsFound (map socket_of l.entries.now.list.now) k.socket None = subst (IsFound (map socket_of l.entries.now.list.now) k.socket) c.in_err-number.was (subst (λ t. IsFound (map socket_of l.entries.now.list.now) t c.find.result) c.deref.ensures c.find.ensures) in
    subst (λ r. IsRead (tree_by l) fs r (link_read at.body.scope (way_of fs) c.args.kind k)) (sym c.from_residual.ensures)
    (entry_lost l fs at c.args.kind k (ap (λ t. bytes_eq t (codes "input")) (sym c.as_str.ensures.value) ∙ (sym c.eq.ensures ∙ c.if-eq.true)) found)

pub returns-then-eq : goal.returns-then-eq
returns-then-eq c fs at =
    let l = c.args.self in
    let k = link_of c.args.link.now in
    let found : IsFound (map socket_of l.entries.now.list.now) k.socket (Some (c.in_ok-number.number, c.in_ok-number.socket)) = subst (IsFound (map socket_of l.entries.now.list.now) k.socket) c.in_ok-number.was (subst (λ t. IsFound (map socket_of l.entries.now.list.now) t c.find.result) c.deref.ensures c.find.ensures) in
    read_so (tree_by l) fs c.passed.result (site.Entry c.in_ok-number.number c.in_ok-number.socket) (link_read at.body.scope (way_of fs) c.args.kind k) c.passed.ensures.site
    (entry_found l fs at c.args.kind k c.in_ok-number.number c.in_ok-number.socket c.passed.result.conversion (ap (λ t. bytes_eq t (codes "input")) (sym c.as_str.ensures.value) ∙ (sym c.eq.ensures ∙ c.if-eq.true)) found c.passed.ensures.through)

pub returns-in_err-number-2 : goal.returns-in_err-number-2
returns-in_err-number-2 c fs at =
    let l = c.args.self in
    let k = link_of c.args.link.now in
    subst (λ r. IsRead (tree_by l) fs r (link_read at.body.scope (way_of fs) c.args.kind k)) (sym c.from_residual-in_err-number-2.ensures)
    (link_lost l fs at c.args.kind k (ap (λ t. bytes_eq t (codes "input")) (sym c.as_str.ensures.value) ∙ (sym c.eq.ensures ∙ c.if-eq.false)) (ap (λ ns. first_of ns k.from) (sym l.with_ids) ∙ (ap (first_of l.ids.now) (sym c.deref-2.ensures) ∙ sym c.first.ensures ∙ c.in_err-number-2.was)))

pub returns-in_err-node : goal.returns-in_err-node
returns-in_err-node c fs at =
    let l = c.args.self in
    let k = link_of c.args.link.now in
    let number : first_of (ids (nodes_of l.nodes.now)) k.from ≡ Some c.in_ok-number-2.number = ap (λ ns. first_of ns k.from) (sym l.with_ids) ∙ (ap (first_of l.ids.now) (sym c.deref-2.ensures) ∙ sym c.first.ensures ∙ c.in_ok-number-2.was) in
    let less = first_node_within l.nodes.now k.from c.in_ok-number-2.number number in
    absurd (omega (arith, less, c.in_err-node.ensures.lookup.3))

pub node_read-requires : goal.node_read-requires
node_read-requires c = slice_get-get_or c.args.self.nodes.now c.in_ok-number-2.number c.in_ok-node.node.now (c.in_ok-node.ensures.lookup.3).0 ∙ ap Some (sym c.in_ok-node.ensures.lookup.1)

pub returns : goal.returns
returns c fs at =
    let l = c.args.self in
    let k = link_of c.args.link.now in
    let n = c.in_ok-number-2.number in
    let number : first_of (ids (nodes_of l.nodes.now)) k.from ≡ Some n = ap (λ ns. first_of ns k.from) (sym l.with_ids) ∙ (ap (first_of l.ids.now) (sym c.deref-2.ensures) ∙ sym c.first.ensures ∙ c.in_ok-number-2.was) in
    let there = slice_get-get_or l.nodes.now n c.in_ok-node.node.now (c.in_ok-node.ensures.lookup.3).0 ∙ ap Some (sym c.in_ok-node.ensures.lookup.1) in
    subst (IsRead (tree_by l) fs c.node_read.result) (sym (link_on l fs at c.args.kind k n c.in_ok-node.node.now (ap (λ t. bytes_eq t (codes "input")) (sym c.as_str.ensures.value) ∙ (sym c.eq.ensures ∙ c.if-eq.false)) number there)) (subst (λ t. IsRead (tree_by l) fs c.node_read.result (node_read at.body.scope (way_of fs) c.args.kind n c.in_ok-node.node.now t)) c.deref-3.ensures (c.node_read.ensures fs at))
