use Rattle.std.proofs.Common.{◌≡◌, Some, true, false, codes, sym, ap, ◌∙◌}
use Rattle.std.specs.Prelude.{bytes_eq, slice_get}
use Rattle.std.specs.Option.{option_map_or}
use Rattle.gn_names.specs.First.{first_of}
use Rattle.gn_tree.specs.Seen.{link_of, nodes_of}
use Rattle.gn_rules.specs.Sockets.{ids, outputs_of}
use Rattle.gn_scopes.specs.Scopes.{entries_of}
use Rattle.gn_scopes.specs.Seen.{groups_in, scope_of}
use Rattle.gn_scopes.proofs.Grouping.{node_at_seen}
use Rattle.gn_meaning.specs.Sites.{at_input, at_output, nowhere, plain_read}
use Rattle.gn_table.specs.Finding.{find_in, read_found}
use Rattle.gn_table.proofs.Reading.{entry_link, node_link}
use Rattle.gn_table.proofs.inputs.link_read.Goals as goal

pub returns-then-eq : goal.returns-then-eq
returns-then-eq c = λ way.
    let l = link_of c.args.link.now in
    let from_input : bytes_eq l.from (codes "input") ≡ true = ap (λ from. bytes_eq from (codes "input")) (sym c.as_str.ensures.value) ∙ (sym c.eq.ensures ∙ c.if-eq.true) in
    c.entry_read.ensures way
    ∙ (ap (λ name. read_found (at_input way) c.args.kind (find_in (entries_of c.args.scope.now.entries) name)) c.deref.ensures
    ∙ sym (entry_link (scope_of c.args.scope.now) way c.args.kind l from_input))

pub returns-in-Some : goal.returns-in-Some
returns-in-Some c = λ way.
    let l = link_of c.args.link.now in
    let s = scope_of c.args.scope.now in
    let xs = c.args.scope.now.nodes.now.items in
    let n = c.in-Some.number in
    let from_node : bytes_eq l.from (codes "input") ≡ false = ap (λ from. bytes_eq from (codes "input")) (sym c.as_str.ensures.value) ∙ (sym c.eq.ensures ∙ c.if-eq.false) in
    let number : first_of (ids s.nodes) l.from ≡ Some n = ap (λ names. first_of names l.from) (sym c.args.scope.now.with_ids) ∙ (ap (first_of c.args.scope.now.ids) (sym c.deref-2.ensures) ∙ (sym c.first.ensures ∙ c.in-Some.is)) in
    c.output_read.ensures way
    ∙ (ap (λ name. option_map_or (λ x. read_found (at_output way n) c.args.kind (find_in (outputs_of s.groups x) name)) (slice_get xs n) (plain_read nowhere)) c.deref-in-Some.ensures
    ∙ (ap (λ o. option_map_or (λ x. read_found (at_output way n) c.args.kind (find_in (outputs_of s.groups x) l.socket)) o (plain_read nowhere)) (sym (node_at_seen xs n))
    ∙ sym (node_link s way c.args.kind l n from_node number)))
