use Rattle.std.proofs.Common.{◌≡◌, [], length, take, get_or, Some, sym, ap, ◌∙◌, subst}
use Rattle.gn_node_set.specs.Meanings.{Has}
use Rattle.gn_uses.specs.Sets.{IsIn}
use Rattle.gn_uses.specs.Nodes as nodes
use Rattle.gn_uses.specs.Parts.{lists_of, nodes_of}
use Rattle.gn_uses.specs.Reading.{front_of, case_of, at_case}
use Rattle.gn_uses.proofs.Reading.{has_case, wants_twice}
use Rattle.gn_uses.proofs.nodes.Parts.want_needs.Goals as goal

pub want_all-requires-2 : goal.want_all-requires-2
want_all-requires-2 c x h =
    let g = nodes_of c.args.self.now [] in
    let inputs : c.links_of-inputs.result.now ≡ nodes.inputs g c.args.node = c.links_of-inputs.ensures ∙ ap (λ vs. get_or (lists_of vs) c.args.node []) c.deref.ensures.value in
    let sizes : c.want_all.new.wanted.sizes ≡ c.args.wanted.now.sizes = ap (λ s. s.sizes) c.want_all.ensures in
    let case : Has (at_case c.case_of-case.result c.links_of-inputs.result.now) (Some x) = subst (λ xs. Has xs (Some x)) c.case_in.ensures h in
    let input : Has c.links_of-inputs.result.now (Some x) = has_case c.case_of-case.result c.links_of-inputs.result.now (Some x) case in
    subst (λ ss. IsIn ss x) (sym sizes) (c.requires x (subst (λ xs. Has xs (Some x)) inputs input))

pub returns : goal.returns
returns c =
    let g = nodes_of c.args.self.now [] in
    let found = c.links_of-inputs.result.now in
    let front = take c.front_of-front.result found in
    let inputs : found ≡ nodes.inputs g c.args.node = c.links_of-inputs.ensures ∙ ap (λ vs. get_or (lists_of vs) c.args.node []) c.deref.ensures.value in
    let is_front : front ≡ take (front_of (nodes.role g c.args.node) (nodes.choice g c.args.node) (length (nodes.inputs g c.args.node))) (nodes.inputs g c.args.node) =
    ap (λ k. take k found) c.front_of-front.ensures ∙ (λ i. take (front_of (c.role.ensures i) (c.choice.ensures i) (length (inputs i))) (inputs i)) in
    let is_case : c.case_in.result.now ≡ at_case (case_of (nodes.role g c.args.node) (nodes.choice g c.args.node)) (nodes.inputs g c.args.node) =
    c.case_in.ensures ∙ (ap (λ o. at_case o found) c.case_of-case.ensures ∙ (λ i. at_case (case_of (c.role-2.ensures i) (c.choice-2.ensures i)) (inputs i))) in
    wants_twice c.args.wanted.now c.want_all.new.wanted c.want_all-2.new.wanted (nodes.role g c.args.node) (nodes.choice g c.args.node) (nodes.inputs g c.args.node) front c.case_in.result.now
    c.want_all.ensures c.want_all-2.ensures is_front is_case
