-- A node that is run becomes one of the graph: that keeps what stands, and leaves one step less.
use Rattle.std.proofs.Common.{◌≡◌, ◌<◌, ◌≤◌, ◌+◌, inl, inr, ℕ, suc, List, [], ◌∷◌, ◌++◌, map, length, drop, take, Some, true, refl, sym, ◌∙◌, ap, subst, arith}
use Rattle.std.specs.Prelude.{IsTrue, sum_by, nat_lt, option_map, option_and_then, slice_get, slice_index_or}
use Rattle.std.proofs.lemmas.Bool.Decides.{nat_tests}
use Rattle.std.proofs.lemmas.List.{length-append}
use Rattle.std.proofs.lemmas.List.Sums.{sum_by-cons}
use Rattle.gn_lazy.specs.declared.graph.Origin.{Origin}
use Rattle.gn_lazy.specs.declared.graph.Origin.TheVariants.{Input, Constant as Slot, Out as OutOf}
use Rattle.gn_lazy.specs.declared.graph.Link.{Link as CodeLink}
use Rattle.gn_lazy.specs.declared.graph.GraphNode.{GraphNode}
use Rattle.gn_lazy.specs.Graphs.{AreThere, LinksLeadBack, has_output, is_there}
use Rattle.gn_tree.specs.Trees.{Node as TreeNode, Tree}
use Rattle.gn_tree.specs.declared.kind.Kind.{Kind}
use Rattle.gn_node_kind.specs.Seen.{written_as}
use Rattle.gn_rules.specs.Rules.{KeepsRules}
use Rattle.gn_rules.specs.Sockets.{node_at, outputs_of}
use Rattle.gn_node_set.specs.Lists.{all_of}
use Rattle.gn_node_set.specs.Meanings.{an_output, plain_link}
use Rattle.gn_node_set.proofs.Lists.{append_assoc, append_nil}
use Rattle.gn_meaning.specs.Sites.{Way, path_of, at_output}
use Rattle.gn_meaning.specs.Bodies.{Body, kind_in}
use Rattle.gn_meaning.specs.Forms.{HasForm}
use Rattle.gn_meaning.specs.Reads.{Run, Part, a_node, a_group, a_repeat, part_at, part_in, run_in, run_of}
use Rattle.gn_meaning.proofs.Options.{some_same}
use Rattle.gn_stands.specs.Sources.{CarryAll}
use Rattle.gn_found.specs.Filled.{by_name}
use Rattle.gn_table.specs.declared.constant.Constant.{Constant}
use Rattle.gn_table.specs.declared.table.Part.TheVariants as part
use Rattle.gn_table.specs.declared.table.Row.{Row}
use Rattle.gn_table.specs.Tables.{IsPart, run_at}
use Rattle.gn_lower.specs.declared.carried.Source.TheVariants.{Out}
use Rattle.gn_lower.specs.declared.visit.Made.TheVariants as made
use Rattle.gn_lower.specs.Lowered.{link_of}
use Rattle.gn_lower.specs.Carried.{Came, Carries, named_link, output_by, plain}
use Rattle.gn_lower.specs.Unfolding.{IsNodeOf, State, StandsAt, Unfold, steps_around, steps_at, steps_by, steps_from, steps_left, way_by}
use Rattle.gn_lower.specs.Events.{Adds}
use Rattle.gn_lower.proofs.Carrying.{own_output}
use Rattle.gn_lower.proofs.Coming.{AllCome, all_come}
use Rattle.gn_lower.proofs.Growing.{around_stays, visit_stays}
use Rattle.gn_lower.proofs.Inside.{run_inside}
use Rattle.gn_lower.proofs.Lists.{by_number, drop_next, last_at, path_at}
use Rattle.gn_lower.proofs.Next.{IsNext, made_visit, next_is}
use Rattle.gn_lower.proofs.Results.{links_stay, nodes_stay, one_node_more}

-- ---- links that were there are there with more constants

below_true : (a b : ℕ) → a < b → nat_lt a b ≡ true
below_true a b h = grind (arith, nat_tests)

more_slots : (slot few more : ℕ) → nat_lt slot few ≡ true → few ≤ more → nat_lt slot more ≡ true
more_slots slot few more e h = grind (arith, nat_tests)

still_there : (nodes : List (GraphNode Kind)) (few more : ℕ) → few ≤ more → (o : Origin) → IsTrue (is_there nodes few o) → IsTrue (is_there nodes more o)
still_there nodes few more h Input there = there
still_there nodes few more h (Slot slot) there = more_slots slot few more there h
still_there nodes few more h (OutOf node socket) there = there

pub links_there : (nodes : List (GraphNode Kind)) (few more : ℕ) → few ≤ more → (links : List CodeLink) → AreThere nodes few links → AreThere nodes more links
links_there nodes few more h links there k d less = still_there nodes few more h (slice_index_or links k d).origin (there k d less)

-- ---- steps

one_step : (t : Tree) (known : Way → ℕ) (way : Way) (n : ℕ) (p : Part) (run : Run) → run_in p ≡ Some run → steps_by t known way n (Some p) ≡ 1
one_step t known way n (a_node r) run e = refl
one_step t known way n (a_group b reads) run e = cc
one_step t known way n (a_repeat r b) run e = refl

fewer : (a b rest around : ℕ) → a ≡ rest → b ≡ 1 + rest → a + around < b + around
fewer a b rest around e f = omega (arith, e, f)

as_many : (one all rest : ℕ) → one ≡ 1 → all ≡ one + rest → all ≡ 1 + rest
as_many one all rest e f = omega (arith, e, f)

-- ---- the node and what stands for it

module _ (t : Tree) (keeps : KeepsRules t) (form : HasForm t) (all : List Run) (old new : State) (stands : StandsAt t all old) (n outputs : ℕ) (row : Row)
    (next : slice_get old.visit.table.now.order.items old.visit.next ≡ Some n) (at : slice_get old.visit.table.now.rows.items n ≡ Some row) (is : row.part ≡ part.Run outputs)
    (adds : Adds old n row outputs new) (kind : written_as adds.node.kind ≡ kind_in stands.visit.body.scope row.node.now) where
  abbrev way : Way
  way = way_by old.way

  abbrev body : Body
  body = stands.visit.body

  abbrev order : List ℕ
  order = old.visit.table.now.order.items

  it : IsNext t keeps form old.nodes way old.visit stands.visit n row
  it = next_is t keeps form old.nodes way old.visit stands.visit n row next at

  part_is : IsPart body.scope it.written (part.Run outputs)
  part_is = subst (IsPart body.scope it.written) is it.is.part

  abbrev run : Run
  run = run_at body.scope way n it.written

  runs_it : run_of t (at_output way n 0) ≡ Some run
  runs_it = ap (option_and_then run_in) it.part ∙ part_is.0 way n

  abbrev nodes : List (GraphNode Kind)
  nodes = old.nodes ++ adds.node ∷ []

  abbrev constants : List Constant
  constants = old.constants ++ adds.more

  path : adds.node.path.steps.items ≡ path_of way n
  path = adds.path ∙ sym (path_at old.way n)

  count : adds.node.outputs ≡ length (outputs_of body.scope.groups it.written)
  count = adds.outputs_are ∙ part_is.1

  own : (s : ℕ) (y : TreeNode) → node_at body.scope.nodes n ≡ Some y → s < length (outputs_of body.scope.groups y) → (c : Came) × (output_by s (made.Node (length old.nodes)) ≡ Some c) × Carries nodes t (at_output way n s) c
  own s y there less =
      let same : y ≡ it.written = some_same (sym there ∙ it.there) in
      let here : slice_get nodes (length old.nodes) ≡ Some adds.node = last_at old.nodes adds.node in
      let inside : s < adds.node.outputs = subst (λ k. s < k) (ap (λ z. length (outputs_of body.scope.groups z)) same ∙ sym count) less in (
        plain (Out (length old.nodes) s),
        refl,
        record {
          link = plain_link (an_output (path_of way n) s);
          named = ap (λ o. option_map (λ x. record { from = x; through = [] }) (option_map (λ m. an_output m.path.steps.items s) o)) here ∙ ap (λ p. Some (plain_link (an_output p s))) path;
          carries = own_output t way n s run runs_it;
          there = ap (λ o. has_output o s) here ∙ below_true s adds.node.outputs inside;
        },
      )

  come : AllCome t keeps form old.nodes way old.visit stands.visit row.reads.items
  come = all_come t keeps form old.nodes way old.visit stands.visit row.reads.items it.comes

  seen : all_of (map (link_of nodes constants) adds.node.inputs.items) ≡ Some come.links
  seen =
      let same : adds.links.came ≡ come.came = some_same (sym adds.links.read ∙ come.is) in
      let before : all_of (map (link_of old.nodes new.constants) adds.node.inputs.items) ≡ Some come.links = ap all_of adds.links.seen ∙ (ap (λ cs. all_of (map (named_link old.nodes) cs)) same ∙ come.named) in
      let after : all_of (map (link_of nodes (new.constants ++ [])) adds.node.inputs.items) ≡ Some come.links = links_stay old.nodes (adds.node ∷ []) new.constants [] adds.node.inputs.items come.links before in
      subst (λ cs. all_of (map (link_of nodes cs) adds.node.inputs.items) ≡ Some come.links) (append_nil new.constants ∙ adds.constants) after

  is_node : IsNodeOf t nodes constants run adds.node
  is_node = record {
    path = path;
    kind = kind ∙ ap (kind_in body.scope) it.is.node;
    links = come.links;
    seen = seen;
    carry = subst (λ reads. CarryAll by_name t reads come.links) (it.is.reads way) come.carry;
    way = way;
    body = body;
    number = n;
    written = it.written;
    leads = stands.visit.leads;
    at = it.there;
    place = refl;
    outputs = count;
  }

  room : length old.constants ≤ length constants
  room = let sum : length constants ≡ length old.constants + length adds.more = length-append old.constants adds.more in omega (arith, sum)

  back : LinksLeadBack (record { nodes = nodes; roots = []; constants = length constants })
  back k x found = elim (by_number old.nodes adds.node k x found) [
    | inl p ↦ subst (λ before. AreThere before (length constants) x.inputs.items) (sym p.1) (links_there (take k old.nodes) (length old.constants) (length constants) room x.inputs.items (stands.back k x p.0))
    | inr p ↦ subst (λ before. AreThere before (length constants) x.inputs.items) (sym p.1)
        (subst (λ y. AreThere old.nodes (length constants) y.inputs.items) (sym p.0) (subst (λ cs. AreThere old.nodes (length cs) adds.node.inputs.items) adds.constants adds.links.there))
  ]

  -- ---- what is left

  abbrev rest : List ℕ
  rest = drop (suc old.visit.next) order

  inside : (runs : List Run) × Unfold t way rest runs × (run ∷ runs ≡ stands.left)
  inside = run_inside t n rest run stands.here (drop_next order old.visit.next n next) runs_it

  left_behind : drop new.visit.next new.visit.table.now.order.items ≡ rest
  left_behind = ap (λ r. drop new.visit.next r.now.order.items) adds.visit.table ∙ ap (λ k. drop k order) adds.visit.next

  abbrev grown : State
  grown = record { visit = new.visit; outer = old.outer; way = old.way; nodes = nodes; constants = constants }

  grown_stands : StandsAt t all grown
  grown_stands = record {
    visit = made_visit t nodes way old.visit new.visit (visit_stays old.nodes (adds.node ∷ []) t way old.visit stands.visit) n (made.Node (length old.nodes)) adds.visit next own;
    done = stands.done ++ run ∷ [];
    nodes = one_node_more t nodes constants stands.done old.nodes run adds.node (nodes_stay old.nodes (adds.node ∷ []) old.constants adds.more t stands.done old.nodes stands.nodes) is_node;
    back = back;
    left = inside.0;
    more = stands.more;
    here = subst (λ ns. Unfold t way ns inside.0) (sym left_behind) inside.1;
    around = around_stays old.nodes (adds.node ∷ []) t stands.around;
    whole = append_assoc stands.done (run ∷ []) (inside.0 ++ stands.more) ∙ (ap (λ l. stands.done ++ (l ++ stands.more)) inside.2 ∙ stands.whole);
  }

  abbrev steps_of : ℕ → ℕ
  steps_of m = steps_by t (steps_at t) way m (part_at t way m)

  fewer_left : steps_left t grown < steps_left t old
  fewer_left =
      let first : steps_of n ≡ 1 = ap (steps_by t (steps_at t) way n) it.part ∙ one_step t (steps_at t) way n (part_in body.scope way n it.written) run (part_is.0 way n) in
      fewer (steps_from t way new.visit.next new.visit) (steps_from t way old.visit.next old.visit) (sum_by steps_of rest) (steps_around t old.outer old.way) (ap (sum_by steps_of) left_behind)
      (as_many (steps_of n) (steps_from t way old.visit.next old.visit) (sum_by steps_of rest) first (ap (sum_by steps_of) (drop_next order old.visit.next n next) ∙ sum_by-cons steps_of n rest))

  pub after_adding : StandsAt t all new × (steps_left t new < steps_left t old)
  after_adding =
      let same : new ≡ grown = λ i. record { visit = new.visit; outer = adds.outer i; way = adds.way i; nodes = adds.nodes i; constants = adds.constants i } in
      subst (λ s. StandsAt t all s × (steps_left t s < steps_left t old)) (sym same) (grown_stands, fewer_left)
