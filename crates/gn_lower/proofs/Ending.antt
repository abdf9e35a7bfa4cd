-- Once the tree's own list is done, the graph is the one that is found.
use Rattle.std.proofs.Common.{◌≡◌, ◌≤◌, ◌+◌, ℕ, List, [], ◌∷◌, ◌++◌, map, length, take, reverse, refl, sym, ◌∙◌, ap, subst, arith}
use Rattle.std.specs.Prelude.{All, IfOk, Result, Ok, Err}
use Rattle.std.specs.declared.alloc.Global.{Global}
use Rattle.std.specs.declared.vec.Vec.{Vec}
use Rattle.std.proofs.lemmas.List.{drop_all, length-append}
use Rattle.gn_lazy.specs.declared.path.PathStep.{PathStep}
use Rattle.gn_lazy.specs.declared.graph.Link.{Link as CodeLink}
use Rattle.gn_lazy.specs.declared.graph.GraphNode.{GraphNode}
use Rattle.gn_lazy.specs.Graphs.{Nodes}
use Rattle.gn_memory.specs.declared.Memory.{Memory}
use Rattle.gn_tree.specs.Form.{IsOfForm}
use Rattle.gn_tree.specs.Trees.{Tree}
use Rattle.gn_tree.specs.declared.kind.Kind.{Kind}
use Rattle.gn_rules.specs.Rules.{KeepsRules}
use Rattle.gn_rules.specs.Sockets.{one_of}
use Rattle.gn_node_set.specs.Lists.{all_of}
use Rattle.gn_node_set.proofs.Lists.{append_nil}
use Rattle.gn_meaning.specs.Sites as sites
use Rattle.gn_meaning.specs.Sites.{the_tree}
use Rattle.gn_meaning.specs.Bodies.{tree_body}
use Rattle.gn_meaning.specs.Demand.{output_read}
use Rattle.gn_meaning.specs.Forms.{HasForm}
use Rattle.gn_meaning.specs.Reads.{Run, given_out, read_at}
use Rattle.gn_meaning.proofs.Formed.{has_form}
use Rattle.gn_meaning.proofs.Inputs.{reads_once}
use Rattle.gn_meaning.proofs.Options.{some_same}
use Rattle.gn_meaning.proofs.Opened.{at_way}
use Rattle.gn_meaning.proofs.Parts.{Holds, holds_tree, singles}
use Rattle.gn_stands.specs.Sources.{CarryAll}
use Rattle.gn_found.specs.Filled.{by_name}
use Rattle.gn_table.specs.declared.constant.Constant.{Constant}
use Rattle.gn_table.specs.Reads.{reads_in}
use Rattle.gn_lower.specs.declared.visit.Visit.{Visit}
use Rattle.gn_lower.specs.declared.unfold.Unfolding.{Unfolding}
use Rattle.gn_lower.specs.Lowered.{Lowers}
use Rattle.gn_lower.specs.Carried.{IsRead, named_link}
use Rattle.gn_lower.specs.Unfolding.{AreNodes, Around, IsDone, IsFound, IsGraph, IsVisit, State, Stands, StandsAt, inside, outermost, state_of, tree_in, way_by}
use Rattle.gn_lower.specs.Events.{Carry, Links}
use Rattle.gn_lower.proofs.Adding.{links_there}
use Rattle.gn_lower.proofs.Coming.{AllCome, all_come, given_comes}
use Rattle.gn_lower.proofs.Granted.{given_read}
use Rattle.gn_lower.proofs.Inside.{none_inside}
use Rattle.gn_lower.proofs.Results.{graph_is_found, nodes_stay}

only_one : (xs : List sites.Read) → length xs ≡ 1 → xs ≡ read_at xs 0 ∷ []
only_one [] e = absurd (omega (arith, e))
only_one (x ∷ []) e = refl
only_one (x ∷ y ∷ xs) e = absurd (omega (arith, e))

-- nothing is left around
none_around : (t : Tree) (nodes : List (GraphNode Kind)) {visits : List Visit} {steps : List PathStep} {runs : List Run} → Around t nodes visits steps runs → visits ≡ [] → runs ≡ []
none_around t nodes outermost e = refl
none_around t nodes (inside visit n b reads v next at u around) e = cc

module _ (t : Tree) (keeps : KeepsRules t) (form : HasForm t) (all : List Run) (s : State) (stands : StandsAt t all s) (way_is : s.way ≡ []) (outer_is : s.outer ≡ []) (done : length s.visit.table.now.order.items ≤ s.visit.next) where
  v : IsVisit t s.nodes the_tree s.visit
  v = subst (λ steps. IsVisit t s.nodes (way_by steps) s.visit) way_is stands.visit

  own_body : v.body ≡ tree_body t
  own_body = some_same (sym (at_way t keeps form v.leads).0)

  one_given : reads_in the_tree s.visit.table.now.given.items ≡ output_read t ∷ []
  one_given =
      let own : Holds t (tree_body t) = holds_tree t form in
      let count : length (given_out (tree_body t) the_tree) ≡ 1 = reads_once t keeps (tree_body t).scope the_tree (map one_of (tree_body t).sockets) (tree_body t).output own.out (singles (tree_body t).sockets) (map one_of (tree_body t).sockets) [] (singles (tree_body t).sockets) in
      v.table.given the_tree ∙ (ap (λ b. given_out b the_tree) own_body ∙ only_one (given_out (tree_body t) the_tree) count)

  come : AllCome t keeps form s.nodes the_tree s.visit v s.visit.table.now.given.items
  come = all_come t keeps form s.nodes the_tree s.visit v s.visit.table.now.given.items (given_comes t keeps form s.nodes the_tree s.visit v done)

  all_done : stands.done ≡ all
  all_done =
      let left : stands.left ≡ [] = none_inside t stands.here (drop_all s.visit.next s.visit.table.now.order.items done) in
      let more : stands.more ≡ [] = none_around t s.nodes stands.around outer_is in
      let nothing : stands.left ++ stands.more ≡ [] = (λ i. left i ++ more i) in
      sym (append_nil stands.done) ∙ (ap (λ l. stands.done ++ l) (sym nothing) ∙ stands.whole)

  is_graph : (constants : List Constant) (more : List Constant) (roots : List CodeLink) → constants ≡ s.constants ++ more → Carry s.nodes s.visit s.visit.table.now.given.items constants roots → IsGraph t all s.nodes constants roots
  is_graph constants more roots grown carry =
      let same : carry.came ≡ come.came = some_same (sym carry.read ∙ come.is) in
      let nodes : AreNodes t (s.nodes ++ []) (s.constants ++ more) stands.done s.nodes = nodes_stay s.nodes [] s.constants more t stands.done s.nodes stands.nodes in
      let room : length s.constants ≤ length constants = (let sum : length constants ≡ length s.constants + length more = ap length grown ∙ length-append s.constants more in omega (arith, sum)) in
      record {
        are = subst (λ runs. AreNodes t s.nodes constants runs s.nodes) all_done (subst (λ cs. AreNodes t s.nodes cs stands.done s.nodes) (sym grown) (subst (λ ns. AreNodes t ns (s.constants ++ more) stands.done s.nodes) (append_nil s.nodes) nodes));
        back = λ n node e. links_there (take n s.nodes) (length s.constants) (length constants) room node.inputs.items (stands.back n node e);
        links = come.links;
        seen = ap all_of carry.seen ∙ (ap (λ cs. all_of (map (named_link s.nodes) cs)) same ∙ come.named);
        carry = subst (λ reads. CarryAll by_name t reads come.links) one_given come.carry;
        there = carry.there;
      }

pub found_at_end : (old new : Unfolding) (roots : List CodeLink) → Stands old → IsDone old → Links old old.visit.table.now.given.items roots new → (new.tree ≡ old.tree) × IsFound new roots
found_at_end old new roots stands (way, outer, done) links =
    let graph : IsGraph (tree_in old) stands.of.runs old.nodes.items new.constants.items roots =
    is_graph (tree_in old) stands.keeps (has_form (tree_in old) stands.formed) stands.of.runs (state_of old) stands.state (ap reverse way) (ap reverse outer) done new.constants.items links.more roots links.constants links.carry in
    let same : new ≡ record old { constants = new.constants } = links.others in (
      ap (λ u. u.tree) same,
      subst (λ u. IsFound u roots) (sym same) (record { of = stands.of; is = graph }),
    )

pub given_at_end : (u : Unfolding) → Stands u × IsDone u → All (IsRead u.nodes.items u.visit) u.visit.table.now.given.items
given_at_end u (stands, done) = given_read u stands done.2

pub found_or_not : (old new : Unfolding) (r : Result (Vec CodeLink Global) Memory) → Stands old × IsDone old → IfOk r (λ links. Links old old.visit.table.now.given.items links.items new) → IfOk r (λ roots. (new.tree ≡ old.tree) × IsFound new roots.items)
found_or_not old new (Ok links) (stands, done) h = found_at_end old new links.items stands done h
found_or_not old new (Err e) both h = tt

-- so the graph that is made of them is that of the tree
pub lowered : (u : Unfolding) (t : Tree) (graph : Nodes Kind) (roots : List CodeLink) (count : ℕ) → KeepsRules t → IsOfForm t → tree_in u ≡ t → IsFound u roots → count ≡ length u.constants.items
    → graph ≡ record { nodes = u.nodes.items; roots = roots; constants = count } → Lowers t graph u.constants.items
lowered u t graph roots count keeps formed same found sized is =
    let own_keeps : KeepsRules (tree_in u) = subst KeepsRules (sym same) keeps in
    let own_formed : IsOfForm (tree_in u) = subst IsOfForm (sym same) formed in
    let own : Lowers (tree_in u) (record { nodes = u.nodes.items; roots = roots; constants = length u.constants.items }) u.constants.items =
    graph_is_found (tree_in u) own_keeps (has_form (tree_in u) own_formed) u.nodes.items u.constants.items found.of.steps found.of.task found.of.runs roots found.is.links found.of.found found.of.these found.is.are found.is.seen found.is.carry in
    let with_count : ℕ → Nodes Kind = λ k. record { nodes = u.nodes.items; roots = roots; constants = k } in
    subst (λ g. Lowers t g u.constants.items) (sym (is ∙ ap with_count sized)) (subst (λ x. Lowers x (with_count (length u.constants.items)) u.constants.items) same own)
