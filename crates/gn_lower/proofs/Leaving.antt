-- The list of a group is left: that keeps what stands, and leaves one step less.
use Rattle.std.proofs.Common.{◌≡◌, ◌<◌, ◌≤◌, ◌+◌, ℕ, suc, List, [], ◌∷◌, ◌++◌, length, drop, map, Some, refl, sym, ◌∙◌, ap, subst, arith}
use Rattle.std.specs.Prelude.{IsTrue, sum_by, slice_get}
use Rattle.std.specs.Option.{option_map_or}
use Rattle.std.proofs.lemmas.List.{drop_all}
use Rattle.std.proofs.lemmas.Option.{slice_get-map}
use Rattle.gn_lazy.specs.declared.path.PathStep.{PathStep}
use Rattle.gn_lazy.specs.declared.graph.GraphNode.{GraphNode}
use Rattle.gn_tree.specs.Trees.{Node as TreeNode, Tree}
use Rattle.gn_tree.specs.declared.kind.Kind.{Kind}
use Rattle.gn_rules.specs.Rules.{KeepsRules}
use Rattle.gn_rules.specs.Sockets.{node_at, outputs_of}
use Rattle.gn_node_set.specs.Meanings.{Has}
use Rattle.gn_node_set.proofs.Lists.{member_at}
use Rattle.gn_meaning.specs.Sites as sites
use Rattle.gn_meaning.specs.Sites.{Way, into, nowhere, plain_read, plain_step, at_output}
use Rattle.gn_meaning.specs.Bodies.{Body, body_at}
use Rattle.gn_meaning.specs.Forms.{HasForm}
use Rattle.gn_meaning.specs.There.{LeadsTo, into_group}
use Rattle.gn_meaning.specs.Reads.{Run, a_group, given_out, out_of, part_at, read_at}
use Rattle.gn_meaning.proofs.Options.{some_same}
use Rattle.gn_meaning.proofs.Opened.{Opens, at_way, group_opens}
use Rattle.gn_meaning.proofs.Parts.{Holds}
use Rattle.gn_stands.specs.Sources.{Carries as CarriesRead}
use Rattle.gn_found.specs.Filled.{by_name}
use Rattle.gn_table.specs.declared.read.Read.{Read}
use Rattle.gn_table.specs.Reads.{read_of}
use Rattle.gn_lower.specs.declared.visit.Made.TheVariants as made
use Rattle.gn_lower.specs.declared.visit.Visit.{Visit}
use Rattle.gn_lower.specs.Carried.{Came, Carries, came_in, came_of, is_there, named_link, output_by}
use Rattle.gn_lower.specs.Unfolding.{Around, IsVisit, State, StandsAt, Unfold, inside, outermost, steps_around, steps_at, steps_by, steps_from, steps_left, way_by}
use Rattle.gn_lower.specs.Events.{Leaves}
use Rattle.gn_lower.proofs.Carrying.{Comes, group_output}
use Rattle.gn_lower.proofs.Coming.{given_comes, given_near, read_there}
use Rattle.gn_lower.proofs.Inside.{none_inside}
use Rattle.gn_lower.proofs.Lists.{all_at}
use Rattle.gn_lower.proofs.Next.{made_visit}

-- ---- the list around

module _ (t : Tree) (nodes : List (GraphNode Kind)) where
  pub record Parent (visit : Visit) (n : ℕ) (visits : List Visit) (steps : List PathStep) (all : List Run) : Type 0 where
    pub inner : Body
    pub reads : List sites.Read
    pub visit_is : IsVisit t nodes (way_by steps) visit
    pub next : slice_get visit.table.now.order.items visit.next ≡ Some n
    pub at : part_at t (way_by steps) n ≡ Some (a_group inner reads)
    pub runs : List Run
    pub here : Unfold t (way_by steps) (drop (suc visit.next) visit.table.now.order.items) runs
    pub more : List Run
    pub around : Around t nodes visits steps more
    pub whole : runs ++ more ≡ all

  -- lists and steps are as many, and each step is a plain one
  abbrev Split : List Visit → List PathStep → List Run → Type 0
  Split [] [] all = Unit {0}
  Split (visit ∷ visits) (step ∷ steps) all = (step ≡ plain_step step.node) × Parent visit step.node visits steps all
  Split _ _ all = ⊥

  split : {lists : List Visit} {ways : List PathStep} {all : List Run} → Around t nodes lists ways all → Split lists ways all
  split outermost = tt
  split (inside {runs = runs} {more = more} w m b reads v next at u around) = (refl, record { inner = b; reads = reads; visit_is = v; next = next; at = at; runs = runs; here = u; more = more; around = around; whole = refl })

  pub parent_of : (visit : Visit) (step : PathStep) (visits : List Visit) (steps : List PathStep) {lists : List Visit} {ways : List PathStep} {all : List Run} → Around t nodes lists ways all → lists ≡ visit ∷ visits → ways ≡ step ∷ steps
      → (step ≡ plain_step step.node) × Parent visit step.node visits steps all
  parent_of visit step visits steps {lists} {ways} {all} around e f = subst (λ ss. Split (visit ∷ visits) ss all) f (subst (λ vs. Split vs ways all) e (split around))

  pub no_steps : {lists : List Visit} {ways : List PathStep} {all : List Run} → Around t nodes lists ways all → lists ≡ [] → ways ≡ []
  no_steps {lists} {ways} {all} around e = by_steps ways (subst (λ vs. Split vs ways all) e (split around))
    where
      by_steps : (ss : List PathStep) → Split [] ss all → ss ≡ []
      by_steps [] h = refl
      by_steps (step ∷ steps) h = absurd h

  pub no_lists : {lists : List Visit} {ways : List PathStep} {all : List Run} → Around t nodes lists ways all → ways ≡ [] → lists ≡ []
  no_lists {lists} {ways} {all} around e = by_lists lists (subst (λ ss. Split lists ss all) e (split around))
    where
      by_lists : (vs : List Visit) → Split vs [] all → vs ≡ []
      by_lists [] h = refl
      by_lists (visit ∷ visits) h = absurd h

fewer_out : (a rest b around all : ℕ) → a ≡ rest → all ≡ suc (rest + around) → a + around < b + all
fewer_out a rest b around all e f = omega (arith, e, f)

module _ (t : Tree) (keeps : KeepsRules t) (form : HasForm t) (all : List Run) (old new : State) (stands : StandsAt t all old) (n : ℕ) (around : Visit)
    (done : length old.visit.table.now.order.items ≤ old.visit.next) (leaves : Leaves old n around new) where
  abbrev way : Way
  way = way_by new.way

  abbrev within : Way
  within = into way (plain_step n)

  v : IsVisit t old.nodes within old.visit
  v = subst (λ steps. IsVisit t old.nodes (way_by steps) old.visit) leaves.way stands.visit

  p : Parent t old.nodes around n new.outer new.way stands.more
  p = (parent_of t old.nodes around (plain_step n) new.outer new.way stands.around leaves.outer leaves.way).1

  same_body : v.body ≡ p.inner
  same_body =
      let inner : LeadsTo t within p.inner = into_group n p.reads p.visit_is.leads p.at in
      some_same (sym (at_way t keeps form v.leads).0 ∙ (at_way t keeps form inner).0)

  -- ---- an output of the group node is what its list gives out

  own : (s : ℕ) (y : TreeNode) → node_at p.visit_is.body.scope.nodes n ≡ Some y → s < length (outputs_of p.visit_is.body.scope.groups y) → (c : Came) × (output_by s (made.Group leaves.outputs) ≡ Some c) × Carries old.nodes t (at_output way n s) c
  own s y there less =
      let list : (body_at t way ≡ Some p.visit_is.body) × Holds t p.visit_is.body = at_way t keeps form p.visit_is.leads in
      let of : (x : TreeNode) × (node_at p.visit_is.body.scope.nodes n ≡ Some x) × Opens t p.visit_is.body x p.inner p.reads = group_opens t keeps form way p.visit_is.body list.0 n list.1 p.inner p.reads p.at in
      let same : y ≡ of.0 = some_same (sym there ∙ of.1) in
      let count : length (outputs_of p.visit_is.body.scope.groups y) ≡ length v.body.sockets = ap (λ z. length (outputs_of p.visit_is.body.scope.groups z)) same ∙ (of.2.outs ∙ ap (λ b. length b.sockets) (sym same_body)) in
      let has : Has (given_out v.body within) (read_at (given_out v.body within) s) = given_near t keeps form old.nodes within old.visit v s (subst (λ k. s < k) count less) in
      let r : (r : Read) × (slice_get old.visit.table.now.given.items s ≡ Some r) × (read_of within r ≡ read_at (given_out v.body within) s) = read_there t keeps form old.nodes within old.visit v old.visit.table.now.given.items (given_out v.body within) s (v.table.given within) (given_comes t keeps form old.nodes within old.visit v done) has in
      let c : (c : Came) × (slice_get (map came_of leaves.outputs.items) s ≡ Some c) × (came_in old.visit r.0 ≡ Some c) = all_at (came_in old.visit) old.visit.table.now.given.items (map came_of leaves.outputs.items) s r.0 leaves.given r.1 in
      let comes : Comes t old.nodes within old.visit v r.0 = given_comes t keeps form old.nodes within old.visit v done r.0 (member_at old.visit.table.now.given.items s r.0 r.1) in
      let same_came : comes.came ≡ c.0 = some_same (sym comes.is ∙ c.2) in
      let out : out_of t within s ≡ read_at (given_out v.body within) s = ap (λ o. option_map_or (λ b. read_at (given_out b within) s) o (plain_read nowhere)) (at_way t keeps form v.leads).0 in (
        c.0,
        sym (slice_get-map came_of leaves.outputs.items s) ∙ c.1,
        record {
          link = comes.link;
          named = ap (named_link old.nodes) (sym same_came) ∙ comes.named;
          carries = group_output t way n s p.inner p.reads comes.link p.at (subst (λ q. CarriesRead by_name t q comes.link) (r.2 ∙ sym out) comes.carries);
          there = subst (λ x. IsTrue (is_there old.nodes x.source)) same_came comes.there;
        },
      )

  -- ---- what is left

  left_behind : drop new.visit.next new.visit.table.now.order.items ≡ drop (suc around.next) around.table.now.order.items
  left_behind = ap (λ q. drop new.visit.next q.now.order.items) leaves.visit.table ∙ ap (λ k. drop k around.table.now.order.items) leaves.visit.next

  none_left : stands.left ≡ []
  none_left = none_inside t stands.here (drop_all old.visit.next old.visit.table.now.order.items done)

  abbrev left : State
  left = record { visit = new.visit; outer = new.outer; way = new.way; nodes = old.nodes; constants = old.constants }

  left_stands : StandsAt t all left
  left_stands = record {
    visit = made_visit t old.nodes way around new.visit p.visit_is n (made.Group leaves.outputs) leaves.visit p.next own;
    done = stands.done;
    nodes = stands.nodes;
    back = stands.back;
    left = p.runs;
    more = p.more;
    here = subst (λ ns. Unfold t way ns p.runs) (sym left_behind) p.here;
    around = p.around;
    whole = ap (λ l. stands.done ++ l) p.whole ∙ (ap (λ l. stands.done ++ (l ++ stands.more)) (sym none_left) ∙ stands.whole);
  }

  fewer_left : steps_left t left < steps_left t old
  fewer_left =
      let outside : steps_around t old.outer old.way ≡ suc (steps_from t way (suc around.next) around + steps_around t new.outer new.way) = λ i. steps_around t (leaves.outer i) (leaves.way i) in
      let here : steps_from t way new.visit.next new.visit ≡ steps_from t way (suc around.next) around = ap (sum_by (λ m. steps_by t (steps_at t) way m (part_at t way m))) left_behind in
      fewer_out (steps_from t way new.visit.next new.visit) (steps_from t way (suc around.next) around) (steps_from t (way_by old.way) old.visit.next old.visit) (steps_around t new.outer new.way) (steps_around t old.outer old.way) here outside

  pub after_leaving : StandsAt t all new × (steps_left t new < steps_left t old)
  after_leaving =
      let same : new ≡ left = λ i. record { visit = new.visit; outer = new.outer; way = new.way; nodes = leaves.nodes i; constants = leaves.constants i } in
      subst (λ s. StandsAt t all s × (steps_left t s < steps_left t old)) (sym same) (left_stands, fewer_left)
