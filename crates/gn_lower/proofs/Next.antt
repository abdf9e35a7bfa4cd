-- The node that comes next in a list, and the list once something stands for it.
use Rattle.std.proofs.Common.{◌≡◌, ◌<◌, inl, inr, ℕ, suc, List, [], ◌∷◌, length, take, Option, Some, None, codes, refl, sym, ◌∙◌, ap, subst}
use Rattle.std.specs.Prelude.{Bool, true, false, ◌==◌, bytes_eq, option_and_then, option_map, slice_get, if◌then◌else◌}
use Rattle.std.proofs.lemmas.Bool.Decides.{Decides-eqb}
use Rattle.std.proofs.lemmas.Option.{slice_get_within}
use Rattle.gn_kinds.specs.Row.{Text}
use Rattle.gn_lazy.specs.declared.graph.GraphNode.{GraphNode}
use Rattle.gn_tree.specs.Trees.{Node as TreeNode, node, Tree}
use Rattle.gn_tree.specs.declared.kind.Kind.{Kind}
use Rattle.gn_rules.specs.Rules.{KeepsRules}
use Rattle.gn_rules.specs.Scopes.{Scope}
use Rattle.gn_rules.specs.Sockets.{node_at, outputs_of}
use Rattle.gn_node_set.specs.Meanings.{Has}
use Rattle.gn_node_set.proofs.Lists.{has_either, member_at}
use Rattle.gn_meaning.specs.Sites.{Way, path_of, at_output}
use Rattle.gn_meaning.specs.Bodies.{Body, body_at, body_in, kind_in}
use Rattle.gn_meaning.specs.Forms.{HasForm}
use Rattle.gn_meaning.specs.Reads.{Run, a_group, a_repeat, node_reads, part_at, part_by, part_in}
use Rattle.gn_meaning.proofs.Options.{some_same}
use Rattle.gn_meaning.proofs.Opened as opened
use Rattle.gn_meaning.proofs.Opened.{at_way, part_of}
use Rattle.gn_meaning.proofs.Parts.{Holds}
use Rattle.gn_table.specs.declared.read.Read.{Read}
use Rattle.gn_table.specs.declared.table.Row.{Row}
use Rattle.gn_table.specs.Tables.{IsRow, IsTable}
use Rattle.gn_lower.specs.declared.visit.Made.{Made}
use Rattle.gn_lower.specs.declared.visit.Visit.{Visit}
use Rattle.gn_lower.specs.Carried.{Came, Carries, Makes, came_of, output_by, output_in}
use Rattle.gn_lower.specs.Unfolding.{IsVisit}
use Rattle.gn_lower.proofs.Carrying.{Comes}
use Rattle.gn_lower.proofs.Coming.{known_node, next_comes}
use Rattle.gn_lower.proofs.Lists.{set_length, set_other, set_same, take_next}

-- ---- its row

reads_by : (kind : Text) (o : Option Body) (run : Run) → opened.reads_in (part_by kind o run) ≡ run.reads
reads_by kind None run = refl
reads_by kind (Some b) run = by_name (bytes_eq kind (codes "group"))
  where
    by_name : (group : Bool) → opened.reads_in (if group then a_group b run.reads else a_repeat run b) ≡ run.reads
    by_name true = refl
    by_name false = refl

part_reads : (s : Scope) (way : Way) (n : ℕ) (x : TreeNode) → opened.reads_in (part_in s way n x) ≡ node_reads s way x
part_reads s way n (node id kind set inputs) = reads_by kind (body_in s kind set) (record { path = path_of way n; kind = kind_in s (node id kind set inputs); reads = node_reads s way (node id kind set inputs) })

module _ (t : Tree) (keeps : KeepsRules t) (form : HasForm t) (nodes : List (GraphNode Kind)) (way : Way) (visit : Visit) (v : IsVisit t nodes way visit) (n : ℕ) (row : Row) where
  -- what the row says of the node, all of whose reads are known
  pub record IsNext : Type 0 where
    pub written : TreeNode
    pub there : node_at v.body.scope.nodes n ≡ Some written
    pub is : IsRow v.body.scope written row
    pub part : part_at t way n ≡ Some (part_in v.body.scope way n written)
    pub comes : (r : Read) → Has row.reads.items r → Comes t nodes way visit v r

  pub next_is : slice_get visit.table.now.order.items visit.next ≡ Some n → slice_get visit.table.now.rows.items n ≡ Some row → IsNext
  next_is next at =
      let list : (body_at t way ≡ Some v.body) × Holds t v.body = at_way t keeps form v.leads in
      let x : (x : TreeNode) × (node_at v.body.scope.nodes n ≡ Some x) = known_node t keeps form nodes way visit v n (member_at visit.table.now.order.items visit.next n next) in
      let found : (q : Row) × (slice_get visit.table.now.rows.items n ≡ Some q) × IsRow v.body.scope x.0 q = v.table.rows n x.0 x.1 in
      let row_is : IsRow v.body.scope x.0 row = subst (IsRow v.body.scope x.0) (some_same (sym found.1 ∙ at)) found.2 in
      let part_is : part_at t way n ≡ Some (part_in v.body.scope way n x.0) = part_of t keeps form way v.body list.0 n x.0 x.1 in
      record {
        written = x.0;
        there = x.1;
        is = row_is;
        part = part_is;
        comes = next_comes t keeps form nodes way visit v n (part_in v.body.scope way n x.0) row.reads.items next part_is (row_is.reads way ∙ sym (part_reads v.body.scope way n x.0));
      }

-- ---- the list once something stands for it

module _ (t : Tree) (nodes : List (GraphNode Kind)) (way : Way) (old new : Visit) (v : IsVisit t nodes way old) (n : ℕ) (x : Made) (makes : Makes old n x new) (next : slice_get old.table.now.order.items old.next ≡ Some n)
    (own : (s : ℕ) (y : TreeNode) → node_at v.body.scope.nodes n ≡ Some y → s < length (outputs_of v.body.scope.groups y) → (c : Came) × (output_by s x ≡ Some c) × Carries nodes t (at_output way n s) c) where
  abbrev Known : ℕ → ℕ → Type 0
  Known m s = (c : Came) × (output_in new.made.items m s ≡ Some c) × Carries nodes t (at_output way m s) c

  own_known : (m s : ℕ) (y : TreeNode) → m ≡ n → node_at v.body.scope.nodes m ≡ Some y → s < length (outputs_of v.body.scope.groups y) → Known m s
  own_known m s y same there less =
      let here : node_at v.body.scope.nodes n ≡ Some y = subst (λ i. node_at v.body.scope.nodes i ≡ Some y) same there in
      let row : (q : Row) × (slice_get old.table.now.rows.items n ≡ Some q) × IsRow v.body.scope y q = v.table.rows n y here in
      let within : n < length old.table.now.rows.items = slice_get_within old.table.now.rows.items n row.0 row.1 in
      let inside : n < length old.made.items = subst (λ k. n < k) (sym v.sized) within in
      let c : (c : Came) × (output_by s x ≡ Some c) × Carries nodes t (at_output way n s) c = own s y here less in
      let at_n : output_in new.made.items n s ≡ Some c.0 = ap (λ ms. output_in ms n s) makes.made ∙ (ap (option_and_then (output_by s)) (set_same old.made.items n x inside) ∙ c.1) in
      subst (λ i. Known i s) (sym same) (c.0, at_n, c.2)

  other_known : (m s : ℕ) (y : TreeNode) → (m ≡ n → ⊥) → node_at v.body.scope.nodes m ≡ Some y → s < length (outputs_of v.body.scope.groups y) → Has (take old.next old.table.now.order.items) m → Known m s
  other_known m s y other there less done =
      let c : (c : Came) × (output_in old.made.items m s ≡ Some c) × Carries nodes t (at_output way m s) c = v.outputs m s y there less done in
      (c.0, ap (λ ms. output_in ms m s) makes.made ∙ (ap (option_and_then (output_by s)) (set_other old.made.items n m x other) ∙ c.1), c.2)

  known : (m s : ℕ) (y : TreeNode) → node_at v.body.scope.nodes m ≡ Some y → s < length (outputs_of v.body.scope.groups y) → Has (take (suc old.next) old.table.now.order.items) m → Known m s
  known m s y there less done = by_test (m == n) refl
    where
      before : (m ≡ n → ⊥) → Has (take old.next old.table.now.order.items) m
      before other = elim (has_either (take old.next old.table.now.order.items) (n ∷ []) m (subst (λ ns. Has ns m) (take_next old.table.now.order.items old.next n next) done)) as (λ _. Has (take old.next old.table.now.order.items) m) [
        | inl a ↦ a
        | inr (inl same) ↦ absurd (other same)
        | inr (inr none) ↦ absurd none
      ]

      by_test : (b : Bool) → (m == n) ≡ b → Known m s
      by_test true e = own_known m s y ((Decides-eqb m n).0 e) there less
      by_test false e =
          let other : m ≡ n → ⊥ = λ same. let bad : true ≡ false = sym ((Decides-eqb m n).1 same) ∙ e in cc in
          other_known m s y other there less (before other)

  pub made_visit : IsVisit t nodes way new
  made_visit = record {
    body = v.body;
    leads = v.leads;
    table = subst (λ r. IsTable v.body r.now) (sym makes.table) v.table;
    sized = ap length makes.made ∙ (set_length old.made.items n x ∙ (v.sized ∙ ap (λ r. length r.now.rows.items) (sym makes.table)));
    entries = λ i h. let c = v.entries i h in (c.0, ap (λ es. option_map came_of (slice_get es.items i)) makes.entries ∙ c.1, c.2);
    outputs = λ m s y there less done. known m s y there less (subst (λ k. Has (take k old.table.now.order.items) m) makes.next (subst (λ r. Has (take new.next r.now.order.items) m) makes.table done));
  }
