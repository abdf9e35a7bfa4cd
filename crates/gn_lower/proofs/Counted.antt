-- The steps that unfolding takes are counted right: a list takes those of its nodes.
use Rattle.std.proofs.Common.{◌≡◌, ◌<◌, ◌≤◌, inl, inr, ℕ, zero, suc, List, Option, Some, None, codes, length, refl, sym, ◌∙◌, ap, subst, arith}
use Rattle.std.specs.Prelude.{Bool, true, false, bytes_eq, sum_by, slice_get, if◌then◌else◌}
use Rattle.std.proofs.lemmas.Slice.Eq.{bytes_eq-Decides}
use Rattle.gn_kinds.specs.Row.{Text}
use Rattle.gn_pointers.specs.Pointers.{key}
use Rattle.gn_tree.specs.Trees.{Node, node, Socket, Group, Tree}
use Rattle.gn_rules.specs.Rules.{KeepsRules}
use Rattle.gn_rules.specs.Scopes.{Scope}
use Rattle.gn_rules.specs.Sockets.{node_at}
use Rattle.gn_rules.specs.Things.{the_settings}
use Rattle.gn_meaning.specs.Sites.{Way, into, plain_step, path_of, Read}
use Rattle.gn_meaning.specs.Bodies.{Body, body_at, body_in, group_body, kind_in}
use Rattle.gn_meaning.specs.Forms.{HasForm, SettingsHaveForm}
use Rattle.gn_meaning.specs.There.{LeadsTo, to_the_tree, into_group, into_turn}
use Rattle.gn_meaning.specs.Reads.{Run, Part, a_node, a_group, a_repeat, node_reads, part_at, part_by, part_in}
use Rattle.gn_meaning.proofs.Parts.{Holds, Inner, group_inner, zone_inner, inner_of, node_form}
use Rattle.gn_meaning.proofs.Opened.{at_way, node_of, repeat_opens}
use Rattle.gn_meaning.proofs.Reached.{part}
use Rattle.gn_stands.specs.Tasks.{order_at}
use Rattle.gn_lower.specs.Unfolding.{steps_by, steps_within, steps_at}

-- a part that stands for a group is a group node
group_named : (kind : Text) (o : Option Body) (run : Run) (inner : Body) (reads : List Read) → part_by kind o run ≡ a_group inner reads → (o ≡ Some inner) × (kind ≡ codes "group")
group_named kind None run inner reads e = cc
group_named kind (Some b) run inner reads e = by_name (bytes_eq kind (codes "group")) refl e
  where
    by_name : (group : Bool) → bytes_eq kind (codes "group") ≡ group → (if group then a_group b run.reads else a_repeat run b) ≡ a_group inner reads → (Some b ≡ Some inner) × (kind ≡ codes "group")
    by_name true is h = (cc, (bytes_eq-Decides kind (codes "group")).0 is)
    by_name false is h = cc

-- the body is that of a group that stands above
pub record IsGroupAbove (s : Scope) (inner : Body) : Type 0 where
  pub number : ℕ
  pub group : Group
  pub at : slice_get s.groups number ≡ Some group
  pub above : number < s.above
  pub is : group_body s.groups number group ≡ inner

inner_group : (t : Tree) (s : Scope) {kind : Text} {named : Option Text} {items : List Socket} {size : ℕ} {inner : Body} → kind ≡ codes "group" → Inner t s kind named items size inner → IsGroupAbove s inner
inner_group t s is (group_inner name i g named at there above same) = record { number = i; group = g; at = there; above = above; is = refl }
inner_group t s is (zone_inner xs nodes output named same smaller other form nodes_there output_there) = absurd (let bad : codes "group" ≡ codes "repeat" = sym is ∙ other in cc)

module _ (t : Tree) (keeps : KeepsRules t) (form : HasForm t) where
  -- the group of a node stands above its list
  pub group_of_node : (way : Way) (b inner : Body) (n : ℕ) (reads : List Read) → LeadsTo t way b → part_at t way n ≡ Some (a_group inner reads) → IsGroupAbove b.scope inner
  group_of_node way b inner n reads leads at =
      let list : (body_at t way ≡ Some b) × Holds t b = at_way t keeps form leads in
      let x : (x : Node) × (node_at b.scope.nodes n ≡ Some x) × (part_in b.scope way n x ≡ a_group inner reads) = node_of t keeps form way b list.0 n (a_group inner reads) at in
      by_node list.1 x.0 x.1 x.2
    where
      by_node : Holds t b → (x : Node) → node_at b.scope.nodes n ≡ Some x → part_in b.scope way n x ≡ a_group inner reads → IsGroupAbove b.scope inner
      by_node holds (node id kind set inputs) there is =
          let run : Run = record { path = path_of way n; kind = kind_in b.scope (node id kind set inputs); reads = node_reads b.scope way (node id kind set inputs) } in
          let group : (body_in b.scope kind set ≡ Some inner) × (kind ≡ codes "group") = group_named kind (body_in b.scope kind set) run inner reads is in
          let set_form : SettingsHaveForm kind set = node_form t b.scope.nodes n (node id kind set inputs) holds.form there in
          inner_group t b.scope group.1 (inner_of t keeps b.scope kind set inner set_form (λ step y h. part step y (part (key (codes "set")) (the_settings b.scope set) (holds.nodes n (node id kind set inputs) there) refl) h) group.0)

  group_above : (way : Way) (b inner : Body) (n : ℕ) (reads : List Read) → LeadsTo t way b → part_at t way n ≡ Some (a_group inner reads) → inner.scope.above < b.scope.above
  group_above way b inner n reads leads at =
      let group : IsGroupAbove b.scope inner = group_of_node way b inner n reads leads at in
      subst (λ c. c.scope.above < b.scope.above) group.is group.above

  -- no list has more than all groups above it
  above_all : {way : Way} {b : Body} → LeadsTo t way b → b.scope.above ≤ length t.groups
  above_all to_the_tree = omega arith
  above_all (into_group {way} {b} {inner} n reads leads e) =
      let outer : b.scope.above ≤ length t.groups = above_all leads in
      let less : inner.scope.above < b.scope.above = group_above way b inner n reads leads e in
      omega (arith, outer, less)
  above_all (into_turn {way} {b} {inner} n k run leads e) =
      let outer : b.scope.above ≤ length t.groups = above_all leads in
      let list : (body_at t way ≡ Some b) × Holds t b = at_way t keeps form leads in
      let opens = repeat_opens t keeps form way b list.0 n list.1 run inner e in
      elim opens.2.smaller as (λ _. inner.scope.above ≤ length t.groups) [ inl less ↦ omega (arith, outer, less) | inr same ↦ omega (arith, outer, same.0) ]

  module _ (k j : ℕ) (way : Way) (b : Body) (below : (n : ℕ) (inner : Body) (reads : List Read) → part_at t way n ≡ Some (a_group inner reads) → steps_within t j (into way (plain_step n)) ≡ steps_within t k (into way (plain_step n))) where
    part_settled : (n : ℕ) (o : Option Part) → part_at t way n ≡ o → steps_by t (steps_within t j) way n o ≡ steps_by t (steps_within t k) way n o
    part_settled n None at = refl
    part_settled n (Some (a_node run)) at = refl
    part_settled n (Some (a_repeat run inner)) at = refl
    part_settled n (Some (a_group inner reads)) at = ap (λ m. suc (suc m)) (below n inner reads at)

    list_settled : steps_within t (suc j) way ≡ steps_within t (suc k) way
    list_settled = λ i. sum_by (λ n. part_settled n (part_at t way n) refl i) (order_at (body_at t) way)

  settled : (k j : ℕ) (way : Way) (b : Body) → LeadsTo t way b → b.scope.above ≤ k → k ≤ j → steps_within t (suc j) way ≡ steps_within t (suc k) way
  settled zero j way b leads few more = list_settled zero j way b (λ n inner reads at. absurd (let less : inner.scope.above < b.scope.above = group_above way b inner n reads leads at in omega (arith, less, few)))
  settled (suc k) zero way b leads few more = absurd (omega (arith, more))
  settled (suc k) (suc j) way b leads few more =
      list_settled (suc k) (suc j) way b (λ n inner reads at.
      let less : inner.scope.above < b.scope.above = group_above way b inner n reads leads at in
      settled k j (into way (plain_step n)) inner (into_group n reads leads at) (omega (arith, less, few)) (omega (arith, more)))

  -- so the steps of a list are those of its nodes, by the steps of their groups
  pub steps_are : (way : Way) (b : Body) → LeadsTo t way b → steps_at t way ≡ sum_by (λ n. steps_by t (steps_at t) way n (part_at t way n)) (order_at (body_at t) way)
  steps_are way b leads =
      let all : b.scope.above ≤ length t.groups = above_all leads in
      sym (settled (length t.groups) (suc (length t.groups)) way b leads all (omega arith))
