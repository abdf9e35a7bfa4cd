-- One more node.
use Rattle.std.proofs.Common.{◌≡◌, ◌≢◌, ◌⊎◌, inl, inr, ℕ, ◌+◌, ◌<◌, ◌≤◌, Bool, true, false, ◌&&◌, List, [], ◌∷◌, ◌++◌, length, get_or, map, Option, Some, None, refl, sym, ap, ◌∙◌, subst, arith}
use Rattle.std.specs.Prelude.{is_none}
use Rattle.std.proofs.lemmas.List.{get_or_append_left, get_or_past, get_or_push, length_push}
use Rattle.gn_node_set.specs.Meanings.{Has, selected}
use Rattle.gn_uses.specs.declared.outputs.Out.{Out}
use Rattle.gn_uses.specs.declared.nodes.Role.{Role}
use Rattle.gn_uses.specs.declared.nodes.Role.TheVariants.{Plain}
use Rattle.gn_uses.specs.declared.nodes.Choice.{Choice}
use Rattle.gn_uses.specs.Sets.{IsIn}
use Rattle.gn_uses.specs.Nodes.{Nodes, needs, is_full, result_at, HasRoom, with_node, all_set, role, choice, inputs, results, filled, answered, role_of, choice_of, is_set_up}
use Rattle.gn_uses.specs.Marks.{Marks, AreRight, AreWhole}
use Rattle.gn_uses.proofs.Flags.{below_or_past}
use Rattle.gn_uses.proofs.Changing.{Grows, Same, same_right, there, used_below}

data Where (n k : ℕ) : Type 0 where
  before : k < n → Where n k
  here : n ≡ k → Where n k
  behind : n < k → Where n k

where_is_at : (n k : ℕ) → (k < n) ⊎ (n ≤ k) → Where n k
where_is_at n k (inl h) = before h
where_is_at n k (inr h) = elim (below_or_past n k) [ inl l ↦ behind l | inr l ↦ here (omega arith) ]

where_is : (n k : ℕ) → Where n k
where_is n k = where_is_at n k (below_or_past k n)

behind_all : {A : Type 0} (xs : List A) (x : A) (k : ℕ) (d : A) → length xs < k → get_or (xs ++ x ∷ []) k d ≡ d
behind_all xs x k d h = get_or_past (xs ++ x ∷ []) k d (omega (arith, length_push xs x, h))

module _ (g : Nodes) (r : Role) (ins : List (Option Out)) (size : ℕ) (w : AreWhole g) (room : HasRoom g.sizes ins) where
  abbrev added : Nodes
  added = with_node g r ins size

  old : (k : ℕ) → k < length g.sizes → {A : Type 0} → (xs : List A) → length xs ≡ length g.sizes → (x d : A) → get_or (xs ++ x ∷ []) k d ≡ get_or xs k d
  old k h xs e x d = get_or_append_left xs (x ∷ []) d k (omega (arith, e, h))

  old_needs : (k : ℕ) → k < length g.sizes → needs added k ≡ needs g k
  old_needs k h =
      let a : role added k ≡ role g k = old k h g.roles w.roles r Plain in
      let b : choice added k ≡ choice g k = old k h g.choices w.choices None None in
      let c : inputs added k ≡ inputs g k = old k h g.inputs w.inputs ins [] in
      λ i. selected (role_of (a i)) (choice_of (b i)) (c i)

  pub old_filled : (k : ℕ) → k < length g.sizes → filled added k ≡ filled g k
  old_filled k h = old k h g.filled w.filled (map (λ input. is_none input) ins) []

  old_full : (k : ℕ) → k < length g.sizes → is_full added k ≡ is_full g k
  old_full k h =
      let a : role added k ≡ role g k = old k h g.roles w.roles r Plain in
      let b : choice added k ≡ choice g k = old k h g.choices w.choices None None in
      let c : filled added k ≡ filled g k = old_filled k h in
      let d : answered added k ≡ answered g k = old k h g.answered w.answered false false in
      λ i. all_set (selected (role_of (a i)) (choice_of (b i)) (c i)) && is_set_up (a i) (b i) (d i)

  old_result : (x : Out) → x.node < length g.sizes → result_at added x ≡ result_at g x
  old_result x h = ap (λ os. get_or os x.output None) (old x.node h g.results w.results [] [])

  pub still_in : (x : Out) → IsIn g.sizes x → IsIn added.sizes x
  still_in x h =
      let same : get_or added.sizes x.node 0 ≡ get_or g.sizes x.node 0 = old x.node (there g.sizes x.node x.output h) g.sizes refl size 0 in
      omega (arith, same, h)

  pub added_grows : Grows g added
  added_grows = record {
    roots = λ x h. h;
    needs = λ x i y h. subst (λ xs. Has xs (Some y)) (sym (old_needs x.node (there g.sizes x.node x.output i))) h;
    results = λ x i y e. old_result x (there g.sizes x.node x.output i) ∙ e;
  }

  input_there : (n : ℕ) → Where (length g.inputs) n → (x : Out) → Has (inputs added n) (Some x) → IsIn added.sizes x
  input_there n (before l) x h = still_in x (w.inputs_in n x (subst (λ xs. Has xs (Some x)) (get_or_append_left g.inputs (ins ∷ []) [] n l) h))
  input_there n (here e) x h = still_in x (room x (subst (λ xs. Has xs (Some x)) (get_or_push g.inputs ins [] n e) h))
  input_there n (behind l) x h = absurd (subst (λ xs. Has xs (Some x)) (behind_all g.inputs ins n [] l) h)

  no_result : (x y : Out) → results added x.node ≡ [] → result_at added x ≡ Some y → IsIn added.sizes y
  no_result x y e q = absurd (let nothing : None ≡ Some y = sym (ap (λ os. get_or os x.output None) e) ∙ q in cc)

  result_there : (x y : Out) → Where (length g.results) x.node → result_at added x ≡ Some y → IsIn added.sizes y
  result_there x y (before l) q = still_in y (w.results_in x y (sym (ap (λ os. get_or os x.output None) (get_or_append_left g.results ([] ∷ []) [] x.node l)) ∙ q))
  result_there x y (here e) q = no_result x y (get_or_push g.results [] [] x.node e) q
  result_there x y (behind l) q = no_result x y (behind_all g.results [] x.node [] l) q

  as_long : {A : Type 0} → (xs : List A) (x : A) → length xs ≡ length g.sizes → length (xs ++ x ∷ []) ≡ length added.sizes
  as_long xs x e = omega (arith, length_push xs x, length_push g.sizes size, e)

  pub added_whole : AreWhole added
  added_whole = record {
    roles = as_long g.roles r w.roles;
    inputs = as_long g.inputs ins w.inputs;
    choices = as_long g.choices None w.choices;
    results = as_long g.results [] w.results;
    filled = as_long g.filled (map (λ input. is_none input) ins) w.filled;
    answered = as_long g.answered false w.answered;
    inputs_in = λ n x h. input_there n (where_is (length g.inputs) n) x h;
    results_in = λ x y q. result_there x y (where_is (length g.results) x.node) q;
    roots_in = λ x h. still_in x (w.roots_in x h);
  }

  pub added_right : (m : Marks) → AreRight g m m.wanted → AreRight added m m.wanted
  added_right m right = same_right g added m m.wanted w right (record {
    grows = added_grows;
    roots = λ x h. h;
    inside = still_in;
    needs = λ n h y k. subst (λ xs. Has xs (Some y)) (old_needs n (used_below g m m.wanted right n h)) k;
    led = λ x h y q. sym (old_result x (there g.sizes x.node x.output (right.inside x h))) ∙ q;
    full = λ n h. old_full n (used_below g m m.wanted right n h);
  })
