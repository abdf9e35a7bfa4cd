-- One node more.
use Rattle.std.proofs.Common.{◌≡◌, ◌≢◌, ◌⊎◌, inl, inr, ℕ, zero, suc, ◌+◌, ◌<◌, ◌≤◌, true, false, List, [], ◌∷◌, ◌++◌, map, length, take, set, Option, Some, None, IsTrue, refl, sym, ap, ◌∙◌, subst, arith}
use Rattle.std.specs.Prelude.{is_none, nat_lt, slice_get, slice_index_or, option_map}
use Rattle.std.proofs.lemmas.List.{length-map, length-append}
use Rattle.gn_lazy.specs.Graphs.{AreThere, is_there, has_output}
use Rattle.gn_lazy.specs.declared.graph.Origin.{Origin}
use Rattle.gn_lazy.specs.declared.graph.Origin.TheVariants.{Input, Constant, Out}
use Rattle.gn_lazy.specs.declared.graph.Link.{Link as GraphLink}
use Rattle.gn_lazy.specs.declared.graph.GraphNode.{GraphNode}
use Rattle.gn_node_set.specs.Meanings.{Has, Switch, Meanings}
use Rattle.gn_node_set.proofs.Lists.{some_same, append_assoc, map_append, map_map, has_image, image_of, member_at, index_at, at_image}
use Rattle.gn_uses.specs.declared.outputs.Out.{Out as Place}
use Rattle.gn_uses.specs.declared.nodes.Role.{Role}
use Rattle.gn_uses.specs.declared.nodes.Role.TheVariants as role
use Rattle.gn_uses.specs.declared.nodes.Choice.{Choice}
use Rattle.gn_uses.specs.Sets.{IsIn}
use Rattle.gn_uses.specs.Nodes as numbers
use Rattle.gn_uses.specs.Nodes.{HasRoom, IsUndecided}
use Rattle.gn_uses.specs.Uses.{IsUnchosen}
use Rattle.std.specs.declared.alloc.Global.{Global}
use Rattle.std.specs.declared.vec.Vec.{Vec}
use Rattle.gn_exec_core.specs.Jobs.{lists_of}
use Rattle.gn_exec_core.specs.Holds.{place_of, input_of, present}
use Rattle.gn_exec_core.specs.Starts.{HasNumbers, AreWhole, with_chosen, with_roots}
use Rattle.gn_exec_core.proofs.Using.{all_has}
use Rattle.gn_exec_core.proofs.Starting.{is_at}

pub take_one_more : {A : Type 0} (xs : List A) (n : ℕ) (x : A) → slice_get xs n ≡ Some x → take (n + 1) xs ≡ take n xs ++ x ∷ []
take_one_more xs n x e = let one : n + 1 ≡ suc n = omega arith in ap (λ k. take k xs) one ∙ by xs n e
  where
    by : (xs : List _) (n : ℕ) → slice_get xs n ≡ Some x → take (suc n) xs ≡ take n xs ++ x ∷ []
    by [] n e = cc
    by (y ∷ xs) zero e = ap (λ z. z ∷ []) (some_same e)
    by (y ∷ xs) (suc n) e = ap (λ zs. y ∷ zs) (by xs n e)

pub map_one_more : {A B C : Type 0} (f : A → B) (xs : List A) (x : A) (h : C → B) (ys : List C) (n : ℕ) (y : C) → slice_get ys n ≡ Some y → map f xs ≡ map h (take n ys) → f x ≡ h y → map f (xs ++ x ∷ []) ≡ map h (take (n + 1) ys)
map_one_more f xs x h ys n y at before e =
    map_append f xs (x ∷ [])
    ∙ ap (λ zs. zs ++ f x ∷ []) before
    ∙ ap (λ z. map h (take n ys) ++ z ∷ []) e
    ∙ sym (map_append h (take n ys) (y ∷ []))
    ∙ ap (map h) (sym (take_one_more ys n y at))

pub taken_whole : {A : Type 0} (xs : List A) → take (length xs) xs ≡ xs
taken_whole [] = refl
taken_whole (x ∷ xs) = ap (λ ys. x ∷ ys) (taken_whole xs)

pub at_end : {A : Type 0} (xs : List A) (x d : A) → slice_index_or (xs ++ x ∷ []) (length xs) d ≡ x
at_end [] x d = refl
at_end (y ∷ xs) x d = at_end xs x d

set_end : {A : Type 0} (xs : List A) (x y : A) → set (xs ++ x ∷ []) (length xs) y ≡ xs ++ y ∷ []
set_end [] x y = refl
set_end (z ∷ xs) x y = ap (λ zs. z ∷ zs) (set_end xs x y)

less : (n k : ℕ) → nat_lt n k ≡ true → n < k
less n k e = grind arith

is_switch : (r : Role) → numbers.role_of r ≡ Switch → r ≡ role.Switch
is_switch role.Plain e = cc
is_switch role.Switch e = refl
is_switch role.File e = cc
is_switch role.Zone e = cc

-- a switch that was just added has not chosen
pub may_choose_now : (g : numbers.Nodes) (r : Role) (inputs : List (Option Place)) (size n : ℕ) → AreWhole g → n ≡ length g.sizes → numbers.role_of r ≡ Switch → IsUnchosen (numbers.with_node g r inputs size) n
may_choose_now g r inputs size n whole is switch = record {
  there = let l : length (g.sizes ++ size ∷ []) ≡ length g.sizes + 1 = length-append g.sizes (size ∷ []) in omega (arith, l, is);
  undecided =
      let role_is : slice_index_or (g.roles ++ r ∷ []) n role.Plain ≡ role.Switch =
      ap (λ k. slice_index_or (g.roles ++ r ∷ []) k role.Plain) (is ∙ sym whole.roles) ∙ at_end g.roles r role.Plain ∙ is_switch r switch in
      let choice_is : slice_index_or (g.choices ++ None ∷ []) n None ≡ None =
      ap (λ k. slice_index_or (g.choices ++ None ∷ []) k None) (is ∙ sym whole.choices) ∙ at_end g.choices None None in
      subst (λ x. IsUndecided x (slice_index_or (g.choices ++ None ∷ []) n None)) (sym role_is) (subst (λ x. IsUndecided role.Switch x) (sym choice_is) tt);
}

pub chosen_now : (g : numbers.Nodes) (r : Role) (inputs : List (Option Place)) (size n : ℕ) (c : Choice) → AreWhole g → n ≡ length g.sizes → numbers.with_choice (numbers.with_node g r inputs size) n c ≡ with_chosen g r inputs size (Some c)
chosen_now g r inputs size n c whole is =
    let set_last : set (g.choices ++ None ∷ []) n (Some c) ≡ g.choices ++ Some c ∷ [] =
    ap (λ k. set (g.choices ++ None ∷ []) k (Some c)) (is ∙ sym whole.choices) ∙ set_end g.choices None (Some c) in
    λ i. record (numbers.with_node g r inputs size) { choices = set_last i }

module _ {G K V S T : Type 0} (m : Meanings K V S T) (kind_of : G → K) where
  pub are_whole : (nodes : List (GraphNode G)) (choices : List (Option Choice)) (g : numbers.Nodes) → HasNumbers m kind_of nodes choices g → length choices ≡ length nodes → AreWhole g
  are_whole nodes choices g h same =
      let sizes : length g.sizes ≡ length nodes = ap length h.sizes ∙ length-map nodes (λ at. at.outputs) in
      record {
        roles = sym (length-map g.roles numbers.role_of) ∙ ap length h.roles ∙ length-map nodes (λ at. m.rows.role (kind_of at.kind)) ∙ sym sizes;
        choices = ap length h.choices ∙ same ∙ sym sizes;
      }

  pub number_more : (nodes : List (GraphNode G)) (choices : List (Option Choice)) (g : numbers.Nodes) (at : GraphNode G) (choice : Option Choice) (r : Role)
      → HasNumbers m kind_of nodes choices g → numbers.role_of r ≡ m.rows.role (kind_of at.kind)
      → HasNumbers m kind_of (nodes ++ at ∷ []) (choices ++ choice ∷ []) (with_chosen g r (map input_of at.inputs.items) at.outputs choice)
  number_more nodes choices g at choice r h is = record {
    roles = map_append numbers.role_of g.roles (r ∷ []) ∙ ap (λ xs. xs ++ numbers.role_of r ∷ []) h.roles ∙ ap (λ x. map (λ y. m.rows.role (kind_of y.kind)) nodes ++ x ∷ []) is ∙ sym (map_append (λ y. m.rows.role (kind_of y.kind)) nodes (at ∷ []));
    inputs = ap (λ xs. xs ++ map input_of at.inputs.items ∷ []) h.inputs ∙ sym (map_append (λ y. map input_of y.inputs.items) nodes (at ∷ []));
    sizes = ap (λ xs. xs ++ at.outputs ∷ []) h.sizes ∙ sym (map_append (λ y. y.outputs) nodes (at ∷ []));
    choices = ap (λ xs. xs ++ choice ∷ []) h.choices;
    results = ap (λ xs. xs ++ [] ∷ []) h.results ∙ sym (map_append (λ y. []) nodes (at ∷ []));
    filled = ap (λ xs. xs ++ map (λ x. is_none x) (map input_of at.inputs.items) ∷ []) h.filled
        ∙ ap (λ x. map (λ y. map (λ l. is_none (input_of l)) y.inputs.items) nodes ++ x ∷ []) (map_map (λ x. is_none x) input_of at.inputs.items)
        ∙ sym (map_append (λ y. map (λ l. is_none (input_of l)) y.inputs.items) nodes (at ∷ []));
    answered = ap (λ xs. xs ++ false ∷ []) h.answered ∙ sym (map_append (λ y. false) nodes (at ∷ []));
  }

-- ---- what is named is there

names : (o : Origin) (x : Place) → place_of o ≡ Some x → o ≡ Out x.node x.output
names Input x e = cc
names (Constant slot) x e = cc
names (Out n s) x e = let same : record { node = n; output = s } ≡ x = some_same e in λ i. Out (same i).node (same i).output

output_in : {G : Type 0} (nodes : List (GraphNode G)) (k s : ℕ) → IsTrue (has_output (slice_get nodes k) s) → s < slice_index_or (map (λ at. at.outputs) nodes) k 0
output_in [] k s t = absurd (cc)
output_in (at ∷ nodes) zero s t = less s at.outputs t
output_in (at ∷ nodes) (suc k) s t = output_in nodes k s t

pub links_in : {G : Type 0} (nodes : List (GraphNode G)) (constants : ℕ) (links : List GraphLink) (sizes : List ℕ) → sizes ≡ map (λ at. at.outputs) nodes → AreThere nodes constants links → HasRoom sizes (map input_of links)
links_in nodes constants links sizes e there x has =
    let l : (l : GraphLink) × Has links l × (Some x ≡ input_of l) = image_of input_of links (Some x) has in
    let t : IsTrue (is_there nodes constants (Out x.node x.output)) = subst (λ o. IsTrue (is_there nodes constants o)) (names l.0.origin x (sym l.2)) (all_has (λ y. IsTrue (is_there nodes constants y.origin)) links there l.0 l.1) in
    subst (λ ss. IsIn ss x) (sym e) (output_in nodes x.node x.output t)

-- ---- rows

pub lists_more : {A : Type 0} (rows : List (Vec (Option A) Global)) (row : Vec (Option A) Global) → lists_of (rows ++ row ∷ []) ≡ lists_of rows ++ row.items ∷ []
lists_more rows row = map_append (λ r. r.items) rows (row ∷ [])

-- a place of a list, behind a reference
pub node_at : {A B : Type 0} (f : B → A) (xs : List A) (n : ℕ) (o : Option B) (x : B) → o ≡ Some x → option_map f o ≡ slice_get xs n → slice_get xs n ≡ Some (f x)
node_at f xs n o x is e = sym e ∙ ap (option_map f) is

-- a value of the same content in the place of another
pub same_contents : {A B : Type 0} (f : A → B) (xs : List A) (i : ℕ) (y d : A) → f y ≡ f (slice_index_or xs i d) → map f (set xs i y) ≡ map f xs
same_contents f [] i y d e = refl
same_contents f (x ∷ xs) zero y d e = ap (λ z. z ∷ map f xs) e
same_contents f (x ∷ xs) (suc i) y d e = ap (λ zs. f x ∷ zs) (same_contents f xs i y d e)

-- ---- one more choice

more_at : {B : Type 0} (ys : List B) (y d : B) (n : ℕ) → n < length ys → slice_index_or (ys ++ y ∷ []) n d ≡ slice_index_or ys n d
more_at [] y d n h = absurd (omega arith)
more_at (z ∷ ys) y d zero h = refl
more_at (z ∷ ys) y d (suc n) h = more_at ys y d n (omega arith)

below_or_last : (n k : ℕ) → n < k + 1 → (n < k) ⊎ (n ≡ k)
below_or_last n k h = grind arith

pub more_each : {A B : Type 0} (R : ℕ → A → B → Type 0) (xs : List A) (ys : List B) (d y : B) (k : ℕ) (x0 : A)
    → length ys ≡ k → ((n : ℕ) (x : A) → n < k → slice_get xs n ≡ Some x → R n x (slice_index_or ys n d)) → slice_get xs k ≡ Some x0 → R k x0 y
    → (n : ℕ) (x : A) → n < k + 1 → slice_get xs n ≡ Some x → R n x (slice_index_or (ys ++ y ∷ []) n d)
more_each R xs ys d y k x0 len each at last n x below e = by (below_or_last n k below)
  where
    by : (n < k) ⊎ (n ≡ k) → R n x (slice_index_or (ys ++ y ∷ []) n d)
    by (inl less) = subst (R n x) (sym (more_at ys y d n (omega (arith, len)))) (each n x less e)
    by (inr same) =
        let x_is : x0 ≡ x = some_same (sym at ∙ ap (slice_get xs) (sym same) ∙ e) in
        let y_is : y ≡ slice_index_or (ys ++ y ∷ []) n d = sym (ap (λ j. slice_index_or (ys ++ y ∷ []) j d) (same ∙ sym len) ∙ at_end ys y d) in
        subst (R n x) y_is (subst (λ j. R j x y) (sym same) (subst (λ z. R k z y) x_is last))

pub row_at : {A : Type 0} (rows : List (Vec (Option A) Global)) (n : ℕ) (row : Vec (Option A) Global) → n < length rows → row ≡ slice_index_or rows n row → slice_index_or (lists_of rows) n [] ≡ row.items
row_at rows n row h is = index_at (lists_of rows) n [] row.items (at_image (λ r. r.items) rows n row (is_at rows n row h ∙ ap Some (sym is)))

-- ---- roots

pub root_room : (sizes : List ℕ) (roots : List GraphLink) (n : ℕ) (root : GraphLink) → HasRoom sizes (map input_of roots) → slice_get roots n ≡ Some root → HasRoom sizes (input_of root ∷ [])
root_room sizes roots n root room at x (inl e) = room x (subst (Has (map input_of roots)) (sym e) (has_image input_of roots root (member_at roots n root at)))
root_room sizes roots n root room at x (inr h) = absurd h

pub one_root : (sizes : List ℕ) (o : Option Place) (x : Place) → HasRoom sizes (o ∷ []) → o ≡ Some x → IsIn sizes x
one_root sizes o x room e = room x (inl (sym e))

present_more : {A : Type 0} (xs : List (Option A)) (x : Option A) → present xs ++ present (x ∷ []) ≡ present (xs ++ x ∷ [])
present_more [] x = refl
present_more (None ∷ xs) x = present_more xs x
present_more (Some y ∷ xs) x = ap (λ ys. y ∷ ys) (present_more xs x)

pub roots_more : (g g1 g2 : numbers.Nodes) (roots : List GraphLink) (n : ℕ) (root : GraphLink) → slice_get roots n ≡ Some root
    → g1 ≡ with_roots g (present (map input_of (take n roots))) → g2 ≡ with_roots g1 (present (input_of root ∷ [])) → g2 ≡ with_roots g (present (map input_of (take (n + 1) roots)))
roots_more g g1 g2 roots n root at before step =
    step
    ∙ ap (λ x. with_roots x (present (input_of root ∷ []))) before
    ∙ ap (λ xs. record g { roots = xs }) (append_assoc g.roots (present (map input_of (take n roots))) (present (input_of root ∷ [])))
    ∙ ap (with_roots g) (present_more (map input_of (take n roots)) (input_of root) ∙ ap present (sym (map_append input_of (take n roots) (root ∷ [])) ∙ ap (map input_of) (sym (take_one_more roots n root at))))

pub all_roots : (g g1 : numbers.Nodes) (roots : List GraphLink) (n : ℕ) → length roots ≤ n → g1 ≡ with_roots g (present (map input_of (take n roots))) → g1 ≡ with_roots g (present (map input_of roots))
all_roots g g1 roots n past e = e ∙ ap (λ xs. with_roots g (present (map input_of xs))) (take_past roots n past)
  where
    take_past : (xs : List GraphLink) (n : ℕ) → length xs ≤ n → take n xs ≡ xs
    take_past [] zero h = refl
    take_past [] (suc n) h = refl
    take_past (x ∷ xs) zero h = absurd (omega arith)
    take_past (x ∷ xs) (suc n) h = ap (λ ys. x ∷ ys) (take_past xs n (omega arith))

pub numbers_rooted : {G K V S T : Type 0} (m : Meanings K V S T) (kind_of : G → K) (nodes : List (GraphNode G)) (made : List (Option Choice)) (g g1 : numbers.Nodes) (roots : List Place) → g1 ≡ with_roots g roots → HasNumbers m kind_of nodes made g → HasNumbers m kind_of nodes made g1
numbers_rooted m kind_of nodes made g g1 roots e h =
    subst (HasNumbers m kind_of nodes made) (sym e)
    (record { roles = h.roles; inputs = h.inputs; sizes = h.sizes; choices = h.choices; results = h.results; filled = h.filled; answered = h.answered })

pub other_row : {A : Type 0} (rows : List (Vec (Option A) Global)) (i k : ℕ) (v : Vec (Option A) Global) → k ≢ i → slice_index_or (lists_of (set rows i v)) k [] ≡ slice_index_or (lists_of rows) k []
other_row [] i k v ne = refl
other_row (x ∷ rows) zero zero v ne = absurd (ne refl)
other_row (x ∷ rows) zero (suc k) v ne = refl
other_row (x ∷ rows) (suc i) zero v ne = refl
other_row (x ∷ rows) (suc i) (suc k) v ne = other_row rows i k v (λ e. ne (ap suc e))
