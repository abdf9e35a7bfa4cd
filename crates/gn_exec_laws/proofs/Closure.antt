-- The sources that nodes bring, one after the other, from some that one starts with: they can be listed.
use Rattle.std.proofs.Common.{◌≡◌, inl, inr, ◌<◌, ◌≤◌, ◌+◌, ℕ, zero, suc, List, [], ◌∷◌, ◌++◌, Bool, true, false, refl, sym, ◌∙◌, ap, subst, arith}
use Rattle.std.specs.Prelude.{if◌then◌else◌, ◌||◌}
use Rattle.gn_node_set.specs.Paths.{Path, same_path}
use Rattle.gn_node_set.specs.Meanings.{Has, Source, a_value, an_item, an_output, Node}
use Rattle.gn_node_set.proofs.Lists.{has_first, has_second, has_either}
use Rattle.gn_node_set.proofs.Paths.{by_path}

module _ {K V : Type 0} (graph : List (Node K V)) (starts : List (Source V)) (brings : Node K V → ℕ → List (Source V)) where
  -- the least set that holds the starts, and with an output of a node what the node brings for it
  pub data Reaches : Source V → Type 0 where
    from_start : (x : Source V) → Has starts x → Reaches x
    from_node : (node : Node K V) (s : ℕ) (x : Source V) → Has graph node → Reaches (an_output node.path s) → Has (brings node s) x → Reaches x

  brought_in : List (Node K V) → Path → ℕ → List (Source V)
  brought_in [] p s = []
  brought_in (node ∷ nodes) p s = if same_path node.path p then brings node s ++ brought_in nodes p s else brought_in nodes p s

  brought : Source V → List (Source V)
  brought (an_output p s) = brought_in graph p s
  brought _ = []

  bring_all : List (Source V) → List (Source V)
  bring_all [] = []
  bring_all (x ∷ xs) = brought x ++ bring_all xs

  -- what is reached over that number of nodes at most
  within : ℕ → List (Source V)
  within zero = starts
  within (suc n) = starts ++ bring_all (within n)

  -- ---- all of that is reached

  path_reaches : (nodes : List (Node K V)) → ((node : Node K V) → Has nodes node → Has graph node) → (p : Path) (s : ℕ) → Reaches (an_output p s) → (x : Source V) → Has (brought_in nodes p s) x → Reaches x
  unfolding brought_in
  path_reaches [] all p s d x h = absurd h
  path_reaches (node ∷ nodes) all p s d x h =
      by_path (λ t. Has (if t then brings node s ++ brought_in nodes p s else brought_in nodes p s) x → Reaches x) node.path p
      (λ same k. elim (has_either (brings node s) (brought_in nodes p s) x k) [
        | inl a ↦ from_node node s x (all node (inl refl)) (subst (λ q. Reaches (an_output q s)) (sym same) d) a
        | inr b ↦ path_reaches nodes (λ n n_in. all n (inr n_in)) p s d x b
      ])
      (λ _ k. path_reaches nodes (λ n n_in. all n (inr n_in)) p s d x k)
      h

  source_reaches : (y : Source V) → Reaches y → (x : Source V) → Has (brought y) x → Reaches x
  unfolding brought
  source_reaches (a_value u) d x h = absurd h
  source_reaches (an_item i) d x h = absurd h
  source_reaches (an_output p s) d x h = path_reaches graph (λ n h. h) p s d x h

  all_reach : (ys : List (Source V)) → ((y : Source V) → Has ys y → Reaches y) → (x : Source V) → Has (bring_all ys) x → Reaches x
  unfolding bring_all
  all_reach [] all x h = absurd h
  all_reach (y ∷ ys) all x h = elim (has_either (brought y) (bring_all ys) x h) [ inl a ↦ source_reaches y (all y (inl refl)) x a | inr b ↦ all_reach ys (λ z z_in. all z (inr z_in)) x b ]

  sound : (n : ℕ) (x : Source V) → Has (within n) x → Reaches x
  unfolding within
  sound zero x h = from_start x h
  sound (suc n) x h = elim (has_either starts (bring_all (within n)) x h) [ inl a ↦ from_start x a | inr b ↦ all_reach (within n) (sound n) x b ]

  -- ---- all that is reached is there, where nodes bring sources below them

  module _ (rank : Path → ℕ) where
    unfoldable pub height : Source V → ℕ
    height (an_output p k) = suc (rank p)
    height _ = 0

    ranks : List (Node K V) → ℕ
    ranks [] = 0
    ranks (n ∷ ns) = suc (rank n.path) + ranks ns

    below_ranks : (ns : List (Node K V)) (x : Node K V) → Has ns x → suc (rank x.path) ≤ ranks ns
    unfolding ranks
    below_ranks [] x h = absurd h
    below_ranks (n ∷ ns) x (inl q) = subst (λ y. suc (rank y.path) ≤ suc (rank n.path) + ranks ns) (sym q) (at_front (rank n.path) (ranks ns))
      where
        at_front : (a b : ℕ) → suc a ≤ suc a + b
        at_front a b = omega arith
    below_ranks (n ∷ ns) x (inr h) = behind (rank x.path) (rank n.path) (ranks ns) (below_ranks ns x h)
      where
        behind : (a b n : ℕ) → suc a ≤ n → suc a ≤ suc b + n
        behind a b n p = omega arith

    bound : ℕ
    bound = ranks graph

    from_the_start : (n : ℕ) (x : Source V) → Has starts x → Has (within n) x
    unfolding within
    from_the_start zero x h = h
    from_the_start (suc n) x h = has_first starts (bring_all (within n)) x h

    in_all : (ys : List (Source V)) (y x : Source V) → Has ys y → Has (brought y) x → Has (bring_all ys) x
    unfolding bring_all
    in_all [] y x h k = absurd h
    in_all (z ∷ ys) y x (inl q) k = has_first (brought z) (bring_all ys) x (subst (λ u. Has (brought u) x) q k)
    in_all (z ∷ ys) y x (inr h) k = has_second (brought z) (bring_all ys) x (in_all ys y x h k)

    in_path : (nodes : List (Node K V)) (node : Node K V) (s : ℕ) (x : Source V) → Has nodes node → Has (brings node s) x → Has (brought_in nodes node.path s) x
    unfolding brought_in
    in_path [] node s x h k = absurd h
    in_path (n ∷ nodes) node s x (inl q) k =
        by_path (λ t. Has (if t then brings n s ++ brought_in nodes node.path s else brought_in nodes node.path s) x) n.path node.path
        (λ _. has_first (brings n s) (brought_in nodes node.path s) x (subst (λ y. Has (brings y s) x) q k)) (λ other. absurd (other (ap (λ y. y.path) (sym q))))
    in_path (n ∷ nodes) node s x (inr h) k =
        by_path (λ t. Has (if t then brings n s ++ brought_in nodes node.path s else brought_in nodes node.path s) x) n.path node.path
        (λ _. has_second (brings n s) (brought_in nodes node.path s) x (in_path nodes node s x h k)) (λ _. in_path nodes node s x h k)

    in_source : (node : Node K V) (s : ℕ) (x : Source V) → Has graph node → Has (brings node s) x → Has (brought (an_output node.path s)) x
    unfolding brought
    in_source node s x h k = in_path graph node s x h k

    -- one node more
    one_more : (x y : Source V) (r : ℕ) → height y ≡ suc r → height x ≤ r → r < bound → ((n : ℕ) → bound ≤ height y + n → Has (within n) y) → Has (brought y) x → (n : ℕ) → bound ≤ height x + n → Has (within n) x
    unfolding within
    one_more x y r is low less had has zero enough = absurd (too_low (height x) r bound low less enough)
      where
        too_low : (a b d : ℕ) → a ≤ b → b < d → d ≤ a + 0 → ⊥
        too_low a b d p q r = omega arith
    one_more x y r is low less had has (suc n) enough =
        has_second starts (bring_all (within n)) x (in_all (within n) y x (had n (subst (λ h. bound ≤ h + n) (sym is) (one_less (height x) r bound n low enough))) has)
      where
        one_less : (a b d n : ℕ) → a ≤ b → d ≤ a + suc n → d ≤ suc b + n
        one_less a b d n p q = omega arith

    module _ (lower : (node : Node K V) (s : ℕ) (x : Source V) → Has graph node → Has (brings node s) x → height x ≤ rank node.path) where
      enough : (x : Source V) → Reaches x → (n : ℕ) → bound ≤ height x + n → Has (within n) x
      unfolding height bound
      enough x (from_start y h) n e = from_the_start n x h
      enough x (from_node node s y h r has) n e =
          one_more x (an_output node.path s) (rank node.path) refl (lower node s x h has) (below_ranks graph node h) (λ j f. enough (an_output node.path s) r j f) (in_source node s x h has) n e

      pub reached : List (Source V)
      reached = within bound

      pub listed : (x : Source V) → Reaches x → Has reached x
      unfolding reached
      listed x r = enough x r bound (more (height x) bound)
        where
          more : (a b : ℕ) → b ≤ a + b
          more a b = omega arith

      pub listed_reaches : (x : Source V) → Has reached x → Reaches x
      unfolding reached
      listed_reaches x h = sound bound x h

-- ---- whether an output of a node is in a list

or_true : (b : Bool) → (b || true) ≡ true
or_true true = refl
or_true false = refl

module _ {V : Type 0} where
  is_output : Path → Source V → Bool
  is_output p (an_output q s) = same_path p q
  is_output p _ = false

  pub any_output : Path → List (Source V) → Bool
  any_output p [] = false
  any_output p (x ∷ xs) = is_output p x || any_output p xs

  output_found : (p : Path) (x : Source V) → is_output p x ≡ true → (s : ℕ) × (x ≡ an_output p s)
  unfolding is_output
  output_found p (a_value u) e = cc
  output_found p (an_item i) e = cc
  output_found p (an_output q s) e = by_path (λ t. t ≡ true → (k : ℕ) × (◌≡◌ {A = Source V} (an_output q s) (an_output p k))) p q (λ same _. (s, ap (λ r. an_output r s) (sym same))) (λ _ bad. cc) e

  pub output_found_in : (p : Path) (xs : List (Source V)) → any_output p xs ≡ true → (s : ℕ) × Has xs (an_output p s)
  unfolding any_output
  output_found_in p [] e = cc
  output_found_in p (x ∷ xs) e = by_first (is_output p x) refl e (output_found_in p xs)
    where
      by_first : (b : Bool) → is_output p x ≡ b → (b || any_output p xs) ≡ true → (any_output p xs ≡ true → (s : ℕ) × Has xs (an_output p s)) → (s : ℕ) × Has (x ∷ xs) (an_output p s)
      by_first true is e rest = let t : (s : ℕ) × (x ≡ an_output p s) = output_found p x is in (t.0, inl (sym t.1))
      by_first false is e rest = let t : (s : ℕ) × Has xs (an_output p s) = rest e in (t.0, inr t.1)

  pub output_in : (p : Path) (s : ℕ) (xs : List (Source V)) → Has xs (an_output p s) → any_output p xs ≡ true
  unfolding any_output is_output
  output_in p s [] h = absurd h
  output_in p s (x ∷ xs) (inl q) = ap (λ y. is_output p y || any_output p xs) (sym q) ∙ by_path (λ t. (t || any_output p xs) ≡ true) p p (λ _. refl) (λ n. absurd (n refl))
  output_in p s (x ∷ xs) (inr h) = ap (λ b. is_output p x || b) (output_in p s xs h) ∙ or_true (is_output p x)
