-- Keys that grow, and the trees that they form.
use Rattle.std.proofs.Common.{◌≡◌, ◌≢◌, ◌⊎◌, inl, inr, ℕ, zero, suc, ◌+◌, ◌<◌, ◌≤◌, List, [], ◌∷◌, ◌++◌, length, map, Some, get_or, refl, ap, sym, ◌∙◌, subst, arith}
use Rattle.std.specs.Prelude.{slice_get}
use Rattle.std.proofs.lemmas.List.{length-append}
use Rattle.std.specs.List.{All}
use Rattle.std.proofs.lemmas.List.Elements.{All-cons, All-nil}
use Rattle.gn_value.specs.Values.{zero_of}
use Rattle.gn_value.specs.declared.value.ValueKind.TheVariants.{Truth}
use Rattle.gn_plain.specs.Fields.{constant, apply, elsewhere, sampled}
use Rattle.gn_plain.specs.Subtrees.{subtrees, subtrees_in}
use Rattle.gn_node_set.specs.Meanings.{Has, AllDiffer}
use Rattle.gn_node_set.proofs.Lists.{has_first, has_second, has_either}
use Rattle.gn_field.specs.Steps.{Key, of_constant, of_input, of_apply, of_elsewhere, of_sampled, names, AreBelow, LeadBackFrom, exprs_of, named}
use Rattle.gn_field.specs.Trees.{Tree, formed, grown}

module _ {A : Type 0} where
  pub get_before : (xs : List A) (y : A) (k : ℕ) (d : A) → k < length xs → get_or (xs ++ y ∷ []) k d ≡ get_or xs k d
  get_before [] y k d h = absurd (omega arith)
  get_before (x ∷ xs) y zero d h = refl
  get_before (x ∷ xs) y (suc k) d h = get_before xs y k d (omega arith)

  pub get_last : (xs : List A) (y : A) (d : A) → get_or (xs ++ y ∷ []) (length xs) d ≡ y
  get_last [] y d = refl
  get_last (x ∷ xs) y d = get_last xs y d

  pub has_at : (xs : List A) (k : ℕ) (d : A) → k < length xs → Has xs (get_or xs k d)
  has_at [] k d h = absurd (omega arith)
  has_at (x ∷ xs) zero d h = inl refl
  has_at (x ∷ xs) (suc k) d h = inr (has_at xs k d (omega arith))

  pub place_in : (xs : List A) (x : A) (d : A) → Has xs x → (k : ℕ) × (k < length xs) × (get_or xs k d ≡ x)
  place_in [] x d h = absurd h
  place_in (y ∷ xs) x d (inl e) = (0, omega arith, sym e)
  place_in (y ∷ xs) x d (inr h) = let t : (k : ℕ) × (k < length xs) × (get_or xs k d ≡ x) = place_in xs x d h in (suc t.0, omega (arith, t.1), t.2)

  -- places of one list whose members differ
  pub one_index : (xs : List A) (i j : ℕ) (d : A) → AllDiffer xs → i < length xs → j < length xs → get_or xs i d ≡ get_or xs j d → i ≡ j
  one_index [] i j d h a b e = absurd (omega arith)
  one_index (x ∷ xs) zero zero d h a b e = refl
  one_index (x ∷ xs) zero (suc j) d h a b e = absurd (h.0 (subst (Has xs) (sym e) (has_at xs j d (omega arith))))
  one_index (x ∷ xs) (suc i) zero d h a b e = absurd (h.0 (subst (Has xs) e (has_at xs i d (omega arith))))
  one_index (x ∷ xs) (suc i) (suc j) d h a b e = ap suc (one_index xs i j d h.1 (omega arith) (omega arith) e)

  pub differ_push : (xs : List A) (x : A) → AllDiffer xs → ¬ Has xs x → AllDiffer (xs ++ x ∷ [])
  differ_push [] x d new = (λ h. h, tt)
  differ_push (y ∷ xs) x d new = (
    λ h. elim (has_either xs (x ∷ []) y h) [ inl a ↦ d.0 a | inr b ↦ elim b [ inl e ↦ new (inl (sym e)) | inr c ↦ absurd c ] ],
    differ_push xs x d.1 (λ h. new (inr h)),
  )

  -- a list without one of its members
  others : (ys : List A) (x : A) → Has ys x → (zs : List A) × (length ys ≡ suc (length zs)) × ((y : A) → Has ys y → y ≢ x → Has zs y)
  others [] x h = absurd h
  others (z ∷ ys) x (inl e) = (ys, refl, λ y k other. elim k [ inl q ↦ absurd (other (q ∙ sym e)) | inr j ↦ j ])
  others (z ∷ ys) x (inr h) =
      let t : (zs : List A) × (length ys ≡ suc (length zs)) × ((y : A) → Has ys y → y ≢ x → Has zs y) = others ys x h in
      (z ∷ t.0, ap suc t.1, λ y k other. elim k [ inl q ↦ inl q | inr j ↦ inr (t.2 y j other) ])

  pub not_longer : (xs ys : List A) → AllDiffer xs → ((x : A) → Has xs x → Has ys x) → length xs ≤ length ys
  not_longer [] ys d within = omega arith
  not_longer (x ∷ xs) ys d within =
      let t : (zs : List A) × (length ys ≡ suc (length zs)) × ((y : A) → Has ys y → y ≢ x → Has zs y) = others ys x (within x (inl refl)) in
      let less : length xs ≤ length t.0 = not_longer xs t.0 d.1 (λ y h. t.2 y (within y (inr h)) (λ e. d.0 (subst (Has xs) e h))) in
      let same : length ys ≡ suc (length t.0) = t.1 in
      omega arith

-- ---- places below a number

pub below_at : (n : ℕ) (ks : List ℕ) (k d : ℕ) → AreBelow n ks → k < length ks → get_or ks k d < n
below_at n [] k d h within = absurd (omega arith)
below_at n (j ∷ ks) zero d h within = h.0
below_at n (j ∷ ks) (suc k) d h within = below_at n ks k d h.1 (omega arith)

pub below_more : (n m : ℕ) (ks : List ℕ) → n ≤ m → AreBelow n ks → AreBelow m ks
below_more n m [] le h = tt
below_more n m (k ∷ ks) le h = (omega (arith, h.0), below_more n m ks le h.1)

pub below_push : (n : ℕ) (ks : List ℕ) (k : ℕ) → AreBelow n ks → k < n → AreBelow n (ks ++ k ∷ [])
below_push n [] k h b = (b, tt)
below_push n (j ∷ ks) k h b = (h.0, below_push n ks k h.1 b)

-- ---- trees

abbrev nothing : Tree
nothing = constant (zero_of Truth)

pub grown_push : (ts : List Tree) (ks : List Key) (k : Key) → grown ts (ks ++ k ∷ []) ≡ grown ts ks ++ formed (grown ts ks) k ∷ []
grown_push ts [] k = refl
grown_push ts (j ∷ ks) k = grown_push (ts ++ formed ts j ∷ []) ks k

pub grown_append : (ts : List Tree) (ks js : List Key) → grown ts (ks ++ js) ≡ grown (grown ts ks) js
grown_append ts [] js = refl
grown_append ts (k ∷ ks) js = grown_append (ts ++ formed ts k ∷ []) ks js

pub length_grown : (ts : List Tree) (ks : List Key) → length (grown ts ks) ≡ length ts + length ks
length_grown ts [] = omega arith
length_grown ts (k ∷ ks) = omega (arith, length_grown (ts ++ formed ts k ∷ []) ks, length-append ts (formed ts k ∷ []))

-- the trees before stay
pub grown_before : (ts : List Tree) (ks : List Key) (k : ℕ) → k < length ts → named (grown ts ks) k ≡ named ts k
grown_before ts [] k h = refl
grown_before ts (j ∷ ks) k h =
    grown_before (ts ++ formed ts j ∷ []) ks k (omega (arith, length-append ts (formed ts j ∷ []))) ∙ get_before ts (formed ts j) k nothing h

named_same : (ts us : List Tree) (ks : List ℕ) (n : ℕ) → AreBelow n ks → ((k : ℕ) → k < n → named ts k ≡ named us k) → map (named ts) ks ≡ map (named us) ks
named_same ts us [] n below h = refl
named_same ts us (k ∷ ks) n below h = let a = h k below.0 in let b = named_same ts us ks n below.1 h in cc

-- what a key forms hangs on the trees that it names
pub formed_same : (ts us : List Tree) (k : Key) (n : ℕ) → AreBelow n (names k) → ((j : ℕ) → j < n → named ts j ≡ named us j) → formed ts k ≡ formed us k
formed_same ts us (of_constant v) n below h = refl
formed_same ts us (of_input x) n below h = refl
formed_same ts us (of_apply op args) n below h = ap (λ es. apply op (exprs_of es)) (named_same ts us args n below h)
formed_same ts us (of_elsewhere x args) n below h = ap (λ es. elsewhere x (exprs_of es)) (named_same ts us args n below h)
formed_same ts us (of_sampled path arg) n below h = ap (sampled path tt) (h arg below.0)

-- at a key's place is what the key forms of all
pub grown_at : (ts : List Tree) (ks : List Key) (i at n : ℕ) (k : Key) → n ≡ length ts → at ≡ n + i → LeadBackFrom n ks → slice_get ks i ≡ Some k → named (grown ts ks) at ≡ formed (grown ts ks) k
grown_at ts [] i at n k e a back here = cc
grown_at ts (j ∷ ks) zero at n k e a back here =
    let t = formed ts j in
    let first : at ≡ length ts = omega arith in
    let same : j ≡ k = cc in
    grown_before (ts ++ t ∷ []) ks at (omega (arith, length-append ts (t ∷ [])))
    ∙ (ap (λ m. get_or (ts ++ t ∷ []) m nothing) first ∙ (get_last ts t nothing
    ∙ (formed_same ts (grown (ts ++ t ∷ []) ks) j n back.0 (λ m b. sym (grown_before ts (j ∷ ks) m (omega arith))) ∙ ap (formed (grown (ts ++ t ∷ []) ks)) same)))
grown_at ts (j ∷ ks) (suc i) at n k e a back here =
    grown_at (ts ++ formed ts j ∷ []) ks i at (suc n) k (omega (arith, length-append ts (formed ts j ∷ []))) (omega arith) back.1 here

pub back_push : (n m : ℕ) (ks : List Key) (k : Key) → m ≡ n + length ks → LeadBackFrom n ks → AreBelow m (names k) → LeadBackFrom n (ks ++ k ∷ [])
back_push n m [] k e h b = (subst (λ j. AreBelow j (names k)) (let q : m ≡ n = omega arith in q) b, tt)
back_push n m (j ∷ ks) k e h b = (h.0, back_push (suc n) m ks k (omega arith) h.1 b)

pub back_at : (n m : ℕ) (ks : List Key) (i : ℕ) (k : Key) → m ≡ n + i → LeadBackFrom n ks → slice_get ks i ≡ Some k → AreBelow m (names k)
back_at n m [] i k e h here = cc
back_at n m (j ∷ ks) zero k e h here = let same : j ≡ k = cc in subst (λ x. AreBelow m (names x)) same (subst (λ x. AreBelow x (names j)) (let q : n ≡ m = omega arith in q) h.0)
back_at n m (j ∷ ks) (suc i) k e h here = back_at (suc n) m ks i k (omega arith) h.1 here

-- ---- keys that form the same tree are the same

one_list : (ts : List Tree) (ks js : List ℕ) → AllDiffer ts → AreBelow (length ts) ks → AreBelow (length ts) js → exprs_of (map (named ts) ks) ≡ exprs_of (map (named ts) js) → ks ≡ js
one_list ts [] [] d a b e = refl
one_list ts [] (j ∷ js) d a b e = cc
one_list ts (k ∷ ks) [] d a b e = cc
one_list ts (k ∷ ks) (j ∷ js) d a b e =
    let first : named ts k ≡ named ts j = cc in
    let rest : exprs_of (map (named ts) ks) ≡ exprs_of (map (named ts) js) = cc in
    let p : k ≡ j = one_index ts k j nothing d a.0 b.0 first in
    let q : ks ≡ js = one_list ts ks js d a.1 b.1 rest in
    cc

pub one_key : (ts : List Tree) (k j : Key) → AllDiffer ts → AreBelow (length ts) (names k) → AreBelow (length ts) (names j) → formed ts k ≡ formed ts j → k ≡ j
one_key ts (of_constant v) (of_constant w) d a b e = cc
one_key ts (of_input x) (of_input y) d a b e = cc
one_key ts (of_apply f xs) (of_apply g ys) d a b e =
    let p : f ≡ g = cc in
    let r : exprs_of (map (named ts) xs) ≡ exprs_of (map (named ts) ys) = cc in
    let q : xs ≡ ys = one_list ts xs ys d a b r in
    cc
one_key ts (of_elsewhere f xs) (of_elsewhere g ys) d a b e =
    let p : f ≡ g = cc in
    let r : exprs_of (map (named ts) xs) ≡ exprs_of (map (named ts) ys) = cc in
    let q : xs ≡ ys = one_list ts xs ys d a b r in
    cc
one_key ts (of_sampled p x) (of_sampled q y) d a b e =
    let r : p ≡ q = cc in
    let n : named ts x ≡ named ts y = cc in
    let s : x ≡ y = one_index ts x y nothing d a.0 b.0 n in
    cc
one_key ts _ _ d a b e = cc

-- ---- with a tree its subtrees are there

abbrev pub Closed : List Tree → Type 0
Closed ts = (e s : Tree) → Has ts e → Has (subtrees e) s → Has ts s

in_args : (ts : List Tree) (ks : List ℕ) (s : Tree) → Closed ts → AreBelow (length ts) ks → Has (subtrees_in (exprs_of (map (named ts) ks))) s → Has ts s
in_args ts [] s c below h = absurd h
in_args ts (k ∷ ks) s c below h = elim (has_either (subtrees (named ts k)) (subtrees_in (exprs_of (map (named ts) ks))) s h) [
  | inl a ↦ c (named ts k) s (has_at ts k nothing below.0) a
  | inr b ↦ in_args ts ks s c below.1 b
]

-- a subtree of what a key forms is there already, or is the whole
in_formed : (ts : List Tree) (k : Key) (s : Tree) → Closed ts → AreBelow (length ts) (names k) → Has (subtrees (formed ts k)) s → Has ts s ⊎ (s ≡ formed ts k)
in_formed ts (of_constant v) s c below (inl e) = inr e
in_formed ts (of_constant v) s c below (inr h) = absurd h
in_formed ts (of_input x) s c below (inl e) = inr e
in_formed ts (of_input x) s c below (inr h) = absurd h
in_formed ts (of_apply op args) s c below h = elim (has_either (subtrees_in (exprs_of (map (named ts) args))) (formed ts (of_apply op args) ∷ []) s h) [
  | inl a ↦ inl (in_args ts args s c below a)
  | inr b ↦ elim b [ inl e ↦ inr e | inr n ↦ absurd n ]
]
in_formed ts (of_elsewhere x args) s c below h = elim (has_either (subtrees_in (exprs_of (map (named ts) args))) (formed ts (of_elsewhere x args) ∷ []) s h) [
  | inl a ↦ inl (in_args ts args s c below a)
  | inr b ↦ elim b [ inl e ↦ inr e | inr n ↦ absurd n ]
]
in_formed ts (of_sampled path arg) s c below h = elim (has_either (subtrees (named ts arg)) (formed ts (of_sampled path arg) ∷ []) s h) [
  | inl a ↦ inl (c (named ts arg) s (has_at ts arg nothing below.0) a)
  | inr b ↦ elim b [ inl e ↦ inr e | inr n ↦ absurd n ]
]

closed_push : (ts : List Tree) (k : Key) → Closed ts → AreBelow (length ts) (names k) → Closed (ts ++ formed ts k ∷ [])
closed_push ts k c below e s h is = elim (has_either ts (formed ts k ∷ []) e h) [
  | inl a ↦ has_first ts (formed ts k ∷ []) s (c e s a is)
  | inr b ↦ elim b [
    | inl q ↦ elim (in_formed ts k s c below (subst (λ t. Has (subtrees t) s) q is)) [
      | inl a ↦ has_first ts (formed ts k ∷ []) s a
      | inr w ↦ has_second ts (formed ts k ∷ []) s (inl w)
    ]
    | inr n ↦ absurd n
  ]
]

pub closed_grown : (n : ℕ) (ts : List Tree) (ks : List Key) → n ≡ length ts → Closed ts → LeadBackFrom n ks → Closed (grown ts ks)
closed_grown n ts [] e c back = c
closed_grown n ts (k ∷ ks) e c back =
    closed_grown (suc n) (ts ++ formed ts k ∷ []) ks (omega (arith, length-append ts (formed ts k ∷ []))) (closed_push ts k c (subst (λ m. AreBelow m (names k)) e back.0)) back.1

pub all_below : (n : ℕ) (ks : List ℕ) → AreBelow n ks → All (λ k. k < n) ks
all_below n [] h = All-nil (λ k. k < n)
all_below n (k ∷ ks) h = All-cons (λ k. k < n) k ks h.0 (all_below n ks h.1)
