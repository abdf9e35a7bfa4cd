-- The first pointer where something bad stands, put together from those of the parts.
use Rattle.std.proofs.Common.{◌≡◌, true, false, List, [], ◌∷◌, Option, Some, None, refl, ap, ◌∙◌, subst, if◌then◌else◌}
use Rattle.std.specs.declared.cmp.Ordering.{Ordering}
use Rattle.std.specs.declared.cmp.Ordering.TheVariants.{Less, Equal, Greater}
use Rattle.std.specs.Ordering.{is_eq, is_gt, ordering_then, ordering_reverse}
use Rattle.std.specs.Cmp.Lexicographic.{slice_cmp}
use Rattle.std.proofs.lemmas.Cmp.{tied_itself, tied_back}
use Rattle.gn_pointers.specs.Pointers.{Step, Pointer, step_cmp, pointer_cmp, part_at, joined, Holds, IsBadAt, IsFirst}
use Rattle.gn_pointers.proofs.Order.{step_total, top_first, tied}

-- a first pointer depends only on where P holds
pub first_same : (P Q : Pointer → Type 0) → ((p : Pointer) → P p → Q p) → ((p : Pointer) → Q p → P p) → (found : Option Pointer) → IsFirst Q found → IsFirst P found
first_same P Q to from None h = λ p b. h p (to p b)
first_same P Q to from (Some p) h = (from p h.0, λ q b. h.1 q (to q b))

module _ {X : Type 0} (parts : X → List (Step × X)) (Bad : X → Type 0) where
  abbrev Below : X → Pointer → Type 0
  Below x p = IsBadAt parts Bad x p

  -- something bad stands in one of these parts
  abbrev pub Among : List (Step × X) → Pointer → Type 0
  Among xs [] = ⊥
  Among xs (s ∷ p) = Holds (λ y. Below y p) (part_at s xs)

  -- the step comes before all of these
  abbrev pub Before : Step → List (Step × X) → Type 0
  Before s [] = Unit {0}
  Before s ((t, y) ∷ ys) = (step_cmp s t ≡ Less) × Before s ys

  -- what is bad itself
  pub first_here : (x : X) → Bad x → IsFirst (Below x) (Some [])
  first_here x h = (h, λ q b. top_first q)

  to_parts : (x : X) → ¬ Bad x → (p : Pointer) → Below x p → Among (parts x) p
  to_parts x h [] b = h b
  to_parts x h (s ∷ p) b = b

  from_parts : (x : X) (p : Pointer) → Among (parts x) p → Below x p
  from_parts x [] b = elim b [ ]
  from_parts x (s ∷ p) b = b

  -- what is not bad itself
  pub first_below : (x : X) (found : Option Pointer) → ¬ Bad x → IsFirst (Among (parts x)) found → IsFirst (Below x) found
  first_below x found h f = first_same (Below x) (Among (parts x)) (to_parts x h) (from_parts x) found f

  nothing_among : (p : Pointer) → ¬ Among [] p
  nothing_among [] b = b
  nothing_among (s ∷ p) b = b

  -- no parts
  pub first_of_none : IsFirst (Among []) None
  first_of_none = nothing_among

  no_part : (s t : Step) (ys : List (Step × X)) → step_cmp t s ≡ Equal → Before s ys → part_at t ys ≡ None
  no_part s t [] e h = refl
  no_part s t ((u, y) ∷ ys) e h = rw (step_total.congr t s u e, h.0) (no_part s t ys e h.1)

  chosen_to : (P : X → Type 0) (y : X) (rest : Option X) (o : Ordering) → ¬ P y → Holds P (if is_eq o then Some y else rest) → Holds P rest
  chosen_to P y rest Less n b = b
  chosen_to P y rest Greater n b = b
  chosen_to P y rest Equal n b = absurd (n b)

  chosen_from : (P : X → Type 0) (y : X) (rest : Option X) (o : Ordering) → (is_eq o ≡ true → rest ≡ None) → Holds P rest → Holds P (if is_eq o then Some y else rest)
  chosen_from P y rest Less n b = b
  chosen_from P y rest Greater n b = b
  chosen_from P y rest Equal n b = let none : Holds P None = subst (λ x. Holds P x) (n refl) b in absurd none

  passed_to : (s : Step) (y : X) (ys : List (Step × X)) → ((p : Pointer) → ¬ Below y p) → (p : Pointer) → Among ((s, y) ∷ ys) p → Among ys p
  passed_to s y ys n [] b = b
  passed_to s y ys n (t ∷ p) b = chosen_to (λ z. Below z p) y (part_at t ys) (step_cmp t s) (n p) b

  passed_from : (s : Step) (y : X) (ys : List (Step × X)) → Before s ys → (p : Pointer) → Among ys p → Among ((s, y) ∷ ys) p
  passed_from s y ys h [] b = b
  passed_from s y ys h (t ∷ p) b = chosen_from (λ z. Below z p) y (part_at t ys) (step_cmp t s) (λ e. no_part s t ys (tied (step_cmp t s) e) h) b

  less_than_tied : (s t u : Step) → step_cmp s u ≡ Less → step_cmp t u ≡ Equal → step_cmp s t ≡ Less
  less_than_tied s t u l e = step_total.antisymm s t ∙ ap ordering_reverse (step_total.congr t u s e ∙ (step_total.antisymm u s ∙ ap ordering_reverse l))

  later_at : (P : X → Type 0) (s t u : Step) (y : X) (rest : Option X) (o : Ordering) → step_cmp t u ≡ o → step_cmp s u ≡ Less → (Holds P rest → step_cmp s t ≡ Less) → Holds P (if is_eq o then Some y else rest) → step_cmp s t ≡ Less
  later_at P s t u y rest Less e l go b = go b
  later_at P s t u y rest Greater e l go b = go b
  later_at P s t u y rest Equal e l go b = less_than_tied s t u l e

  later : (P : X → Type 0) (s t : Step) (ys : List (Step × X)) → Before s ys → Holds P (part_at t ys) → step_cmp s t ≡ Less
  later P s t [] h b = absurd b
  later P s t ((u, y) ∷ ys) h b = later_at P s t u y (part_at t ys) (step_cmp t u) refl h.0 (later P s t ys h.1) b

  after_first : (s t : Step) (p q : Pointer) (y : X) (rest : Option X) (o : Ordering) → step_cmp t s ≡ o
      → ((r : Pointer) → Below y r → is_gt (pointer_cmp p r) ≡ false)
      → (Holds (λ z. Below z q) rest → step_cmp s t ≡ Less)
      → Holds (λ z. Below z q) (if is_eq o then Some y else rest) → is_gt (ordering_then (step_cmp s t) (slice_cmp step_cmp p q)) ≡ false
  after_first s t p q y rest Less e f go b = rw (go b)
  after_first s t p q y rest Greater e f go b = rw (go b)
  after_first s t p q y rest Equal e f go b = rw (tied_back step_total t s e) (f q b)

  none_before : (s : Step) (y : X) (ys : List (Step × X)) (p : Pointer) → Before s ys → ((r : Pointer) → Below y r → is_gt (pointer_cmp p r) ≡ false) → (q : Pointer) → Among ((s, y) ∷ ys) q → is_gt (pointer_cmp (s ∷ p) q) ≡ false
  none_before s y ys p h f [] b = absurd b
  none_before s y ys p h f (t ∷ q) b = after_first s t p q y (part_at t ys) (step_cmp t s) refl f (later (λ z. Below z q) s t ys h) b

  is_among : (s : Step) (y : X) (ys : List (Step × X)) (p : Pointer) → Below y p → Among ((s, y) ∷ ys) (s ∷ p)
  is_among s y ys p b = rw (tied_itself step_total s) b

  -- the parts in order: the first pointer in the first part, or else in the later ones
  pub first_of_parts : (s : Step) (y : X) (ys : List (Step × X)) (here rest : Option Pointer) → Before s ys → IsFirst (Below y) here → IsFirst (Among ys) rest → IsFirst (Among ((s, y) ∷ ys)) (joined s here rest)
  first_of_parts s y ys None rest h f g = first_same (Among ((s, y) ∷ ys)) (Among ys) (passed_to s y ys f) (passed_from s y ys h) rest g
  first_of_parts s y ys (Some p) rest h f g = (is_among s y ys p f.0, none_before s y ys p h f.1)
