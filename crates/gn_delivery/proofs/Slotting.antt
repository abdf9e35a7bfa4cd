-- Values in their slots, one after the other.
use Rattle.std.proofs.Common.{◌≡◌, ◌≢◌, ◌⊎◌, inl, inr, ℕ, zero, suc, ◌<◌, ◌≤◌, List, [], ◌∷◌, map, length, drop, set, Option, Some, None, refl, sym, ap, ◌∙◌, subst, arith}
use Rattle.std.specs.Prelude.{option_map, slice_get, slice_index_or}
use Rattle.std.specs.declared.alloc.Global.{Global}
use Rattle.std.specs.declared.vec.Vec.{Vec}
use Rattle.gn_node_set.specs.Meanings.{Has}
use Rattle.gn_node_set.proofs.Lists.{some_same}
use Rattle.gn_readers.specs.declared.place.Place.{Place}
use Rattle.gn_readers.specs.declared.place.Place.TheVariants.{Input, Root}
use Rattle.gn_readers.proofs.Noting.{same_number, same_place}
use Rattle.gn_delivery.specs.declared.plan.Second.{Second}
use Rattle.gn_delivery.specs.Slots.{Slots, slots_of, slot_at, with_value, with_seconds, with_itself, with_outputs, or_as_before, Delivers}

-- ---- lists

pub set_past : {A : Type 0} (xs : List A) (n : ℕ) (x : A) → length xs ≤ n → set xs n x ≡ xs
set_past [] n x h = refl
set_past (y ∷ xs) zero x h = absurd (omega (arith, h))
set_past (y ∷ xs) (suc n) x h = ap (λ zs. y ∷ zs) (set_past xs n x (omega (arith, h)))

set_here : {A : Type 0} (xs : List A) (n : ℕ) (x : A) → slice_get (set xs n x) n ≡ option_map (λ y. x) (slice_get xs n)
set_here [] n x = refl
set_here (y ∷ xs) zero x = refl
set_here (y ∷ xs) (suc n) x = set_here xs n x

set_other : {A : Type 0} (xs : List A) (n k : ℕ) (x : A) → k ≢ n → slice_get (set xs n x) k ≡ slice_get xs k
set_other [] n k x d = refl
set_other (y ∷ xs) zero zero x d = absurd (d refl)
set_other (y ∷ xs) zero (suc k) x d = refl
set_other (y ∷ xs) (suc n) zero x d = refl
set_other (y ∷ xs) (suc n) (suc k) x d = set_other xs n k x (λ e. d (ap suc e))

-- the row of a node, with one slot set
row_here : {A : Type 0} (rows : List (List A)) (n i : ℕ) (x : A) → slice_index_or (set rows n (set (slice_index_or rows n []) i x)) n [] ≡ set (slice_index_or rows n []) i x
row_here [] n i x = refl
row_here (r ∷ rows) zero i x = refl
row_here (r ∷ rows) (suc n) i x = row_here rows n i x

row_other : {A : Type 0} (rows : List (List A)) (n k : ℕ) (row : List A) → k ≢ n → slice_index_or (set rows n row) k [] ≡ slice_index_or rows k []
row_other [] n k row d = refl
row_other (r ∷ rows) zero zero row d = absurd (d refl)
row_other (r ∷ rows) zero (suc k) row d = refl
row_other (r ∷ rows) (suc n) zero row d = refl
row_other (r ∷ rows) (suc n) (suc k) row d = row_other rows n k row (λ e. d (ap suc e))

-- rows that are kept as vectors
items_set : {A : Type 0} (rows : List (Vec A Global)) (n : ℕ) (row : Vec A Global) → map (λ r. r.items) (set rows n row) ≡ set (map (λ r. r.items) rows) n row.items
items_set [] n row = refl
items_set (r ∷ rows) zero row = refl
items_set (r ∷ rows) (suc n) row = ap (λ rs. r.items ∷ rs) (items_set rows n row)

items_at : {A : Type 0} (rows : List (Vec A Global)) (n : ℕ) (d : Vec A Global) → n < length rows → slice_index_or (map (λ r. r.items) rows) n [] ≡ (slice_index_or rows n d).items
items_at [] n d h = absurd (omega (arith, h))
items_at (r ∷ rows) zero d h = refl
items_at (r ∷ rows) (suc n) d h = items_at rows n d (omega (arith, h))

count_items : {A : Type 0} (rows : List (Vec A Global)) → length (map (λ r. r.items) rows) ≡ length rows
count_items [] = refl
count_items (r ∷ rows) = ap suc (count_items rows)

pub no_items : {A : Type 0} (xs : List A) → length xs ≡ 0 → xs ≡ []
no_items [] e = refl
no_items (x ∷ xs) e = absurd (omega (arith, e))

-- ---- one value

module _ {V : Type 0} where
  -- where there is no row
  pub no_row : (rows : List (Vec (Option V) Global)) (roots : List (Option V)) (n i : ℕ) (v : V) → length rows ≤ n → slots_of rows roots ≡ with_value (slots_of rows roots) (Input n i) v
  no_row rows roots n i v past =
      let count : length (map (λ r. r.items) rows) ≡ length rows = count_items rows in
      ap (λ rs. record { rows = rs; roots = roots }) (sym (set_past (map (λ r. r.items) rows) n (set (slice_index_or (map (λ r. r.items) rows) n []) i (Some v)) (omega (arith, past, count))))

  -- where there is one
  pub one_row : (rows : List (Vec (Option V) Global)) (roots : List (Option V)) (n i : ℕ) (v : V) (row d : Vec (Option V) Global) → n < length rows → d ≡ slice_index_or rows n d → row.items ≡ set d.items i (Some v)
      → slots_of (set rows n row) roots ≡ with_value (slots_of rows roots) (Input n i) v
  one_row rows roots n i v row d inside is e =
      let old : slice_index_or (map (λ r. r.items) rows) n [] ≡ d.items = items_at rows n d inside ∙ ap (λ r. r.items) (sym is) in
      ap (λ rs. record { rows = rs; roots = roots })
      (items_set rows n row ∙ ap (λ xs. set (map (λ r. r.items) rows) n xs) (e ∙ ap (λ xs. set xs i (Some v)) (sym old)))

  value_here : (s : Slots V) (p : Place) (v : V) → slot_at (with_value s p v) p ≡ option_map (λ slot. Some v) (slot_at s p)
  value_here s (Input n i) v = ap (λ row. slice_get row i) (row_here s.rows n i (Some v)) ∙ set_here (slice_index_or s.rows n []) i (Some v)
  value_here s (Root r) v = set_here s.roots r (Some v)

  value_other : (s : Slots V) (p q : Place) (v : V) → q ≢ p → slot_at (with_value s p v) q ≡ slot_at s q
  value_other s (Input n i) (Root r) v d = refl
  value_other s (Root r) (Input n i) v d = refl
  value_other s (Root r) (Root t) v d = set_other s.roots r t (Some v) (λ e. d (ap Root e))
  value_other s (Input n i) (Input k j) v d = elim (same_number k n) [
    | inr o ↦ ap (λ row. slice_get row j) (row_other s.rows n k (set (slice_index_or s.rows n []) i (Some v)) o)
    | inl e ↦
        ap (λ row. slice_get row j) (ap (λ x. slice_index_or (set s.rows n (set (slice_index_or s.rows n []) i (Some v))) x []) e ∙ row_here s.rows n i (Some v))
        ∙ set_other (slice_index_or s.rows n []) i j (Some v) (λ f. d (λ t. Input (e t) (f t)))
        ∙ ap (λ x. slice_get (slice_index_or s.rows x []) j) (sym e)
  ]

  -- ---- one after the other

  pub no_more : (s : Slots V) (places : List (Option Place)) → with_outputs s places [] ≡ s
  no_more s [] = refl
  no_more s (place ∷ places) = refl

  no_place : (s : Slots V) (vs : List V) → with_outputs s [] vs ≡ s
  no_place s [] = refl
  no_place s (v ∷ vs) = refl

  pub outputs_step : (s all : Slots V) (places : List (Option Place)) (n : ℕ) (v : V) (vs : List V) → with_outputs s (drop n places) (v ∷ vs) ≡ all
      → with_outputs (with_itself s (slice_index_or places n None) v) (drop (suc n) places) vs ≡ all
  outputs_step s all [] zero v vs before = no_place s vs ∙ before
  outputs_step s all [] (suc n) v vs before = no_place s vs ∙ before
  outputs_step s all (place ∷ places) zero v vs before = before
  outputs_step s all (place ∷ places) (suc n) v vs before = outputs_step s all places n v vs before

-- ---- all that is due

module _ {V W : Type 0} (content : V → W) (due : Place → Option W) where
  abbrev seen_at : Slots V → Place → Option (Option W)
  seen_at s p = option_map (option_map content) (slot_at s p)

  abbrev expected : Slots V → Place → Option (Option W)
  expected s p = option_map (or_as_before (due p)) (seen_at s p)

  -- each slot is as before, or has what is due
  abbrev GoOn : Slots V → Slots V → Type 0
  GoOn s s' = (p : Place) → (seen_at s' p ≡ seen_at s p) ⊎ (seen_at s' p ≡ expected s p)

  abbrev Got : Slots V → Slots V → Place → Type 0
  Got s s' p = seen_at s' p ≡ expected s p

  twice_mapped : (o : Option (Option V)) (v : V) → option_map (option_map content) (option_map (λ slot. Some v) o) ≡ option_map (λ slot. Some (content v)) (option_map (option_map content) o)
  twice_mapped None v = refl
  twice_mapped (Some slot) v = refl

  due_mapped : (o : Option (Option W)) (w : W) → option_map (λ slot. Some w) o ≡ option_map (or_as_before (Some w)) o
  due_mapped None w = refl
  due_mapped (Some slot) w = refl

  over_mapped : (o : Option (Option W)) (w : W) → option_map (λ slot. Some w) (option_map (or_as_before (Some w)) o) ≡ option_map (or_as_before (Some w)) o
  over_mapped None w = refl
  over_mapped (Some slot) w = refl

  not_due : (o : Option (Option W)) → option_map (or_as_before None) o ≡ o
  not_due None = refl
  not_due (Some slot) = refl

  -- what is said of the slot that gets a value, and of the others
  put_here : (s t : Slots V) (p : Place) (v : V) → due p ≡ Some (content v) → GoOn s t → Got s (with_value t p v) p
  put_here s t p v is before =
      ap (option_map (option_map content)) (value_here t p v)
      ∙ twice_mapped (slot_at t p) v
      ∙ elim (before p) [
        | inl e ↦ ap (option_map (λ slot. Some (content v))) e ∙ due_mapped (seen_at s p) (content v) ∙ ap (λ d. option_map (or_as_before d) (seen_at s p)) (sym is)
        | inr e ↦ ap (option_map (λ slot. Some (content v))) (e ∙ ap (λ d. option_map (or_as_before d) (seen_at s p)) is) ∙ over_mapped (seen_at s p) (content v) ∙ ap (λ d. option_map (or_as_before d) (seen_at s p)) (sym is)
      ]

  put_on : (s t : Slots V) (p : Place) (v : V) → due p ≡ Some (content v) → GoOn s t → GoOn s (with_value t p v)
  put_on s t p v is before q = elim (same_place q p) [
    | inl e ↦ inr (subst (λ x. Got s (with_value t p v) x) (sym e) (put_here s t p v is before))
    | inr d ↦ subst (λ o. (option_map (option_map content) o ≡ seen_at s q) ⊎ (option_map (option_map content) o ≡ expected s q)) (sym (value_other t p q v d)) (before q)
  ]

  put_got : (s t : Slots V) (p q : Place) (v : V) → due p ≡ Some (content v) → GoOn s t → Got s t q → Got s (with_value t p v) q
  put_got s t p q v is before got = elim (same_place q p) [
    | inl e ↦ subst (λ x. Got s (with_value t p v) x) (sym e) (put_here s t p v is before)
    | inr d ↦ ap (option_map (option_map content)) (value_other t p q v d) ∙ got
  ]

  abbrev AreDue : List (Second V) → Type 0
  AreDue xs = (x : Second V) → Has xs x → due x.place ≡ Some (content x.value)

  seconds_on : (s t : Slots V) (xs : List (Second V)) → AreDue xs → GoOn s t
      → GoOn s (with_seconds t xs) × (((q : Place) → Got s t q → Got s (with_seconds t xs) q) × ((x : Second V) → Has xs x → Got s (with_seconds t xs) x.place))
  seconds_on s t [] right before = (before, ((λ q got. got), (λ x h. absurd h)))
  seconds_on s t (y ∷ xs) right before =
      let is : due y.place ≡ Some (content y.value) = right y (inl refl) in
      let rest = seconds_on s (with_value t y.place y.value) xs (λ x h. right x (inr h)) (put_on s t y.place y.value is before) in
      (rest.0, ((λ q got. rest.1.0 q (put_got s t y.place q y.value is before got)), by rest.1))
    where
      by : ((q : Place) → Got s (with_value t y.place y.value) q → Got s (with_seconds (with_value t y.place y.value) xs) q) × ((x : Second V) → Has xs x → Got s (with_seconds (with_value t y.place y.value) xs) x.place)
          → (x : Second V) → Has (y ∷ xs) x → Got s (with_seconds (with_value t y.place y.value) xs) x.place
      by rest x (inl e) = subst (λ z. Got s (with_seconds (with_value t y.place y.value) xs) z.place) (sym e) (rest.0 y.place (put_here s t y.place y.value (right y (inl refl)) before))
      by rest x (inr h) = rest.1 x h

  -- the outputs are for places at which they are due
  abbrev AreFor : List (Option Place) → List V → Type 0
  AreFor places vs = (k : ℕ) (p : Place) (v : V) → slice_get places k ≡ Some (Some p) → slice_get vs k ≡ Some v → due p ≡ Some (content v)

  abbrev AllGot : Slots V → Slots V → List (Option Place) → List V → Type 0
  AllGot s s' places vs = (k : ℕ) (p : Place) (v : V) → slice_get places k ≡ Some (Some p) → slice_get vs k ≡ Some v → Got s s' p

  -- after one output and then the others
  more_got : (s t : Slots V) (place : Option Place) (places : List (Option Place)) (v : V) (vs : List V) → ((p : Place) → place ≡ Some p → Got s t p) → AllGot s t places vs → AllGot s t (place ∷ places) (v ∷ vs)
  more_got s t place places v vs first rest zero p w e f = first p (some_same e)
  more_got s t place places v vs first rest (suc k) p w e f = rest k p w e f

  outputs_on : (s t : Slots V) (places : List (Option Place)) (vs : List V) → AreFor places vs → GoOn s t
      → GoOn s (with_outputs t places vs) × (((q : Place) → Got s t q → Got s (with_outputs t places vs) q) × AllGot s (with_outputs t places vs) places vs)
  outputs_on s t [] [] right before = (before, ((λ q got. got), (λ k p v e f. cc)))
  outputs_on s t [] (w ∷ vs) right before = (before, ((λ q got. got), (λ k p v e f. cc)))
  outputs_on s t (place ∷ places) [] right before = (before, ((λ q got. got), (λ k p v e f. cc)))
  outputs_on s t (None ∷ places) (w ∷ vs) right before =
      let rest = outputs_on s t places vs (λ k p v e f. right (suc k) p v e f) before in
      (rest.0, (rest.1.0, more_got s (with_outputs t places vs) None places w vs (λ p e. cc) rest.1.1))
  outputs_on s t (Some place ∷ places) (w ∷ vs) right before =
      let is : due place ≡ Some (content w) = right 0 place w refl refl in
      let rest = outputs_on s (with_value t place w) places vs (λ k p v e f. right (suc k) p v e f) (put_on s t place w is before) in
      let here : Got s (with_outputs (with_value t place w) places vs) place = rest.1.0 place (put_here s t place w is before) in (
        rest.0,
        (
          (λ q got. rest.1.0 q (put_got s t place q w is before got)),
          more_got s (with_outputs (with_value t place w) places vs) (Some place) places w vs (λ p e. subst (Got s (with_outputs (with_value t place w) places vs)) (some_same e) here) rest.1.1,
        ),
      )

  -- seconds and outputs together, where each place at which something is due has one of them
  pub all_delivered : (s : Slots V) (xs : List (Second V)) (places : List (Option Place)) (vs : List V) → AreDue xs → AreFor places vs
      → ((p : Place) (w : W) → due p ≡ Some w → ((x : Second V) × Has xs x × (x.place ≡ p)) ⊎ ((k : ℕ) × (v : V) × (slice_get places k ≡ Some (Some p)) × (slice_get vs k ≡ Some v)))
      → Delivers content due s (with_outputs (with_seconds s xs) places vs)
  all_delivered s xs places vs seconds outputs all p = by (due p) refl
    where
      first : GoOn s (with_seconds s xs) × (((q : Place) → Got s s q → Got s (with_seconds s xs) q) × ((x : Second V) → Has xs x → Got s (with_seconds s xs) x.place))
      first = seconds_on s s xs seconds (λ q. inl refl)

      then : GoOn s (with_outputs (with_seconds s xs) places vs) × (((q : Place) → Got s (with_seconds s xs) q → Got s (with_outputs (with_seconds s xs) places vs) q) × AllGot s (with_outputs (with_seconds s xs) places vs) places vs)
      then = outputs_on s (with_seconds s xs) places vs outputs first.0

      by : (d : Option W) → due p ≡ d → Got s (with_outputs (with_seconds s xs) places vs) p
      by None e = elim (then.0 p) [
        | inl f ↦ f ∙ sym (not_due (seen_at s p)) ∙ ap (λ d. option_map (or_as_before d) (seen_at s p)) (sym e)
        | inr f ↦ f
      ]
      by (Some w) e = elim (all p w e) [
        | inl x ↦ subst (Got s (with_outputs (with_seconds s xs) places vs)) x.2 (then.1.0 x.0.place (first.1.1 x.0 x.1))
        | inr k ↦ then.1.1 k.0 p k.1 k.2 k.3
      ]
