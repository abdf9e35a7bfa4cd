-- Choices and values that come one after the other.
use Rattle.std.proofs.Common.{◌≡◌, ◌≢◌, ◌⊎◌, inl, inr, ℕ, zero, suc, ◌+◌, ◌<◌, ◌≤◌, Bool, true, false, List, [], ◌∷◌, ◌++◌, map, length, set, take, Option, Some, None, refl, sym, ap, ◌∙◌, subst, true≢false, arith}
use Rattle.std.specs.Prelude.{is_some, slice_index_or}
use Rattle.std.proofs.lemmas.List.{length-set}
use Rattle.gn_node_set.specs.Meanings.{Has, Role, Plain, Switch, File, Zone, Choice as MeantChoice}
use Rattle.gn_node_set.proofs.Lists.{has_first, has_second, has_either}
use Rattle.gn_uses.specs.declared.nodes.Choice.{Choice}
use Rattle.gn_nodes.specs.Calls.{choice_as, chosen_as}
use Rattle.gn_uses.specs.Nodes.{Nodes, choice_of, role, choice, filled, with_choice, with_value, IsUndecided}
use Rattle.gn_uses.specs.Uses.{IsUnchosen, HasInput}
use Rattle.gn_readers.specs.declared.place.Place.{Place}
use Rattle.gn_readers.specs.declared.place.Place.TheVariants.{Input, Root}
use Rattle.gn_readers.specs.declared.place.Reader.{Reader}
use Rattle.gn_readers.proofs.Noting.{same_number}
use Rattle.gn_delivery.specs.declared.plan.Chosen.{Chosen}
use Rattle.gn_delivery.specs.Marks.{Chooses, Fills}

-- ---- lists

index_here : {A : Type 0} (xs : List A) (n : ℕ) (x d : A) → n < length xs → slice_index_or (set xs n x) n d ≡ x
index_here [] n x d h = absurd (omega (arith, h))
index_here (y ∷ xs) zero x d h = refl
index_here (y ∷ xs) (suc n) x d h = index_here xs n x d (omega (arith, h))

index_other : {A : Type 0} (xs : List A) (n k : ℕ) (x d : A) → k ≢ n → slice_index_or (set xs n x) k d ≡ slice_index_or xs k d
index_other [] n k x d o = refl
index_other (y ∷ xs) zero zero x d o = absurd (o refl)
index_other (y ∷ xs) zero (suc k) x d o = refl
index_other (y ∷ xs) (suc n) zero x d o = refl
index_other (y ∷ xs) (suc n) (suc k) x d o = index_other xs n k x d (λ e. o (ap suc e))

row_here : {A : Type 0} (rows : List (List A)) (n i : ℕ) (x : A) → slice_index_or (set rows n (set (slice_index_or rows n []) i x)) n [] ≡ set (slice_index_or rows n []) i x
row_here [] n i x = refl
row_here (r ∷ rows) zero i x = refl
row_here (r ∷ rows) (suc n) i x = row_here rows n i x

-- the first items, with the next one
pub with_next : {A : Type 0} (P : List A → Type 0) (xs : List A) (n : ℕ) (d : A) → n < length xs → P (take n xs ++ slice_index_or xs n d ∷ []) → P (take (n + 1) xs)
with_next P xs n d inside p = let one : n + 1 ≡ suc n = omega arith in subst P (sym (ap (λ k. take k xs) one ∙ by xs n inside)) p
  where
    by : (ys : List _) (k : ℕ) → k < length ys → take (suc k) ys ≡ take k ys ++ slice_index_or ys k d ∷ []
    by [] k inside = absurd (omega (arith, inside))
    by (y ∷ ys) zero inside = refl
    by (y ∷ ys) (suc k) inside = ap (λ zs. y ∷ zs) (by ys k (omega (arith, inside)))

pub take_all : {A : Type 0} (xs : List A) (n : ℕ) → length xs ≤ n → take n xs ≡ xs
take_all [] zero past = refl
take_all [] (suc n) past = refl
take_all (x ∷ xs) zero past = absurd (omega (arith, past))
take_all (x ∷ xs) (suc n) past = ap (λ ys. x ∷ ys) (take_all xs n (omega (arith, past)))

-- what is said of each item is said of the next one
pub next_has : {A : Type 0} (P : A → Type 0) (xs : List A) (n : ℕ) (d : A) → n < length xs → ((x : A) → Has xs x → P x) → P (slice_index_or xs n d)
next_has P [] n d inside all = absurd (omega (arith, inside))
next_has P (y ∷ xs) zero d inside all = all y (inl refl)
next_has P (y ∷ xs) (suc n) d inside all = next_has P xs n d (omega (arith, inside)) (λ x h. all x (inr h))

pub same_contents : {A B : Type 0} (f : A → B) (xs : List A) (i : ℕ) (y d : A) → f y ≡ f (slice_index_or xs i d) → map f (set xs i y) ≡ map f xs
same_contents f [] i y d e = refl
same_contents f (x ∷ xs) zero y d e = ap (λ z. z ∷ map f xs) e
same_contents f (x ∷ xs) (suc i) y d e = ap (λ zs. f x ∷ zs) (same_contents f xs i y d e)

-- ---- choices

abbrev with_choices : List (Option Choice) → Nodes → Nodes
with_choices made g = record g { choices = made }

abbrev with_filled : List (List Bool) → Nodes → Nodes
with_filled rows g = record g { filled = rows }

-- what a node that has chosen has chosen by
pub choice_made : (r : Role) (made : Option Choice) (c : Choice) (x : MeantChoice) → made ≡ Some c → choice_of made ≡ choice_as r true x → is_some made ≡ chosen_as r true → (r ≡ Switch) × (choice_of (Some c) ≡ x)
choice_made Switch made c x is e f = (refl, ap choice_of (sym is) ∙ e)
choice_made Plain made c x is e f = absurd (true≢false (ap is_some (sym is) ∙ f))
choice_made File made c x is e f = absurd (true≢false (ap is_some (sym is) ∙ f))
choice_made Zone made c x is e f = absurd (true≢false (ap is_some (sym is) ∙ f))

pub none_chosen : (g : Nodes) → Chooses g [] g
none_chosen g = record { same = refl; len = refl; each = λ n. inl refl; all = λ c h u. absurd h }

pub not_chosen : (g : Nodes) (c : Chosen) → (¬ IsUnchosen g c.node) → Chooses g (c ∷ []) g
not_chosen g c had = record { same = refl; len = refl; each = λ n. inl refl; all = by }
  where
    by : (d : Chosen) → Has (c ∷ []) d → IsUnchosen g d.node → is_some (choice g d.node) ≡ true
    by d (inl e) u = absurd (had (subst (λ x. IsUnchosen g x.node) e u))
    by d (inr f) u = absurd f

pub one_chosen : (g : Nodes) (c : Chosen) → c.node < length g.choices → Chooses g (c ∷ []) (with_choice g c.node c.choice)
one_chosen g c inside = record {
  same = refl;
  len = length-set g.choices c.node (Some c.choice);
  each = λ n. by n (same_number n c.node);
  all = all;
}
  where
    here : choice (with_choice g c.node c.choice) c.node ≡ Some c.choice
    here = index_here g.choices c.node (Some c.choice) None inside

    by : (n : ℕ) → (n ≡ c.node) ⊎ (n ≢ c.node) → (choice (with_choice g c.node c.choice) n ≡ choice g n) ⊎ ((d : Chosen) × Has (c ∷ []) d × (d.node ≡ n) × (choice (with_choice g c.node c.choice) n ≡ Some d.choice))
    by n (inl e) = inr (c, inl refl, sym e, ap (choice (with_choice g c.node c.choice)) e ∙ here)
    by n (inr o) = inl (index_other g.choices c.node n (Some c.choice) None o)

    all : (d : Chosen) → Has (c ∷ []) d → IsUnchosen g d.node → is_some (choice (with_choice g c.node c.choice) d.node) ≡ true
    all d (inl e) u = ap (λ x. is_some (choice (with_choice g c.node c.choice) x.node)) e ∙ ap is_some here
    all d (inr f) u = absurd f

pub more_chosen : (g g' g'' : Nodes) (cs : List Chosen) (c : Chosen) → Chooses g cs g' → Chooses g' (c ∷ []) g'' → Chooses g (cs ++ c ∷ []) g''
more_chosen g g' g'' cs c first then = record {
  same = then.same ∙ ap (with_choices g''.choices) first.same;
  len = then.len ∙ first.len;
  each = λ n. each n (then.each n) (first.each n);
  all = all;
}
  where
    each : (n : ℕ) → (choice g'' n ≡ choice g' n) ⊎ ((d : Chosen) × Has (c ∷ []) d × (d.node ≡ n) × (choice g'' n ≡ Some d.choice)) → (choice g' n ≡ choice g n) ⊎ ((d : Chosen) × Has cs d × (d.node ≡ n) × (choice g' n ≡ Some d.choice))
        → (choice g'' n ≡ choice g n) ⊎ ((d : Chosen) × Has (cs ++ c ∷ []) d × (d.node ≡ n) × (choice g'' n ≡ Some d.choice))
    each n (inl e) (inl f) = inl (e ∙ f)
    each n (inl e) (inr d) = inr (d.0, has_first cs (c ∷ []) d.0 d.1, d.2, e ∙ d.3)
    each n (inr d) before = inr (d.0, has_second cs (c ∷ []) d.0 d.1, d.2, d.3)

    -- a node that has chosen stays so
    stays : (n : ℕ) → is_some (choice g' n) ≡ true → is_some (choice g'' n) ≡ true
    stays n has = elim (then.each n) [
      | inl e ↦ ap is_some e ∙ has
      | inr d ↦ ap is_some d.3
    ]

    unchosen : (n : ℕ) → choice g' n ≡ choice g n → IsUnchosen g n → IsUnchosen g' n
    unchosen n e u = record {
      there = subst (λ k. n < k) (sym (ap (λ x. length x.sizes) first.same)) u.there;
      undecided = subst (λ r. IsUndecided r (choice g' n)) (sym (ap (λ x. role x n) first.same)) (subst (IsUndecided (role g n)) (sym e) u.undecided);
    }

    all : (d : Chosen) → Has (cs ++ c ∷ []) d → IsUnchosen g d.node → is_some (choice g'' d.node) ≡ true
    all d h u = elim (has_either cs (c ∷ []) d h) [
      | inl a ↦ stays d.node (first.all d a u)
      | inr b ↦ elim (first.each d.node) [
        | inl e ↦ then.all d b (unchosen d.node e u)
        | inr x ↦ stays d.node (ap is_some x.3)
      ]
    ]

-- ---- values

pub none_filled : (g : Nodes) → Fills g [] g
none_filled g = record { same = refl; len = refl; inputs = λ n. refl; each = λ n i. inl refl; all = λ r n i h. absurd h }

root_filled : (g : Nodes) (r : Reader) → ((n i : ℕ) → r.place ≢ Input n i) → Fills g (r ∷ []) g
root_filled g r root = record { same = refl; len = refl; inputs = λ n. refl; each = λ n i. inl refl; all = by }
  where
    by : (q : Reader) (n i : ℕ) → Has (r ∷ []) q → q.place ≡ Input n i → slice_index_or (filled g n) i false ≡ true
    by q n i (inl e) is = absurd (root n i (ap (λ x. x.place) (sym e) ∙ is))
    by q n i (inr f) is = absurd f

pub root_stays : (g : Nodes) (r : Reader) (root : ℕ) → r.place ≡ Root root → Fills g (r ∷ []) g
root_stays g r root is = root_filled g r (λ n i e. let bad : Root root ≡ Input n i = sym is ∙ e in cc)

abbrev node_in : Place → ℕ
node_in (Input n i) = n
node_in (Root r) = 0

abbrev input_in : Place → ℕ
input_in (Input n i) = i
input_in (Root r) = 0

pub one_filled : (g : Nodes) (r : Reader) (n i : ℕ) → r.place ≡ Input n i → i < length (filled g n) → Fills g (r ∷ []) (with_value g n i)
one_filled g r n i is inside = record {
  same = refl;
  len = length-set g.filled n (set (filled g n) i true);
  inputs = λ k. inputs k (same_number k n);
  each = λ k j. each k j (same_number k n) (same_number j i);
  all = all;
}
  where
    row : filled (with_value g n i) n ≡ set (filled g n) i true
    row = row_here g.filled n i true

    here : slice_index_or (filled (with_value g n i) n) i false ≡ true
    here = ap (λ xs. slice_index_or xs i false) row ∙ index_here (filled g n) i true false inside

    other : (k : ℕ) → k ≢ n → filled (with_value g n i) k ≡ filled g k
    other k o = index_other g.filled n k (set (filled g n) i true) [] o

    inputs : (k : ℕ) → (k ≡ n) ⊎ (k ≢ n) → length (filled (with_value g n i) k) ≡ length (filled g k)
    inputs k (inl e) = ap (λ x. length (filled (with_value g n i) x)) e ∙ ap length row ∙ length-set (filled g n) i true ∙ ap (λ x. length (filled g x)) (sym e)
    inputs k (inr o) = ap length (other k o)

    each : (k j : ℕ) → (k ≡ n) ⊎ (k ≢ n) → (j ≡ i) ⊎ (j ≢ i) → (slice_index_or (filled (with_value g n i) k) j false ≡ slice_index_or (filled g k) j false) ⊎ (((q : Reader) × Has (r ∷ []) q × (q.place ≡ Input k j)) × (slice_index_or (filled (with_value g n i) k) j false ≡ true))
    each k j (inr o) x = inl (ap (λ xs. slice_index_or xs j false) (other k o))
    each k j (inl e) (inr o) = inl (ap (λ x. slice_index_or (filled (with_value g n i) x) j false) e ∙ ap (λ xs. slice_index_or xs j false) row ∙ index_other (filled g n) i j true false o ∙ ap (λ x. slice_index_or (filled g x) j false) (sym e))
    each k j (inl e) (inl f) = inr ((r, inl refl, is ∙ sym (λ t. Input (e t) (f t))), ap (λ x. slice_index_or (filled (with_value g n i) x) j false) e ∙ ap (λ x. slice_index_or (filled (with_value g n i) n) x false) f ∙ here)

    all : (q : Reader) (k j : ℕ) → Has (r ∷ []) q → q.place ≡ Input k j → slice_index_or (filled (with_value g n i) k) j false ≡ true
    all q k j (inl e) f =
        let same : Input k j ≡ Input n i = sym f ∙ ap (λ x. x.place) e ∙ is in
        ap (λ x. slice_index_or (filled (with_value g n i) x) j false) (ap node_in same) ∙ ap (λ x. slice_index_or (filled (with_value g n i) n) x false) (ap input_in same) ∙ here
    all q k j (inr f) e = absurd f

pub more_filled : (g g' g'' : Nodes) (rs : List Reader) (r : Reader) → Fills g rs g' → Fills g' (r ∷ []) g'' → Fills g (rs ++ r ∷ []) g''
more_filled g g' g'' rs r first then = record {
  same = then.same ∙ ap (with_filled g''.filled) first.same;
  len = then.len ∙ first.len;
  inputs = λ n. then.inputs n ∙ first.inputs n;
  each = λ n i. each n i (then.each n i) (first.each n i);
  all = λ q n i h e. elim (has_either rs (r ∷ []) q h) [
    | inl a ↦ stays n i (first.all q n i a e)
    | inr b ↦ then.all q n i b e
  ];
}
  where
    each : (n i : ℕ) → (slice_index_or (filled g'' n) i false ≡ slice_index_or (filled g' n) i false) ⊎ (((q : Reader) × Has (r ∷ []) q × (q.place ≡ Input n i)) × (slice_index_or (filled g'' n) i false ≡ true))
        → (slice_index_or (filled g' n) i false ≡ slice_index_or (filled g n) i false) ⊎ (((q : Reader) × Has rs q × (q.place ≡ Input n i)) × (slice_index_or (filled g' n) i false ≡ true))
        → (slice_index_or (filled g'' n) i false ≡ slice_index_or (filled g n) i false) ⊎ (((q : Reader) × Has (rs ++ r ∷ []) q × (q.place ≡ Input n i)) × (slice_index_or (filled g'' n) i false ≡ true))
    each n i (inl e) (inl f) = inl (e ∙ f)
    each n i (inl e) (inr q) = inr ((q.0.0, has_first rs (r ∷ []) q.0.0 q.0.1, q.0.2), e ∙ q.1)
    each n i (inr q) before = inr ((q.0.0, has_second rs (r ∷ []) q.0.0 q.0.1, q.0.2), q.1)

    stays : (n i : ℕ) → slice_index_or (filled g' n) i false ≡ true → slice_index_or (filled g'' n) i false ≡ true
    stays n i has = elim (then.each n i) [
      | inl e ↦ e ∙ has
      | inr q ↦ q.1
    ]

-- an input stays one
pub input_stays : (g g' : Nodes) (rs : List Reader) (n i : ℕ) → Fills g rs g' → HasInput g n i → HasInput g' n i
input_stays g g' rs n i fills has = record {
  there = subst (λ k. n < k) (sym (ap (λ x. length x.sizes) fills.same)) has.there;
  input = subst (λ k. i < k) (sym (fills.inputs n)) has.input;
}
