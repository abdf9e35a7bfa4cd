-- One link more that is looked at.
use Rattle.std.proofs.Common.{◌≡◌, ◌≢◌, ◌⊎◌, inl, inr, ℕ, zero, suc, ◌<◌, Bool, true, false, List, [], ◌∷◌, ◌++◌, map, length, set, Some, refl, sym, ap, ◌∙◌, subst, true≢false, arith}
use Rattle.std.specs.Prelude.{slice_index_or}
use Rattle.std.proofs.lemmas.List.{length-map}
use Rattle.std.specs.declared.alloc.Global.{Global}
use Rattle.std.specs.declared.vec.Vec.{Vec}
use Rattle.gn_lazy.specs.Graphs.{Nodes}
use Rattle.gn_lazy.specs.declared.graph.Origin.{Origin}
use Rattle.gn_lazy.specs.declared.graph.Origin.TheVariants.{Input, Constant, Out}
use Rattle.gn_lazy.specs.declared.graph.Link.{Link}
use Rattle.gn_node_set.specs.Meanings.{Has, AllDiffer}
use Rattle.gn_node_set.proofs.Lists.{some_same, map_append, has_first, has_second, has_either, image_of, differ_joined}
use Rattle.gn_readers.specs.declared.place.Place.{Place}
use Rattle.gn_readers.specs.declared.place.Place.TheVariants as place
use Rattle.gn_readers.specs.declared.place.Reader.{Reader}
use Rattle.gn_readers.specs.Readers.{lists_of, link_at, LeadsTo, AreReadersAt, HaveReadersAt, IsOneMore}

-- ---- places are the same or not

pub same_number : (n k : ℕ) → (n ≡ k) ⊎ (n ≢ k)
same_number zero zero = inl refl
same_number zero (suc k) = inr (λ e. let bad : 0 ≡ suc k = e in omega (arith, bad))
same_number (suc n) zero = inr (λ e. let bad : suc n ≡ 0 = e in omega (arith, bad))
same_number (suc n) (suc k) = elim (same_number n k) [
  | inl e ↦ inl (ap suc e)
  | inr d ↦ inr (λ e. d (let same : n ≡ k = omega (arith, e) in same))
]

abbrev node_in : Place → ℕ
node_in (place.Input n i) = n
node_in (place.Root r) = 0

abbrev number_in : Place → ℕ
number_in (place.Input n i) = i
number_in (place.Root r) = r

abbrev is_input : Place → Bool
is_input (place.Input n i) = true
is_input (place.Root r) = false

pub same_place : (p q : Place) → (p ≡ q) ⊎ (p ≢ q)
same_place (place.Input n i) (place.Input m j) = elim (same_number n m) [
  | inl e ↦ elim (same_number i j) [
    | inl f ↦ inl (λ t. place.Input (e t) (f t))
    | inr d ↦ inr (λ g. d (ap number_in g))
  ]
  | inr d ↦ inr (λ g. d (ap node_in g))
]
same_place (place.Input n i) (place.Root r) = inr (λ g. true≢false (ap is_input g))
same_place (place.Root r) (place.Input n i) = inr (λ g. true≢false (sym (ap is_input g)))
same_place (place.Root r) (place.Root s) = elim (same_number r s) [
  | inl e ↦ inl (ap place.Root e)
  | inr d ↦ inr (λ g. d (ap number_in g))
]

abbrev node_of : Origin → ℕ
node_of Input = 0
node_of (Constant slot) = 0
node_of (Out n s) = n

abbrev socket_of : Origin → ℕ
socket_of Input = 0
socket_of (Constant slot) = 0
socket_of (Out n s) = s

-- ---- the readers of one node

module _ {G : Type 0} (g : Nodes G) (looked looked' : Place → Bool) (at : Place) (more : IsOneMore looked at looked') (link : Link) (is : link_at g at ≡ Some link) where
  other : (p : Place) → looked p ≡ true → p ≢ at
  other p t e = true≢false (sym t ∙ ap looked e ∙ more.new)

  still : (p : Place) → looked p ≡ true → looked' p ≡ true
  still p t = more.others p (other p t) ∙ t

  leads_as : (n : ℕ) (r : Reader) → LeadsTo g n r → r.place ≡ at → link.origin ≡ Out n r.output
  leads_as n r l e = let same : l.0 ≡ link = some_same (sym l.1 ∙ ap (link_at g) e ∙ is) in ap (λ x. x.origin) (sym same) ∙ l.2

  -- a link that leads elsewhere is no reader
  pub none_more : (n : ℕ) (rs : List Reader) → AreReadersAt g looked n rs → ((s : ℕ) → link.origin ≢ Out n s) → AreReadersAt g looked' n rs
  none_more n rs are elsewhere = record {
    each = λ r. (λ h. let l = (are.each r).0 h in (still r.place l.0, l.1), λ l. (are.each r).1 (sym (more.others r.place (λ e. elsewhere r.output (leads_as n r l.1 e))) ∙ l.0, l.1));
    differ = are.differ;
  }

  -- one that leads to the node is one more
  pub one_more : (n s : ℕ) (rs : List Reader) → AreReadersAt g looked n rs → link.origin ≡ Out n s → AreReadersAt g looked' n (rs ++ record { output = s; place = at } ∷ [])
  one_more n s rs are leads = record {
    each = λ r. (forth r, back r);
    differ = subst AllDiffer (sym (map_append (λ r. r.place) rs (new ∷ []))) (differ_joined (map (λ r. r.place) rs) (at ∷ []) are.differ ((λ h. h), tt) apart);
  }
    where
      new : Reader
      new = record { output = s; place = at }

      forth : (r : Reader) → Has (rs ++ new ∷ []) r → (looked' r.place ≡ true) × LeadsTo g n r
      forth r h = elim (has_either rs (new ∷ []) r h) [
        | inl a ↦ let l = (are.each r).0 a in (still r.place l.0, l.1)
        | inr b ↦ by b
      ]
        where
          by : Has (new ∷ []) r → (looked' r.place ≡ true) × LeadsTo g n r
          by (inl e) = subst (λ x. (looked' x.place ≡ true) × LeadsTo g n x) (sym e) (more.here, (link, is, leads))
          by (inr f) = absurd f

      back : (r : Reader) → (looked' r.place ≡ true) × LeadsTo g n r → Has (rs ++ new ∷ []) r
      back r l = elim (same_place r.place at) [
        | inl e ↦
            let output : r.output ≡ s = ap socket_of (sym (leads_as n r l.1 e) ∙ leads) in
            has_second rs (new ∷ []) r (inl (λ t. record { output = output t; place = e t }))
        | inr d ↦ has_first rs (new ∷ []) r ((are.each r).1 (sym (more.others r.place d) ∙ l.0, l.1))
      ]

      apart : (p : Place) → Has (map (λ r. r.place) rs) p → Has (at ∷ []) p → ⊥
      apart p h (inl e) =
          let r : (r : Reader) × Has rs r × (p ≡ r.place) = image_of (λ x. x.place) rs p h in
          let t : looked r.0.place ≡ true = ((are.each r.0).0 r.1).0 in
          other r.0.place t (sym r.2 ∙ e)
      apart p h (inr f) = absurd f

  -- ---- those of all nodes

  pub none_noted : (rows : List (List Reader)) → HaveReadersAt g looked rows → ((n s : ℕ) → n < length g.nodes → link.origin ≢ Out n s) → HaveReadersAt g looked' rows
  none_noted rows have elsewhere = record { all = have.all; each_node = λ n below. none_more n (slice_index_or rows n []) (have.each_node n below) (λ s. elsewhere n s below) }

  pub one_noted : (rows rows' : List (List Reader)) (k s : ℕ) → HaveReadersAt g looked rows → link.origin ≡ Out k s → length rows' ≡ length rows
      → slice_index_or rows' k [] ≡ slice_index_or rows k [] ++ record { output = s; place = at } ∷ [] → ((n : ℕ) → n ≢ k → slice_index_or rows' n [] ≡ slice_index_or rows n []) → HaveReadersAt g looked' rows'
  one_noted rows rows' k s have leads len here others = record { all = len ∙ have.all; each_node = λ n below. by n below (same_number n k) }
    where
      by : (n : ℕ) → n < length g.nodes → (n ≡ k) ⊎ (n ≢ k) → AreReadersAt g looked' n (slice_index_or rows' n [])
      by n below (inl e) =
          let row : slice_index_or rows' n [] ≡ slice_index_or rows n [] ++ record { output = s; place = at } ∷ [] =
          ap (λ j. slice_index_or rows' j []) e ∙ here ∙ ap (λ j. slice_index_or rows j [] ++ record { output = s; place = at } ∷ []) (sym e) in
          subst (AreReadersAt g looked' n) (sym row) (one_more n s (slice_index_or rows n []) (have.each_node n below) (leads ∙ ap (λ j. Out j s) (sym e)))
      by n below (inr d) =
          subst (AreReadersAt g looked' n) (sym (others n d)) (none_more n (slice_index_or rows n []) (have.each_node n below) (λ t e. d (ap node_of (sym e ∙ leads))))

-- ---- rows that are kept as vectors

pub row_set : {A : Type 0} (rows : List (Vec A Global)) (k : ℕ) (v : Vec A Global) → k < length rows → slice_index_or (lists_of (set rows k v)) k [] ≡ v.items
row_set [] k v h = absurd (omega arith)
row_set (x ∷ rows) zero v h = refl
row_set (x ∷ rows) (suc k) v h = row_set rows k v (omega arith)

pub other_row : {A : Type 0} (rows : List (Vec A Global)) (k n : ℕ) (v : Vec A Global) → n ≢ k → slice_index_or (lists_of (set rows k v)) n [] ≡ slice_index_or (lists_of rows) n []
other_row [] k n v d = refl
other_row (x ∷ rows) zero zero v d = absurd (d refl)
other_row (x ∷ rows) zero (suc n) v d = refl
other_row (x ∷ rows) (suc k) zero v d = refl
other_row (x ∷ rows) (suc k) (suc n) v d = other_row rows k n v (λ e. d (ap suc e))

pub row_there : {A : Type 0} (rows : List (Vec A Global)) (k : ℕ) (d : Vec A Global) → k < length rows → slice_index_or (lists_of rows) k [] ≡ (slice_index_or rows k d).items
row_there [] k d h = absurd (omega arith)
row_there (x ∷ rows) zero d h = refl
row_there (x ∷ rows) (suc k) d h = row_there rows k d (omega arith)

pub lists_counted : {A : Type 0} (rows : List (Vec A Global)) → length (lists_of rows) ≡ length rows
lists_counted rows = length-map rows (λ row. row.items)
