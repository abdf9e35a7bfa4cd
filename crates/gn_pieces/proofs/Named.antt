-- Columns that are found by their names.
use Rattle.std.proofs.Common.{◌≡◌, inl, inr, ℕ, Bool, true, false, cond, List, [], ◌∷◌, ◌++◌, map, Option, Some, None, option_map, is_some, refl, sym, ap, ap₂, ◌∙◌}
use Rattle.std.specs.Prelude.{◌==◌, ◌&&◌, if◌then◌else◌}
use Rattle.std.proofs.lemmas.Bool.Decides.{eqb_tells}
use Rattle.std.proofs.lemmas.Slice.Eq.{bytes_eq-Decides}
use Rattle.gn_node_set.specs.Paths.{Path, same_path}
use Rattle.gn_node_set.proofs.Paths.{path_tells}
use Rattle.gn_value.specs.declared.value.Place.{Place}
use Rattle.gn_plain.specs.Columns.{Name, named, anonymous, same_name, Entry, Column, entry_named, over}
use Rattle.gn_joins.specs.Realized.{repeated, with_handed}

-- ---- names

path_is : (p q : Path) → same_path p q ≡ true → p ≡ q
path_is p q h = elim (path_tells p q) [ inl t ↦ t.1 | inr t ↦ (let no : true ≡ false = sym h ∙ t.0 in cc) ]

number_is : (s t : ℕ) → (s == t) ≡ true → s ≡ t
number_is s t h = elim (eqb_tells s t) [ inl e ↦ e.1 | inr e ↦ (let no : true ≡ false = sym h ∙ e.0 in cc) ]

both_true : (a b : Bool) → a && b ≡ true → (a ≡ true) × (b ≡ true)
both_true true b h = (refl, h)
both_true false b h = cc

-- two names that are the same are equal
pub same_is : (a b : Name) → same_name a b ≡ true → a ≡ b
same_is (named a) (named b) h = ap named ((bytes_eq-Decides a b).0 h)
same_is (named a) (anonymous q t) h = cc
same_is (anonymous p s) (named b) h = cc
same_is (anonymous p s) (anonymous q t) h =
    let two = both_true (same_path p q) (s == t) h in
    ap₂ anonymous (path_is p q two.0) (number_is s t two.1)

-- ---- lists

module _ {C : Type 0} where
  front_by : (name : Name) (e : Entry C) (rest more : Option (Entry C)) (b : Bool) → is_some (cond b (Some e) rest) ≡ true → (is_some rest ≡ true → more ≡ rest) → cond b (Some e) more ≡ cond b (Some e) rest
  front_by name e rest more true h same = refl
  front_by name e rest more false h same = same h

  -- what is found in the first list
  pub named_front : (name : Name) (es fs : List (Entry C)) → is_some (entry_named name es) ≡ true → entry_named name (es ++ fs) ≡ entry_named name es
  named_front name [] fs h = cc
  named_front name (e ∷ es) fs h = front_by name e (entry_named name es) (entry_named name (es ++ fs)) (same_name e.name name) h (λ there. named_front name es fs there)

  back_by : (e : Entry C) (rest more found : Option (Entry C)) (b : Bool) → is_some (cond b (Some e) rest) ≡ false → (is_some rest ≡ false → more ≡ found) → cond b (Some e) more ≡ found
  back_by e rest more found true h same = cc
  back_by e rest more found false h same = same h

  -- what is not
  pub named_back : (name : Name) (es fs : List (Entry C)) → is_some (entry_named name es) ≡ false → entry_named name (es ++ fs) ≡ entry_named name fs
  named_back name [] fs h = refl
  named_back name (e ∷ es) fs h = back_by e (entry_named name es) (entry_named name (es ++ fs)) (entry_named name fs) (same_name e.name name) h (λ absent. named_back name es fs absent)

module _ {C D : Type 0} (f : Entry C → Entry D) (keeps : (e : Entry C) → (f e).name ≡ e.name) where
  mapped_by : (e : Entry C) (rest : Option (Entry C)) (more : Option (Entry D)) (b c : Bool) → c ≡ b → more ≡ option_map f rest → cond c (Some (f e)) more ≡ option_map f (cond b (Some e) rest)
  mapped_by e rest more true c same rests = ap (λ x. cond x (Some (f e)) more) same
  mapped_by e rest more false c same rests = ap (λ x. cond x (Some (f e)) more) same ∙ rests

  -- a list that is mapped to entries of the same names
  pub named_mapped : (name : Name) (es : List (Entry C)) → entry_named name (map f es) ≡ option_map f (entry_named name es)
  named_mapped name [] = refl
  named_mapped name (e ∷ es) =
      mapped_by e (entry_named name es) (entry_named name (map f es)) (same_name e.name name) (same_name (f e).name name) (ap (λ n. same_name n name) (keeps e)) (named_mapped name es)

  some_mapped : (o : Option (Entry C)) → is_some (option_map f o) ≡ is_some o
  some_mapped None = refl
  some_mapped (Some e) = refl

  pub is_named_mapped : (name : Name) (es : List (Entry C)) → is_some (entry_named name (map f es)) ≡ is_some (entry_named name es)
  is_named_mapped name es = ap is_some (named_mapped name es) ∙ some_mapped (entry_named name es)

-- the values of columns that have handles
pub is_named_over : {C D : Type 0} (f : C → D) (name : Name) (es : List (Entry C)) → is_some (entry_named name (over f es)) ≡ is_some (entry_named name es)
is_named_over f name es = is_named_mapped (λ e. record { name = e.name; place = e.place; column = f e.column }) (λ e. refl) name es

pub named_over : {C D : Type 0} (f : C → D) (name : Name) (es : List (Entry C)) → entry_named name (over f es) ≡ option_map (λ e. record { name = e.name; place = e.place; column = f e.column }) (entry_named name es)
named_over f name es = named_mapped (λ e. record { name = e.name; place = e.place; column = f e.column }) (λ e. refl) name es

-- ---- columns that are handed on

-- a column as an instance hands it on
abbrev pub handed_column : Place → ℕ → ℕ → Column → Column
handed_column p count k c = record { name = c.name; place = p; column = repeated count k c.column }

module _ (name : Name) (p : Place) (count k : ℕ) where
  abbrev next : Column → List Column → List Column
  next c own = if is_some (entry_named c.name own) then own else own ++ handed_column p count k c ∷ []

  next_own : (c : Column) (own : List Column) (b : Bool) → is_some (entry_named name own) ≡ true
      → entry_named name (if b then own else own ++ handed_column p count k c ∷ []) ≡ entry_named name own
  next_own c own true h = refl
  next_own c own false h = named_front name own (handed_column p count k c ∷ []) h

  -- a column of the part's own comes first
  pub own_first : (own cs : List Column) → is_some (entry_named name own) ≡ true → entry_named name (with_handed p count k own cs) ≡ entry_named name own
  own_first own [] h = refl
  own_first own (c ∷ cs) h =
      let here = next_own c own (is_some (entry_named c.name own)) h in
      own_first (next c own) cs (ap is_some here ∙ h) ∙ here

  handed_by : (c : Column) (own cs : List Column) (b : Bool) → same_name c.name name ≡ b → is_some (entry_named name own) ≡ false
      → ((own : List Column) → is_some (entry_named name own) ≡ false → entry_named name (with_handed p count k own cs) ≡ option_map (handed_column p count k) (entry_named name cs))
      → entry_named name (with_handed p count k (next c own) cs) ≡ option_map (handed_column p count k) (cond b (Some c) (entry_named name cs))
  handed_by c own cs true is absent rest =
      let same = same_is c.name name is in
      let new : is_some (entry_named c.name own) ≡ false = ap (λ n. is_some (entry_named n own)) same ∙ absent in
      let more : next c own ≡ own ++ handed_column p count k c ∷ [] = ap (λ b. if b then own else own ++ handed_column p count k c ∷ []) new in
      let here : entry_named name (handed_column p count k c ∷ []) ≡ Some (handed_column p count k c) = ap (λ b. cond b (Some (handed_column p count k c)) None) is in
      let found : entry_named name (own ++ handed_column p count k c ∷ []) ≡ Some (handed_column p count k c) = named_back name own (handed_column p count k c ∷ []) absent ∙ here in
      ap (λ es. entry_named name (with_handed p count k es cs)) more
      ∙ (own_first (own ++ handed_column p count k c ∷ []) cs (ap is_some found) ∙ found)
  handed_by c own cs false is absent rest =
      let none : entry_named name (handed_column p count k c ∷ []) ≡ None = ap (λ b. cond b (Some (handed_column p count k c)) None) is in
      let behind : is_some (entry_named name (own ++ handed_column p count k c ∷ [])) ≡ false = ap is_some (named_back name own (handed_column p count k c ∷ []) absent ∙ none) in
      rest (next c own) (by_bool (is_some (entry_named c.name own)) behind)
    where
      by_bool : (b : Bool) → is_some (entry_named name (own ++ handed_column p count k c ∷ [])) ≡ false → is_some (entry_named name (if b then own else own ++ handed_column p count k c ∷ [])) ≡ false
      by_bool true behind = absent
      by_bool false behind = behind

  -- else one that is handed on
  pub handed_next : (cs own : List Column) → is_some (entry_named name own) ≡ false → entry_named name (with_handed p count k own cs) ≡ option_map (handed_column p count k) (entry_named name cs)
  handed_next [] own h = is_none (entry_named name own) h
    where
      is_none : (o : Option Column) → is_some o ≡ false → o ≡ None
      is_none None h = refl
      is_none (Some x) h = cc
  handed_next (c ∷ cs) own h = handed_by c own cs (same_name c.name name) refl h (λ es absent. handed_next cs es absent)
