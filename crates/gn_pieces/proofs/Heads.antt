-- The columns of a join, gathered one name after another.
use Rattle.std.proofs.Common.{◌≡◌, ℕ, Bool, true, false, cond, List, [], ◌∷◌, ◌++◌, map, fold, Some, None, is_some, refl, sym, ap, ◌∙◌}
use Rattle.std.specs.Prelude.{if◌then◌else◌}
use Rattle.std.specs.List.{flat_map}
use Rattle.std.proofs.lemmas.List.{map-append}
use Rattle.gn_value.specs.declared.value.Place.{Place}
use Rattle.gn_value.specs.declared.value.ValueKind.{ValueKind}
use Rattle.gn_plain.specs.Columns.{Name, Entry, Column, entry_named, same_name}
use Rattle.gn_joins.specs.Joins.{Part, with_head, joined_columns}
use Rattle.gn_joins.specs.Realized.{with_handed}
use Rattle.gn_pieces.specs.Heads.{head_on, column_under, with_joined}
use Rattle.gn_pieces.proofs.Behind.{kind_repeated}
use Rattle.gn_pieces.proofs.Named.{handed_column, is_named_mapped, named_back, named_front, same_is}

fold_both : {A B : Type 0} (f : B → A → B) (b : B) (xs ys : List A) → fold f b (xs ++ ys) ≡ fold f (fold f b xs) ys
fold_both f b [] ys = refl
fold_both f b (x ∷ xs) ys = fold_both f (f b x) xs ys

module _ (ps : List Part) where
  -- ---- all names first, or each with its column

  one_joined : (hs : List (Entry ValueKind)) (h : Entry ValueKind) (b : Bool)
      → map (column_under ps) (if b then hs else hs ++ h ∷ []) ≡ (if b then map (column_under ps) hs else map (column_under ps) hs ++ column_under ps h ∷ [])
  one_joined hs h true = refl
  one_joined hs h false = map-append (column_under ps) hs (h ∷ [])

  one_head : (hs : List (Entry ValueKind)) (c : Column) → map (column_under ps) (with_head hs c) ≡ with_joined ps (map (column_under ps) hs) (head_on None c)
  one_head hs c =
      one_joined hs (head_on None c) (is_some (entry_named c.name hs))
      ∙ ap (λ b. if b then map (column_under ps) hs else map (column_under ps) hs ++ column_under ps (head_on None c) ∷ []) (sym (is_named_mapped (column_under ps) (λ h. refl) c.name hs))

  heads_joined : (hs : List (Entry ValueKind)) (cs : List Column) → map (column_under ps) (fold with_head hs cs) ≡ fold (with_joined ps) (map (column_under ps) hs) (map (head_on None) cs)
  heads_joined hs [] = refl
  heads_joined hs (c ∷ cs) = heads_joined (with_head hs c) cs ∙ ap (λ js. fold (with_joined ps) js (map (head_on None) cs)) (one_head hs c)

  pub all_joined : joined_columns ps ≡ fold (with_joined ps) [] (map (head_on None) (flat_map (λ p. p.columns) ps))
  all_joined = heads_joined [] (flat_map (λ p. p.columns) ps)

  -- ---- one more name, and those of one more part

  pub joined_push : (js : List Column) (hs : List (Entry ValueKind)) (h : Entry ValueKind) → fold (with_joined ps) js (hs ++ h ∷ []) ≡ with_joined ps (fold (with_joined ps) js hs) h
  joined_push js hs h = fold_both (with_joined ps) js hs (h ∷ [])

  pub joined_both : (js : List Column) (hs gs : List (Entry ValueKind)) → fold (with_joined ps) js (hs ++ gs) ≡ fold (with_joined ps) (fold (with_joined ps) js hs) gs
  joined_both js hs gs = fold_both (with_joined ps) js hs gs

  -- ---- columns that are handed on

  kept_by : (name : Name) (js : List Column) (h : Entry ValueKind) (b : Bool) → is_some (entry_named name js) ≡ true → is_some (entry_named name (if b then js else js ++ column_under ps h ∷ [])) ≡ true
  kept_by name js h true there = there
  kept_by name js h false there = ap is_some (named_front name js (column_under ps h ∷ []) there) ∙ there

  -- a name that is there stays
  found_kept : (name : Name) (js : List Column) (hs : List (Entry ValueKind)) → is_some (entry_named name js) ≡ true → is_some (entry_named name (fold (with_joined ps) js hs)) ≡ true
  found_kept name js [] there = there
  found_kept name js (h ∷ hs) there = found_kept name (with_joined ps js h) hs (kept_by name js h (is_some (entry_named h.name js)) there)

  here_by : (name : Name) (js : List Column) (h : Entry ValueKind) (b : Bool) → same_name h.name name ≡ true → is_some (entry_named h.name js) ≡ b
      → is_some (entry_named name (if b then js else js ++ column_under ps h ∷ [])) ≡ true
  here_by name js h true same there = ap (λ n. is_some (entry_named n js)) (sym (same_is h.name name same)) ∙ there
  here_by name js h false same absent =
      let none : is_some (entry_named name js) ≡ false = ap (λ n. is_some (entry_named n js)) (sym (same_is h.name name same)) ∙ absent in
      ap is_some (named_back name js (column_under ps h ∷ []) none) ∙ ap (λ b. is_some (cond b (Some (column_under ps h)) None)) same

  added_by : (name : Name) (js : List Column) (c : Column) (own : List Column) (b : Bool) → same_name c.name name ≡ b → is_some (cond b (Some c) (entry_named name own)) ≡ true
      → ((js : List Column) → is_some (entry_named name own) ≡ true → is_some (entry_named name (fold (with_joined ps) js (map (head_on None) own))) ≡ true)
      → is_some (entry_named name (fold (with_joined ps) (with_joined ps js (head_on None c)) (map (head_on None) own))) ≡ true
  added_by name js c own true same there rest =
      found_kept name (with_joined ps js (head_on None c)) (map (head_on None) own) (here_by name js (head_on None c) (is_some (entry_named c.name js)) same refl)
  added_by name js c own false same there rest = rest (with_joined ps js (head_on None c)) there

  -- each name that is added is there
  found_added : (name : Name) (js own : List Column) → is_some (entry_named name own) ≡ true → is_some (entry_named name (fold (with_joined ps) js (map (head_on None) own))) ≡ true
  found_added name js [] there = cc
  found_added name js (c ∷ own) there = added_by name js c own (same_name c.name name) refl there (λ ks h. found_added name ks own h)

  head_handed : (p : Place) (count k : ℕ) (c : Column) → head_on None (handed_column p count k c) ≡ head_on (Some p) c
  head_handed p count k c = ap (λ kind. let h : Entry ValueKind = record { name = c.name; place = p; column = kind } in h) (kind_repeated count k c.column)

  handed_by : (js : List Column) (p : Place) (count k : ℕ) (own : List Column) (c : Column) (cs : List Column) (b : Bool) → is_some (entry_named c.name own) ≡ b
      → ((es : List Column) → fold (with_joined ps) js (map (head_on None) (with_handed p count k es cs)) ≡ fold (with_joined ps) (fold (with_joined ps) js (map (head_on None) es)) (map (head_on (Some p)) cs))
      → fold (with_joined ps) js (map (head_on None) (with_handed p count k (if b then own else own ++ handed_column p count k c ∷ []) cs))
      ≡ fold (with_joined ps) (with_joined ps (fold (with_joined ps) js (map (head_on None) own)) (head_on (Some p) c)) (map (head_on (Some p)) cs)
  handed_by js p count k own c cs true there rest =
      let all = fold (with_joined ps) js (map (head_on None) own) in
      let stays : with_joined ps all (head_on (Some p) c) ≡ all = ap (λ b. if b then all else all ++ column_under ps (head_on (Some p) c) ∷ []) (found_added c.name js own there) in
      rest own ∙ ap (λ ks. fold (with_joined ps) ks (map (head_on (Some p)) cs)) (sym stays)
  handed_by js p count k own c cs false there rest =
      let more : map (head_on None) (own ++ handed_column p count k c ∷ []) ≡ map (head_on None) own ++ head_on (Some p) c ∷ [] =
      map-append (head_on None) own (handed_column p count k c ∷ []) ∙ ap (λ h. map (head_on None) own ++ h ∷ []) (head_handed p count k c) in
      rest (own ++ handed_column p count k c ∷ [])
      ∙ ap (λ ks. fold (with_joined ps) ks (map (head_on (Some p)) cs)) (ap (fold (with_joined ps) js) more ∙ joined_push js (map (head_on None) own) (head_on (Some p) c))

  -- columns that are handed on come behind the part's own
  pub joined_handed : (js : List Column) (p : Place) (count k : ℕ) (cs own : List Column)
      → fold (with_joined ps) js (map (head_on None) (with_handed p count k own cs)) ≡ fold (with_joined ps) (fold (with_joined ps) js (map (head_on None) own)) (map (head_on (Some p)) cs)
  joined_handed js p count k [] own = refl
  joined_handed js p count k (c ∷ cs) own = handed_by js p count k own c cs (is_some (entry_named c.name own)) refl (λ es. joined_handed js p count k cs es)
