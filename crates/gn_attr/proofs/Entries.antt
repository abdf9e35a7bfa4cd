-- The entries of a map from names to members, and the list of columns that they stand for.
use Rattle.std.proofs.Common.{◌≡◌, ℕ, zero, suc, Bool, true, false, cond, List, [], ◌∷◌, ◌++◌, map, take, set, slice_get, Option, Some, None, option_map, is_some, IfSome, refl, ap, ap₂, sym, subst, ◌∙◌}
use Rattle.std.specs.Map.{lookup, remove_entry, set_value, keys_of}
use Rattle.std.proofs.lemmas.Map.Steps.{set_value_same}
use Rattle.std.specs.List.{IsDistinct, AllByRecursion}
use Rattle.indexmap.specs.IndexMap.{insert_entry, set_value_at}
use Rattle.gn_value.specs.declared.value.Place.{Place}
use Rattle.gn_shared.specs.Count.{Count}
use Rattle.gn_plain.specs.Columns.{Entry, Values, same_name, entry_named, with_entry, without_entry}
use Rattle.gn_attr.specs.Names.{plain_name}
use Rattle.gn_attr.specs.Columns.{values_of, found_of, IsSoleColumn, OwnsColumn}
use Rattle.gn_attr.specs.Writing.{with_column, values_chosen, IsWritten}
use Rattle.gn_attr.specs.Members.{entry_of}
use Rattle.gn_attr.specs.declared.name.Name.{Name}
use Rattle.gn_attr.specs.declared.column.Column.{Column}
use Rattle.gn_attr.specs.declared.columns.Member.{Member}
use Rattle.gn_attr.proofs.NameEquality.{equal, equal_is, tests}

abbrev pub Members : Type 0
Members = List (Name × Member)

abbrev pub shown : Member → Place × Column
shown m = (m.place, m.column)

-- ---- look-ups

pub is_some_mapped : {A B : Type 0} (f : A → B) (o : Option A) → is_some (option_map f o) ≡ is_some o
is_some_mapped f None = refl
is_some_mapped f (Some x) = refl

is_none : {A : Type 0} (o : Option A) → is_some o ≡ false → o ≡ None
is_none None h = refl
is_none (Some x) h = cc

pub found_is : (key : Name) (es : Members) → option_map shown (lookup (equal key) es) ≡ option_map found_of (entry_named (plain_name key) (map entry_of es))
found_is key [] = refl
found_is key (e ∷ es) =
    rw (tests key e.0) (elim (same_name (plain_name e.0) (plain_name key)) as (λ b. option_map shown (cond b (Some e.1) (lookup (equal key) es)) ≡ option_map found_of (cond b (Some (entry_of e)) (entry_named (plain_name key) (map entry_of es)))) [
      | true ↦ refl
      | false ↦ found_is key es
    ])

pub is_there : (key : Name) (es : Members) → is_some (lookup (equal key) es) ≡ is_some (entry_named (plain_name key) (map entry_of es))
is_there key es = sym (is_some_mapped shown (lookup (equal key) es)) ∙ (ap is_some (found_is key es) ∙ is_some_mapped found_of (entry_named (plain_name key) (map entry_of es)))

pub is_absent : (key : Name) (es : Members) → lookup (equal key) es ≡ None → entry_named (plain_name key) (map entry_of es) ≡ None
is_absent key es h = is_none _ (sym (is_there key es) ∙ ap is_some h)

-- ---- changes

pub removed_is : (key : Name) (es : Members) → map entry_of (remove_entry (equal key) es) ≡ without_entry (plain_name key) (map entry_of es)
removed_is key [] = refl
removed_is key (e ∷ es) =
    rw (tests key e.0) (elim (same_name (plain_name e.0) (plain_name key)) as (λ b. map entry_of (cond b es (e ∷ remove_entry (equal key) es)) ≡ cond b (map entry_of es) (entry_of e ∷ without_entry (plain_name key) (map entry_of es))) [
      | true ↦ refl
      | false ↦ ap (λ fs. entry_of e ∷ fs) (removed_is key es)
    ])

pub inserted_is : (key : Name) (m : Member) (es : Members) → map entry_of (insert_entry equal es key m) ≡ with_entry (entry_of (key, m)) (map entry_of es)
inserted_is key m [] = refl
inserted_is key m (e ∷ es) =
    rw (tests key e.0) (elim (same_name (plain_name e.0) (plain_name key)) as (λ b. map entry_of (cond b ((e.0, m) ∷ es) (e ∷ insert_entry equal es key m)) ≡ cond b (entry_of (e.0, m) ∷ map entry_of es) (entry_of e ∷ with_entry (entry_of (key, m)) (map entry_of es))) [
      | true ↦ refl
      | false ↦ ap (λ fs. entry_of e ∷ fs) (inserted_is key m es)
    ])

written_by : (key : Name) (m w : Member) (e : Name × Member) (es : Members) (b : Bool) → w.place ≡ m.place → cond b (Some e.1) (lookup (equal key) es) ≡ Some m
    → (lookup (equal key) es ≡ Some m → map entry_of (set_value (equal key) es w) ≡ with_column (plain_name key) w.column (map entry_of es))
    → map entry_of (cond b ((e.0, w) ∷ es) (e ∷ set_value (equal key) es w)) ≡ cond b (entry_of (e.0, record { place = e.1.place; column = w.column }) ∷ map entry_of es) (entry_of e ∷ with_column (plain_name key) w.column (map entry_of es))
written_by key m w e es true same h rest =
    let member : e.1 ≡ m = cc in
    ap (λ p. entry_of (e.0, record { place = p; column = w.column }) ∷ map entry_of es) (same ∙ ap (λ x. x.place) (sym member))
written_by key m w e es false same h rest = ap (λ fs. entry_of e ∷ fs) (rest h)

pub written_is : (key : Name) (m w : Member) (es : Members) → w.place ≡ m.place → lookup (equal key) es ≡ Some m → map entry_of (set_value (equal key) es w) ≡ with_column (plain_name key) w.column (map entry_of es)
written_is key m w [] same found = refl
written_is key m w (e ∷ es) same found = rw (tests key e.0) (written_by key m w e es (same_name (plain_name e.0) (plain_name key)) same (rw (tests key e.0) at found) (λ h. written_is key m w es same h))

-- what is found under a name has what each column of that name has
pub of_found : (P : Column → Type 0) (o : Option (Entry Column)) (p : Place × Column) → Some p ≡ option_map found_of o → IfSome o (λ e. P e.column) → P p.1
of_found P None p found h = cc
of_found P (Some e) p found h = let same : p.1 ≡ e.column = cc in subst P (sym same) h

entry_found : (o : Option (Entry Column)) (p : Place × Column) → Some p ≡ option_map found_of o → (e : Entry Column) × (o ≡ Some e) × (e.column ≡ p.1)
entry_found None p found = cc
entry_found (Some e) p found = let same : e.column ≡ p.1 = cc in (e, refl, same)

-- the column of a member is written
pub is_written : (key : Name) (m w : Member) (es now : Members) (selected : List Bool) (values : Values) (count count' : Count) → Some m ≡ lookup (equal key) es → now ≡ set_value (equal key) es w → w.place ≡ m.place
    → values_of w.column ≡ values_chosen selected values (values_of m.column) → IsSoleColumn w.column → OwnsColumn m.column w.column count count' → IsWritten (plain_name key) selected values (map entry_of es) (map entry_of now) count count'
is_written key m w es now selected values count count' found set same chosen sole owns =
    let e = entry_found (entry_named (plain_name key) (map entry_of es)) (shown m) (ap (option_map shown) found ∙ found_is key es) in
    record {
      before = e.0;
      after = w.column;
      found = e.1;
      columns = ap (map entry_of) set ∙ written_is key m w es same (sym found);
      chosen = rw e.2 chosen;
      sole = sole;
      noted = rw e.2 owns;
    }

-- the column of a member stays
pub is_unwritten : (key : Name) (m w : Member) (es now : Members) → Some m ≡ lookup (equal key) es → now ≡ set_value (equal key) es w → w.place ≡ m.place → w.column ≡ m.column → map entry_of now ≡ map entry_of es
is_unwritten key m w es now found set same column =
    let member : w ≡ m = ap₂ (λ p c. let r : Member = record { place = p; column = c } in r) same column in
    ap (map entry_of) (set ∙ (ap (set_value (equal key) es) member ∙ set_value_same (equal key) es m (sym found)))

-- ---- names that differ

all_at : {A X : Type 0} (P : A → Type 0) (es : List (A × X)) (i : ℕ) (k : A) (m : X) → AllByRecursion P (keys_of es) → slice_get es i ≡ Some (k, m) → P k
all_at P [] i k m all h = cc
all_at P (e ∷ es) zero k m all h = let same : e.0 ≡ k = cc in subst P same all.0
all_at P (e ∷ es) (suc i) k m all h = all_at P es i k m all.1 h

-- the name at a number is none of those before it
pub is_new_at : (es : Members) (i : ℕ) (k : Name) (m : Member) → IsDistinct equal (keys_of es) → slice_get es i ≡ Some (k, m) → entry_named (plain_name k) (take i (map entry_of es)) ≡ None
unfolding IsDistinct
is_new_at [] i k m differ h = cc
is_new_at (e ∷ es) zero k m differ h = refl
is_new_at (e ∷ es) (suc i) k m differ h =
    let other : same_name (plain_name e.0) (plain_name k) ≡ false = sym (equal_is e.0 k) ∙ all_at (λ x. equal e.0 x ≡ false) es i k m differ.0 h in
    rw other (is_new_at es i k m differ.1 h)

goes_last_by : (x e : Entry Column) (es : List (Entry Column)) (b : Bool) → cond b (Some e) (entry_named x.name es) ≡ None → (entry_named x.name es ≡ None → with_entry x es ≡ es ++ x ∷ [])
    → cond b (let r : Entry Column = record { name = e.name; place = x.place; column = x.column } in r ∷ es) (e ∷ with_entry x es) ≡ e ∷ (es ++ x ∷ [])
goes_last_by x e es true h rest = cc
goes_last_by x e es false h rest = ap (λ fs. e ∷ fs) (rest h)

-- a new name goes last
pub goes_last : (x : Entry Column) (es : List (Entry Column)) → entry_named x.name es ≡ None → with_entry x es ≡ es ++ x ∷ []
goes_last x [] h = refl
goes_last x (e ∷ es) h = goes_last_by x e es (same_name e.name x.name) h (λ h. goes_last x es h)

-- a member is written by its number
pub set_is : (es : Members) (i : ℕ) (k : Name) (m w : Member) → slice_get es i ≡ Some (k, m) → map entry_of (set_value_at es i w) ≡ set (map entry_of es) i (entry_of (k, w))
set_is [] i k m w h = refl
set_is (e ∷ es) zero k m w h = let same : e.0 ≡ k = cc in ap (λ n. entry_of (n, w) ∷ map entry_of es) same
set_is (e ∷ es) (suc i) k m w h = ap (λ fs. entry_of e ∷ fs) (set_is es i k m w h)
