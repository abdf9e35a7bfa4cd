-- A list of columns of which the first ones have twins.
use Rattle.std.proofs.Common.{◌≡◌, ℕ, zero, suc, List, [], ◌∷◌, ◌++◌, drop, take, set, slice_get, Some, None, Bool, true, false, cond, refl, ap, sym, subst, ◌∙◌}
use Rattle.std.specs.List.{AllZip}
use Rattle.gn_shared.specs.Count.{Count}
use Rattle.gn_plain.specs.Columns.{Name, Entry, same_name, entry_named}
use Rattle.gn_attr.specs.Handles.{noted_if}
use Rattle.gn_attr.specs.Columns.{KeepsEntry, IsTwinEntry, noted, one_part}
use Rattle.gn_attr.specs.declared.column.Column.{Column}

-- the columns are kept, those from a number on are as before, and those below it have twins and are noted
pub record IsOn (before now twins : List (Entry Column)) (i : ℕ) (start count : Count) : Type 0 where
  pub kept : AllZip KeepsEntry before now
  pub left : drop i now ≡ drop i before
  pub made : AllZip IsTwinEntry (take i before) twins
  pub counts : count ≡ noted (take i before) start

pub keeps_all : (es : List (Entry Column)) → AllZip KeepsEntry es es
keeps_all [] = tt
keeps_all (e ∷ es) = ((refl, refl, (refl, refl)), keeps_all es)

module _ {X : Type 0} where
  first_left : (xs : List X) (i : ℕ) → slice_get (drop i xs) 0 ≡ slice_get xs i
  first_left [] zero = refl
  first_left [] (suc i) = refl
  first_left (x ∷ xs) zero = refl
  first_left (x ∷ xs) (suc i) = first_left xs i

  one_fewer : (xs : List X) (i : ℕ) → drop (suc i) xs ≡ drop 1 (drop i xs)
  one_fewer [] zero = refl
  one_fewer [] (suc i) = refl
  one_fewer (x ∷ xs) zero = refl
  one_fewer (x ∷ xs) (suc i) = one_fewer xs i

  behind_set : (xs : List X) (i : ℕ) (y : X) → drop (suc i) (set xs i y) ≡ drop (suc i) xs
  behind_set [] i y = refl
  behind_set (x ∷ xs) zero y = refl
  behind_set (x ∷ xs) (suc i) y = behind_set xs i y

module _ {X Y : Type 0} (R : X → Y → Type 0) where
  zip_set : (xs : List X) (ys : List Y) (i : ℕ) (x : X) (y : Y) → AllZip R xs ys → slice_get xs i ≡ Some x → R x y → AllZip R xs (set ys i y)
  zip_set [] ys i x y all h r = cc
  zip_set (z ∷ xs) [] i x y all h r = absurd all
  zip_set (z ∷ xs) (w ∷ ys) zero x y all h r = let same : x ≡ z = cc in (subst (λ v. R v y) same r, all.1)
  zip_set (z ∷ xs) (w ∷ ys) (suc i) x y all h r = (all.0, zip_set xs ys i x y all.1 h r)

  zip_more : (xs : List X) (ys : List Y) (i : ℕ) (x : X) (y : Y) → AllZip R (take i xs) ys → slice_get xs i ≡ Some x → R x y → AllZip R (take (suc i) xs) (ys ++ y ∷ [])
  zip_more [] ys i x y all h r = cc
  zip_more (z ∷ xs) [] zero x y all h r = let same : x ≡ z = cc in (subst (λ v. R v y) same r, tt)
  zip_more (z ∷ xs) (w ∷ ys) zero x y all h r = absurd all
  zip_more (z ∷ xs) [] (suc i) x y all h r = absurd all
  zip_more (z ∷ xs) (w ∷ ys) (suc i) x y all h r = (all.0, zip_more xs ys i x y all.1 h r)

noted_more : (es : List (Entry Column)) (i : ℕ) (e : Entry Column) (count : Count) → slice_get es i ≡ Some e → noted (take (suc i) es) count ≡ noted_if (one_part e.column) (noted (take i es) count)
noted_more [] i e count h = cc
noted_more (x ∷ es) zero e count h = let same : x ≡ e = cc in ap (λ y. noted_if (one_part y.column) count) same
noted_more (x ∷ es) (suc i) e count h = noted_more es i e (noted_if (one_part x.column) count) h

module _ (before now twins : List (Entry Column)) (i : ℕ) (start count : Count) (e e' : Entry Column) (on : IsOn before now twins i start count) (at : slice_get now i ≡ Some e) (keeps : KeepsEntry e e') where
  pub as_before : slice_get before i ≡ Some e
  as_before = sym (first_left before i) ∙ (ap (λ es. slice_get es 0) (sym on.left) ∙ (first_left now i ∙ at))

  pub still_kept : AllZip KeepsEntry before (set now i e')
  still_kept = zip_set KeepsEntry before now i e e' on.kept as_before keeps

  pub noted_through : (count' : Count) → count' ≡ noted_if (one_part e.column) count → count' ≡ noted (take (suc i) before) start
  noted_through count' counts = counts ∙ (ap (noted_if (one_part e.column)) on.counts ∙ sym (noted_more before i e start as_before))

  pub one_more : (count' : Count) (t : Entry Column) → IsTwinEntry e t → count' ≡ noted_if (one_part e.column) count → IsOn before (set now i e') (twins ++ t ∷ []) (suc i) start count'
  one_more count' t twin counts =
      record {
        kept = still_kept;
        left = behind_set now i e' ∙ (one_fewer now i ∙ (ap (drop 1) on.left ∙ sym (one_fewer before i)));
        made = zip_more IsTwinEntry before twins i e t on.made as_before twin;
        counts = noted_through count' counts;
      }

none_by : (n : Name) (e t : Entry Column) (es ts : List (Entry Column)) (b : Bool) → cond b (Some e) (entry_named n es) ≡ None → (entry_named n es ≡ None → entry_named n ts ≡ None) → cond b (Some t) (entry_named n ts) ≡ None
none_by n e t es ts true h rest = cc
none_by n e t es ts false h rest = rest h

-- a name that is none of the first columns is none of their twins
named_before : (n : Name) (before now : List (Entry Column)) (i : ℕ) → AllZip KeepsEntry before now → entry_named n (take i now) ≡ None → entry_named n (take i before) ≡ None
named_before n [] now zero all h = refl
named_before n [] now (suc i) all h = refl
named_before n (e ∷ before) [] i all h = absurd all
named_before n (e ∷ before) (f ∷ now) zero all h = refl
named_before n (e ∷ before) (f ∷ now) (suc i) all h =
    none_by n f e (take i now) (take i before) (same_name e.name n) (ap (λ m. cond (same_name m n) (Some f) (entry_named n (take i now))) (sym all.0.0) ∙ h) (λ h. named_before n before now i all.1 h)

named_twin : (n : Name) (es twins : List (Entry Column)) → AllZip IsTwinEntry es twins → entry_named n es ≡ None → entry_named n twins ≡ None
named_twin n [] [] all h = refl
named_twin n [] (t ∷ twins) all h = absurd all
named_twin n (e ∷ es) [] all h = absurd all
named_twin n (e ∷ es) (t ∷ twins) all h =
    none_by n e t es twins (same_name t.name n) (ap (λ m. cond (same_name m n) (Some e) (entry_named n es)) all.0.0 ∙ h) (λ h. named_twin n es twins all.1 h)

pub is_no_twin : (n : Name) (before now twins : List (Entry Column)) (i : ℕ) (start count : Count) → IsOn before now twins i start count → entry_named n (take i now) ≡ None → entry_named n twins ≡ None
is_no_twin n before now twins i start count on h = named_twin n (take i before) twins on.made (named_before n before now i on.kept h)
