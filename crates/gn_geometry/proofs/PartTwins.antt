-- A list of parts of which the first ones have twins.
use Rattle.std.proofs.Common.{◌≡◌, ℕ, zero, suc, ◌+◌, ◌<◌, ◌≤◌, Bool, List, [], ◌∷◌, ◌++◌, length, drop, take, set, get_or, refl, ap, sym, subst, ◌∙◌, arith, append_assoc, add-one, take_all}
use Rattle.std.specs.List.{AllZip, flat_map}
use Rattle.std.proofs.lemmas.List.Elements.{all_zip_more}
use Rattle.gn_shared.specs.Count.{Count}
use Rattle.gn_geometry.specs.Notes.{noted_each, NotesFirst}
use Rattle.gn_geometry.specs.Geometries.{GeometryView, KeepsGeometry, IsTwinGeometry, geometry_copies, parts_of, part_copies, KeepsParts, AreTwinParts, node_count, sizes}
use Rattle.gn_geometry.proofs.Noted.{noted_append, first_of, then_first}

abbrev pub copies : List GeometryView → List Bool
copies gs = flat_map geometry_copies gs

-- the parts are kept, those from a number on are as before, and those below it have twins and are noted
pub record IsOn (before now twins : List GeometryView) (i : ℕ) (start count : Count) : Type 0 where
  pub kept : AllZip KeepsGeometry before now
  pub left : drop i now ≡ drop i before
  pub made : AllZip IsTwinGeometry (take i before) twins
  pub counts : count ≡ noted_each (copies (take i before)) start

module _ {X : Type 0} where
  get_left : (xs : List X) (i : ℕ) (d : X) → get_or (drop i xs) 0 d ≡ get_or xs i d
  get_left [] zero d = refl
  get_left [] (suc i) d = refl
  get_left (x ∷ xs) zero d = refl
  get_left (x ∷ xs) (suc i) d = get_left xs i d

  one_fewer : (xs : List X) (i : ℕ) → drop (suc i) xs ≡ drop 1 (drop i xs)
  one_fewer [] zero = refl
  one_fewer [] (suc i) = refl
  one_fewer (x ∷ xs) zero = refl
  one_fewer (x ∷ xs) (suc i) = one_fewer xs i

  behind_set : (xs : List X) (i : ℕ) (y : X) → drop (suc i) (set xs i y) ≡ drop (suc i) xs
  behind_set [] i y = refl
  behind_set (x ∷ xs) zero y = refl
  behind_set (x ∷ xs) (suc i) y = behind_set xs i y

  zip_set : (R : X → X → Type 0) (xs ys : List X) (i : ℕ) (x y : X) → AllZip R xs ys → i < length xs → x ≡ get_or xs i x → R x y → AllZip R xs (set ys i y)
  zip_set R [] ys i x y all below at r = absurd (omega arith)
  zip_set R (z ∷ xs) [] i x y all below at r = absurd all
  zip_set R (z ∷ xs) (w ∷ ys) zero x y all below at r = (subst (λ v. R v y) at r, all.1)
  zip_set R (z ∷ xs) (w ∷ ys) (suc i) x y all below at r = (all.0, zip_set R xs ys i x y all.1 (omega (arith, below)) at r)

pub keeps_parts : (gs hs : List GeometryView) → AllZip KeepsGeometry gs hs → KeepsParts (parts_of gs) (parts_of hs)
keeps_parts [] [] all = tt
keeps_parts [] (h ∷ hs) all = absurd all
keeps_parts (g ∷ gs) [] all = absurd all
keeps_parts (g ∷ gs) (h ∷ hs) all = (all.0, keeps_parts gs hs all.1)

pub twin_parts : (gs hs : List GeometryView) → AllZip IsTwinGeometry gs hs → AreTwinParts (parts_of gs) (parts_of hs)
twin_parts [] [] all = tt
twin_parts [] (h ∷ hs) all = absurd all
twin_parts (g ∷ gs) [] all = absurd all
twin_parts (g ∷ gs) (h ∷ hs) all = (all.0, twin_parts gs hs all.1)

pub all_copies : (gs : List GeometryView) → part_copies (parts_of gs) ≡ copies gs
all_copies [] = refl
all_copies (g ∷ gs) = ap (λ l. geometry_copies g ++ l) (all_copies gs)

-- a part is no larger than all together
pub part_le : (gs : List GeometryView) (i : ℕ) (g : GeometryView) → i < length gs → g ≡ get_or gs i g → node_count g ≤ sizes (parts_of gs)
part_le [] i g below at = absurd (omega arith)
part_le (x ∷ gs) zero g below at = let same : node_count g ≡ node_count x = ap node_count at in omega (arith, same)
part_le (x ∷ gs) (suc i) g below at = let rest = part_le gs i g (omega (arith, below)) at in omega (arith, rest)

append_none : (xs : List Bool) → xs ++ [] ≡ xs
append_none [] = refl
append_none (x ∷ xs) = ap (λ l. x ∷ l) (append_none xs)

copies_more : (gs : List GeometryView) (i : ℕ) (g : GeometryView) → i < length gs → g ≡ get_or gs i g → copies (take (suc i) gs) ≡ copies (take i gs) ++ geometry_copies g
copies_more [] i g below at = absurd (omega arith)
copies_more (x ∷ gs) zero g below at = ap (λ y. geometry_copies y ++ []) (sym at) ∙ append_none (geometry_copies g)
copies_more (x ∷ gs) (suc i) g below at = ap (λ l. geometry_copies x ++ l) (copies_more gs i g (omega (arith, below)) at) ∙ sym (append_assoc (geometry_copies x) (copies (take i gs)) (geometry_copies g))

-- the first parts, and the copies of the others behind them
copies_split : (gs : List GeometryView) (i : ℕ) → copies gs ≡ copies (take i gs) ++ copies (drop i gs)
copies_split gs zero = refl
copies_split [] (suc i) = refl
copies_split (g ∷ gs) (suc i) = ap (λ l. geometry_copies g ++ l) (copies_split gs i) ∙ sym (append_assoc (geometry_copies g) (copies (take i gs)) (copies (drop i gs)))

-- a part that was not gone over is the one of before
pub part_before : (before now twins : List GeometryView) (i : ℕ) (start count : Count) (g : GeometryView) → IsOn before now twins i start count → g ≡ get_or now i g → g ≡ get_or before i g
part_before before now twins i start count g on at = at ∙ (sym (get_left now i g) ∙ (ap (λ xs. get_or xs 0 g) on.left ∙ get_left before i g))

module _ (before now twins : List GeometryView) (i : ℕ) (start count : Count) (g g' : GeometryView) (on : IsOn before now twins i start count) (within : i < length before) (at : g ≡ get_or now i g) (keeps : KeepsGeometry g g') where
  pub as_before : g ≡ get_or before i g
  as_before = part_before before now twins i start count g on at

  pub still_kept : AllZip KeepsGeometry before (set now i g')
  still_kept = zip_set KeepsGeometry before now i g g' on.kept within as_before keeps

  pub one_more : (count' : Count) (t : GeometryView) → IsTwinGeometry g t → count' ≡ noted_each (geometry_copies g) count → IsOn before (set now i g') (twins ++ t ∷ []) (i + 1) start count'
  one_more count' t twin counts =
      let more = copies_more before i g within as_before in
      record {
        kept = still_kept;
        left = rw add-one (behind_set now i g' ∙ (one_fewer now i ∙ (ap (drop 1) on.left ∙ sym (one_fewer before i))));
        made = all_zip_more IsTwinGeometry before twins i g t within as_before on.made twin;
        counts = rw add-one (counts ∙ (ap (noted_each (geometry_copies g)) on.counts ∙ (sym (noted_append (copies (take i before)) (geometry_copies g) start) ∙ ap (λ l. noted_each l start) (sym more))));
      }

  -- there was no memory for this one's twin
  pub stopped : (count' : Count) → NotesFirst (geometry_copies g) count count' → NotesFirst (copies before) start count'
  stopped count' some =
      let here = then_first (copies (take i before)) (geometry_copies g) start count count' on.counts some in
      let more = subst (λ l. NotesFirst l start count') (sym (copies_more before i g within as_before)) here in
      subst (λ l. NotesFirst l start count') (sym (copies_split before (suc i))) (first_of (copies (take (suc i) before)) (copies (drop (suc i) before)) start count' more)

  -- there was none behind this one
  pub stopped_behind : (count' : Count) → count' ≡ noted_each (geometry_copies g) count → NotesFirst (copies before) start count'
  stopped_behind count' counts = stopped count' (length (geometry_copies g), counts ∙ ap (λ l. noted_each l count) (sym (take_length (geometry_copies g))))
    where
      take_length : (xs : List Bool) → take (length xs) xs ≡ xs
      take_length [] = refl
      take_length (x ∷ xs) = ap (λ l. x ∷ l) (take_length xs)

-- the loop is at its end
module _ (before now twins : List GeometryView) (i : ℕ) (start count : Count) (on : IsOn before now twins i start count) (all : length before ≤ i) where
  pub all_made : AllZip IsTwinGeometry before twins
  all_made = subst (λ gs. AllZip IsTwinGeometry gs twins) (take_all i before all) on.made

  pub all_counted : count ≡ noted_each (copies before) start
  all_counted = on.counts ∙ ap (λ gs. noted_each (copies gs) start) (take_all i before all)
