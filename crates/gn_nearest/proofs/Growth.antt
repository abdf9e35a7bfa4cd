-- Parts that are put behind others.
use Rattle.std.proofs.Common.{◌≡◌, ℕ, zero, suc, ◌+◌, ◌-◌, ◌<◌, ◌≤◌, List, [], ◌∷◌, ◌++◌, length, get_or, refl, sym, ap, ◌∙◌, subst, arith, length-append, append_assoc, ⊎_elim, Option, None, Some}
use Rattle.std.specs.List.{All}
use Rattle.std.specs.List.Sorted.{IsPermutation}
use Rattle.std.proofs.lemmas.Bool.{cases_lt}
use Rattle.std.proofs.lemmas.List.{get_or_append_left, get_or-append_right}
use Rattle.std.proofs.lemmas.List.Elements.{All-get_or}
use Rattle.std.proofs.lemmas.List.Sorted.{IsPermutation-refl, IsPermutation-trans, IsPermutation-append, IsPermutation-cons, All-permutation, length_permutation}
use Rattle.gn_nearest.specs.Boxes.{AreBoxes, AreHalves, Begins, IsBox, IsGrown, IsHalved, IsInside, IsWhole, no_part, part_at}
use Rattle.gn_nearest.specs.declared.bounds.Bounds.{Bounds}
use Rattle.gn_nearest.specs.declared.candidate.Entry.{Entry}
use Rattle.gn_nearest.specs.declared.grow.Part.{Part}
use Rattle.gn_nearest.specs.declared.grow.Halves.{Halves}

-- the first entries of a longer list are those of another
record Keeps (entries more : List Entry) : Type 0 where
  pub longer : length entries ≤ length more
  pub same : (p : ℕ) (d : Entry) → p < length entries → get_or more p d ≡ get_or entries p d

keeps_all : (entries : List Entry) → Keeps entries entries
keeps_all entries = record { longer = omega arith; same = λ p d h. refl }

keeps_more : (entries more added : List Entry) → more ≡ entries ++ added → Keeps entries more
keeps_more entries more added e = record {
  longer = omega (arith, ap length e, length-append entries added);
  same = λ p d h. ap (λ (es : List Entry). get_or es p d) e ∙ get_or_append_left entries added d p h;
}

keeps_both : (a b c : List Entry) → Keeps a b → Keeps b c → Keeps a c
keeps_both a b c h k = record {
  longer = omega (arith, h.longer, k.longer);
  same = λ p d l. k.same p d (omega (arith, h.longer)) ∙ h.same p d l;
}

begins_more : (parts added : List Part) → Begins parts (parts ++ added)
begins_more parts added k h = get_or_append_left parts added no_part k h

pub halves_kept : (parts more : List Part) (k from to : ℕ) (h : Halves) → k ≤ length parts → Begins parts more → AreHalves parts k from to h → AreHalves more k from to h
halves_kept parts more k from to h within begins halves =
    let f : part_at more h.front ≡ part_at parts h.front = begins h.front (omega (arith, halves.front)) in
    let b : part_at more h.back ≡ part_at parts h.back = begins h.back (omega (arith, halves.back)) in
    record {
      front = halves.front;
      back = halves.back;
      begin = ap (λ (p : Part). p.from) f ∙ halves.begin;
      middle = ap (λ (p : Part). p.from) b ∙ halves.middle ∙ ap (λ (p : Part). p.to + 1) (sym f);
      end = ap (λ (p : Part). p.to) b ∙ halves.end;
    }

halved_kept : (parts more : List Part) (k : ℕ) (part : Part) (o : Option Halves) → k ≤ length parts → Begins parts more → IsHalved parts k part o → IsHalved more k part o
halved_kept parts more k part None within begins h = h
halved_kept parts more k part (Some halves) within begins h = halves_kept parts more k part.from part.to halves within begins h

box_kept : (entries larger : List Entry) (parts more : List Part) (k : ℕ) (part : Part) → k ≤ length parts → Keeps entries larger → Begins parts more → IsBox entries parts k part → IsBox larger more k part
box_kept entries larger parts more k part within keeps begins box = record {
  rises = box.rises;
  within = omega (arith, box.within, keeps.longer);
  inside = λ p d h j. subst (λ (e : Entry). IsInside part.bounds e) (sym (keeps.same p d (omega (arith, box.within)))) (box.inside p d h j);
  halved = halved_kept parts more k part part.halves within begins box.halved;
}

boxes_kept : (entries larger : List Entry) (parts more : List Part) (first k : ℕ) → Keeps entries larger → Begins parts more → AreBoxes entries first parts → first ≤ k → k < length parts → IsBox larger more k (part_at more k)
boxes_kept entries larger parts more first k keeps begins boxes from below =
    subst (λ (part : Part). IsBox larger more k part) (sym (begins k below)) (box_kept entries larger parts more k (part_at parts k) (omega arith) keeps begins (boxes k from below))

-- the entries of a part that isn't halved
pub grown_leaf : (placed entries more : List Entry) (parts : List Part) → more ≡ placed ++ entries → IsGrown placed entries more parts parts
grown_leaf placed entries more parts e = record {
  added = entries;
  is = e;
  permutation = IsPermutation-refl entries;
  longer = omega arith;
  begins = λ k h. refl;
  boxes = λ k from below. absurd (omega arith);
}

-- two halves, and an entry between them
pub grown_halves : (placed entries front back p q more : List Entry) (middle : Entry) (a b c : List Part) → IsGrown placed front p a b → q ≡ p ++ middle ∷ [] → IsGrown q back more b c → IsPermutation entries (front ++ middle ∷ back) → IsGrown placed entries more a c
grown_halves placed entries front back p q more middle a b c g e h permutation =
    let keeps = keeps_both p q more (keeps_more p q (middle ∷ []) e) (keeps_more q more h.added h.is) in
    record {
      added = g.added ++ middle ∷ h.added;
      is = h.is ∙ ap (λ (es : List Entry). es ++ h.added) (e ∙ ap (λ (es : List Entry). es ++ middle ∷ []) g.is) ∙ simp append_assoc;
      permutation = IsPermutation-trans entries (front ++ middle ∷ back) (g.added ++ middle ∷ h.added) permutation (IsPermutation-append front g.added (middle ∷ back) (middle ∷ h.added) g.permutation (IsPermutation-cons middle back h.added h.permutation));
      longer = omega (arith, g.longer, h.longer);
      begins = λ k l. h.begins k (omega (arith, g.longer)) ∙ g.begins k l;
      boxes = λ k from below. ⊎_elim (λ (l : k < length b). boxes_kept p more b c (length a) k keeps h.begins g.boxes from l) (λ (l : length b ≤ k). h.boxes k l below) (cases_lt k (length b));
    }

-- the halves that two parts are
pub halves_are : (placed p q more : List Entry) (b c : List Part) (middle : Entry) (halves : Halves) → q ≡ p ++ middle ∷ [] → 0 < length b → length b < length c → Begins b c → IsWhole (length placed) (length p) b → IsWhole (length q) (length more) c → halves.front ≡ length b - 1 → halves.back ≡ length c - 1 → AreHalves c (length c) (length placed) (length more) halves
halves_are placed p q more b c middle halves e some less begins front back f k =
    let same : part_at c halves.front ≡ part_at b (length b - 1) = ap (part_at c) f ∙ begins (length b - 1) (omega arith) in
    let last : part_at c halves.back ≡ part_at c (length c - 1) = ap (part_at c) k in
    let next : length q ≡ length p + 1 = omega (arith, ap length e, length-append p (middle ∷ [])) in
    record {
      front = omega arith;
      back = omega arith;
      begin = ap (λ (x : Part). x.from) same ∙ front.begin;
      middle = ap (λ (x : Part). x.from) last ∙ back.begin ∙ next ∙ ap (λ n. n + 1) (sym front.end) ∙ ap (λ (x : Part). x.to + 1) (sym same);
      end = ap (λ (x : Part). x.to) last ∙ back.end;
    }

last_at : (parts : List Part) (part : Part) (k : ℕ) → k ≡ length parts → part_at (parts ++ part ∷ []) k ≡ part
last_at [] part zero e = refl
last_at [] part (suc k) e = absurd (omega arith)
last_at (x ∷ parts) part zero e = absurd (omega arith)
last_at (x ∷ parts) part (suc k) e = last_at parts part k (omega arith)

pub grown_length : (placed entries more : List Entry) (a b : List Part) → IsGrown placed entries more a b → length more ≡ length placed + length entries
grown_length placed entries more a b g = omega (arith, ap length g.is, length-append placed g.added, length_permutation entries g.added g.permutation)

grown_inside : (placed entries more : List Entry) (a b : List Part) (bounds : Bounds) → IsGrown placed entries more a b → All (IsInside bounds) entries → (p : ℕ) (d : Entry) → length placed ≤ p → p < length more → IsInside bounds (get_or more p d)
grown_inside placed entries more a b bounds g all p d from below =
    let there : get_or more p d ≡ get_or g.added (p - length placed) d = ap (λ (es : List Entry). get_or es p d) g.is ∙ get_or-append_right placed g.added (length placed) p d refl from in
    let within : p - length placed < length g.added = omega (arith, ap length g.is, length-append placed g.added) in
    subst (λ (e : Entry). IsInside bounds e) (sym there) (All-get_or (IsInside bounds) g.added (p - length placed) d within (All-permutation (IsInside bounds) entries g.added g.permutation all))

-- a part of all that was placed, behind the parts of its halves
pub grown_more : (placed entries more : List Entry) (a b c : List Part) (part : Part) → IsGrown placed entries more a b → All (IsInside part.bounds) entries → part.from ≡ length placed → part.to ≡ length placed + length entries → IsHalved b (length b) part part.halves → c ≡ b ++ part ∷ [] → IsGrown placed entries more a c
grown_more placed entries more a b c part g all from to halved e =
    let n = grown_length placed entries more a b g in
    let begins : Begins b c = λ k h. ap (λ (x : List Part). part_at x k) e ∙ begins_more b (part ∷ []) k h in
    let box : IsBox more b (length b) part = record {
      rises = omega arith;
      within = omega arith;
      inside = λ p d h j. grown_inside placed entries more a b part.bounds g all p d (omega arith) (omega arith);
      halved = halved;
    } in
    let new : IsBox more c (length b) part = box_kept more more b c (length b) part (omega arith) (keeps_all more) begins box in
    record {
      added = g.added;
      is = g.is;
      permutation = g.permutation;
      longer = omega (arith, g.longer, ap length e, length-append b (part ∷ []));
      begins = λ k h. begins k (omega (arith, g.longer)) ∙ g.begins k h;
      boxes = λ k first below. ⊎_elim (λ (l : k < length b). boxes_kept more more b c (length a) k (keeps_all more) begins g.boxes first l) (λ (l : length b ≤ k). let at : k ≡ length b = omega (arith, ap length e, length-append b (part ∷ [])) in subst (λ (x : Part). IsBox more c k x) (sym (ap (λ (x : List Part). part_at x k) e ∙ last_at b part k at)) (subst (λ j. IsBox more c j part) (sym at) new)) (cases_lt k (length b));
    }

pub whole_is : (placed entries more : List Entry) (a b c : List Part) (part : Part) → IsGrown placed entries more a b → part.from ≡ length placed → part.to ≡ length placed + length entries → c ≡ b ++ part ∷ [] → IsWhole (length placed) (length more) c
whole_is placed entries more a b c part g from to e =
    let at : length c - 1 ≡ length b = omega (arith, ap length e, length-append b (part ∷ [])) in
    let is : part_at c (length c - 1) ≡ part = ap (λ (x : List Part). part_at x (length c - 1)) e ∙ last_at b part (length c - 1) at in
    record {
      begin = ap (λ (x : Part). x.from) is ∙ from;
      end = ap (λ (x : Part). x.to) is ∙ to ∙ sym (grown_length placed entries more a b g);
    }

pub split_length : (entries front back : List Entry) (middle : Entry) → IsPermutation entries (front ++ middle ∷ back) → length entries ≡ length front + (1 + length back)
split_length entries front back middle moved = omega (arith, length_permutation entries (front ++ middle ∷ back) moved, length-append front (middle ∷ back))
