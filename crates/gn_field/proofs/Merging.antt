-- One step more of a list that is merged into another.
use Rattle.std.proofs.Common.{◌≡◌, ◌⊎◌, inl, inr, ℕ, zero, suc, ◌+◌, ◌<◌, ◌≤◌, List, [], ◌∷◌, ◌++◌, length, map, take, drop, Option, Some, get_or, refl, ap, sym, ◌∙◌, subst, arith}
use Rattle.std.specs.Prelude.{slice_get}
use Rattle.std.proofs.lemmas.List.{length-append, length-map, take_more, take-append-drop, get_or-map}
use Rattle.std.proofs.lemmas.Option.{slice_get_within, slice_get_read, slice_get-get_or}
use Rattle.gn_value.specs.Values.{zero_of}
use Rattle.gn_value.specs.declared.value.ValueKind.TheVariants.{Truth}
use Rattle.gn_node_set.specs.Meanings.{Has, AllDiffer}
use Rattle.gn_node_set.specs.Paths.{Path}
use Rattle.gn_node_set.proofs.Lists.{map_append, has_first, has_second, has_either, member_at, place_of, at_image}
use Rattle.gn_plain.specs.Fields.{constant, apply, elsewhere, sampled}
use Rattle.gn_field.specs.declared.step.FieldStep.{FieldStep}
use Rattle.gn_field.specs.Steps.{Key, of_constant, of_input, of_apply, of_elsewhere, of_sampled, names, AreBelow, LeadBack, exprs_of, named, key_of, keys}
use Rattle.gn_field.specs.Trees.{Tree, formed, grown, trees, IsSourced, AreSourced}
use Rattle.gn_field.specs.Merged.{IsBehind, moved, IsMoved, Adds, IsMerged, Grows, Merges}
use Rattle.gn_field.proofs.Grown.{get_before, get_last, place_in, differ_push, below_at, below_more, below_push, grown_push, grown_append, length_grown, grown_at, back_push, back_at, one_key}
use Rattle.gn_field.proofs.Sourced.{sourced_push}

abbrev nothing : Tree
nothing = constant (zero_of Truth)

-- a key whose tree is there is there itself
known : (ks : List Key) (k : Key) → LeadBack ks → AllDiffer (trees ks) → AreBelow (length ks) (names k) → Has (trees ks) (formed (trees ks) k) → Has ks k
known ks k back d below h =
    let long : length (trees ks) ≡ length ks = omega (arith, length_grown [] ks) in
    let t : (j : ℕ) × (j < length (trees ks)) × (get_or (trees ks) j nothing ≡ formed (trees ks) k) = place_in (trees ks) (formed (trees ks) k) nothing h in
    let j = t.0 in
    let within : j < length ks = omega (arith, long, t.1) in
    let other = get_or ks j k in
    let here : slice_get ks j ≡ Some other = slice_get-get_or ks j k within in
    let names_other : AreBelow (length ks) (names other) = below_more j (length ks) (names other) (omega (arith, within)) (back_at 0 j ks j other (omega arith) back here) in
    let same : formed (trees ks) k ≡ formed (trees ks) other = sym t.2 ∙ grown_at [] ks j j 0 other refl (omega arith) back here in
    let e : k ≡ other = one_key (trees ks) k other d (subst (λ n. AreBelow n (names k)) (sym long) below) (subst (λ n. AreBelow n (names other)) (sym long) names_other) same in
    member_at ks j k (here ∙ ap Some (sym e))

pub record IsAdded {S : Type 0} (before : List (FieldStep S)) (x : FieldStep S) (place : ℕ) (after : List (FieldStep S)) : Type 0 where
  pub within : place < length after
  pub here : named (trees (keys after)) place ≡ formed (trees (keys before)) (key_of x)
  pub merged : IsMerged after
  pub grows : Grows before after
  pub members : (t : Tree) → Has (trees (keys after)) t → Has (trees (keys before)) t ⊎ (t ≡ formed (trees (keys before)) (key_of x))
  pub sourced : (table : Path → Option S) → AreSourced table before → IsSourced table x → AreSourced table after
  pub few : length after ≤ length before + 1

module _ {S : Type 0} where
  pub unchanged : (xs : List (FieldStep S)) → Grows xs xs
  unchanged xs = record { longer = omega arith; extends = λ k h. refl; stays = λ t h. h }

  pub added : (before : List (FieldStep S)) (x : FieldStep S) (place : ℕ) (after : List (FieldStep S)) → IsMerged before → AreBelow (length before) (names (key_of x)) → Adds before x place after → IsAdded before x place after
  added before x place after m below (inl (same, found)) = subst (IsAdded before x place) (sym same) there
    where
      there : IsAdded before x place before
      there = record {
        within = omega (arith, slice_get_within (keys before) place (key_of x) found, length-map before key_of);
        here = grown_at [] (keys before) place place 0 (key_of x) refl (omega arith) m.back found;
        merged = m;
        grows = unchanged before;
        members = λ t h. inl h;
        sourced = λ table h is. h;
        few = omega arith;
      }
  added before x place after m below (inr (pushed, last, new)) = subst (IsAdded before x place) (sym pushed) behind
    where
      ks : List Key
      ks = keys before

      k : Key
      k = key_of x

      ts : List Tree
      ts = trees (keys before)

      long : length (trees (keys before)) ≡ length before
      long = omega (arith, length_grown [] (keys before), length-map before key_of)

      keys_are : keys (before ++ x ∷ []) ≡ keys before ++ key_of x ∷ []
      keys_are = map_append key_of before (x ∷ [])

      trees_are : trees (keys (before ++ x ∷ [])) ≡ trees (keys before) ++ formed (trees (keys before)) (key_of x) ∷ []
      trees_are = ap trees keys_are ∙ grown_push [] (keys before) (key_of x)

      names_below : AreBelow (length (keys before)) (names (key_of x))
      names_below = subst (λ n. AreBelow n (names (key_of x))) (sym (length-map before key_of)) below

      behind : IsAdded before x place (before ++ x ∷ [])
      behind = record {
        within = omega (arith, last, length-append before (x ∷ []));
        here = ap (λ us. named us place) trees_are ∙ (ap (λ n. get_or (trees (keys before) ++ formed (trees (keys before)) (key_of x) ∷ []) n nothing) (last ∙ sym long) ∙ get_last (trees (keys before)) (formed (trees (keys before)) (key_of x)) nothing);
        merged = record {
          back = subst LeadBack (sym keys_are) (back_push 0 (length (keys before)) (keys before) (key_of x) (omega arith) m.back names_below);
          differ = subst AllDiffer (sym trees_are) (differ_push (trees (keys before)) (formed (trees (keys before)) (key_of x)) m.differ (λ h. new (known (keys before) (key_of x) m.back m.differ names_below h)));
        };
        grows = record {
          longer = omega (arith, length-append before (x ∷ []));
          extends = λ j h. ap (λ us. named us j) trees_are ∙ get_before (trees (keys before)) (formed (trees (keys before)) (key_of x)) j nothing (omega (arith, h, long));
          stays = λ t h. subst (λ us. Has us t) (sym trees_are) (has_first (trees (keys before)) (formed (trees (keys before)) (key_of x) ∷ []) t h);
        };
        members = λ t h. elim (has_either (trees (keys before)) (formed (trees (keys before)) (key_of x) ∷ []) t (subst (λ us. Has us t) trees_are h)) [
          | inl a ↦ inl a
          | inr b ↦ elim b [ inl e ↦ inr e | inr n ↦ absurd n ]
        ];
        sourced = λ table h is. sourced_push table before x h is;
        few = omega (arith, length-append before (x ∷ []));
      }

-- ---- where a key can be

below_member : (n : ℕ) (ks : List ℕ) (k : ℕ) → AreBelow n ks → Has ks k → k < n
below_member n [] k h is = absurd is
below_member n (j ∷ ks) k h (inl e) = subst (λ i. i < n) (sym e) h.0
below_member n (j ∷ ks) k h (inr is) = below_member n ks k h.1 is

taken_at : {A : Type 0} (n : ℕ) (xs : List A) (i : ℕ) (x : A) → slice_get (take n xs) i ≡ Some x → (i < n) × (slice_get xs i ≡ Some x)
taken_at zero xs i x e = cc
taken_at (suc n) [] i x e = cc
taken_at (suc n) (y ∷ xs) zero x e = (omega arith, e)
taken_at (suc n) (y ∷ xs) (suc i) x e = let t = taken_at n xs i x e in (omega (arith, t.0), t.1)

-- no key is the same at a place that is not behind those that it names
pub none_before : (ks : List Key) (k : Key) (n : ℕ) → LeadBack ks → IsBehind n (names k) → ¬ Has (take n ks) k
none_before ks k n back (inl e) h = let t = place_of (take n ks) k h in let r = taken_at n ks t.0 k t.1 in absurd (omega (arith, e, r.0))
none_before ks k n back (inr (j, is, e)) h =
    let t = place_of (take n ks) k h in
    let r = taken_at n ks t.0 k t.1 in
    let b : AreBelow t.0 (names k) = back_at 0 t.0 ks t.0 k (omega arith) back r.1 in
    absurd (omega (arith, e, r.0, below_member t.0 (names k) j b is))

pub map_take : {A B : Type 0} (f : A → B) (n : ℕ) (xs : List A) → map f (take n xs) ≡ take n (map f xs)
map_take f zero xs = refl
map_take f (suc n) [] = refl
map_take f (suc n) (x ∷ xs) = ap (λ ys. f x ∷ ys) (map_take f n xs)

pub behind_more : (n : ℕ) (ks : List ℕ) (k : ℕ) → IsBehind n ks → IsBehind n (ks ++ k ∷ [])
behind_more n ks k (inl e) = inl e
behind_more n ks k (inr (j, is, e)) = inr (j, has_first ks (k ∷ []) j is, e)

pub behind_step : (n : ℕ) (ks : List ℕ) (k m : ℕ) → IsBehind n ks → (m ≡ n) ⊎ (m ≡ k + 1) → IsBehind m (ks ++ k ∷ [])
behind_step n ks k m h (inl e) = subst (λ i. IsBehind i (ks ++ k ∷ [])) (sym e) (behind_more n ks k h)
behind_step n ks k m h (inr e) = inr (k, has_second ks (k ∷ []) k (inl refl), e)

-- ---- steps at other places

below_map : (n : ℕ) (places ks : List ℕ) → AreBelow n places → AreBelow (length places) ks → AreBelow n (map (λ k. get_or places k 0) ks)
below_map n places [] h below = tt
below_map n places (k ∷ ks) h below = (below_at n places k 0 h below.0, below_map n places ks h below.1)

pub moved_below : (n : ℕ) (places : List ℕ) (k : Key) → AreBelow n places → AreBelow (length places) (names k) → AreBelow n (names (moved places k))
moved_below n places (of_constant v) h below = tt
moved_below n places (of_input x) h below = tt
moved_below n places (of_apply op args) h below = below_map n places args h below
moved_below n places (of_elsewhere x args) h below = below_map n places args h below
moved_below n places (of_sampled path arg) h below = (below_at n places arg 0 h below.0, tt)

named_moved : (ts us : List Tree) (places : List ℕ) (k : ℕ) → map (named ts) places ≡ us → k < length places → named us k ≡ named ts (get_or places k 0)
named_moved ts us places k e h = ap (λ vs. named vs k) (sym e) ∙ get_or-map (named ts) places k 0 nothing h

map_moved : (ts us : List Tree) (places ks : List ℕ) → map (named ts) places ≡ us → AreBelow (length places) ks → map (named ts) (map (λ k. get_or places k 0) ks) ≡ map (named us) ks
map_moved ts us places [] e below = refl
map_moved ts us places (k ∷ ks) e below = let a = named_moved ts us places k e below.0 in let b = map_moved ts us places ks e below.1 in cc

pub moved_formed : (ts us : List Tree) (places : List ℕ) (k : Key) → map (named ts) places ≡ us → AreBelow (length places) (names k) → formed ts (moved places k) ≡ formed us k
moved_formed ts us places (of_constant v) e below = refl
moved_formed ts us places (of_input x) e below = refl
moved_formed ts us places (of_apply op args) e below = ap (λ es. apply op (exprs_of es)) (map_moved ts us places args e below)
moved_formed ts us places (of_elsewhere x args) e below = ap (λ es. elsewhere x (exprs_of es)) (map_moved ts us places args e below)
moved_formed ts us places (of_sampled path arg) e below = ap (sampled path tt) (sym (named_moved ts us places arg e below.0))

-- ---- one step more

pub take_all : {A : Type 0} (n : ℕ) (xs : List A) → length xs ≤ n → take n xs ≡ xs
take_all zero [] h = refl
take_all zero (x ∷ xs) h = absurd (omega arith)
take_all (suc n) [] h = refl
take_all (suc n) (x ∷ xs) h = ap (λ ys. x ∷ ys) (take_all n xs (omega arith))

-- the first i of the others are merged into the steps, and are at these places
pub record IsMerging {S : Type 0} (before others steps : List (FieldStep S)) (places : List ℕ) (i : ℕ) : Type 0 where
  pub formed : map (named (trees (keys steps))) places ≡ trees (keys (take i others))
  pub within : AreBelow (length steps) places
  pub counted : length places ≡ i
  pub merged : IsMerged steps
  pub grows : Grows before steps
  pub members : (t : Tree) → Has (trees (keys steps)) t → Has (trees (keys before)) t ⊎ Has (trees (keys others)) t
  pub sourced : (table : Path → Option S) → AreSourced table before → AreSourced table others → AreSourced table steps
  pub few : length steps ≤ length before + i

grown_has : (ts : List Tree) (ks : List Key) (t : Tree) → Has ts t → Has (grown ts ks) t
grown_has ts [] t h = h
grown_has ts (k ∷ ks) t h = grown_has (ts ++ formed ts k ∷ []) ks t (has_first ts (formed ts k ∷ []) t h)

module _ {S : Type 0} where
  pub grows_twice : (xs ys zs : List (FieldStep S)) → Grows xs ys → Grows ys zs → Grows xs zs
  grows_twice xs ys zs g h = record {
    longer = omega (arith, g.longer, h.longer);
    extends = λ k b. h.extends k (omega (arith, b, g.longer)) ∙ g.extends k b;
    stays = λ t b. h.stays t (g.stays t b);
  }

  sourced_of : (table : Path → Option S) (xs : List (FieldStep S)) (x : FieldStep S) → AreSourced table xs → Has xs x → IsSourced table x
  sourced_of table [] x h k = absurd k
  sourced_of table (y ∷ xs) x h (inl e) = subst (IsSourced table) (sym e) h.0
  sourced_of table (y ∷ xs) x h (inr k) = sourced_of table xs x h.1 k

  taken_has : (n : ℕ) (xs : List (FieldStep S)) (t : Tree) → Has (trees (keys (take n xs))) t → Has (trees (keys xs)) t
  taken_has n xs t h =
      let all : keys (take n xs) ++ keys (drop n xs) ≡ keys xs = sym (map_append key_of (take n xs) (drop n xs)) ∙ ap keys (take-append-drop n xs) in
      subst (λ ks. Has (trees ks) t) all (subst (λ ts. Has ts t) (sym (grown_append [] (keys (take n xs)) (keys (drop n xs)))) (grown_has (trees (keys (take n xs))) (keys (drop n xs)) t h))

  pub still : (steps after : List (FieldStep S)) (ks : List ℕ) → Grows steps after → AreBelow (length steps) ks → map (named (trees (keys after))) ks ≡ map (named (trees (keys steps))) ks
  still steps after [] g h = refl
  still steps after (k ∷ ks) g h = let a = g.extends k h.0 in let b = still steps after ks g h.1 in cc

module _ {S : Type 0} (before others steps : List (FieldStep S)) (places : List ℕ) (i : ℕ) (x : FieldStep S) (m : IsMerging before others steps places i) (inside : i < length others) (back : LeadBack (keys others)) (at : x ≡ get_or others i x) where
  there : slice_get others i ≡ Some x
  there = slice_get_read others (length others) i x refl inside at

  pub names_fit : AreBelow (length places) (names (key_of x))
  names_fit = back_at 0 (length places) (keys others) i (key_of x) (omega (arith, m.counted)) back (at_image key_of others i x there)

  pub moved_fit : (r : FieldStep S) → IsMoved places x r → AreBelow (length steps) (names (key_of r))
  moved_fit r is = subst (λ k. AreBelow (length steps) (names k)) (sym is.0) (moved_below (length steps) places (key_of x) m.within names_fit)

  pub one_step : (r : FieldStep S) → IsMoved places x r → (p : ℕ) (after : List (FieldStep S)) → Adds steps r p after → IsMerging before others after (places ++ p ∷ []) (i + 1)
  one_step r is p after adds =
      let a : IsAdded steps r p after = added steps r p after m.merged (moved_fit r is) adds in
      let so_far = trees (keys (take i others)) in
      let new = formed (trees (keys steps)) (key_of r) in
      let same : new ≡ formed so_far (key_of x) = ap (formed (trees (keys steps))) is.0 ∙ moved_formed (trees (keys steps)) so_far places (key_of x) m.formed names_fit in
      let more : take (i + 1) others ≡ take i others ++ x ∷ [] = take_more others i x inside ∙ ap (λ y. take i others ++ y ∷ []) (sym at) in
      let trees_more : trees (keys (take (i + 1) others)) ≡ so_far ++ formed so_far (key_of x) ∷ [] =
      ap (λ ys. trees (keys ys)) more ∙ (ap trees (map_append key_of (take i others) (x ∷ [])) ∙ grown_push [] (keys (take i others)) (key_of x)) in
      record {
        formed = map_append (named (trees (keys after))) places (p ∷ [])
            ∙ (ap (λ ts. ts ++ named (trees (keys after)) p ∷ []) (still steps after places a.grows m.within ∙ m.formed)
            ∙ (ap (λ t. so_far ++ t ∷ []) (a.here ∙ same) ∙ sym trees_more));
        within = below_push (length after) places p (below_more (length steps) (length after) places a.grows.longer m.within) a.within;
        counted = length-append places (p ∷ []) ∙ ap (λ n. n + 1) m.counted;
        merged = a.merged;
        grows = grows_twice before steps after m.grows a.grows;
        members = λ t h. elim (a.members t h) [
          | inl b ↦ m.members t b
          | inr e ↦ inr (taken_has (i + 1) others t (subst (λ ts. Has ts t) (sym trees_more) (has_second so_far (formed so_far (key_of x) ∷ []) t (inl (e ∙ same)))))
        ];
        sourced = λ table b o. a.sourced table (m.sourced table b o) (is.1 table (sourced_of table others x o (member_at others i x there)));
        few = omega (arith, a.few, m.few);
      }

module _ {S : Type 0} (before others : List (FieldStep S)) where
  pub started : IsMerged before → IsMerging before others before [] 0
  started d = record {
    formed = refl;
    within = tt;
    counted = refl;
    merged = d;
    grows = unchanged before;
    members = λ t h. inl h;
    sourced = λ table b o. b;
    few = omega arith;
  }

  pub ended : (steps : List (FieldStep S)) (places : List ℕ) (i : ℕ) → length others ≤ i → IsMerging before others steps places i → i ≤ length others → Merges before others steps places
  ended steps places i over m most =
      let all : take i others ≡ others = take_all i others over in
      record {
        merged = m.merged;
        grows = m.grows;
        formed = m.formed ∙ ap (λ xs. trees (keys xs)) all;
        within = m.within;
        members = m.members;
        sourced = m.sourced;
        few = omega (arith, m.few);
      }
