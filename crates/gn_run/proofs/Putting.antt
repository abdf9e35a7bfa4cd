-- Values that are put at elements, and fields that are evaluated over parts.
use Rattle.std.proofs.Common.{◌≡◌, ℕ, zero, suc, ◌==◌, ◌<◌, ◌≤◌, Bool, true, false, ◌||◌, List, [], ◌∷◌, ◌++◌, length, set, take, get_or, append_assoc, ◌+◌, Some, refl, ap, sym, ◌∙◌, subst, arith, add-one, if◌then◌else◌}
use Rattle.std.specs.Prelude.{slice_get, All, flat_map, Result, Ok}
use Rattle.std.specs.List.{AllZip}
use Rattle.std.proofs.lemmas.List.{append-nil}
use Rattle.std.proofs.lemmas.List.Elements.{All-nil, All-cons, All-head, All-tail}
use Rattle.gn_value.specs.declared.op.Register.{Register}
use Rattle.gn_value.specs.declared.value.Value.{Value}
use Rattle.gn_value.specs.Values.{zero_of}
use Rattle.gn_value.specs.Registers.{register_kind, register_len, register_value}
use Rattle.gn_plain.specs.Contexts.{Context, length_of}
use Rattle.gn_plain.specs.Fields.{Expr, Sources, at, kind_of_field}
use Rattle.gn_mask.specs.Numbers.{is_among}
use Rattle.gn_attr.specs.declared.column.Column.{Column}
use Rattle.gn_fill.specs.Put.{IsPut}
use Rattle.gn_slots.specs.Registers.{AllGive}
use Rattle.gn_memory.specs.declared.Memory.{Memory}
use Rattle.gn_run.specs.declared.parts.PartValues.{PartValues}
use Rattle.gn_run.specs.Evaluated.{AreEvaluated, IsFilled, AreFilled, Holds, IsPart, GivesPart}
use Rattle.gn_run.specs.Putting.{AllPut, PutsAt, CanPut, IsZeroOf}

-- a number is among two lists where it is among one of them
pub among_both : (ns ms : List ℕ) (i : ℕ) → is_among (ns ++ ms) i ≡ (is_among ns i || is_among ms i)
among_both [] ms i = refl
among_both (n ∷ ns) ms i = either (i == n) (is_among (ns ++ ms) i) (is_among ns i) (is_among ms i) (among_both ns ms i)
  where
    either : (a b c d : Bool) → b ≡ (c || d) → (a || b) ≡ ((a || c) || d)
    either true b c d e = refl
    either false b c d e = e

-- what is put last is seen
put_behind : (a b : Bool) (v w z : Value) → w ≡ (if a then v else z) → (if b then v else w) ≡ (if a || b then v else z)
put_behind true true v w z e = refl
put_behind true false v w z e = e
put_behind false true v w z e = refl
put_behind false false v w z e = e

module _ {S : Type 0} (sources : Sources S) (c : Context) where
  -- values at more elements
  pub filled_more : (ns ms : List ℕ) (e : Expr S) (before after : Register) → register_kind after ≡ register_kind before → register_len after ≡ register_len before
      → IsPut ms (at sources e c) (λ i. register_value i before) (λ i. register_value i after) (register_len before) → IsFilled sources c ns e before → IsFilled sources c (ns ++ ms) e after
  filled_more ns ms e before after kind len put f = record {
    kind = kind ∙ f.kind;
    len = len ∙ f.len;
    values = λ i within.
        let v = at sources e c i in
        let z = zero_of (kind_of_field sources e) in
        put i (subst (λ n. i < n) (sym f.len) within)
        ∙ (put_behind (is_among ns i) (is_among ms i) v (register_value i before) z (f.values i within)
        ∙ ap (λ b. if b then v else z) (sym (among_both ns ms i)));
  }

  -- registers as columns
  pub evaluated : (ns : List ℕ) (es : List (Expr S)) (rs : List Register) (columns : List Column) → AreFilled sources c ns es rs → AllZip Holds rs columns → AreEvaluated sources c ns es columns
  evaluated ns [] [] [] h z = tt
  evaluated ns (e ∷ es) (r ∷ rs) (column ∷ columns) h z =
      let one = z.0 in
      (record { kind = one.kind ∙ h.0.kind; count = one.count ∙ h.0.len; values = λ i within. one.values i ∙ h.0.values i within; sole = one.sole }, evaluated ns es rs columns h.1 z.1)
  evaluated ns [] [] (column ∷ columns) h z = absurd z
  evaluated ns [] (r ∷ rs) columns h z = absurd h
  evaluated ns (e ∷ es) [] columns h z = absurd h
  evaluated ns (e ∷ es) (r ∷ rs) [] h z = absurd z

-- ---- a part is put in, register by register

module _ (ns : List ℕ) where
  -- the values of the first registers are put, and the others are as they were
  abbrev pub SomePut : ℕ → List Register → List Register → List Register → Type 0
  SomePut k [] [] [] = Unit {0}
  SomePut zero (v ∷ vs) (b ∷ bs) (a ∷ rest) = (a ≡ b) × SomePut zero vs bs rest
  SomePut (suc k) (v ∷ vs) (b ∷ bs) (a ∷ rest) = PutsAt ns v b a × SomePut k vs bs rest
  SomePut k _ _ _ = ⊥

  pub put_none : (vs bs : List Register) → AllZip (CanPut ns) vs bs → SomePut 0 vs bs bs
  put_none [] [] h = tt
  put_none (v ∷ vs) (b ∷ bs) h = (refl, put_none vs bs h.1)
  put_none [] (b ∷ bs) h = absurd h
  put_none (v ∷ vs) [] h = absurd h

  pub put_all : (k : ℕ) (vs bs rest : List Register) → length vs ≤ k → SomePut k vs bs rest → AllPut ns vs bs rest
  put_all k [] [] [] all h = tt
  put_all zero (v ∷ vs) (b ∷ bs) (a ∷ rest) all h = absurd (omega (arith, all))
  put_all (suc k) (v ∷ vs) (b ∷ bs) (a ∷ rest) all h = (h.0, put_all k vs bs rest (omega (arith, all)) h.1)
  put_all k _ _ _ all h = absurd h

  pub put_long : (k : ℕ) (vs bs rest : List Register) → SomePut k vs bs rest → length rest ≡ length vs
  put_long k [] [] [] h = refl
  put_long zero (v ∷ vs) (b ∷ bs) (a ∷ rest) h = ap suc (put_long zero vs bs rest h.1)
  put_long (suc k) (v ∷ vs) (b ∷ bs) (a ∷ rest) h = ap suc (put_long k vs bs rest h.1)
  put_long k _ _ _ h = absurd h

  -- the values of the next register can be put
  pub put_next : (k : ℕ) (vs bs rest : List Register) (v a : Register) → slice_get vs k ≡ Some v → slice_get rest k ≡ Some a → AllZip (CanPut ns) vs bs → SomePut k vs bs rest → CanPut ns v a
  put_next zero (x ∷ vs) (b ∷ bs) (y ∷ rest) v a e f can h =
      let p : x ≡ v = cc in
      let same : y ≡ a = cc in
      let q : b ≡ a = sym h.0 ∙ same in
      subst (λ z. CanPut ns v z) q (subst (λ z. CanPut ns z b) p can.0)
  put_next (suc k) (x ∷ vs) (b ∷ bs) (y ∷ rest) v a e f can h = put_next k vs bs rest v a e f can.1 h.1
  put_next k [] [] [] v a e f can h = cc
  put_next k _ _ _ v a e f can h = absurd h

  -- those of one register more are put
  pub put_one : (k : ℕ) (vs bs rest : List Register) (v before after : Register) → slice_get vs k ≡ Some v → slice_get rest k ≡ Some before → PutsAt ns v before after → SomePut k vs bs rest → SomePut (suc k) vs bs (set rest k after)
  put_one zero (x ∷ vs) (b ∷ bs) (y ∷ rest) v before after e f one h =
      let p : v ≡ x = cc in
      let same : before ≡ y = cc in
      let q : before ≡ b = same ∙ h.0 in
      (subst (λ z. PutsAt ns x z after) q (subst (λ z. PutsAt ns z before after) p one), h.1)
  put_one (suc k) (x ∷ vs) (b ∷ bs) (y ∷ rest) v before after e f one h = (h.0, put_one k vs bs rest v before after e f one h.1)
  put_one k [] [] [] v before after e f one h = cc
  put_one k _ _ _ v before after e f one h = absurd h

-- ---- values of fields are put

module _ {S : Type 0} (sources : Sources S) (c : Context) where
  pub can_put : (ns ms : List ℕ) (es : List (Expr S)) (vs rs : List Register) → All (λ n. n < length_of c) ms → AllGive sources c ms es vs → AreFilled sources c ns es rs → AllZip (CanPut ms) vs rs
  can_put ns ms [] [] [] within g f = tt
  can_put ns ms (e ∷ es) (v ∷ vs) (r ∷ rs) within g f =
      (record { kind = g.0.kind ∙ sym f.0.kind; len = g.0.len; within = subst (λ count. All (λ n. n < count) ms) (sym f.0.len) within }, can_put ns ms es vs rs within g.1 f.1)
  can_put ns ms [] [] (r ∷ rs) within g f = absurd f
  can_put ns ms (e ∷ es) (v ∷ vs) [] within g f = absurd f
  can_put ns ms [] (v ∷ vs) rs within g f = absurd g
  can_put ns ms (e ∷ es) [] rs within g f = absurd g

  pub filled_by : (ns ms : List ℕ) (es : List (Expr S)) (vs before after : List Register) → AllGive sources c ms es vs → AllPut ms vs before after → AreFilled sources c ns es before → AreFilled sources c (ns ++ ms) es after
  filled_by ns ms [] [] [] [] g p f = tt
  filled_by ns ms (e ∷ es) (v ∷ vs) (b ∷ bs) (a ∷ rest) g p f =
      (filled_more sources c ns ms e b a p.0.kind p.0.len (p.0.values (at sources e c) g.0.values) f.0, filled_by ns ms es vs bs rest g.1 p.1 f.1)
  filled_by ns ms [] (v ∷ vs) before after g p f = absurd g
  filled_by ns ms (e ∷ es) [] before after g p f = absurd g
  filled_by ns ms [] [] (b ∷ bs) after g p f = absurd f
  filled_by ns ms [] [] [] (a ∷ rest) g p f = absurd p
  filled_by ns ms (e ∷ es) (v ∷ vs) [] after g p f = absurd f
  filled_by ns ms (e ∷ es) (v ∷ vs) (b ∷ bs) [] g p f = absurd p

  -- zeros of the fields' kinds, at no element yet
  pub none_filled : (es : List (Expr S)) (vs zs : List Register) (count : ℕ) → count ≡ length_of c → AllGive sources c [] es vs → AllZip (IsZeroOf count) vs zs → AreFilled sources c [] es zs
  none_filled [] [] [] count long g z = tt
  none_filled (e ∷ es) (v ∷ vs) (r ∷ rs) count long g z =
      (record { kind = z.0.kind ∙ g.0.kind; len = z.0.len ∙ long; values = λ i within. z.0.values i (subst (λ n. i < n) (sym long) within) ∙ ap zero_of g.0.kind }, none_filled es vs rs count long g.1 z.1)
  none_filled [] (v ∷ vs) zs count long g z = absurd g
  none_filled (e ∷ es) [] zs count long g z = absurd g
  none_filled [] [] (r ∷ rs) count long g z = absurd z
  none_filled (e ∷ es) (v ∷ vs) [] count long g z = absurd z

  -- a register for each field
  pub filled_long : (ns : List ℕ) (es : List (Expr S)) (rs : List Register) → AreFilled sources c ns es rs → length rs ≡ length es
  filled_long ns [] [] f = refl
  filled_long ns (e ∷ es) (r ∷ rs) f = ap suc (filled_long ns es rs f.1)
  filled_long ns [] (r ∷ rs) f = absurd f
  filled_long ns (e ∷ es) [] f = absurd f

-- ---- one more of each list

pub zero_more : (count : ℕ) (rs zs : List Register) (r z : Register) → AllZip (IsZeroOf count) rs zs → IsZeroOf count r z → AllZip (IsZeroOf count) (rs ++ r ∷ []) (zs ++ z ∷ [])
zero_more count [] [] r z h last = (last, tt)
zero_more count (x ∷ rs) (y ∷ zs) r z h last = (h.0, zero_more count rs zs r z h.1 last)
zero_more count [] (y ∷ zs) r z h last = absurd h
zero_more count (x ∷ rs) [] r z h last = absurd h

pub holds_more : (rs : List Register) (columns : List Column) (r : Register) (column : Column) → AllZip Holds rs columns → Holds r column → AllZip Holds (rs ++ r ∷ []) (columns ++ column ∷ [])
holds_more [] [] r column h last = (last, tt)
holds_more (q ∷ rs) (x ∷ columns) r column h last = (h.0, holds_more rs columns r column h.1 last)
holds_more [] (x ∷ columns) r column h last = absurd h
holds_more (q ∷ rs) [] r column h last = absurd h

-- ---- the parts of a mask

all_first : (P : ℕ → Type 0) (ns ms : List ℕ) → All P (ns ++ ms) → All P ns
all_first P [] ms h = All-nil P
all_first P (n ∷ ns) ms h = All-cons P n ns (All-head P n (ns ++ ms) h) (all_first P ns ms (All-tail P n (ns ++ ms) h))

all_second : (P : ℕ → Type 0) (ns ms : List ℕ) → All P (ns ++ ms) → All P ms
all_second P [] ms h = h
all_second P (n ∷ ns) ms h = all_second P ns ms (All-tail P n (ns ++ ms) h)

-- what holds of all numbers holds of those of each part
pub all_in_parts : (P : ℕ → Type 0) (parts : List (List ℕ)) → All P (flat_map (λ part. part) parts) → All (All P) parts
all_in_parts P [] h = All-nil (All P)
all_in_parts P (part ∷ parts) h =
    All-cons (All P) part parts (all_first P part (flat_map (λ p. p) parts) h) (all_in_parts P parts (all_second P part (flat_map (λ p. p) parts) h))

-- the numbers of one part more
part_next : (parts : List (List ℕ)) (k : ℕ) → k < length parts → flat_map (λ part. part) (take (suc k) parts) ≡ flat_map (λ part. part) (take k parts) ++ get_or parts k []
part_next [] k h = absurd (omega (arith, h))
part_next (part ∷ parts) zero h = append-nil part
part_next (part ∷ parts) (suc k) h = ap (λ ns. part ++ ns) (part_next parts k (omega (arith, h))) ∙ sym (append_assoc part (flat_map (λ p. p) (take k parts)) (get_or parts k []))

pub part_more : (parts : List (List ℕ)) (k : ℕ) → k < length parts → flat_map (λ part. part) (take (k + 1) parts) ≡ flat_map (λ part. part) (take k parts) ++ get_or parts k []
part_more parts k h = subst (λ n. flat_map (λ part. part) (take n parts) ≡ flat_map (λ part. part) (take k parts) ++ get_or parts k []) (sym (add-one k)) (part_next parts k h)

-- a result at a place is that of the part there
pub zip_there : {A B : Type 0} (R : A → B → Type 0) (xs : List A) (ys : List B) (k : ℕ) (d : A) (y : B) → AllZip R xs ys → slice_get ys k ≡ Some y → R (get_or xs k d) y
zip_there R [] [] k d y h e = cc
zip_there R (x ∷ xs) (z ∷ ys) zero d y h e = let same : z ≡ y = cc in subst (R x) same h.0
zip_there R (x ∷ xs) (z ∷ ys) (suc k) d y h e = zip_there R xs ys k d y h.1 e
zip_there R [] (z ∷ ys) k d y h e = absurd h
zip_there R (x ∷ xs) [] k d y h e = absurd h

pub zip_long : {A B : Type 0} (R : A → B → Type 0) (xs : List A) (ys : List B) → AllZip R xs ys → length ys ≡ length xs
zip_long R [] [] h = refl
zip_long R (x ∷ xs) (y ∷ ys) h = ap suc (zip_long R xs ys h.1)
zip_long R [] (y ∷ ys) h = absurd h
zip_long R (x ∷ xs) [] h = absurd h

-- what holds of all numbers holds of those of a part
pub within_part : (P : ℕ → Type 0) (parts : List (List ℕ)) (ns : List ℕ) (k : ℕ) → flat_map (λ part. part) parts ≡ ns → All P ns → k < length parts → All P (get_or parts k [])
within_part P parts ns k follow all h = all_in_parts P parts (subst (All P) (sym follow) all) k [] h

-- a result that is not an error has a part's values
pub given_part : {S : Type 0} (sources : Sources S) (c : Context) (es : List (Expr S)) (parts : List (List ℕ)) (results : List (Result PartValues Memory)) (k : ℕ) (y : Result PartValues Memory) (part : PartValues)
    → AllZip (GivesPart sources c es) parts results → slice_get results k ≡ Some y → y ≡ Ok part → IsPart sources c es (get_or parts k []) part
given_part sources c es parts results k y part all there ok =
    subst (λ r. GivesPart sources c es (get_or parts k []) r) ok (zip_there (GivesPart sources c es) parts results k [] y all there)
