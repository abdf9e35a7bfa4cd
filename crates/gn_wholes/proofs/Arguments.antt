-- What steps that read elsewhere make of the values of their arguments.
use Rattle.std.proofs.Common.{◌≡◌, ℕ, zero, suc, ◌+◌, ◌++◌, ◌<◌, get_or, Bool, true, false, ℤ, pos, negsuc, List, [], ◌∷◌, refl, ap, ap₂, sym, subst, ◌∙◌, ltb-true, arith, map, take, drop, length}
use Rattle.std.specs.Prelude.{nat_lt, if◌then◌else◌}
use Rattle.std.specs.List.{All, range_with_len}
use Rattle.std.proofs.lemmas.List.Elements.{All-from_get_or}
use Rattle.std.proofs.lemmas.List.FromFn.{length-range_with_len, get_or-range_with_len}
use Rattle.gn_value.specs.Registers.{register_kind, register_len, register_value}
use Rattle.gn_value.specs.Rows.{int_in}
use Rattle.gn_value.specs.declared.op.Register.TheVariants as register
use Rattle.gn_value.specs.Values.{as_int, zero_of}
use Rattle.gn_value.specs.declared.op.Register.{Register}
use Rattle.gn_value.specs.declared.value.Value.{Value}
use Rattle.gn_value.specs.declared.value.ValueKind.{ValueKind}
use Rattle.gn_value.specs.declared.value.ValueKind.TheVariants.{Int}
use Rattle.gn_value.specs.declared.value.Place.{Place}
use Rattle.gn_plain.specs.Contexts.{Context, nowhere, on, length_of}
use Rattle.gn_plain.specs.Fields.{Expr, Exprs, elsewhere, none, and_one, Sources, Part, Step, accumulate, at_index, on_domain, kind_of_step, place_of_step, accumulated, element_or, at, kind_of_field}
use Rattle.gn_field.specs.Kinds.{kinds_in}
use Rattle.gn_field.specs.Steps.{exprs_of}
use Rattle.gn_interp.specs.Numbers.{number_at}
use Rattle.gn_elsewhere.proofs.Accumulating.{accumulated_same, group_value}
use Rattle.gn_slots.specs.Registers.{Gives, AllGive}
use Rattle.gn_wholes.specs.Contexts.{HasPlace, IsBrought, moved}
use Rattle.gn_wholes.specs.Covers.{GivesWhole, IsConstant}

-- ---- the numbers of elements

range_from : (a n : ℕ) → range_with_len a (suc n) ≡ range_with_len a n ++ (a + n) ∷ []
range_from a zero = ap (λ k. k ∷ []) (let e : a ≡ a + 0 = omega arith in e)
range_from a (suc n) =
    let e : a + 1 + n ≡ a + suc n = omega arith in
    ap (λ l. a ∷ l) (range_from (a + 1) n ∙ ap (λ k. range_with_len (a + 1) n ++ k ∷ []) e)

pub range_more : (n : ℕ) → range_with_len 0 (n + 1) ≡ range_with_len 0 n ++ n ∷ []
range_more n =
    let next : n + 1 ≡ suc n = omega arith in
    let same : 0 + n ≡ n = omega arith in
    ap (range_with_len 0) next ∙ (range_from 0 n ∙ ap (λ k. range_with_len 0 n ++ k ∷ []) same)

element_at : (n i : ℕ) → i < n → get_or (range_with_len 0 n) i 0 ≡ i
element_at n i below = get_or-range_with_len 0 n i 0 below ∙ (let same : 0 + i ≡ i = omega arith in same)

pub range_within : (n : ℕ) → All (λ k. k < n) (range_with_len 0 n)
range_within n =
    All-from_get_or (λ k. k < n) (range_with_len 0 n) 0
    (λ i h.
    let within : i < n = omega (arith, h, length-range_with_len 0 n) in
    let is : get_or (range_with_len 0 n) i 0 ≡ i = element_at n i within in
    omega (arith, is, within))

-- ---- registers at all elements

module _ {S : Type 0} (sources : Sources S) where
  pub value_at : (c : Context) (e : Expr S) (r : Register) → GivesWhole sources c e r → (i : ℕ) → i < length_of c → register_value i r ≡ at sources e c i
  value_at c e r gives i below =
      let long = length-range_with_len 0 (length_of c) in
      gives.values i (omega (arith, below, long)) ∙ ap (at sources e c) (element_at (length_of c) i below)

  pub len_is : (c : Context) (e : Expr S) (r : Register) → GivesWhole sources c e r → register_len r ≡ length_of c
  len_is c e r gives = gives.len ∙ length-range_with_len 0 (length_of c)

  pub gives_whole : (c : Context) (e : Expr S) (r : Register) → register_kind r ≡ kind_of_field sources e → register_len r ≡ length_of c → ((i : ℕ) → i < length_of c → register_value i r ≡ at sources e c i) → GivesWhole sources c e r
  gives_whole c e r kind len values =
      let long = length-range_with_len 0 (length_of c) in
      record {
        kind = kind;
        len = len ∙ sym long;
        values = λ i below. let within : i < length_of c = omega (arith, below, long) in values i within ∙ sym (ap (at sources e c) (element_at (length_of c) i within));
      }

  -- ---- one argument and two

  -- a register has the values of the one argument
  pub record OneGiven (c : Context) (ns : List ℕ) (k : ValueKind) (es : List (Expr S)) (r : Register) : Type 0 where
    pub e : Expr S
    pub es_are : exprs_of es ≡ and_one e none
    pub kind : kind_of_field sources e ≡ k
    pub gives : Gives sources c ns e r

  pub one_given : (c : Context) (ns : List ℕ) (k : ValueKind) (es : List (Expr S)) (rs : List Register) → kinds_in sources (exprs_of es) ≡ k ∷ [] → AllGive sources c ns es rs → (length rs ≡ 1) × ((r : Register) → r ≡ get_or rs 0 r → OneGiven c ns k es r)
  one_given c ns k (e ∷ []) (r ∷ []) kinds all =
      (refl, λ v is. record { e = e; es_are = refl; kind = cc; gives = subst (Gives sources c ns e) (sym is) all.0 })
  one_given c ns k [] rs kinds all = cc
  one_given c ns k (e ∷ f ∷ es) rs kinds all = cc
  one_given c ns k (e ∷ []) [] kinds all = absurd all
  one_given c ns k (e ∷ []) (r ∷ s ∷ rs) kinds all = absurd all.1

  -- two registers have the values of the two arguments
  pub record TwoGiven (c : Context) (ns : List ℕ) (k l : ValueKind) (es : List (Expr S)) (r s : Register) : Type 0 where
    pub e : Expr S
    pub f : Expr S
    pub es_are : exprs_of es ≡ and_one e (and_one f none)
    pub kind_e : kind_of_field sources e ≡ k
    pub kind_f : kind_of_field sources f ≡ l
    pub gives_e : Gives sources c ns e r
    pub gives_f : Gives sources c ns f s

  pub two_given : (c : Context) (ns : List ℕ) (k l : ValueKind) (es : List (Expr S)) (rs : List Register) → kinds_in sources (exprs_of es) ≡ k ∷ l ∷ [] → AllGive sources c ns es rs → (length rs ≡ 2) × ((r s : Register) → r ≡ get_or rs 0 r → s ≡ get_or rs 1 s → TwoGiven c ns k l es r s)
  two_given c ns k l (e ∷ f ∷ []) (r ∷ s ∷ []) kinds all = (
    refl,
    λ v w is_v is_w. record {
      e = e;
      f = f;
      es_are = refl;
      kind_e = cc;
      kind_f = cc;
      gives_e = subst (Gives sources c ns e) (sym is_v) all.0;
      gives_f = subst (Gives sources c ns f) (sym is_w) all.1.0;
    },
  )
  two_given c ns k l [] rs kinds all = cc
  two_given c ns k l (e ∷ []) rs kinds all = cc
  two_given c ns k l (e ∷ f ∷ g ∷ es) rs kinds all = cc
  two_given c ns k l (e ∷ f ∷ []) [] kinds all = absurd all
  two_given c ns k l (e ∷ f ∷ []) (r ∷ []) kinds all = absurd all.1
  two_given c ns k l (e ∷ f ∷ []) (r ∷ s ∷ t ∷ rs) kinds all = absurd all.1.1

  -- two arguments, one by one
  pub record AreTwo (f : ℕ → Expr S) (k l : ValueKind) (args : List ℕ) : Type 0 where
    pub first : kinds_in sources (exprs_of (map f (take 1 args))) ≡ k ∷ []
    pub second : kinds_in sources (exprs_of (map f (drop 1 args))) ≡ l ∷ []
    pub joined : (e g : Expr S) → exprs_of (map f (take 1 args)) ≡ and_one e none → exprs_of (map f (drop 1 args)) ≡ and_one g none → exprs_of (map f args) ≡ and_one e (and_one g none)

  pub are_two : (f : ℕ → Expr S) (k l : ValueKind) (args : List ℕ) → kinds_in sources (exprs_of (map f args)) ≡ k ∷ l ∷ [] → AreTwo f k l args
  are_two f k l (a ∷ b ∷ []) kinds = record { first = cc; second = cc; joined = λ e g x y. cc }
  are_two f k l [] kinds = cc
  are_two f k l (a ∷ []) kinds = cc
  are_two f k l (a ∷ b ∷ d ∷ args) kinds = cc

  -- ---- zero where the component has no such place

  where_not : (b : Bool) (a z : Value) → ¬ (b ≡ true) → (if b then a else z) ≡ z
  where_not true a z without = absurd (without refl)
  where_not false a z without = refl

  pub zero_gives : (c : Context) (step : Step) (args : Exprs S) (r : Register) → ¬ HasPlace c (place_of_step step) → IsConstant (kind_of_step step) (length_of c) r → GivesWhole sources c (elsewhere step args) r
  zero_gives nowhere step args r without is = gives_whole nowhere (elsewhere step args) r is.of_kind is.len (λ i below. is.zero i below)
  zero_gives (on c p) step args r without is = gives_whole (on c p) (elsewhere step args) r is.of_kind is.len (λ i below. is.zero i below ∙ sym (where_not (c.has (place_of_step step)) _ (zero_of (kind_of_step step)) without))

  -- ---- values on a place, and sums over one

  pub domain_gives : (c : Context) (kind : ValueKind) (q : Place) (e : Expr S) (v r : Register) → HasPlace c q → kind_of_field sources e ≡ kind → GivesWhole sources (moved c q) e v → IsBrought c q v r
      → GivesWhole sources c (elsewhere (on_domain kind q) (and_one e none)) r
  domain_gives nowhere kind q e v r has of_kind gives is = absurd has
  domain_gives (on c p) kind q e v r has of_kind gives is =
      let kinds : register_kind v ≡ kind = gives.kind ∙ of_kind in
      let long = len_is (on c q) e v gives in
      gives_whole (on c p) (elsewhere (on_domain kind q) (and_one e none)) r (is.kind ∙ kinds) is.len
      (λ i below. is.each (at sources e (on c q)) (λ j within. sym (value_at (on c q) e v gives j (subst (λ n. j < n) long within))) i below
      ∙ (ap (λ k. c.interpolated k q p (at sources e (on c q)) i) kinds ∙ ap (λ b. if b then c.interpolated kind q p (at sources e (on c q)) i else zero_of kind) (sym has)))

  pub sums_give : (c : Context) (kind : ValueKind) (q : Place) (part : Part) (e f : Expr S) (v g s r : Register) (groups : List ℤ) → HasPlace c q → kind_of_field sources e ≡ kind
      → GivesWhole sources (moved c q) e v → GivesWhole sources (moved c q) f g → ((j : ℕ) → j < register_len g → number_at groups j ≡ as_int (register_value j g))
      → register_kind s ≡ register_kind v → register_len s ≡ register_len v → ((k : ℕ) → k < register_len v → register_value k s ≡ accumulated (register_kind v) part (register_len v) (λ j. register_value j v) (group_value groups) k)
      → IsBrought c q s r → GivesWhole sources c (elsewhere (accumulate kind q part) (and_one e (and_one f none))) r
  sums_give nowhere kind q part e f v g s r groups has of_kind gives_e gives_f numbers kinds_s long_s sums is = absurd has
  sums_give (on c p) kind q part e f v g s r groups has of_kind gives_e gives_f numbers kinds_s long_s sums is =
      let kinds : register_kind v ≡ kind = gives_e.kind ∙ of_kind in
      let long_e = len_is (on c q) e v gives_e in
      let long_f = len_is (on c q) f g gives_f in
      let meant : ℕ → Value = accumulated kind part (c.count q) (at sources e (on c q)) (at sources f (on c q)) in
      let groups_are : (j : ℕ) → j < c.count q → as_int (at sources f (on c q) j) ≡ as_int (group_value groups j) =
      λ j within. sym (numbers j (omega (arith, within, long_f)) ∙ ap as_int (value_at (on c q) f g gives_f j within)) in
      let each : (j : ℕ) → j < register_len s → meant j ≡ register_value j s =
      λ j below.
      let within : j < c.count q = omega (arith, below, long_s, long_e) in
      accumulated_same kind part (c.count q) (at sources e (on c q)) (λ i. register_value i v) (at sources f (on c q)) (group_value groups) j within (λ i inside. sym (value_at (on c q) e v gives_e i inside)) groups_are
      ∙ (ap₂ (λ k n. accumulated k part n (λ i. register_value i v) (group_value groups) j) (sym kinds) (sym long_e) ∙ sym (sums j (omega (arith, below, long_s)))) in
      gives_whole (on c p) (elsewhere (accumulate kind q part) (and_one e (and_one f none))) r (is.kind ∙ (kinds_s ∙ kinds)) is.len
      (λ i below. is.each meant each i below
      ∙ (ap (λ k. c.interpolated k q p meant i) (kinds_s ∙ kinds) ∙ ap (λ b. if b then c.interpolated kind q p meant i else zero_of kind) (sym has)))

  -- ---- values at an index

  element_same : (z : ℤ) (n : ℕ) (f g : ℕ → Value) (d : Value) → ((j : ℕ) → j < n → f j ≡ g j) → element_or z n f d ≡ element_or z n g d
  element_same (negsuc m) n f g d same = refl
  element_same (pos m) n f g d same = by (nat_lt m n) refl
    where
      by : (b : Bool) → nat_lt m n ≡ b → (if b then f m else d) ≡ (if b then g m else d)
      by true h = same m (ltb-true m n h)
      by false h = refl

  pub index_gives : (c : Context) (kind : ValueKind) (q : Place) (e f : Expr S) (v g r : Register) (indices : List ℤ) → HasPlace c q → kind_of_field sources e ≡ kind → GivesWhole sources (moved c q) e v → GivesWhole sources c f g
      → ((j : ℕ) → j < register_len g → number_at indices j ≡ as_int (register_value j g)) → register_kind r ≡ kind → register_len r ≡ length_of c
      → ((k : ℕ) → k < register_len r → register_value k r ≡ element_or (number_at indices k) (register_len v) (λ i. register_value i v) (zero_of (register_kind v)))
      → GivesWhole sources c (elsewhere (at_index kind q) (and_one e (and_one f none))) r
  index_gives nowhere kind q e f v g r indices has of_kind gives_e gives_f numbers kind_r long_r picked = absurd has
  index_gives (on c p) kind q e f v g r indices has of_kind gives_e gives_f numbers kind_r long_r picked =
      let kinds : register_kind v ≡ kind = gives_e.kind ∙ of_kind in
      let long_e = len_is (on c q) e v gives_e in
      let long_f = len_is (on c p) f g gives_f in
      let value = at sources e (on c q) in
      gives_whole (on c p) (elsewhere (at_index kind q) (and_one e (and_one f none))) r kind_r long_r
      (λ i below.
      let index : number_at indices i ≡ as_int (at sources f (on c p) i) = numbers i (omega (arith, below, long_f)) ∙ ap as_int (value_at (on c p) f g gives_f i below) in
      picked i (omega (arith, below, long_r))
      ∙ (ap₂ (λ n k. element_or (number_at indices i) n (λ j. register_value j v) (zero_of k)) long_e kinds
      ∙ (element_same (number_at indices i) (c.count q) (λ j. register_value j v) value (zero_of kind) (λ j within. value_at (on c q) e v gives_e j within)
      ∙ (ap (λ z. element_or z (c.count q) value (zero_of kind)) index ∙ ap (λ b. if b then element_or (as_int (at sources f (on c p) i)) (c.count q) value (zero_of kind) else zero_of kind) (sym has)))))

-- ---- integers of a register

pub integer_in : (r : Register) → register_kind r ≡ Int → (k : ℕ) → int_in (register_value k r) ≡ as_int (register_value k r)
integer_in (register.Int v) kind k = refl
integer_in (register.Truth v) kind k = cc
integer_in (register.Fixed v) kind k = cc
integer_in (register.Vector v) kind k = cc
