-- Values of steps that read elsewhere, at some elements.
use Rattle.std.proofs.Common.{◌≡◌, ℕ, ◌<◌, List, length, Some, None, get_or, refl, ap, sym, ◌∙◌, subst, arith}
use Rattle.std.specs.Prelude.{All}
use Rattle.std.specs.List.{range_with_len}
use Rattle.std.proofs.lemmas.List.FromFn.{length-range_with_len, get_or-range_with_len}
use Rattle.std.proofs.lemmas.List.Elements.{All-get_or}
use Rattle.gn_value.specs.declared.op.Register.{Register}
use Rattle.gn_value.specs.declared.value.Place.{Place}
use Rattle.gn_value.specs.declared.value.ValueKind.{ValueKind}
use Rattle.gn_value.specs.declared.value.ValueKind.TheVariants.{Truth, Int, Fixed, Vector}
use Rattle.gn_value.specs.Values.{kind_of, zero_of}
use Rattle.gn_value.specs.Registers.{register_kind, register_len, register_value}
use Rattle.gn_plain.specs.Contexts.{Context, nowhere, on, length_of}
use Rattle.gn_plain.specs.Fields.{Expr, Sources, at, kind_of_field}
use Rattle.gn_field.specs.Steps.{named}
use Rattle.gn_field.specs.Contexts.{place_of}
use Rattle.gn_slots.specs.declared.whole.Whole.{Whole}
use Rattle.gn_slots.specs.Registers.{Gives, AreWhole, IsFound, IsThere, IsThereOn}

pub nowhere_is : (c : Context) → None ≡ place_of c → c ≡ nowhere
nowhere_is nowhere e = λ i. nowhere
nowhere_is (on c p) e = cc

pub there_on : (c : Context) (ws : List Whole) (step : ℕ) (place : Place) → Some place ≡ place_of c → IsThereOn c ws step → IsThere ws step place
there_on nowhere ws step place e there = cc
there_on (on c p) ws step place e there = let s : p ≡ place = cc in subst (IsThere ws step) s there

pub zero_kind : (kind : ValueKind) → kind_of (zero_of kind) ≡ kind
zero_kind Truth = refl
zero_kind Int = refl
zero_kind Fixed = refl
zero_kind Vector = refl

module _ {S : Type 0} (sources : Sources S) where
  -- nowhere each value is zero
  pub gives_zero : (c : Context) (ns : List ℕ) (e : Expr S) (kind : ValueKind) (r : Register) → None ≡ place_of c → kind_of_field sources e ≡ kind → ((i : ℕ) → at sources e nowhere i ≡ zero_of kind) → register_kind r ≡ kind → register_len r ≡ length ns → ((k : ℕ) → k < length ns → register_value k r ≡ zero_of kind) → Gives sources c ns e r
  gives_zero nowhere ns e kind r none of_kind zeros own len each = record { kind = own ∙ sym of_kind; len = len; values = λ k h. each k h ∙ sym (zeros (get_or ns k 0)) }
  gives_zero (on c p) ns e kind r none of_kind zeros own len each = cc

  -- what is found has the step's values at all elements
  pub whole_gives : (es : List (Expr S)) (c : Context) (ws : List Whole) (step : ℕ) (place : Place) (values : Register) → Some place ≡ place_of c → AreWhole sources es c ws → IsFound ws step place values → Gives sources c (range_with_len 0 (length_of c)) (named es step) values
  whole_gives es nowhere ws step place values e whole f = cc
  whole_gives es (on c p) ws step place values e whole f =
      let s : p ≡ place = cc in
      let w = f.whole in
      let q : w.place ≡ p = f.on_place ∙ sym s in
      subst (λ r. Gives sources (on c p) (range_with_len 0 (c.count p)) (named es step) r) f.values
      (subst (λ k. Gives sources (on c p) (range_with_len 0 (c.count p)) (named es k) w.values) f.of_step
      (subst (λ o. Gives sources (on c o) (range_with_len 0 (c.count o)) (named es w.step) w.values) q (whole f.index w f.is)))

  pub whole_long : (c : Context) (e : Expr S) (values : Register) → Gives sources c (range_with_len 0 (length_of c)) e values → register_len values ≡ length_of c
  whole_long c e values g = g.len ∙ length-range_with_len 0 (length_of c)

  -- values at all elements are picked at some
  pub picked : (c : Context) (ns : List ℕ) (e : Expr S) (values after : Register) → Gives sources c (range_with_len 0 (length_of c)) e values → All (λ n. n < length_of c) ns → register_kind after ≡ register_kind values → register_len after ≡ length ns
      → ((k : ℕ) → k < length ns → register_value k after ≡ register_value (get_or ns k 0) values) → Gives sources c ns e after
  picked c ns e values after g within kind len each = record {
    kind = kind ∙ g.kind;
    len = len;
    values = λ k h.
        let m = length_of c in
        let n = get_or ns k 0 in
        let below : n < m = All-get_or (λ j. j < m) ns k 0 h within in
        let long : n < length (range_with_len 0 m) = subst (λ j. n < j) (sym (length-range_with_len 0 m)) below in
        let same : get_or (range_with_len 0 m) n 0 ≡ n = omega (arith, get_or-range_with_len 0 m n 0 below) in
        each k h ∙ (g.values n long ∙ ap (at sources e c) same);
  }
