-- The steps of one field.
use Rattle.std.proofs.Common.{◌≡◌, ◌∙◌, ℕ, ◌+◌, ◌≤◌, ◌-◌, List, [], ◌∷◌, ◌++◌, inl, inr, length, sym, ap, subst, arith}
use Rattle.std.specs.List.{All}
use Rattle.std.proofs.lemmas.Bool.{cases_lt}
use Rattle.std.proofs.lemmas.List.{get_or_past, length-append}
use Rattle.gn_value.specs.Values.{zero_of}
use Rattle.gn_value.specs.declared.value.ValueKind.{ValueKind}
use Rattle.gn_value.specs.declared.value.ValueKind.TheVariants.{Truth}
use Rattle.gn_plain.specs.Fields.{Expr, Sources, constant}
use Rattle.gn_field.specs.declared.step.FieldStep.{FieldStep}
use Rattle.gn_field.specs.Steps.{LeadBack, named, built, built_on, made, keys, last_of}
use Rattle.gn_field.specs.Kinds.{HasKinds}
use Rattle.gn_wholes.specs.Covers.{AreRunnable}

module _ {S : Type 0} where
  kinds_named : (sources : Sources S) (taken : S → ValueKind) (es : List (Expr S)) → All (HasKinds sources taken) es → (k : ℕ) → HasKinds sources taken (named es k)
  kinds_named sources taken es all k = elim (cases_lt k (length es)) [
    | inl within ↦ all k (constant (zero_of Truth)) within
    | inr past ↦ subst (HasKinds sources taken) (sym (get_or_past es k (constant (zero_of Truth)) past)) tt
  ]

  pub steps_runnable : (sources : Sources S) (taken : S → ValueKind) (xs : List (FieldStep S)) → LeadBack (keys xs) → length xs ≤ 4096 → All (HasKinds sources taken) (built xs) → AreRunnable sources taken xs
  steps_runnable sources taken xs back few each = record { back = back; kinds = kinds_named sources taken (built xs) each; few = few }

  fields_behind : (es : List (Expr S)) (xs : List (FieldStep S)) → length (built_on es xs) ≡ length es + length xs
  fields_behind es [] = omega arith
  fields_behind es (x ∷ xs) = omega (arith, fields_behind (es ++ made es x ∷ []) xs, length-append es (made es x ∷ []))

  -- the field of the last step
  pub last_named : (xs : List (FieldStep S)) (e : Expr S) → last_of (built xs) ≡ e → named (built xs) (length xs - 1) ≡ e
  last_named xs e is =
      let many : length xs ≡ length (built xs) = omega (arith, fields_behind [] xs) in
      ap (λ n. named (built xs) (n - 1)) many ∙ is
