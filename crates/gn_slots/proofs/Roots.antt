-- Registers of the roots of a plan.
use Rattle.std.proofs.Common.{◌≡◌, ℕ, ◌<◌, List, [], ◌∷◌, ◌++◌, length, map, Option, Some, ap, sym, ◌∙◌}
use Rattle.std.specs.Prelude.{All}
use Rattle.std.proofs.lemmas.List.Elements.{All-nil, All-cons}
use Rattle.std.proofs.lemmas.Option.{slice_get_within}
use Rattle.gn_value.specs.declared.op.Register.{Register}
use Rattle.gn_value.specs.declared.value.ValueKind.{ValueKind}
use Rattle.gn_value.specs.Registers.{register_kind, register_len, register_value}
use Rattle.gn_plain.specs.Contexts.{Context}
use Rattle.gn_plain.specs.Fields.{Expr, Sources}
use Rattle.gn_field.specs.Steps.{named}
use Rattle.gn_schedule.specs.Plans.{Hold}
use Rattle.gn_slots.specs.Registers.{Gives, AllGive, IsRun}
use Rattle.gn_slots.specs.Registers.{IsCopy, AreCopies}

-- one copy more
pub copies_more : (registers : List Register) (slots : List ℕ) (copies : List Register) (s : ℕ) (copy : Register) → AreCopies registers slots copies → IsCopy registers s copy → AreCopies registers (slots ++ s ∷ []) (copies ++ copy ∷ [])
copies_more registers [] [] s copy h last = (last, tt)
copies_more registers (t ∷ slots) (c ∷ copies) s copy h last = (h.0, copies_more registers slots copies s copy h.1 last)
copies_more registers [] (c ∷ copies) s copy h last = absurd h
copies_more registers (t ∷ slots) [] s copy h last = absurd h

module _ {S : Type 0} (sources : Sources S) (c : Context) (ns : List ℕ) (es : List (Expr S)) (kinds : List ValueKind) (holder : ℕ → Option ℕ) (rs : List Register) (r : IsRun sources es c ns kinds holder rs) where
  pub slots_within : (slots roots : List ℕ) → Hold holder slots roots → All (λ s. s < length rs) slots
  slots_within [] [] h = All-nil (λ s. s < length rs)
  slots_within (s ∷ slots) (k ∷ roots) h =
      let w = r.hold s k h.0 in
      All-cons (λ s. s < length rs) s slots (slice_get_within rs s w.register w.is) (slots_within slots roots h.1)
  slots_within [] (k ∷ roots) h = absurd h
  slots_within (s ∷ slots) [] h = absurd h

  copy_gives : (s k : ℕ) (copy : Register) → holder s ≡ Some k → IsCopy rs s copy → Gives sources c ns (named es k) copy
  copy_gives s k copy h p =
      let w = r.hold s k h in
      let e : Some p.register ≡ Some w.register = sym p.is ∙ w.is in
      let same : p.register ≡ w.register = cc in
      record {
        kind = p.kind ∙ (ap register_kind same ∙ w.gives.kind);
        len = p.len ∙ (ap register_len same ∙ w.gives.len);
        values = λ i within. p.values i ∙ (ap (register_value i) same ∙ w.gives.values i within);
      }

  pub copies_give : (slots roots : List ℕ) (copies : List Register) → Hold holder slots roots → AreCopies rs slots copies → AllGive sources c ns (map (named es) roots) copies
  copies_give [] [] [] h p = tt
  copies_give (s ∷ slots) (k ∷ roots) (copy ∷ copies) h p = (copy_gives s k copy h.0 p.0, copies_give slots roots copies h.1 p.1)
  copies_give [] [] (copy ∷ copies) h p = absurd p
  copies_give [] (k ∷ roots) copies h p = absurd h
  copies_give (s ∷ slots) [] copies h p = absurd h
  copies_give (s ∷ slots) (k ∷ roots) [] h p = absurd p
