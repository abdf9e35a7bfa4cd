-- The machine value of a refusal. Assumes `Logic`.
use Rattle.std.proofs.Common.{ℕ, ◌<◌, ◌^◌, [], ◌∷◌, refl, w64}
use seplogic.Ra.Ura.{Ura}
use mir.Val.{Val, vint, vstruct, vcons, vnil}
use base.Logic.{ent, emp}
use types.Logic.{Logic, sem}
use denote.Shadow.{makes_shadow}
use Rattle.gn_shared.specs.contracts.array.InUse as refusal

abbrev pub refused_val : ℕ → Val
refused_val n = vstruct (vcons (vint w64 n) vnil)

pub refused : {M : Type 1} {𝓤 : Ura M} (𝓛 : Logic 𝓤) (n : ℕ) → n < 2 ^ 64 → ent 𝓤 (emp 𝓤) (sem 𝓛 (refusal.the_row.own_val (record { users = n }) (refused_val n ∷ [])))
refused 𝓛 n fits = makes_shadow 𝓛 (refusal.the_row.own_val (record { users = n }) (refused_val n ∷ [])) (λ vss. (tt, ((tt, tt), tt))) ((vint w64 n ∷ [], tt), (refl, ((refl, fits), tt)))
