-- Whether inputs come from outputs that are there, one input after the other.
use Rattle.std.proofs.Common.{◌≡◌, ◌⊎◌, inl, inr, ℕ, ◌+◌, ◌<◌, Bool, true, false, List, [], ◌∷◌, ◌++◌, length, get_or, take, Option, Some, None, Decides, sym, ◌∙◌, subst}
use Rattle.std.proofs.lemmas.List.{take_more}
use Rattle.gn_node_set.specs.Meanings.{Has}
use Rattle.gn_node_set.proofs.Lists.{has_either}
use Rattle.gn_uses.specs.declared.outputs.Out.{Out}
use Rattle.gn_uses.specs.Nodes.{HasRoom}
use Rattle.gn_uses.proofs.Reading.{has_index}

module _ (sizes : List ℕ) (inputs : List (Option Out)) (i : ℕ) (inside : i < length inputs) (there : Bool) (decides : Decides there (HasRoom sizes (get_or inputs i None ∷ []))) where
  pub none_missing : there ≡ false → Decides false (HasRoom sizes inputs)
  none_missing e = (
    λ f. absurd (cc),
    λ h. sym e ∙ decides.1 (λ x k. elim k [ inl s ↦ h x (subst (Has inputs) (sym s) (has_index inputs i None inside)) | inr f ↦ absurd f ]),
  )

  pub one_more_there : there ≡ true → HasRoom sizes (take i inputs) → HasRoom sizes (take (i + 1) inputs)
  one_more_there e h x k =
      elim (has_either (take i inputs) (get_or inputs i None ∷ []) (Some x) (subst (λ xs. Has xs (Some x)) (take_more inputs i None inside) k)) [
        | inl a ↦ h x a
        | inr b ↦ decides.0 e x b
      ]
