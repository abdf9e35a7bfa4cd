use Rattle.std.proofs.Common.{◌++◌, ◌∷◌, [], None, ap, ◌∙◌}
use Rattle.std.proofs.lemmas.List.{replicate_more}
use Rattle.gn_pending.proofs.flags.empty_slots.Goals as goal

pub loop-at-preserved : goal.loop-at-preserved
loop-at-preserved g c = record {
  empty = c.in_ok-push.ensures.items ∙ ap (λ xs. xs ++ None ∷ []) c.loop-at.invariant.empty ∙ replicate_more c.loop-at._at None;
}
