use Rattle.std.proofs.Common.{◌≡◌, ◌++◌, ◌∷◌, [], sym, ap, ◌∙◌}
use Rattle.std.proofs.lemmas.List.{replicate_more}
use Rattle.gn_node_set.proofs.Lists.{map_append}
use Rattle.gn_readers.specs.Readers.{lists_of}
use Rattle.gn_readers.proofs.readers.no_readers.Goals as goal

pub loop-at-preserved : goal.loop-at-preserved
loop-at-preserved c = record {
  empty = ap lists_of c.in_ok-push.ensures.items ∙ map_append (λ row. row.items) c.loop-at.readers.items (c.new.result ∷ []) ∙ ap (λ xs. xs ++ c.new.result.items ∷ []) c.loop-at.invariant.empty ∙ ap (λ x. Rattle.std.proofs.Common.replicate c.loop-at._at [] ++ x ∷ []) c.new.ensures.items ∙ replicate_more c.loop-at._at [];
}
