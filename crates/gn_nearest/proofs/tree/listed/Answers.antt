use Rattle.std.proofs.Common.{List, [], ◌∷◌, ◌++◌, ◌∙◌, sym, ap, arith}
use Rattle.std.proofs.lemmas.List.FromFn.{map-range_with_len_more}
use Rattle.gn_nearest.specs.Boxes.{entry_at}
use Rattle.gn_nearest.specs.declared.candidate.Entry.{Entry}
use Rattle.gn_nearest.proofs.tree.listed.Goals as goal

pub loop-index-preserved : goal.loop-index-preserved
loop-index-preserved c = c.in_ok-push.ensures.items ∙ ap (λ (es : List Entry). es ++ entry_at c.args.points.now c.loop-index.index ∷ []) c.loop-index.invariant ∙ sym (map-range_with_len_more (entry_at c.args.points.now) 0 c.loop-index.index c.loop-index.index (omega arith))
