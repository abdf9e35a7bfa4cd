use Rattle.std.proofs.Common.{◌+◌, ◌∙◌, length, ap}
use Rattle.std.proofs.lemmas.List.{length_push}
use Rattle.gn_lower.specs.Carried.{output_in}
use Rattle.gn_lower.specs.declared.visit.Made.TheVariants as made
use Rattle.gn_lower.proofs.Visiting.{nothing_more}
use Rattle.gn_lower.proofs.visit.nothing_made.Goals as goal

pub each-preserved : goal.each-preserved
each-preserved c = (
  ap length c.in_ok-push.ensures.items ∙ (length_push c.each.made.items made.Nothing ∙ ap (λ n. n + 1) c.each.invariant.0),
  λ node socket. ap (λ all. output_in all node socket) c.in_ok-push.ensures.items ∙ nothing_more c.each.made.items c.each.invariant.1 node socket,
)
