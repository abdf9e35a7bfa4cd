use Rattle.std.proofs.Common.{◌<◌, ◌∙◌, List, ℕ, sym, subst}
use Rattle.std.specs.List.{All}
use Rattle.gn_plain.specs.Contexts.{length_of}
use Rattle.gn_wholes.proofs.Arguments.{range_within}
use Rattle.gn_wholes.proofs.values.values_on.Goals as goal

pub run_roots-requires-clause-ready : goal.run_roots-requires-clause-ready
run_roots-requires-clause-ready g c κs within =
    let n = length_of (g.C.Context.meaning c.args.context.now) in
    record {
      back = c.requires.steps.back;
      kinds = c.requires.steps.kinds;
      within = subst (λ (ns : List ℕ). All (λ k. k < n) ns) (sym (c.deref.ensures.value ∙ c.in_ok-elements.ensures.all)) (range_within n);
      whole = c.requires.whole;
    }
