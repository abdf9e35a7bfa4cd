use Rattle.std.proofs.Common.{ap, ◌∙◌, subst}
use Rattle.std.specs.List.{AllZip}
use Rattle.rayon.proofs.ListFacts.{IfOk-then}
use Rattle.rayon.proofs.ToStd.{slice-AllZip}
use Rattle.gn_run.specs.Evaluated.{GivesPart}
use Rattle.gn_run.proofs.parts.run_parts.Goals as goal

-- what the closure captured is `alloc` and `ready`
pub returns : goal.returns
returns g c =
    let slice = ap (λ it. it.base.slice.now) c.map.ensures.base ∙ ap (λ it. it.slice.now) c.with_min_len.ensures.base ∙ c.par_iter.ensures in
    let ready = ap (λ f. f.1.now) c.map.ensures.f in
    IfOk-then c.collect.result _ _ c.collect.ensures (λ v h.
    let chain = h.1 in
    rw h.2 (subst (λ r. AllZip (GivesPart g.S.Source.sources (g.C.Context.meaning r.1) r.0) c.args.parts.now h.0) ready (slice-AllZip chain.0 c.args.parts.now (chain.1 ∙ slice) (GivesPart g.S.Source.sources (g.C.Context.meaning c.map.result.f.1.now.1) c.map.result.f.1.now.0) h.0 chain.2)))
