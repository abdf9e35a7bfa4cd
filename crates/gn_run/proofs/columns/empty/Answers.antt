use Rattle.std.proofs.Common.{subst}
use Rattle.std.specs.List.{AllZip}
use Rattle.rayon.proofs.ListFacts.{IfOk-then}
use Rattle.gn_run.specs.Putting.{IsZeroOf}
use Rattle.gn_run.proofs.Putting.{none_filled}
use Rattle.gn_run.proofs.columns.empty.Goals as goal

pub returns : goal.returns
returns g c =
    let kinds = c.in_ok-kinds.kinds.items in
    IfOk-then c.zeros_like.result _ _ c.zeros_like.ensures (λ zeros h. none_filled g.S.Source.sources (g.C.Context.meaning c.args.ready.now.1) c.args.ready.now.0 kinds zeros.items c.len.result c.len.ensures c.in_ok-kinds.ensures (subst (λ vs. AllZip (IsZeroOf c.len.result) vs zeros.items) c.deref.ensures.value h))
