use Rattle.std.proofs.Common.{◌≡◌, ◌++◌, [], take, drop, length, subst, arith, ◌∙◌}
use Rattle.std.specs.List.{AllZip}
use Rattle.std.proofs.lemmas.List.{take-append-le, take_all}
use Rattle.rayon.proofs.ListFacts.{IfOk-then}
use Rattle.gn_run.specs.Evaluated.{Holds}
use Rattle.gn_run.proofs.Putting.{evaluated, filled_long}
use Rattle.gn_run.proofs.columns.columns_over.Goals as goal

pub returns : goal.returns
returns g c =
    let meaning = g.C.Context.meaning c.args.ready.now.1 in
    let fields = c.args.ready.now.0 in
    let sources = g.S.Source.sources in
    let first = c.in_ok-registers.registers in
    let new = c.fill_registers.new.registers in
    let rest = drop (length new) first.items in
    let filled = c.in_ok-fill_registers.ensures in
    let long : first.len ≡ length new = omega (arith, first.ok, filled_long sources meaning c.args.mask.now fields new filled, filled_long sources meaning [] fields first.items c.in_ok-registers.ensures) in
    let same : take first.len (new ++ rest) ≡ new = take-append-le first.len new rest (omega (arith, long)) ∙ take_all first.len new (omega (arith, long)) in
    IfOk-then c.columns_of.result _ _ c.columns_of.ensures (λ columns h. evaluated sources meaning c.args.mask.now fields new columns.items filled (subst (λ rs. AllZip Holds rs columns.items) same h))
