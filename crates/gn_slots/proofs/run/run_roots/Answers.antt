use Rattle.std.proofs.Common.{◌<◌, List, ℕ, length, map, subst, sym}
use Rattle.std.specs.Prelude.{All}
use Rattle.std.proofs.lemmas.Result.{IfOk-weaker}
use Rattle.gn_field.specs.Steps.{named, built}
use Rattle.gn_schedule.specs.Plans.{held, Hold}
use Rattle.gn_slots.specs.Registers.{AllGive, AreCopies}
use Rattle.gn_slots.proofs.Roots.{slots_within, copies_give}
use Rattle.gn_slots.proofs.run.run_roots.Goals as goal

pub copies-requires : goal.copies-requires
copies-requires g c =
    let src = g.S.Source.sources in
    let ctx = g.C.Context.meaning c.args.context.now in
    let p = c.args.plan.now in
    let rs = c.in_ok-registers.registers.items in
    let e = c.requires.ends in
    let within : All (λ s. s < length rs) p.roots.items = slots_within src ctx c.args.elements.now (built c.args.steps.now) p.kinds.items (held p.instructions.items) rs c.in_ok-registers.ensures p.roots.items e.0 e.1 in
    subst (λ ss. All (λ s. s < length c.deref.result.now) ss) (sym c.deref-2.ensures.value) (subst (λ qs. All (λ s. s < length qs) p.roots.items) (sym c.deref.ensures.value) within)

pub returns : goal.returns
returns g c =
    let src = g.S.Source.sources in
    let ctx = g.C.Context.meaning c.args.context.now in
    let ns = c.args.elements.now in
    let es = built c.args.steps.now in
    let p = c.args.plan.now in
    let rs = c.in_ok-registers.registers.items in
    IfOk-weaker c.copies.result (λ r. AreCopies c.deref.result.now c.deref-2.result.now r.items) (λ r. (roots : List ℕ) → Hold (held p.instructions.items) p.roots.items roots → AllGive src ctx ns (map (named es) roots) r.items)
    (λ r h roots hold. copies_give src ctx ns es p.kinds.items (held p.instructions.items) rs c.in_ok-registers.ensures p.roots.items roots r.items hold
    (subst (λ ss. AreCopies rs ss r.items) c.deref-2.ensures.value (subst (λ qs. AreCopies qs c.deref-2.result.now r.items) c.deref.ensures.value h)))
    c.copies.ensures
