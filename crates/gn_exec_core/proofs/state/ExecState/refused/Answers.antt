use Rattle.std.proofs.Common.{ap, ◌∙◌}
use Rattle.std.specs.List.{list_any}
use Rattle.std.specs.Vec.{vec_capacity}
use Rattle.gn_exec_core.specs.States.{events_of, any_refuses}
use Rattle.gn_exec_core.proofs.Refusals.{any_flagged}
use Rattle.gn_exec_core.proofs.state.ExecState.refused.Goals as goal

pub returns : goal.returns
returns g c =
    let before = c.self.inside in
    c.any_set.ensures
    ∙ (ap (λ flags. list_any (λ flag. flag) flags) c.deref.ensures.value
    ∙ (any_flagged before.refused.items (events_of before.journal.items) (vec_capacity before.journal) c.self.invariant.0
    ∙ ap (λ s. any_refuses s.events) c.self.view_is))
