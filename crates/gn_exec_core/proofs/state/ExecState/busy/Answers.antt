use Rattle.std.proofs.Common.{subst}
use Rattle.std.specs.Prelude.{nat_lt, Decides}
use Rattle.gn_exec_core.specs.States.{events_of, seen, job}
use Rattle.gn_exec_core.specs.Waits.{IsBusy}
use Rattle.gn_exec_core.proofs.Tallying.{count_tells}
use Rattle.gn_exec_core.proofs.state.ExecState.busy.Goals as goal

pub returns : goal.returns
returns g c =
    let before = c.self.inside in
    subst (λ s. Decides (nat_lt 0 before.running) (IsBusy s.events)) c.self.view_is
    (count_tells g.N.NodeSet.meanings g.N.NodeSet.lawful (job g.N.NodeSet.meanings g.N.NodeSet.kind_of g.N.NodeSet.content (seen before.graph before.given.value.items before.journal.items)) (events_of before.journal.items) c.self.invariant.1.run before.running c.self.invariant.3.is_running)
