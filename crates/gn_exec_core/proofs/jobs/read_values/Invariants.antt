use Rattle.std.proofs.Common.{◌≡◌, ◌≤◌, ◌+◌, ◌-◌, ◌++◌, drop}
use Rattle.std.specs.Vec.{vec_len, vec_capacity}
use Rattle.gn_exec_core.specs.Jobs.{read_from}
use Rattle.gn_exec_core.proofs.jobs.read_values.Given as goal

abbrev pub invariant-loop-at : goal.invariant-loop-at
invariant-loop-at g l = record {
  items : l.into.items ++ read_from l.role l.choice l.at (drop l.at l.slots.items) ≡ l.initial.into.items ++ read_from l.role l.choice 0 l.initial.slots.items;
  len : vec_len l.slots ≡ vec_len l.initial.slots;
  room : vec_len l.into + (vec_len l.slots - l.at) ≤ vec_capacity l.into;
}
