use Rattle.std.proofs.Common.{take}
use Rattle.std.specs.Prelude.{flat_map}
use Rattle.gn_run.specs.Evaluated.{AreFilled}
use Rattle.gn_run.proofs.columns.fill_registers.Given as goal

-- the values of the parts so far are there
abbrev pub invariant-loop-result : goal.invariant-loop-result
invariant-loop-result g l = AreFilled g.S.Source.sources (g.C.Context.meaning l.ready.1) (flat_map (λ part. part) (take l.result-index l.parts.items)) l.ready.0 l.registers
