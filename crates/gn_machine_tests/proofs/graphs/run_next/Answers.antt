use Rattle.std.proofs.Common.{ap, ◌∙◌}
use Rattle.std.specs.Prelude.{option_map}
use Rattle.gn_nodes.specs.Values.{answer_of}
use Rattle.gn_machine_tests.proofs.Running.{given, handed_in}
use Rattle.gn_machine_tests.proofs.graphs.run_next.Goals as goal

pub finish-requires-after_bounds : goal.finish-requires-after_bounds
finish-requires-after_bounds g c κs within =
    handed_in c.args.state.now c.take.new.self c.args.worker c.in-Job.job c.in-Job.ensures (c.is_run.ensures c.if-not-is_run.false) c.in-Ok.done
    (c.in-Ok.ensures ∙ ap (λ xs. given c.in-Job.job.kind xs (option_map answer_of c.in-Job.job.answer)) c.deref.ensures.value)
