use Rattle.std.proofs.Common.{ℕ, [], get_or, pos, rules}
use Rattle.std.specs.Prelude.{slice_index}
use Rattle.gn_value.specs.Values.{v3}
use Rattle.gn_geometry.specs.declared.geometry.Transform.{Transform}
use Rattle.gn_join.proofs.Gathering.{any_default}
use Rattle.gn_inst.proofs.RealizedSteps.{total_more}
use Rattle.gn_inst.proofs.counts.total.Goals as goal

pub loop-part-preserved : goal.loop-part-preserved
loop-part-preserved c =
    let d : Transform × ℕ = (record { rows = []; at = v3 (pos 0) (pos 0) (pos 0) }, 0) in
    let items = c.args.items.now in
    let at = c.loop-part.part-index in
    let item = get_or items at d in
    total_more (λ i. slice_index c.args.counts.now i.1) c.args.own items at item c.loop-part.total _ c.loop-part-test.true (any_default items at d item c.loop-part-test.true) c.loop-part.invariant (search rules)
