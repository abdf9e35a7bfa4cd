use Rattle.std.proofs.Common.{◌∙◌, ℕ, [], get_or, pos, true}
use Rattle.std.proofs.lemmas.List.{length-set}
use Rattle.gn_value.specs.Values.{v3}
use Rattle.gn_geometry.specs.declared.geometry.Transform.{Transform}
use Rattle.gn_join.proofs.Gathering.{any_default}
use Rattle.gn_inst.proofs.Realized.{one_more_name}
use Rattle.gn_inst.proofs.realizing.named_parts.Goals as goal

pub loop-part-preserved : goal.loop-part-preserved
loop-part-preserved c =
    let d : Transform × ℕ = (record { rows = []; at = v3 (pos 0) (pos 0) (pos 0) }, 0) in
    let items = c.args.items.now in
    let at = c.loop-part.part-index in
    let item = get_or items at d in
    let on = c.loop-part.invariant in (
      length-set c.loop-part.named.items item.1 true ∙ on.0,
      one_more_name c.loop-part.named.items items at item c.args.count on.0 c.loop-part-test.true (any_default items at d item c.loop-part-test.true) on.1,
    )
