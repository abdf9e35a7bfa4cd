use Rattle.std.proofs.Common.{map, Some, sym, ap, ◌∙◌}
use Rattle.gn_uses.specs.Nodes.{with_choice}
use Rattle.gn_exec_core.specs.Holds.{input_of}
use Rattle.gn_exec_core.specs.Starts.{with_chosen}
use Rattle.gn_exec_core.proofs.Adding.{chosen_now}
use Rattle.gn_exec_core.proofs.start.add.Goals as goal

pub returns-in-Some-clause-nodes : goal.returns-in-Some-clause-nodes
returns-in-Some-clause-nodes g c =
    let made = ap (λ u. u.nodes) c.in_ok-add.ensures.ok in
    let places = c.in_ok-places.ensures ∙ ap (map input_of) c.deref.ensures.value in (
      c.role.result,
      c.role.ensures,
      c.choose.ensures.nodes
          ∙ ap (λ x. with_choice x c.len-number.result c.in-Some.choice) made
          ∙ chosen_now c.args.uses.now.nodes c.role.result c.in_ok-places.places.items c.args.at.now.outputs c.len-number.result c.in-Some.choice c.requires.whole c.len-number.ensures
          ∙ ap (λ xs. with_chosen c.args.uses.now.nodes c.role.result xs c.args.at.now.outputs (Some c.in-Some.choice)) places
          ∙ ap (with_chosen c.args.uses.now.nodes c.role.result (map input_of c.args.at.now.inputs.items) c.args.at.now.outputs) (sym c.in-Some.is),
    )
