use Rattle.std.proofs.Common.{◌∙◌, ◌++◌, All, inl, inr, map, refl, sym, ap, subst}
use Rattle.std.specs.Option.{option_to_list}
use Rattle.gn_node_set.specs.Lists.{all_of}
use Rattle.gn_lower.specs.Carried.{IsRead, came_in}
use Rattle.gn_lower.proofs.Granted.{given_read, parent_inside, reads_there}
use Rattle.gn_lower.proofs.Steps.{goes_on_leaving, none_popped, nothing_left}
use Rattle.gn_lower.proofs.unfold.Unfolding.leave.Goals.{in_default-via-in-Some+in_default, in_default-via-in_default}
use Rattle.gn_lower.proofs.unfold.Unfolding.leave.Goals as goal

pub returns-in_default : goal.returns-in_default
returns-in_default c =
    let left = nothing_left c.args.self.now _ c.requires.stands refl c.requires.done (option_to_list c.pop.result) (option_to_list c.pop-2.result) c.pop.ensures.items c.pop-2.ensures.items in
    elim c.in_default.branch [
      | in_default-via-in-Some+in_default w ↦ left (inr (none_popped c.args.self.now.way w.in_default.ensures'.cases.0))
      | in_default-via-in_default w ↦ left (inl (none_popped c.args.self.now.outer w.in_default.ensures.cases.0))
    ]

pub all_carried-requires : goal.all_carried-requires
all_carried-requires c =
    reads_there c.args.self.now.nodes.items c.args.self.now.visit c.deref.result.now
    (subst (All (IsRead c.args.self.now.nodes.items c.args.self.now.visit)) (sym c.deref.ensures.value) (given_read c.args.self.now c.requires.stands c.requires.done))

pub make-requires : goal.make-requires
make-requires c =
    parent_inside c.args.self.now c.requires.stands c.in-Some-Some.outer c.in-Some-Some.step c.pop.new.self.items c.pop-2.new.self.items
    (c.pop.ensures.items ∙ ap (λ o. c.pop.new.self.items ++ option_to_list o) c.in-Some-Some.is-0)
    (c.pop-2.ensures.items ∙ ap (λ o. c.pop-2.new.self.items ++ option_to_list o) c.in-Some-Some.is-1)

pub returns : goal.returns
returns c =
    goes_on_leaving c.args.self.now _ c.requires.stands refl c.in-Some-Some.outer c.in-Some-Some.step c.in_ok-outputs.outputs c.requires.done
    (c.pop.ensures.items ∙ ap (λ o. c.pop.new.self.items ++ option_to_list o) c.in-Some-Some.is-0)
    (c.pop-2.ensures.items ∙ ap (λ o. c.pop-2.new.self.items ++ option_to_list o) c.in-Some-Some.is-1)
    (ap (λ rs. all_of (map (came_in c.args.self.now.visit) rs)) (sym c.deref.ensures.value) ∙ c.in_ok-outputs.ensures)
    c.make.ensures
