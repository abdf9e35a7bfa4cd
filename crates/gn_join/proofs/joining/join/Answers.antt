use Rattle.std.proofs.Common.{◌≡◌, ◌∙◌, map, rules, None, Some}
use Rattle.gn_geometry.specs.Geometries.{plain_geometry}
use Rattle.gn_joins.specs.Limits.{all_places, count_together, first_over}
use Rattle.gn_joins.proofs.Counts.{too_many_joined}
use Rattle.gn_join.proofs.joining.join.Goals as goal

pub returns-in-Some-clause-fault : goal.returns-in-Some-clause-fault
returns-in-Some-clause-fault c =
    let over : first_over (count_together (map plain_geometry c.args.parts.items)) all_places ≡ Some (c.in-Some.place, c.in-Some.elements) = search rules in
    too_many_joined (map plain_geometry c.args.parts.items) ∙ over

pub returns-in-Err-clause-fault : goal.returns-in-Err-clause-fault
returns-in-Err-clause-fault c =
    let none : first_over (count_together (map plain_geometry c.args.parts.items)) all_places ≡ None = search rules in
    too_many_joined (map plain_geometry c.args.parts.items) ∙ none

pub returns-in-Ok-clause-within : goal.returns-in-Ok-clause-within
returns-in-Ok-clause-within c =
    let none : first_over (count_together (map plain_geometry c.args.parts.items)) all_places ≡ None = search rules in
    too_many_joined (map plain_geometry c.args.parts.items) ∙ none
