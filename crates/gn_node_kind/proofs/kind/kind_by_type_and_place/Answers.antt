use Rattle.std.proofs.Common.{◌∙◌, ap, sym}
use Rattle.std.specs.Prelude.{option_map, option_and_then}
use Rattle.gn_node_kind.specs.Kinds.{kinds_by_type_and_place}
use Rattle.gn_node_kind.specs.Named.{named_in}
use Rattle.gn_node_kind.proofs.Others.{none_named}
use Rattle.gn_node_kind.proofs.kind.kind_by_type_and_place.Goals as goal

pub returns-in_default : goal.returns-in_default
returns-in_default c =
    ap (λ found. option_map (λ kind. kind c.in_ok-of.of c.args.place) found) (none_named kinds_by_type_and_place c.args.name.now (c.in_default.not-accumulate_field, (c.in_default.not-evaluate_at_index, (c.in_default.not-evaluate_on_domain, (c.in_default.not-capture_attribute, tt)))))
    ∙ ap (option_and_then (λ of. option_map (λ kind. kind of c.args.place) (named_in kinds_by_type_and_place c.args.name.now))) (sym c.in_ok-of.was ∙ c.value_kind.ensures)
