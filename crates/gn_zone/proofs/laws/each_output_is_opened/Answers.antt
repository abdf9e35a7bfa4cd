use Rattle.std.proofs.Common.{map, length, Some, None, sym, ◌∙◌}
use Rattle.std.proofs.lemmas.List.{length-map}
use Rattle.gn_node_kind.specs.Seen.{written_as}
use Rattle.gn_exec_laws.specs.Tasks.{inner_link}
use Rattle.gn_found.specs.Filled.{by_name}
use Rattle.gn_table.specs.Constants.{name_of}
use Rattle.gn_zone.specs.Opens.{opened_by_name}
use Rattle.gn_zone.proofs.Counted.{zone_long}
use Rattle.gn_zone.proofs.laws.each_output_is_opened.Goals as goal

pub returns : goal.returns
returns c kind path base turns opened opens =
    sym (length-map opened.outputs.items (inner_link written_as None (length opens.body.sockets) base opened.nodes.items (map (λ c. Some (name_of c)) opened.constants.items)))
    ∙ zone_long by_name (written_as kind) path opens.steps turns opens.body (opened_by_name (length opens.body.sockets) base opened) opens.is_body opens.found
