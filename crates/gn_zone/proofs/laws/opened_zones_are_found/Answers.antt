use Rattle.std.proofs.Common.{length, Some, ◌∙◌, ap}
use Rattle.gn_node_kind.specs.Seen.{written_as}
use Rattle.gn_zone.specs.Opens.{opened_by_name}
use Rattle.gn_zone.proofs.Found.{zone_found}
use Rattle.gn_zone.proofs.Valued.{opened_valued}
use Rattle.gn_zone.proofs.laws.opened_zones_are_found.Goals as goal

pub returns : goal.returns
returns g c given nothing kind path base turns opened opens =
    zone_found given nothing (written_as kind) path opens.steps turns (opened_by_name (length opens.body.sockets) base opened) opens.found
    ∙ ap (λ x. Some x) (opened_valued given nothing (length opens.body.sockets) base opened.nodes.items opened.constants.items opened.outputs.items)
