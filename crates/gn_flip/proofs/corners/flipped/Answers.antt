use Rattle.std.proofs.Common.{◌∙◌, map, ap}
use Rattle.gn_interp.specs.Takings.{topology_of}
use Rattle.gn_flip.specs.Turned.{is_chosen}
use Rattle.gn_flip.proofs.Turning.{at_number, is_turned}
use Rattle.gn_flip.proofs.corners.flipped.Goals as goal

pub returns : goal.returns
returns c =
    let t = topology_of c.args.topology.now in
    let ways = c.in_ok-corners.field-0 in
    let made = is_turned t c.requires.valid (is_chosen c.args.selected.now) ways.corners.items ways.edges.items c.in_ok-corner_points.corner_points.items c.in_ok-corner_edges.corner_edges.items c.in_ok-corners.ensures.corners c.in_ok-corners.ensures.edges
    (c.in_ok-corner_points.ensures ∙ ap (map (at_number t.corner_points)) c.deref.ensures.value)
    (c.in_ok-corner_edges.ensures ∙ ap (map (at_number t.corner_edges)) c.deref-2.ensures.value) in
    record { faces = made.faces_are; valid = made.keeps_valid; numbered = made.keeps_numbered c.requires.numbered; order = c.in_ok-corners.ensures.corners }
