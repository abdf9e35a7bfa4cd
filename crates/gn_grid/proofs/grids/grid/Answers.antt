use Rattle.std.proofs.Common.{rules, ◌≡◌, map, sym, subst, ◌∙◌}
use Rattle.std.specs.List.{range_with_len}
use Rattle.gn_plain.specs.Topology.{IsValid, IsNumbered}
use Rattle.gn_shapes.specs.Grids.{along_side}
use Rattle.gn_grid.proofs.GridLaws.{valid_grid, numbered_grid}
use Rattle.gn_grid.proofs.Making.{points_are, lists_are, if_made, grid_made}
use Rattle.gn_grid.proofs.grids.grid.Goals as goal

pub from_valid_parts-requires-clause-valid : goal.from_valid_parts-requires-clause-valid
from_valid_parts-requires-clause-valid c =
    let columns = c.args.vertices_x in
    let rows = c.args.vertices_y in
    let across : c.in_ok-xs.xs.items ≡ map (along_side c.args.size_x.0 columns) (range_with_len 0 columns) = search rules in
    let up : c.in_ok-ys.ys.items ≡ map (along_side c.args.size_y.0 rows) (range_with_len 0 rows) = search rules in
    let at = points_are columns rows c.args.size_x.0 c.args.size_y.0 c.in_ok-points.field-0.items c.deref.result.now c.deref-2.result.now c.in_ok-points.ensures
    (c.deref.ensures.value ∙ across) (c.deref-2.ensures.value ∙ up) in
    let is = lists_are columns rows c.args.size_x.0 c.args.size_y.0 c.saturating_sub-across.result c.saturating_sub-up.result
    c.in_ok-points.field-0.items c.in_ok-edges.field-0.items c.in_ok-offsets.field-0.items c.in_ok-corner_points.field-0.items c.in_ok-corner_edges.field-0.items
    c.saturating_sub-across.ensures c.saturating_sub-up.ensures at c.in_ok-edges.ensures c.in_ok-offsets.ensures c.in_ok-corner_points.ensures c.in_ok-corner_edges.ensures in
    subst IsValid (sym is) (valid_grid columns rows)

pub from_valid_parts-requires-clause-numbered : goal.from_valid_parts-requires-clause-numbered
from_valid_parts-requires-clause-numbered c =
    let columns = c.args.vertices_x in
    let rows = c.args.vertices_y in
    let across : c.in_ok-xs.xs.items ≡ map (along_side c.args.size_x.0 columns) (range_with_len 0 columns) = search rules in
    let up : c.in_ok-ys.ys.items ≡ map (along_side c.args.size_y.0 rows) (range_with_len 0 rows) = search rules in
    let at = points_are columns rows c.args.size_x.0 c.args.size_y.0 c.in_ok-points.field-0.items c.deref.result.now c.deref-2.result.now c.in_ok-points.ensures
    (c.deref.ensures.value ∙ across) (c.deref-2.ensures.value ∙ up) in
    let is = lists_are columns rows c.args.size_x.0 c.args.size_y.0 c.saturating_sub-across.result c.saturating_sub-up.result
    c.in_ok-points.field-0.items c.in_ok-edges.field-0.items c.in_ok-offsets.field-0.items c.in_ok-corner_points.field-0.items c.in_ok-corner_edges.field-0.items
    c.saturating_sub-across.ensures c.saturating_sub-up.ensures at c.in_ok-edges.ensures c.in_ok-offsets.ensures c.in_ok-corner_points.ensures c.in_ok-corner_edges.ensures in
    subst IsNumbered (sym is) (numbered_grid columns rows c.requires.points c.requires.edges c.requires.corners)

pub returns-clause-shape : goal.returns-clause-shape
returns-clause-shape c =
    let columns = c.args.vertices_x in
    let rows = c.args.vertices_y in
    let across : c.in_ok-xs.xs.items ≡ map (along_side c.args.size_x.0 columns) (range_with_len 0 columns) = search rules in
    let up : c.in_ok-ys.ys.items ≡ map (along_side c.args.size_y.0 rows) (range_with_len 0 rows) = search rules in
    let at = points_are columns rows c.args.size_x.0 c.args.size_y.0 c.in_ok-points.field-0.items c.deref.result.now c.deref-2.result.now c.in_ok-points.ensures
    (c.deref.ensures.value ∙ across) (c.deref-2.ensures.value ∙ up) in
    let is = lists_are columns rows c.args.size_x.0 c.args.size_y.0 c.saturating_sub-across.result c.saturating_sub-up.result
    c.in_ok-points.field-0.items c.in_ok-edges.field-0.items c.in_ok-offsets.field-0.items c.in_ok-corner_points.field-0.items c.in_ok-corner_edges.field-0.items
    c.saturating_sub-across.ensures c.saturating_sub-up.ensures at c.in_ok-edges.ensures c.in_ok-offsets.ensures c.in_ok-corner_points.ensures c.in_ok-corner_edges.ensures in
    if_made _ _ _ _ c.from_valid_parts.result (λ m. grid_made columns rows c.args.size_x.0 c.args.size_y.0 _ c.in_ok-points.field-0.items m is at)
    c.from_valid_parts.ensures.points c.from_valid_parts.ensures.topology c.from_valid_parts.ensures.columns
