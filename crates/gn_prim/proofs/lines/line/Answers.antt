use Rattle.std.proofs.Common.{◌≡◌, [], ◌∷◌, ◌++◌, List, ℕ, length, ap, sym, subst, ◌∙◌, arith}
use Rattle.std.proofs.lemmas.List.FromFn.{length-map-range_with_len}
use Rattle.gn_plain.specs.Topology.{IsValid, IsNumbered}
use Rattle.gn_shapes.specs.Lines.{point_of_line}
use Rattle.gn_prim.proofs.Rows.{line_of, valid_line, numbered_line, if_made, line_made}
use Rattle.gn_prim.proofs.lines.line.Goals as goal

pub from_valid_parts-requires-clause-valid : goal.from_valid_parts-requires-clause-valid
from_valid_parts-requires-clause-valid c =
    let count = c.args.count in
    let f = point_of_line c.args.start c.args.offset in
    let long : length c.in_ok-points.points.items ≡ count = ap length c.in_ok-points.ensures ∙ length-map-range_with_len f 0 count in
    let faces : c.push.new.self.items ≡ 0 ∷ [] = c.in_ok-push.ensures.items ∙ ap (λ (xs : List ℕ). xs ++ 0 ∷ []) c.in_ok-faces.ensures.items in
    subst IsValid (sym (line_of count _ _ _ _ _ long c.in_ok-edges.ensures faces c.new.ensures.items c.new-2.ensures.items)) (valid_line count)

pub from_valid_parts-requires-clause-numbered : goal.from_valid_parts-requires-clause-numbered
from_valid_parts-requires-clause-numbered c =
    let count = c.args.count in
    let f = point_of_line c.args.start c.args.offset in
    let long : length c.in_ok-points.points.items ≡ count = ap length c.in_ok-points.ensures ∙ length-map-range_with_len f 0 count in
    let faces : c.push.new.self.items ≡ 0 ∷ [] = c.in_ok-push.ensures.items ∙ ap (λ (xs : List ℕ). xs ++ 0 ∷ []) c.in_ok-faces.ensures.items in
    subst IsNumbered (sym (line_of count _ _ _ _ _ long c.in_ok-edges.ensures faces c.new.ensures.items c.new-2.ensures.items)) (numbered_line count (omega (arith, c.requires)))

pub returns-clause-shape : goal.returns-clause-shape
returns-clause-shape c =
    let count = c.args.count in
    let f = point_of_line c.args.start c.args.offset in
    let long : length c.in_ok-points.points.items ≡ count = ap length c.in_ok-points.ensures ∙ length-map-range_with_len f 0 count in
    let faces : c.push.new.self.items ≡ 0 ∷ [] = c.in_ok-push.ensures.items ∙ ap (λ (xs : List ℕ). xs ++ 0 ∷ []) c.in_ok-faces.ensures.items in
    let is = line_of count _ _ _ _ _ long c.in_ok-edges.ensures faces c.new.ensures.items c.new-2.ensures.items in
    if_made _ _ _ _ c.from_valid_parts.result (λ m. line_made count c.args.start c.args.offset _ c.in_ok-points.points.items m is c.in_ok-points.ensures) c.from_valid_parts.ensures.points c.from_valid_parts.ensures.topology c.from_valid_parts.ensures.columns
