use Rattle.std.proofs.Common.{◌≡◌, [], ◌∙◌, set, map, get_or, true, sym, ap}
use Rattle.std.proofs.lemmas.List.{map-set, get_or-map}
use Rattle.std.specs.Vec.{with_item}
use Rattle.gn_uses.specs.Sets.{rows_of, row}
use Rattle.gn_uses.proofs.rows.set_flag.Goals as goal

pub returns : goal.returns
returns c =
    let rows = c.args.rows.now.items in
    let written = with_item c.index_mut.result.now c.args.at true in
    let same : row (rows_of rows) c.args.number ≡ c.index_mut.result.now.items =
    get_or-map (λ v. v.items) rows c.args.number c.index_mut.result.now [] c.requires.row ∙ ap (λ v. v.items) (sym c.index_mut.ensures.value) in
    map-set (λ v. v.items) rows c.args.number written ∙ ap (λ xs. set (rows_of rows) c.args.number (set xs c.args.at true)) (sym same)
