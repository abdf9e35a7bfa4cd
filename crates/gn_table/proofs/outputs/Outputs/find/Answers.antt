use Rattle.std.proofs.Common.{map, sym, ap, ◌∙◌}
use Rattle.std.specs.Prelude.{option_map}
use Rattle.std.proofs.lemmas.List.{length-map}
use Rattle.gn_kinds.specs.Seen.{output_of}
use Rattle.gn_rules.specs.Sockets.{one_of, output_of_row}
use Rattle.gn_scopes.specs.Groups.{sockets_in}
use Rattle.gn_table.specs.Finding.{behind, find_in}
use Rattle.gn_table.proofs.Finding.{found_behind_none}
use Rattle.gn_table.proofs.outputs.Outputs.find.Goals as goal

pub returns-in-None : goal.returns-in-None
returns-in-None c =
    let rows = c.args.self.rows.now in
    let ds = map (output_of_row c.args.self.chosen) (map output_of rows) in
    let es = map one_of (sockets_in c.args.self.others.now) in
    c.find_behind.ensures
    ∙ (ap (λ n. option_map (behind n) (find_in es c.args.name.now)) (sym (length-map (map output_of rows) (output_of_row c.args.self.chosen) ∙ length-map rows output_of))
    ∙ sym (found_behind_none ds es c.args.name.now (sym c.find_output.ensures ∙ c.in-None.is)))
