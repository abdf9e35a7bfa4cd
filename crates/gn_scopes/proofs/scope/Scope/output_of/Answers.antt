use Rattle.std.proofs.Common.{◌≡◌, Some, map, sym, ap, ◌∙◌}
use Rattle.std.specs.Option.{option_or}
use Rattle.gn_tree.specs.Seen.{group_of}
use Rattle.gn_rules.specs.Sockets.{declared, chosen, one_of, further, output_of_row, outputs_of_kind}
use Rattle.gn_tree.specs.Nodes.{kind_in, settings_in}
use Rattle.gn_scopes.proofs.Finding.{outputs_append}
use Rattle.gn_scopes.proofs.scope.Scope.output_of.Goals as goal

pub returns-in-Some : goal.returns-in-Some
returns-in-Some c =
    let gs = map group_of c.args.self.now.groups.now.list.now in
    let n = c.args.node.now in
    let name = c.args.name.now in
    let of_type : c.chosen.result ≡ chosen (settings_in n) = c.chosen.ensures ∙ ap chosen c.settings-settings.ensures in
    let found : declared (map (output_of_row (chosen (settings_in n))) (outputs_of_kind (kind_in n))) name ≡ Some c.in-Some.shape =
    ap (λ kind. declared (map (output_of_row (chosen (settings_in n))) (outputs_of_kind kind)) name) (sym c.kind.ensures)
    ∙ (ap (λ k. declared (map (output_of_row k) (outputs_of_kind c.kind.result.now)) name) (sym of_type) ∙ (sym c.find_output.ensures ∙ c.in-Some.is)) in
    sym (outputs_append gs n name ∙ ap (λ o. option_or o (declared (map one_of (further (λ g. g.outputs) gs (settings_in n))) name)) found)
