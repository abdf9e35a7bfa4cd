use Rattle.std.proofs.Common.{◌++◌, map, drop, ◌+◌, ap, sym, ◌∙◌}
use Rattle.std.proofs.lemmas.List.{append_assoc}
use Rattle.gn_tree.specs.Seen.{input_of, named_of}
use Rattle.gn_rules.specs.Rules.{links_of, links_of_input, numbers_of}
use Rattle.gn_scopes.proofs.Leading.{inputs_next}
use Rattle.gn_scopes.proofs.edges.numbers_in.Goals as goal

pub loop-input-preserved : goal.loop-input-preserved
loop-input-preserved c =
    let names = c.args.names.now in
    let x = c.loop-input-item.result in
    let i = c.loop-input.input-index in
    let rest = numbers_of names (links_of (map named_of (drop (i + 1) c.args.inputs.now))) in
    let here = numbers_of names (links_of_input (input_of x.1)) in
    ap (λ ns. ns ++ rest) c.in_ok-add_input.ensures
    ∙ (append_assoc c.loop-input.numbers.items here rest
    ∙ (ap (λ ns. c.loop-input.numbers.items ++ ns) (sym (inputs_next names c.args.inputs.now i x c.loop-input-test.true c.loop-input-item.is))
    ∙ c.loop-input.invariant))
