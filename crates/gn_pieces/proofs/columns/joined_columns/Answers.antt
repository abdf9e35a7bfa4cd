use Rattle.std.proofs.Common.{[], None, ap, sym, ◌∙◌, map}
use Rattle.std.specs.List.{flat_map, fold}
use Rattle.gn_pieces.specs.Heads.{head_on, with_joined}
use Rattle.gn_pieces.specs.Views.{parts_of}
use Rattle.gn_pieces.proofs.Heads.{all_joined}
use Rattle.gn_pieces.proofs.Steps.{take_whole}
use Rattle.gn_pieces.proofs.columns.joined_columns.Goals as goal

pub returns-clause-columns : goal.returns-clause-columns
returns-clause-columns c =
    let ps = parts_of c.args.component c.args.views.now in
    c.loop-view.invariant.0
    ∙ (ap (λ vs. fold (with_joined ps) [] (map (head_on None) (flat_map (λ p. p.columns) (parts_of c.args.component vs)))) (take_whole c.args.views.now c.loop-view.view-index c.loop-view-test.false)
    ∙ sym (all_joined ps))
