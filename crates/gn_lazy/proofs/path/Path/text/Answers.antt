use Rattle.std.proofs.Common.{◌∙◌, ap, map, length, arith}
use Rattle.gn_lazy.specs.Paths.{path_text}
use Rattle.gn_lazy.proofs.Texts.{joined, ended, next_step, past_the_end}
use Rattle.gn_lazy.proofs.path.Path.text.Goals as goal

pub loop-at-preserved : goal.loop-at-preserved
loop-at-preserved c =
    let step = next_step (λ id. id.now) c.args.ids.now c.deref-step-items.result.now c.loop-at.at _ _ (omega (arith, c.loop-at-test.true, c.requires, ap length c.deref-step-items.ensures.value)) c.loop-at-test.true in
    joined c.loop-at.text.items _ _ _ c.write_step.new.text.items _ _ c.in_ok-write_step.ensures step c.loop-at.invariant

pub returns : goal.returns
returns c =
    ended c.loop-at.text.items _ _ (past_the_end _ c.deref-step-items.result.now c.loop-at.at c.loop-at-test.false) c.loop-at.invariant
    ∙ ap (path_text (map (λ id. id.now) c.args.ids.now)) c.deref-step-items.ensures.value
