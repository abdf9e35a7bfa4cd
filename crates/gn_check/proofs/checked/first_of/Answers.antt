use Rattle.std.proofs.Common.{Some, None, option_map, sym, ap, ◌∙◌}
use Rattle.gn_pointers.specs.Seen.{pointer_of}
use Rattle.gn_tree.specs.Seen.{tree_of}
use Rattle.gn_rules.specs.declared.rule.Rule.TheVariants.{Names}
use Rattle.gn_check.proofs.Naming.{rule_found}
use Rattle.gn_check.proofs.checked.first_of.Goals as goal

pub returns-in-Some : goal.returns-in-Some
returns-in-Some c =
    let t = tree_of c.args.tree.now in
    sym (rule_found t c.args.rules.now c.loop-rule.rule-index Names (Some (pointer_of c.in-Some.pointer)) c.loop-rule-test.true (sym (ap (option_map pointer_of) c.in-Some.is) ∙ c.in_ok-pointer.ensures))
    ∙ c.loop-rule.invariant

pub loop-rule-preserved : goal.loop-rule-preserved
loop-rule-preserved c =
    let t = tree_of c.args.tree.now in
    sym (rule_found t c.args.rules.now c.loop-rule.rule-index Names None c.loop-rule-test.true (sym (ap (option_map pointer_of) c.in_default.is) ∙ c.in_ok-pointer.ensures))
    ∙ c.loop-rule.invariant
