use Rattle.std.proofs.Common.{◌∙◌, ap, subst}
use Rattle.gn_tree.specs.Form.{IsOfForm}
use Rattle.gn_tree.specs.Seen.{tree_of}
use Rattle.gn_rules.specs.Rules.{KeepsRules}
use Rattle.gn_check.specs.Answers.{tree_in}
use Rattle.gn_meaning.proofs.Formed.{has_form}
use Rattle.gn_lower.proofs.Ending.{lowered}
use Rattle.gn_lower.proofs.make.lower.Goals as goal

pub tables_of-requires : goal.tables_of-requires
tables_of-requires c = (c.tree.ensures.kept, has_form (tree_of c.tree.result.now) c.tree.ensures.formed)

pub returns : goal.returns
returns c =
    let keeps : KeepsRules (tree_in c.args.tree.now) = subst KeepsRules c.tree-2.ensures.same c.tree-2.ensures.kept in
    let formed : IsOfForm (tree_in c.args.tree.now) = subst IsOfForm c.tree-2.ensures.same c.tree-2.ensures.formed in
    lowered c.roots.new.self (tree_in c.args.tree.now) c.in_ok-graph.graph c.in_ok-roots.roots.items c.in_ok-count.count keeps formed
    (ap (λ r. tree_of r.now) (c.in_ok-roots.ensures.0 ∙ (c.in_ok-finish.ensures.0 ∙ c.in_ok-unfolding.ensures.0)) ∙ c.tree-2.ensures.same)
    c.in_ok-roots.ensures.1
    (c.in_ok-count.ensures ∙ (c.len.ensures ∙ c.roots.new.self.constants.ok.0))
    c.in_ok-graph.ensures
