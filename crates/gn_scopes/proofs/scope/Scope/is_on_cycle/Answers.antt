use Rattle.std.proofs.Common.{[], ap, ◌∙◌, if◌then◌else◌}
use Rattle.gn_tree.specs.Seen.{nodes_of}
use Rattle.gn_rules.specs.Rules.{graph_of}
use Rattle.gn_scopes.proofs.Turning.{cycle_seen}
use Rattle.gn_scopes.proofs.scope.Scope.is_on_cycle.Goals as goal

pub returns : goal.returns
returns c =
    let graph = graph_of (nodes_of c.args.self.now.nodes.now.items) in
    cycle_seen c.is_on_cycle.result c.args.self.now.graph graph c.args.number (c.args.self.now.with_graph ∙ ap (λ b. if b then graph else []) c.requires) c.is_on_cycle.ensures
