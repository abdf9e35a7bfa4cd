use Rattle.std.proofs.Common.{arith}
use Rattle.gn_scopes.specs.Scopes.{items_of_node}
use Rattle.gn_scopes.proofs.Grouping.{at_position, past_position}
use Rattle.gn_scopes.proofs.scope.Scope.items.Goals as goal

pub returns-then-number-len : goal.returns-then-number-len
returns-then-number-len c = at_position items_of_node c.args.self.now.items.items c.args.self.now.nodes.now.items c.args.number c.index.result.now c.args.self.now.with_items (omega arith) c.index.ensures

pub returns : goal.returns
returns c = past_position items_of_node c.args.self.now.items.items c.args.self.now.nodes.now.items c.args.number c.args.self.now.groups.now.none c.args.self.now.with_items (omega arith) c.args.self.now.groups.now.without
