use Rattle.std.proofs.Common.{map}
use Rattle.gn_tree.specs.Seen.{group_of}
use Rattle.gn_scopes.specs.Groups.{side_of}
use Rattle.gn_scopes.proofs.Grouping.{at_position, past_position}
use Rattle.gn_scopes.proofs.groups.Groups.at.Goals as goal

pub returns-then-position-all : goal.returns-then-position-all
returns-then-position-all c = at_position (side_of c.args.side) c.side-all.result.now (map group_of c.args.self.now.list.now) c.args.position c.index-all-position.result c.side-all.ensures c.if-position-all.true c.index-all-position.is

pub returns : goal.returns
returns c = past_position (side_of c.args.side) c.side-all.result.now (map group_of c.args.self.now.list.now) c.args.position c.args.self.now.none c.side-all.ensures c.if-position-all.false c.args.self.now.without
