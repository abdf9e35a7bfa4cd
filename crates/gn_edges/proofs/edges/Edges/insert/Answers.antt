use Rattle.std.proofs.Common.{◌≡◌, length, arith}
use Rattle.gn_edges.specs.Kept.{is_pair}
use Rattle.gn_edges.proofs.Lists.{found_behind}
use Rattle.gn_edges.proofs.edges.Edges.insert.Goals as goal

pub returns-clause-new : goal.returns-clause-new
returns-clause-new c =
    let pairs = c.self.inside.pairs.items in
    let count : c.len-count.result ≡ length pairs = omega arith in
    rw (← c.self.view_is, c.in_ok-number.ensures.number, count) (found_behind (is_pair c.args.edge) pairs)
