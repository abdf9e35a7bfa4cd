use Rattle.std.proofs.Common.{ap}
use Rattle.std.specs.Prelude.{option_map}
use Rattle.gn_node_set.specs.Meanings as meanings
use Rattle.gn_node_set.specs.Meanings.{Link}
use Rattle.gn_lower.specs.Lowered.{Named}
use Rattle.gn_lower.proofs.carried.Carried.link.Goals as goal

pub returns : goal.returns
returns c = λ nodes.
    let o = c.in_ok-origin.ensures nodes in
    let along : meanings.Source Named → Link Named = λ x. record { from = x; through = c.args.self.through.items } in
    record { more = o.more; grown = o.grown; same = ap (option_map along) o.same; there = o.there }
