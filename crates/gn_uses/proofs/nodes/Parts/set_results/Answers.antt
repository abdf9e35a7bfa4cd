use Rattle.std.proofs.Common.{[], ap}
use Rattle.std.proofs.lemmas.List.{map-set}
use Rattle.gn_uses.specs.Parts.{nodes_of}
use Rattle.gn_uses.proofs.nodes.Parts.set_results.Goals as goal

pub returns : goal.returns
returns c = ap (λ rs. record (nodes_of c.args.self.now []) { results = rs }) (map-set (λ v. v.items) c.args.self.now.results.items c.args.zone c.args.results)
