use Rattle.std.proofs.Common.{refl}
use Rattle.gn_delivery.proofs.Planning.{plain_set, of_set, of_more}
use Rattle.gn_delivery.proofs.plan.note_plain.Goals as goal

pub returns-then-len-reader-clause-of : goal.returns-then-len-reader-clause-of
returns-then-len-reader-clause-of g c rs before s p e = of_more c.args.graph.now rs c.args.itself.now.items c.args.reader.now before s p e

pub returns-clause-plain : goal.returns-clause-plain
returns-clause-plain g c before = plain_set c.args.graph.now c.args.itself.now.items c.args.reader.now.output c.args.reader.now.place (c.if-not-converts_nothing.ensures refl) before

pub returns-clause-of : goal.returns-clause-of
returns-clause-of g c rs before = of_set c.args.graph.now rs c.args.itself.now.items c.args.reader.now before
