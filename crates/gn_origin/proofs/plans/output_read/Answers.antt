use Rattle.std.proofs.Common.{ap}
use Rattle.std.specs.Prelude.{option_map}
use Rattle.gn_tree.specs.Seen.{tree_of, input_of}
use Rattle.gn_origin.proofs.Output.{output_is}
use Rattle.gn_origin.proofs.plans.output_read.Goals as goal

pub returns-in-Some : goal.returns-in-Some
returns-in-Some c =
    let t = tree_of c.args.lists.now.tree.now in
    output_is t c.requires.keeps c.requires.form c.own.result (ap (λ l. tree_of l.tree.now) c.own.ensures.0) c.own.ensures.1 (input_of c.in-Some.input) (ap (option_map input_of) c.in-Some.is) c.input_read.result (c.input_read.ensures _ c.own.ensures.1)
