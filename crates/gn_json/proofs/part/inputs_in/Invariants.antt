use Rattle.std.proofs.Common.{◌≡◌, ◌++◌, map}
use Rattle.serde_json.specs.View.{members_view}
use Rattle.gn_tree.specs.Seen.{named_of}
use Rattle.gn_json.specs.Typed.{inputs_in}
use Rattle.gn_json.proofs.part.inputs_in.Given as goal

abbrev pub invariant-loop-key : goal.invariant-loop-key
invariant-loop-key l = map named_of l.inputs.items ++ inputs_in (members_view l.key-iterator) ≡ inputs_in (members_view l.members.entries)
