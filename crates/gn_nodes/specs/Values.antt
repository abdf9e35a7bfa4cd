-- What answers, warnings and outputs stand for.
use Rattle.std.specs.Prelude.{ℕ, List, ◌++◌, map, codes, decimal}
use Rattle.gn_node_set.specs.Meanings as meant
use Rattle.gn_nodes.specs.declared.values.Answer.{Answer}
use Rattle.gn_nodes.specs.declared.values.Answer.TheVariants.{Whole, Absent, TooLong}
use Rattle.gn_nodes.specs.declared.values.WarningText.{WarningText}
use Rattle.gn_nodes.specs.declared.values.WarningText.TheVariants as text
use Rattle.gn_nodes.specs.declared.values.Warning.{Warning}
use Rattle.gn_nodes.specs.declared.values.Done.{Done}

abbrev pub answer_of : Answer → meant.Answer
answer_of (Whole bytes) = meant.Whole bytes.items
answer_of Absent = meant.Absent
answer_of TooLong = meant.TooLong

abbrev pub text_of : WarningText → List ℕ
text_of text.FieldLimit = codes "field limit"
text_of text.Depth = codes "depth"
text_of text.Limit = codes "limit"
text_of text.Iterations = codes "iterations"
text_of text.Absent = codes "absent"
text_of text.TooLong = codes "too long"
text_of (text.ObjLine line rule) = codes "obj line " ++ decimal line ++ codes ": O" ++ decimal rule
text_of text.NoAttribute = codes "no attribute"
text_of text.NoColumn = codes "no column"

abbrev pub warning_of : Warning → meant.Warning
warning_of warning = record { path = warning.path.steps.items; text = text_of warning.text }

-- by what each value stands for
abbrev pub done_of : {G V : Type 0} → (G → V) → Done G → meant.Done V
done_of content done = record { outputs = map content done.outputs.items; warnings = map warning_of done.warnings.items }
