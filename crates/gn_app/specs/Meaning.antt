-- What a job comes to.
use Rattle.std.specs.Prelude.{◌≡◌, ℕ, List}
use Rattle.gn_kinds.specs.Row.{Text}
use Rattle.gn_io.specs.Files.{FileAnswer, whole, absent, too_long}
use Rattle.gn_node_set.specs.Meanings.{Answer, Whole, Absent, TooLong}
use Rattle.gn_plain.specs.Geometry.{Shape, Geometry}
use Rattle.gn_tree.specs.Trees.{Tree}
use Rattle.gn_obj.specs.Written.{obj_text}
use Rattle.gn_plan_laws.specs.Made.{Denotes, CountsDemand}
use Rattle.gn_app.specs.Job.{Job, evaluation, writing, Giving, input_limit}

-- what an import gets for its file
abbrev pub answer_of : FileAnswer → Answer
answer_of (whole bytes) = Whole bytes
answer_of absent = Absent
answer_of (too_long size) = TooLong

abbrev pub answers : Giving → List ℕ → Answer
answers files name = answer_of (files input_limit name)

-- the text is that of what the tree gives out for its input
pub record IsTextOf (files : Giving) (t : Tree) (input : Shape) (text : Text) : Type 0 where
  pub geometry : Geometry
  pub denotes : Denotes (answers files) t input geometry
  pub is : text ≡ obj_text geometry

-- the text that a job comes to
abbrev pub ComesTo : Giving → Job → Text → Type 0
ComesTo files (evaluation t input) text = IsTextOf files t input text
ComesTo files (writing said) text = text ≡ said

-- as many runs as nodes are demanded
abbrev pub TakesRuns : Giving → Job → ℕ → Type 0
TakesRuns files (evaluation t input) n = CountsDemand (answers files) t input n
TakesRuns files (writing said) n = n ≡ 0
