-- What there is to do, as the files say.
use Rattle.std.specs.Prelude.{◌≡◌, ◌⊎◌, ℕ, List, Some, None, Result, Ok, Err, codes}
use Rattle.serde_json.specs.Data.{Data}
use Rattle.gn_io.specs.Files.{FileAnswer, whole, absent, too_long}
use Rattle.gn_kinds.specs.Row.{Text}
use Rattle.gn_pointers.specs.Pointers.{Pointer}
use Rattle.gn_pointers.specs.Texts.{pointer_text}
use Rattle.gn_tree.specs.Trees.{Tree}
use Rattle.gn_plain.specs.Geometry.{Shape}
use Rattle.gn_rules.specs.Rules.{KeepsRules}
use Rattle.gn_json.specs.Answers.{json, FirstMisfit}
use Rattle.gn_json.specs.Exact.{tree_from}
use Rattle.gn_read.specs.Answers.{IsMisfitAt, IsRuleAt}
use Rattle.gn_plans.specs.Plans.{Plan, IsPlan, HasNoPlan}
use Rattle.gn_elements.specs.Read.{Bad, mesh}
use Rattle.gn_app.specs.Command.{Command, eval, check, help, version}
use Rattle.gn_app.specs.Ending.{Ending, no_file, no_json, misformed, bad_line, overlong, not_built}

-- the longest tree, in bytes: 4 MiB
abbrev pub tree_limit : ℕ
tree_limit = 4194304

-- the longest input, in bytes: 128 MiB
abbrev pub input_limit : ℕ
input_limit = 134217728

-- what `check` writes for a well-formed tree
unfoldable pub ok_text : Text
ok_text = codes "ok\n"

-- what `--help` writes: the commands
unfoldable pub help_text : Text
help_text =
    codes "usage: geonodes eval TREE OBJ\n       geonodes check TREE\n       geonodes --help\n       geonodes --version\n"

-- what `--version` writes
unfoldable pub version_text : Text
version_text = codes "geonodes 0.1.0\n"

-- a tree to evaluate with the mesh of its input, or a text to write
pub data Job : Type 0 where
  evaluation : Tree → Shape → Job
  writing : Text → Job

-- what a name gives, under a limit
abbrev pub Giving : Type 0
Giving = ℕ → Text → FileAnswer

-- ---- the tree

-- the bytes are a JSON value of a tree's form, and its tree keeps the rules
abbrev pub IsTree : List ℕ → Tree → Type 0
IsTree bytes t = (d : Data) × FirstMisfit bytes d None × (tree_from d ≡ Some t) × KeepsRules t

-- the rule is the least of F1 to F7 that the value breaks, first at the pointer with that text
abbrev pub BreaksRule : List ℕ → ℕ → Text → Type 0
BreaksRule bytes rule text =
    (pointer : Pointer) × (text ≡ pointer_text pointer) × (IsMisfitAt bytes rule pointer ⊎ IsRuleAt bytes rule pointer)

-- the bytes are a well-formed tree, or why not
abbrev pub TextGives : List ℕ → Result Tree Ending → Type 0
TextGives bytes (Ok t) = IsTree bytes t
TextGives bytes (Err no_json) = json bytes ≡ None
TextGives bytes (Err (misformed rule pointer)) = BreaksRule bytes rule pointer
TextGives bytes (Err _) = ⊥

-- the file of that name has a well-formed tree, or why there is none
abbrev pub TreeGiven : Text → FileAnswer → Result Tree Ending → Type 0
TreeGiven name absent r = r ≡ Err (no_file name)
TreeGiven name (too_long size) r = r ≡ Err (overlong name size)
TreeGiven name (whole bytes) r = TextGives bytes r

-- ---- the input

-- the mesh that the bytes spell, or their first bad line
abbrev pub mesh_or_bad : Result Shape Bad → Result Shape Ending
mesh_or_bad (Ok m) = Ok m
mesh_or_bad (Err bad) = Err (bad_line bad.line bad.rule)

-- the mesh of the file of that name, or why there is none
abbrev pub mesh_given : Text → FileAnswer → Result Shape Ending
mesh_given name absent = Err (no_file name)
mesh_given name (too_long size) = Err (overlong name size)
mesh_given name (whole bytes) = mesh_or_bad (mesh bytes)

-- ---- the command

-- a tree with the mesh of its input, where there is one
abbrev pub with_mesh : Tree → Result Shape Ending → Result Job Ending
with_mesh t (Ok m) = Ok (evaluation t m)
with_mesh t (Err e) = Err e

-- a tree is evaluated where it has a plan, once there is its input
abbrev pub TreeLeads : Result Tree Ending → Result Shape Ending → Result Job Ending → Type 0
TreeLeads (Err e) input r = r ≡ Err e
TreeLeads (Ok t) input r =
    (HasNoPlan t × (r ≡ Err not_built)) ⊎ (((plan : Plan) × IsPlan t plan) × (r ≡ with_mesh t input))

-- no input is needed where there is no tree, or the tree has no plan
abbrev pub NeedsNoInput : Result Tree Ending → Type 0
NeedsNoInput (Err e) = Unit {0}
NeedsNoInput (Ok t) = HasNoPlan t

-- the tree alone decides how the command ends, as its input would come later
abbrev pub TreeDecides : Giving → Command → Type 0
TreeDecides files (eval tree obj) =
    (given : Result Tree Ending) × TreeGiven tree (files tree_limit tree) given × NeedsNoInput given
TreeDecides files _ = ⊥

abbrev pub checked : Result Tree Ending → Result Job Ending
checked (Ok t) = Ok (writing ok_text)
checked (Err e) = Err e

-- what the files lead to: a job, or an end without one
abbrev pub Leads : Giving → Command → Result Job Ending → Type 0
Leads files (eval tree obj) r =
    (given : Result Tree Ending) × TreeGiven tree (files tree_limit tree) given × TreeLeads given (mesh_given obj (files input_limit obj)) r
Leads files (check tree) r =
    (given : Result Tree Ending) × TreeGiven tree (files tree_limit tree) given × (r ≡ checked given)
Leads files help r = r ≡ Ok (writing help_text)
Leads files version r = r ≡ Ok (writing version_text)
