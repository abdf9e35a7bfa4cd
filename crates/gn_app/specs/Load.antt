-- What reading the files of a command does.
use Rattle.std.specs.Prelude.{◌≡◌, ◌⊎◌, ◌<◌, ◌≤◌, ℕ, false, List, length, Option, Some, None, IfSome, IsSomeAnd, Result, Ok, Err}
use Rattle.gn_io.specs.Outside.{Files, Rose, with_name}
use Rattle.gn_kinds.specs.Row.{Text}
use Rattle.gn_tree.specs.Trees.{Tree}
use Rattle.gn_plain.specs.Geometry.{of_shape}
use Rattle.gn_geom.specs.Meshes.{MeshArrays, plain_of}
use Rattle.gn_json.specs.Answers.{json}
use Rattle.gn_check.specs.Answers.{tree_in}
use Rattle.gn_rules.specs.Rules.{KeepsRules}
use Rattle.gn_meaning.specs.Forms.{HasForm}
use Rattle.gn_rows.specs.Limits.{is_large}
use Rattle.gn_plans.specs.Plans.{IsPlan, HasNoPlan}
use Rattle.gn_elements.specs.Read.{mesh}
use Rattle.gn_app.specs.declared.ending.Ending.{Ending}
use Rattle.gn_app.specs.declared.load.LoadedTree.{LoadedTree}
use Rattle.gn_app.specs.declared.load.PlannedTree.{PlannedTree}
use Rattle.gn_app.specs.declared.load.Prepared.{Prepared}
use Rattle.gn_plans.specs.Answers.{plan_of}
use Rattle.gn_app.specs.Seen.{ending_of}
use Rattle.gn_app.specs.Command.{Command}
use Rattle.gn_app.specs.Ending as endings
use Rattle.gn_app.specs.Ending.{done, misused, no_file, unreadable, unwritable, no_json, misformed, bad_line, overlong, not_built, no_memory}
use Rattle.gn_app.specs.Job.{evaluation, Giving, IsTree, BreaksRule, Leads, TreeDecides, tree_limit, input_limit}
use Rattle.gn_app.specs.Outcome.{Seen, AsksFor, StopsAtTree, Misses, HasCause}
use Rattle.gn_app.specs.Run.{Told}

-- the counts don't fall, and what is held stays
pub record Goes (before now : Seen) : Type 0 where
  pub holds : now.holds ≡ before.holds
  pub faults : before.faults ≤ now.faults
  pub misses : before.misses ≤ now.misses

-- ---- one file

-- the file was asked for, and wasn't missed
pub record Asked (name : Text) (before now : Seen) : Type 0 where
  pub asked : now.asked ≡ with_name before.asked name
  pub missed : now.missed ≡ before.missed

-- the file was asked for, and was missed
pub record Missed (name : Text) (before now : Seen) : Type 0 where
  pub asked : now.asked ≡ with_name before.asked name
  pub missed : now.missed ≡ with_name before.missed name
  pub rose : Rose before.misses now.misses

-- the file may have been asked for
pub record Tried (name : Text) (before now : Seen) : Type 0 where
  pub asked : (now.asked ≡ with_name before.asked name) ⊎ (now.asked ≡ before.asked)
  pub missed : now.missed ≡ before.missed

-- the size is over the limit, and is the file's, if the shelf exposes its files
pub record IsLong (holds : Option Files) (name : Text) (limit size : ℕ) : Type 0 where
  pub over : limit < size
  pub held : IfSome holds (λ files. IsSomeAnd (files name) (λ file. length file ≡ size))

-- the bytes are those of the file, if the shelf exposes its files, and within the limit
pub record IsWhole (holds : Option Files) (name : Text) (limit : ℕ) (bytes : List ℕ) : Type 0 where
  pub fits : length bytes ≤ limit
  pub held : IfSome holds (λ files. files name ≡ Some bytes)

-- why a file is not read
abbrev pub LoadFails : Text → ℕ → Seen → Seen → endings.Ending → Type 0
LoadFails name limit before now (no_file named) = (named ≡ name) × Missed name before now
LoadFails name limit before now (overlong named size) = (named ≡ name) × Asked name before now × IsLong before.holds name limit size
LoadFails name limit before now (unreadable named) = (named ≡ name) × Asked name before now × Rose before.faults now.faults
LoadFails name limit before now no_memory = Tried name before now
LoadFails name limit before now _ = ⊥

-- a file is read, or why not
abbrev pub Loads : {A : Type 0} → (A → List ℕ) → Text → ℕ → Seen → Seen → Result A Ending → Type 0
Loads bytes name limit before now (Ok v) = Asked name before now × IsWhole before.holds name limit (bytes v)
Loads bytes name limit before now (Err e) = LoadFails name limit before now (ending_of e)

-- ---- the tree

-- the file was asked for, and has these bytes
pub record Had (name : Text) (limit : ℕ) (before now : Seen) (bytes : List ℕ) : Type 0 where
  pub asked : Asked name before now
  pub whole : IsWhole before.holds name limit bytes

-- why a file gives no tree
abbrev pub TreeFails : Text → Seen → Seen → endings.Ending → Type 0
TreeFails name before now no_json = (bytes : List ℕ) × Had name tree_limit before now bytes × (json bytes ≡ None)
TreeFails name before now (misformed rule place) = (bytes : List ℕ) × Had name tree_limit before now bytes × BreaksRule bytes rule place
TreeFails name before now ending = LoadFails name tree_limit before now ending

abbrev pub ReadsTree : Text → Seen → Seen → Result LoadedTree Ending → Type 0
ReadsTree name before now (Ok loaded) = Had name tree_limit before now loaded.bytes.items × IsTree loaded.bytes.items (tree_in loaded.tree)
ReadsTree name before now (Err e) = TreeFails name before now (ending_of e)

-- a tree that is built, and the bytes of its text
pub record IsPlanned (name : Text) (before now : Seen) (planned : PlannedTree) : Type 0 where
  pub had : Had name tree_limit before now planned.bytes.items
  pub tree : Tree
  pub is : IsTree planned.bytes.items tree
  pub plan : IsPlan tree (plan_of planned.plan)

-- why a file gives no tree that is built
abbrev pub PlanFails : Text → Seen → Seen → endings.Ending → Type 0
PlanFails name before now not_built = (bytes : List ℕ) × Had name tree_limit before now bytes × ((t : Tree) × IsTree bytes t × HasNoPlan t)
PlanFails name before now ending = TreeFails name before now ending

abbrev pub ReadsPlan : Text → Seen → Seen → Result PlannedTree Ending → Type 0
ReadsPlan name before now (Ok planned) = IsPlanned name before now planned
ReadsPlan name before now (Err e) = PlanFails name before now (ending_of e)

-- ---- the input

-- why a file gives no mesh
abbrev pub InputFails : Text → Seen → Seen → endings.Ending → Type 0
InputFails name before now (bad_line line rule) = (bytes : List ℕ) × Had name input_limit before now bytes × (mesh bytes ≡ Err (record { line = line; rule = rule }))
InputFails name before now ending = LoadFails name input_limit before now ending

abbrev pub ReadsInput : Text → Seen → Seen → Result MeshArrays Ending → Type 0
ReadsInput name before now (Ok m) = (bytes : List ℕ) × Had name input_limit before now bytes × (mesh bytes ≡ Ok (plain_of m))
ReadsInput name before now (Err e) = InputFails name before now (ending_of e)

-- the mesh that bytes at hand spell, or why there is none
abbrev pub OwnFails : List ℕ → endings.Ending → Type 0
OwnFails bytes (bad_line line rule) = mesh bytes ≡ Err (record { line = line; rule = rule })
OwnFails bytes no_memory = Unit {0}
OwnFails bytes _ = ⊥

abbrev pub OwnInput : List ℕ → Result MeshArrays Ending → Type 0
OwnInput bytes (Ok m) = mesh bytes ≡ Ok (plain_of m)
OwnInput bytes (Err e) = OwnFails bytes (ending_of e)

abbrev pub OwnPrepared : PlannedTree → Result Prepared Ending → Type 0
OwnPrepared planned (Ok p) = (p.plan ≡ planned.plan) × (mesh planned.bytes.items ≡ Ok (plain_of p.mesh))
OwnPrepared planned (Err e) = OwnFails planned.bytes.items (ending_of e)

-- ---- all files of a command

-- the files lead to that end, unless one can't be read or there is no memory
abbrev pub LeadsAway : Giving → Command → endings.Ending → Type 0
LeadsAway files c done = ⊥
LeadsAway files c (unwritable taken) = ⊥
LeadsAway files c (misused word) = ⊥
LeadsAway files c (unreadable name) = Unit {0}
LeadsAway files c no_memory = Unit {0}
LeadsAway files c ending = Leads files c (Err ending)

-- an end that comes before the output
abbrev pub ComesEarly : endings.Ending → Type 0
ComesEarly done = ⊥
ComesEarly (unwritable taken) = ⊥
ComesEarly (misused word) = ⊥
ComesEarly ending = Unit {0}

-- why there is nothing to write
pub record Unprepared (c : Command) (before now : Seen) (ending : endings.Ending) : Type 0 where
  pub early : ComesEarly ending
  pub asked : AsksFor c ending before.asked now.asked
  pub missed : Misses ending before.missed now.missed
  pub order : Told c before now (λ files. TreeDecides files c → StopsAtTree c ending before.asked now.asked)
  pub cause : HasCause c before now ending
  pub told : Told c before now (λ files. LeadsAway files c ending)

-- there is something to evaluate
pub record IsPrepared (c : Command) (before now : Seen) (p : Prepared) : Type 0 where
  pub asked : AsksFor c done before.asked now.asked
  pub missed : now.missed ≡ before.missed
  pub tree : Tree
  pub keeps : KeepsRules tree
  pub form : HasForm tree
  pub small : is_large (of_shape (plain_of p.mesh)) ≡ false
  pub plan : IsPlan tree (plan_of p.plan)
  pub told : Told c before now (λ files. Leads files c (Ok (evaluation tree (plain_of p.mesh))))

abbrev pub Prepares : Command → Seen → Seen → Result Prepared Ending → Type 0
Prepares c before now (Ok p) = IsPrepared c before now p
Prepares c before now (Err e) = Unprepared c before now (ending_of e)
