-- What a run leaves, by its end.
use Rattle.std.specs.Prelude.{◌≡◌, ◌⊎◌, ℕ, ◌+◌, ◌<◌, ◌≤◌, List, [], ◌∷◌, ◌++◌, length, take, Option, Some, None, IfSome, IsSomeAnd, Ok, Err}
use Rattle.gn_io.specs.Outside.{Files, Names, Rose, stopped, with_name, with_bytes}
use Rattle.gn_kinds.specs.Row.{Text}
use Rattle.gn_app.specs.Command.{Command, eval, check, files_of}
use Rattle.gn_app.specs.Ending.{Ending, done, misused, no_file, unreadable, unwritable, no_json, misformed, bad_line, overlong, not_built, no_memory}
use Rattle.gn_app.specs.Job.{Job, tree_limit, input_limit, Giving, Leads}
use Rattle.gn_app.specs.Meaning.{ComesTo, TakesRuns}

-- what a shelf tells, and its counts
pub record Seen : Type 0 where
  pub holds : Option Files
  pub asked : Option Names
  pub missed : Option Names
  pub faults : ℕ
  pub misses : ℕ

-- the bytes that a sink has taken, where it tells, and the count of its faults
pub record Taken : Type 0 where
  pub held : Option (List ℕ)
  pub faults : ℕ

-- what is known of the shelf, the output and the meter that a run is given
pub record Outside : Type 0 where
  pub shelf : Seen
  pub output : Taken
  pub runs : ℕ
  pub copies : ℕ

-- ---- the files asked for

-- the names, if the shelf exposes them, with more at the end
abbrev pub with_names : Option Names → Names → Option Names
with_names None names = None
with_names (Some before) names = Some (before ++ names)

-- a file that an end speaks of
pub data Subject : Type 0 where
  the_tree : Subject
  the_input : Subject

-- the files asked for up to the one that is spoken of
abbrev pub files_until : Subject → Command → Names
files_until the_tree (eval tree obj) = tree ∷ []
files_until _ c = files_of c

abbrev pub name_of : Subject → Command → Option Text
name_of the_tree (eval tree obj) = Some tree
name_of the_input (eval tree obj) = Some obj
name_of the_tree (check tree) = Some tree
name_of _ _ = None

-- a file of the command is spoken of by its name, and is the last that was asked for
pub record IsLastAsked (c : Command) (name : Text) (before now : Option Names) : Type 0 where
  pub subject : Subject
  pub named : name_of subject c ≡ Some name
  pub asked : now ≡ with_names before (files_until subject c)

-- the names asked for: all files of the command, each once, where the run came to its output, and else the first of them
abbrev pub AsksFor : Command → Ending → Option Names → Option Names → Type 0
AsksFor c done before now = now ≡ with_names before (files_of c)
AsksFor c (unwritable taken) before now = now ≡ with_names before (files_of c)
AsksFor c (bad_line line rule) before now = now ≡ with_names before (files_of c)
AsksFor c no_json before now = now ≡ with_names before (files_until the_tree c)
AsksFor c (misformed rule place) before now = now ≡ with_names before (files_until the_tree c)
AsksFor c not_built before now = now ≡ with_names before (files_until the_tree c)
AsksFor c (no_file name) before now = IsLastAsked c name before now
AsksFor c (unreadable name) before now = IsLastAsked c name before now
AsksFor c (overlong name size) before now = IsLastAsked c name before now
AsksFor c no_memory before now = (k : ℕ) × (now ≡ with_names before (take k (files_of c)))
AsksFor c (misused word) before now = ⊥

-- the run went no further than to the tree: no other file was asked for, and one that can't be read is the tree
abbrev pub StopsAtTree : Command → Ending → Option Names → Option Names → Type 0
StopsAtTree c (unreadable name) before now = (name_of the_tree c ≡ Some name) × (now ≡ with_names before (files_until the_tree c))
StopsAtTree c ending before now = (k : ℕ) × (now ≡ with_names before (take k (files_until the_tree c)))

-- the names missed: the one that no file has, and no other
abbrev pub Misses : Ending → Option Names → Option Names → Type 0
Misses (no_file name) before now = now ≡ with_name before name
Misses ending before now = now ≡ before

-- ---- causes

-- the limit of a file, in bytes
abbrev pub limit_of : Subject → ℕ
limit_of the_tree = tree_limit
limit_of the_input = input_limit

-- a file of the command is of that size, if the shelf exposes its files, and over its limit
pub record IsOverlong (c : Command) (name : Text) (size : ℕ) (holds : Option Files) : Type 0 where
  pub subject : Subject
  pub named : name_of subject c ≡ Some name
  pub over : limit_of subject < size
  pub held : IfSome holds (λ files. IsSomeAnd (files name) (λ file. length file ≡ size))

-- an end has its cause in the files, also where the shelf tells nothing
abbrev pub HasCause : Command → Seen → Seen → Ending → Type 0
HasCause c before now (no_file name) = Rose before.misses now.misses
HasCause c before now (unreadable name) = Rose before.faults now.faults
HasCause c before now (overlong name size) = IsOverlong c name size before.holds
HasCause c before now ending = Unit {0}

-- a run ends as the files lead it, unless memory is refused, a file can't be read, or the output can't be written
abbrev pub EndsAs : Ending → Type 0 → Type 0 → Ending → Type 0
EndsAs wanted reading writing no_memory = Unit {0}
EndsAs wanted reading writing (unreadable name) = reading
EndsAs wanted reading writing (unwritable taken) = writing × (wanted ≡ done)
EndsAs wanted reading writing ending = ending ≡ wanted

-- ---- the output and the node runs

-- a front part of the text was written, of that number of bytes
abbrev pub WritesPart : ℕ → Option (List ℕ) → Option (List ℕ) → Text → Type 0
WritesPart taken before now text =
    (count : ℕ) × (count ≤ length text) × (now ≡ with_bytes before (take count text)) × (taken ≡ stopped count)

-- some bytes were written, of that number, and the output failed
pub record Grows (taken : ℕ) (before now : Taken) : Type 0 where
  pub piece : List ℕ
  pub output : now.held ≡ with_bytes before.held piece
  pub length_is : taken ≡ stopped (length piece)
  pub rose : Rose before.faults now.faults

-- nothing is written before the run comes to its output, and then bytes are added alone
abbrev pub WritesLate : Ending → Taken → Taken → Type 0
WritesLate done before now = (piece : List ℕ) × (now.held ≡ with_bytes before.held piece)
WritesLate (unwritable taken) before now = Grows taken before now
WritesLate ending before now = now ≡ before

-- no node runs but where the run came to its output
abbrev pub RunsLate : Ending → ℕ → ℕ → Type 0
RunsLate done before now = before ≤ now
RunsLate (unwritable taken) before now = before ≤ now
RunsLate ending before now = now ≡ before

module _ (files : Giving) (c : Command) (before now : Outside) where
  -- the files lead to the job, its text is written so, and as many node runs are noted as it takes
  pub record Does (Writes : Text → Type 0) : Type 0 where
    pub job : Job
    pub leads : Leads files c (Ok job)
    pub text : Text
    pub comes : ComesTo files job text
    pub writes : Writes text
    pub demanded : ℕ
    pub takes : TakesRuns files job demanded
    pub runs : now.runs ≡ before.runs + demanded

  -- where a run ends, as the files say
  abbrev pub Ends : Ending → Type 0
  Ends done = Does (λ text. now.output.held ≡ with_bytes before.output.held text)
  Ends (unwritable taken) = Does (WritesPart taken before.output.held now.output.held)
  Ends (unreadable name) = Unit {0}
  Ends no_memory = Unit {0}
  Ends ending = Leads files c (Err ending)

-- ---- messages

-- a line is written whole, or a part of it where the sink of messages failed
abbrev pub Says : Text → Option (List ℕ) → Option (List ℕ) → Type 0 → Type 0
Says line before now rose =
    (now ≡ with_bytes before line) ⊎ (((k : ℕ) × (now ≡ with_bytes before (take k line))) × rose)
