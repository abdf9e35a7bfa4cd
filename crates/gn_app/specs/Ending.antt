-- How a run may end, and the message that is written of each end.
use Rattle.std.specs.Prelude.{ℕ, ◌++◌, Option, Some, None, codes}
use Rattle.std.specs.Fmt.{decimal}
use Rattle.gn_kinds.specs.Row.{Text}
use Rattle.gn_app.specs.declared.status.Status.{Status}
use Rattle.gn_app.specs.declared.status.Status.TheVariants.{Done, Usage, Absent, ReadFault, WriteFault, TreeText, TreeForm, ObjText, TooLong, NotBuilt, Memory}

-- an end with what its message says
pub data Ending : Type 0 where
  done : Ending
  -- a word that fits no command, or none where more words are expected
  misused : Option Text → Ending
  no_file : (name : Text) → Ending
  unreadable : (name : Text) → Ending
  -- how many bytes the output took
  unwritable : ℕ → Ending
  -- the tree's bytes are no JSON
  no_json : Ending
  -- the least rule of F1 to F7 that the tree breaks, and the first place where it does, as a JSON Pointer
  misformed : (rule : ℕ) (place : Text) → Ending
  -- the first line of the input that breaks a rule, and the least rule that it breaks
  bad_line : (line rule : ℕ) → Ending
  overlong : (name : Text) (size : ℕ) → Ending
  not_built : Ending
  no_memory : Ending

abbrev pub status_of : Ending → Status
status_of done = Done
status_of (misused word) = Usage
status_of (no_file name) = Absent
status_of (unreadable name) = ReadFault
status_of (unwritable taken) = WriteFault
status_of no_json = TreeText
status_of (misformed rule place) = TreeForm
status_of (bad_line line rule) = ObjText
status_of (overlong name size) = TooLong
status_of not_built = NotBuilt
status_of no_memory = Memory

-- what is said of an end, if anything
abbrev pub said_of : Ending → Option Text
said_of done = None
said_of (misused (Some word)) = Some (codes "usage: unexpected " ++ word)
said_of (misused None) = Some (codes "usage: more words expected")
said_of (no_file name) = Some (codes "absent: " ++ name)
said_of (unreadable name) = Some (codes "read fault: " ++ name)
said_of (unwritable taken) = Some (codes "write fault after " ++ decimal taken ++ codes " bytes")
said_of no_json = Some (codes "tree text")
said_of (misformed rule place) = Some (codes "tree form: F" ++ decimal rule ++ codes " at " ++ place)
said_of (bad_line line rule) = Some (codes "obj text: line " ++ decimal line ++ codes ": O" ++ decimal rule)
said_of (overlong name size) = Some (codes "too long: " ++ name ++ codes ": " ++ decimal size)
said_of not_built = Some (codes "not built")
said_of no_memory = Some (codes "out of memory")

-- a line of the program's messages
abbrev pub line_of : Text → Text
line_of said = codes "geonodes: " ++ said ++ codes "\n"
