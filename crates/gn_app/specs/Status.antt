-- The exit status of each end of a run.
use Rattle.std.specs.Prelude.{ℕ}
use Rattle.gn_app.specs.declared.status.Status.{Status}
use Rattle.gn_app.specs.declared.status.Status.TheVariants.{Done, Usage, Absent, ReadFault, WriteFault, TreeText, TreeForm, ObjText, TooLong, NotBuilt, Memory}

abbrev pub code_of : Status → ℕ
code_of Done = 0
code_of Usage = 2
code_of Absent = 3
code_of ReadFault = 4
code_of WriteFault = 5
code_of TreeText = 6
code_of TreeForm = 7
code_of ObjText = 8
code_of TooLong = 9
code_of Memory = 10
code_of NotBuilt = 11
