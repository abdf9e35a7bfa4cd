-- Why no mesh is read, and why a line adds nothing.
use Rattle.std.specs.Prelude.{◌≡◌, ℕ, Result, Err}
use Rattle.gn_elements.specs.Read as read
use Rattle.gn_elements.specs.Rules.{rule_number}
use Rattle.gn_elements.specs.declared.fault.ObjFault.{ObjFault}
use Rattle.gn_elements.specs.declared.fault.ObjFault.TheVariants as obj
use Rattle.gn_elements.specs.declared.fault.LineFault.{LineFault}
use Rattle.gn_elements.specs.declared.fault.LineFault.TheVariants as line

-- the text has that first bad line, or there was no memory
abbrev pub IsFault : {X : Type 0} → Result X read.Bad → ObjFault → Type 0
IsFault spelled (obj.Bad line rule) = spelled ≡ Err (record { line = line; rule = rule })
IsFault spelled obj.Memory = Unit {0}

-- the line breaks that rule, or there was no memory
abbrev pub IsLineFault : {X : Type 0} → Result X ℕ → LineFault → Type 0
IsLineFault added (line.Broken rule) = added ≡ Err (rule_number rule)
IsLineFault added line.Memory = Unit {0}
