-- Why nothing is read of a text.
use Rattle.std.proofs.Common.{◌≡◌, Result, Err}
use Rattle.gn_elements.specs.Read as read
use Rattle.gn_elements.specs.Faults.{IsFault}
use Rattle.gn_elements.specs.declared.fault.ObjFault.{ObjFault}
use Rattle.gn_elements.specs.declared.fault.ObjFault.TheVariants.{Bad, Memory}

-- where a first bad line of one result is that of another, so is the fault
pub same_fault : {X Y : Type 0} (r : Result X read.Bad) (s : Result Y read.Bad) (fault : ObjFault) → ((bad : read.Bad) → r ≡ Err bad → s ≡ Err bad) → IsFault r fault → IsFault s fault
same_fault r s (Bad line rule) same h = same (record { line = line; rule = rule }) h
same_fault r s Memory same h = tt
