-- The inputs that a node reads, as those from the first one on and perhaps one more.
use Rattle.std.specs.Prelude.{ℕ, suc, List, [], ◌++◌, length, take, min, Option, Some, None}
use Rattle.gn_node_set.specs.Meanings.{member}
use Rattle.gn_uses.specs.declared.nodes.Role.{Role}
use Rattle.gn_uses.specs.declared.nodes.Role.TheVariants.{Plain, Switch, File, Zone}
use Rattle.gn_uses.specs.declared.nodes.Choice.{Choice}
use Rattle.gn_uses.specs.declared.nodes.Choice.TheVariants.{One, All, Zero}

abbrev pub front_of : Role → Option Choice → ℕ → ℕ
front_of Plain choice n = n
front_of File choice n = n
front_of Zone choice n = min n 1
front_of Switch (Some All) n = n
front_of Switch (Some (One case)) n = min n 1
front_of Switch (Some Zero) n = min n 1
front_of Switch None n = min n 1

abbrev pub case_of : Role → Option Choice → Option ℕ
case_of Switch (Some (One case)) = Some (suc case)
case_of Switch (Some All) = None
case_of Switch (Some Zero) = None
case_of Switch None = None
case_of Plain choice = None
case_of File choice = None
case_of Zone choice = None

abbrev pub at_case : {A : Type 0} → Option ℕ → List A → List A
at_case None xs = []
at_case (Some n) xs = member xs n

-- the inputs that a node reads
abbrev pub read_of : {A : Type 0} → Role → Option Choice → List A → List A
read_of role choice xs = take (front_of role choice (length xs)) xs ++ at_case (case_of role choice) xs
