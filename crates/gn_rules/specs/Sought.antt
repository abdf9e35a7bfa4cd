-- The rules that are looked for.
use Rattle.std.specs.Prelude.{Bool, true, ◌==◌}
use Rattle.gn_rules.specs.declared.rule.Rule.{Rule}
use Rattle.gn_rules.specs.declared.sought.Sought.{Sought}
use Rattle.gn_rules.specs.declared.sought.Sought.TheVariants.{Any, Only}
use Rattle.gn_rules.specs.Number.{number_of}

abbrev pub has : Sought → Rule → Bool
has Any r = true
has (Only q) r = number_of q == number_of r
