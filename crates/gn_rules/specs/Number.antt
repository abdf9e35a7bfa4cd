-- The numbers of the rules.
use Rattle.std.specs.Prelude.{ℕ}
use Rattle.gn_rules.specs.declared.rule.Rule.{Rule}
use Rattle.gn_rules.specs.declared.rule.Rule.TheVariants.{Names, Links, Kinds, Order, Height, Count}

abbrev pub number_of : Rule → ℕ
number_of Names = 2
number_of Links = 3
number_of Kinds = 4
number_of Order = 5
number_of Height = 6
number_of Count = 7
