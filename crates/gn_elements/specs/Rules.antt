-- The number of each rule that a line can break.
use Rattle.std.specs.Prelude.{ℕ}
use Rattle.gn_elements.specs.References.{no_position, too_few_references, no_reference, no_vertex, too_many_elements}
use Rattle.gn_elements.specs.declared.rule.Rule.{Rule}
use Rattle.gn_elements.specs.declared.rule.Rule.TheVariants.{NoPosition, TooFewReferences, NoReference, NoVertex, TooManyElements}

abbrev pub rule_number : Rule → ℕ
rule_number NoPosition = no_position
rule_number TooFewReferences = too_few_references
rule_number NoReference = no_reference
rule_number NoVertex = no_vertex
rule_number TooManyElements = too_many_elements
