-- What the parts of a reader of meshes do.
use Rattle.std.specs.Prelude.{◌≡◌, ℕ, ◌≤◌, nat_lt, if◌then◌else◌, Bool, true, false, List, drop, Result, Ok, Err, Some, None}
use Rattle.gn_value.specs.declared.fixed.Fx.{Fx}
use Rattle.gn_value.specs.declared.vector.V3.{V3}
use Rattle.gn_lines.specs.Lines.{Text}
use Rattle.gn_elements.specs.References.{is_reference, names_vertex, vertex_named, vertices_named, no_position, too_few_references, no_vertex, no_reference}
use Rattle.gn_elements.specs.Read.{Element, vertex, vertex_of}
use Rattle.gn_elements.specs.Growing.{Growing, grown, leading_number}
use Rattle.gn_elements.specs.Rules.{rule_number}
use Rattle.gn_elements.specs.Faults.{IsLineFault}
use Rattle.gn_elements.specs.declared.fault.LineFault.{LineFault}
use Rattle.gn_elements.specs.declared.rule.Rule.{Rule}
use Rattle.gn_elements.specs.declared.reference.Reference.{Reference}
use Rattle.gn_elements.specs.declared.reference.Reference.TheVariants.{Vertex, Missing, Malformed}

-- what a word refers to; `count` vertices were read so far
abbrev pub IsReference : ℕ → Text → Reference → Type 0
IsReference count word (Vertex v) =
    (is_reference word ≡ true) × (names_vertex count word ≡ true) × (vertex_named count word ≡ v)
IsReference count word Missing = (is_reference word ≡ true) × (names_vertex count word ≡ false)
IsReference count word Malformed = is_reference word ≡ false

-- the rule that a row breaks, by the number of its references
abbrev pub IsOutcome : ℕ → ℕ → Bool → Bool → Result (Unit {0}) Rule → Type 0
IsOutcome words least are_references are_there (Ok done) =
    (least ≤ words) × (are_references ≡ true) × (are_there ≡ true)
IsOutcome words least are_references are_there (Err rule) =
    (if nat_lt words least then too_few_references else (if are_references then (if are_there then 0 else no_vertex) else no_reference)) ≡ rule_number rule

-- the vertices that words name, or why there are none
abbrev pub IsRow : ℕ → ℕ → List Text → List ℕ → Result (Unit {0}) LineFault → Type 0
IsRow least count words vertices (Ok done) = vertices_named least count words ≡ Ok vertices
IsRow least count words vertices (Err fault) = IsLineFault (vertices_named least count words) fault

-- the number at the front of some words, which is taken
abbrev pub IsNumber : List Text → List Text → Result Fx Rule → Type 0
IsNumber old new (Ok number) = (leading_number old ≡ Some number.0) × (new ≡ drop 1 old)
IsNumber old new (Err rule) = (leading_number old ≡ None) × (rule_number rule ≡ no_position)

-- the position that words begin with
abbrev pub IsPosition : List Text → Result V3 Rule → Type 0
IsPosition words (Ok p) = vertex_of words ≡ Ok (vertex p)
IsPosition words (Err rule) = vertex_of words ≡ Err (rule_number rule)

-- the parts with those of an element, or why the line adds nothing
abbrev pub Grows : Growing → Result Element ℕ → Growing → Result (Unit {0}) LineFault → Type 0
Grows old element new (Ok done) = grown old element ≡ Ok new
Grows old element new (Err fault) = IsLineFault (grown old element) fault
