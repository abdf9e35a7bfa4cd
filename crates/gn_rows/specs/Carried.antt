-- What links carry: geometry, or a field.
use Rattle.std.specs.Prelude.{ℕ, zero, suc, List, [], ◌∷◌}
use Rattle.gn_value.specs.Values.{zero_of, converted}
use Rattle.gn_value.specs.declared.value.Value.{Value}
use Rattle.gn_value.specs.declared.value.ValueKind.{ValueKind}
use Rattle.gn_value.specs.declared.value.ValueKind.TheVariants.{Truth, Int, Fixed, Vector}
use Rattle.gn_value.specs.declared.op.Op.TheVariants.{Convert}
use Rattle.gn_plain.specs.Geometry.{Geometry, empty}
use Rattle.gn_plain.specs.Contexts.{position, index, id}
use Rattle.gn_plain.specs.Fields.{Expr, constant, input, apply, none, and_one, Sources, kind_of_field}
use Rattle.gn_meaning.specs.Sites.{Leaf, its_position, its_index, its_id, Constant, a_value, a_leaf, no_geometry}

-- a field is over the sources of its sampled steps
pub data Carried (S : Type 0) : Type 0 where
  a_geometry : Geometry → Carried S
  a_field : Expr S → Carried S

-- the kind that a link converts to, by its number
abbrev pub kind_of_number : ℕ → ValueKind
kind_of_number zero = Truth
kind_of_number (suc zero) = Int
kind_of_number (suc (suc zero)) = Fixed
kind_of_number (suc (suc (suc n))) = Vector

-- a value after conversions to kinds in turn
abbrev pub value_through : Value → List ℕ → Value
value_through v [] = v
value_through v (kind ∷ kinds) = value_through (converted v (kind_of_number kind)) kinds

module _ {S : Type 0} where
  abbrev pub of_leaf : Leaf → Expr S
  of_leaf its_position = input position
  of_leaf its_index = input index
  of_leaf its_id = input id

  -- a constant of a tree
  abbrev pub of_constant : Constant → Carried S
  of_constant (a_value v) = a_field (constant v)
  of_constant (a_leaf leaf) = a_field (of_leaf leaf)
  of_constant no_geometry = a_geometry empty

  -- a conversion is a step of its own, also on a constant; geometry is not converted
  abbrev pub converted_field : Expr S → ValueKind → Expr S
  converted_field e kind = apply (Convert kind) (and_one e none)

  abbrev pub field_through : Expr S → List ℕ → Expr S
  field_through e [] = e
  field_through e (kind ∷ kinds) = field_through (converted_field e (kind_of_number kind)) kinds

  abbrev pub convert : Carried S → ℕ → Carried S
  convert (a_geometry g) kind = a_geometry g
  convert (a_field e) kind = a_field (converted_field e (kind_of_number kind))

  abbrev pub geometries : List (Carried S) → List Geometry
  geometries [] = []
  geometries (a_geometry g ∷ xs) = g ∷ geometries xs
  geometries (a_field e ∷ xs) = geometries xs

  abbrev pub fields : List (Carried S) → List (Expr S)
  fields [] = []
  fields (a_geometry g ∷ xs) = fields xs
  fields (a_field e ∷ xs) = e ∷ fields xs

-- the empty geometry, or the zero of a field's kind
abbrev pub zero_like : {S : Type 0} → Sources S → Carried S → Carried S
zero_like sources (a_geometry g) = a_geometry empty
zero_like sources (a_field e) = a_field (constant (zero_of (kind_of_field sources e)))
