-- Which of the fields at a node's inputs its operation reads, in the operation's order.
use Rattle.std.specs.Prelude.{List, [], ◌∷◌, length, take}
use Rattle.gn_value.specs.Values.{zero_of}
use Rattle.gn_value.specs.Operations.{vector_math_takes, vector_math_gives}
use Rattle.gn_value.specs.declared.value.ValueKind.{ValueKind}
use Rattle.gn_value.specs.declared.value.ValueKind.TheVariants.{Truth, Fixed, Vector}
use Rattle.gn_value.specs.declared.op.Op.{Op}
use Rattle.gn_value.specs.declared.op.VectorMathOp.{VectorMathOp}
use Rattle.gn_value.specs.declared.op.VectorMathOp.TheVariants.{Scale}
use Rattle.gn_plain.specs.Fields.{Expr, constant, apply}
use Rattle.gn_field.specs.Steps.{exprs_of}

module _ {S : Type 0} where
  -- an operation on all of some fields
  abbrev pub operated : Op → List (Expr S) → Expr S
  operated op es = apply op (exprs_of es)

  -- the first of the fields, one for each kind: an operation on one value leaves b unread
  abbrev pub first : List ValueKind → List (Expr S) → List (Expr S)
  first kinds es = take (length kinds) es

  -- of a, b and scale: a and scale, or else as many vectors as the operation takes
  abbrev pub vector_arguments : VectorMathOp → List (Expr S) → List (Expr S)
  vector_arguments Scale (a ∷ b ∷ scale ∷ []) = a ∷ scale ∷ []
  vector_arguments op es = first (vector_math_takes op) es

  -- of min, max, probability, id and seed: a truth goes by its probability, other values by their range
  abbrev pub random_arguments : ValueKind → List (Expr S) → List (Expr S)
  random_arguments Truth (low ∷ high ∷ probability ∷ id ∷ seed ∷ []) = probability ∷ id ∷ seed ∷ []
  random_arguments kind (low ∷ high ∷ probability ∷ id ∷ seed ∷ []) = low ∷ high ∷ id ∷ seed ∷ []
  random_arguments kind _ = []

  -- the outputs for a vector and for a number: the one that the operation doesn't give is zero
  abbrev pub vector_or_number : ValueKind → Expr S → List (Expr S)
  vector_or_number Vector e = e ∷ constant (zero_of Fixed) ∷ []
  vector_or_number kind e = constant (zero_of Vector) ∷ e ∷ []

  abbrev pub vector_math_outputs : VectorMathOp → Expr S → List (Expr S)
  vector_math_outputs op e = vector_or_number (vector_math_gives op) e
