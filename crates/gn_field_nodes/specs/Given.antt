-- What a node of fields may be given, and when its fields are not made.
use Rattle.std.specs.Prelude.{◌≡◌, ◌⊎◌, ℕ, ◌<◌, ◌≤◌, Bool, List, [], ◌∷◌, length, map, Option, Some, None, is_some}
use Rattle.gn_value.specs.Operations.{Takes}
use Rattle.gn_value.specs.declared.op.Op.{Op}
use Rattle.gn_plain.specs.Fields.{Expr, Step, Sources, kind_of_field}
use Rattle.gn_plain.specs.Subtrees.{count_different}
use Rattle.gn_node_kind.specs.Kinds.{NodeKind}
use Rattle.gn_field.specs.declared.field.FieldFault.{FieldFault}
use Rattle.gn_field.specs.declared.field.FieldFault.TheVariants.{TooMany, Memory}
use Rattle.gn_field.specs.Kinds.{step_takes}
use Rattle.gn_field.specs.Together.{AgreeOnSources}
use Rattle.gn_field_rows.specs.Outputs.{field_outputs}

-- does a node of the kind give fields alone?
abbrev pub gives_fields : NodeKind → Bool
gives_fields kind = is_some (field_outputs {S = ⊥} kind [])

module _ {S : Type 0} (sources : Sources S) where
  -- the operation takes these fields
  pub record CanApply (op : Op) (es : List (Expr S)) : Type 0 where
    pub takes : Takes op (map (kind_of_field sources) es)
    pub few : length es ≤ 65536
    pub one_source : AgreeOnSources es

  -- the step takes these fields
  pub record CanRead (step : Step) (es : List (Expr S)) : Type 0 where
    pub takes : map (kind_of_field sources) es ≡ step_takes step
    pub few : length es ≤ 65536
    pub one_source : AgreeOnSources es

module _ {S : Type 0} where
  -- one of the fields has this number of different subtrees
  abbrev pub HasCount : List (Expr S) → ℕ → Type 0
  HasCount [] count = ⊥
  HasCount (e ∷ es) count = (count_different (e ∷ []) ≡ count) ⊎ HasCount es count

  -- more than 4,096 different subtrees in one of the fields, with their number; want of memory has no cause
  abbrev pub IsFaultOf : List (Expr S) → FieldFault → Type 0
  IsFaultOf es (TooMany distinct) = (4096 < distinct) × HasCount es distinct
  IsFaultOf es Memory = Unit {0}

  -- why the outputs of a node are not made
  abbrev pub IsOutputFault : Option (List (Expr S)) → FieldFault → Type 0
  IsOutputFault None fault = ⊥
  IsOutputFault (Some es) fault = IsFaultOf es fault
