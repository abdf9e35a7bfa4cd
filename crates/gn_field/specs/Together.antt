-- The steps of several fields in one list.
use Rattle.std.specs.Prelude.{◌≡◌, ℕ, ◌+◌, ◌*◌, ◌≤◌, List, length, map, Option}
use Rattle.gn_node_set.specs.Paths.{Path}
use Rattle.gn_value.specs.declared.value.ValueKind.{ValueKind}
use Rattle.gn_plain.specs.Fields.{Expr, Sources}
use Rattle.gn_plain.specs.Subtrees.{count_different}
use Rattle.gn_field.specs.declared.step.FieldStep.{FieldStep}
use Rattle.gn_field.specs.Steps.{AreBelow, exprs_of, named, built}
use Rattle.gn_field.specs.Trees.{HaveSources}
use Rattle.gn_field.specs.Kinds.{HasKinds}
use Rattle.gn_field.specs.Merged.{IsMerged}

-- any two sampled parts of some fields have one source if the path of their nodes is one
abbrev pub AgreeOnSources : {S : Type 0} → List (Expr S) → Type 0
AgreeOnSources {S} es = (table : Path → Option S) × HaveSources table (exprs_of es)

-- the steps are the different subtrees of fields, each once, and each field is at its place
pub record AreTogether {S : Type 0} (sources : Sources S) (taken : S → ValueKind) (es : List (Expr S)) (xs : List (FieldStep S)) (roots : List ℕ) : Type 0 where
  pub merged : IsMerged xs
  pub fields : map (named (built xs)) roots ≡ es
  pub within : AreBelow (length xs) roots
  pub count : length xs ≡ count_different es
  pub few : length xs ≤ (length es + 1) * 4096
  pub kinds : (k : ℕ) → HasKinds sources taken (named (built xs) k)
