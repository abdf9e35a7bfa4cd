-- Steps that name earlier ones by their places in a list, and the fields that they make.
use Rattle.std.specs.Prelude.{ℕ, suc, Bool, true, false, ◌-◌, ◌<◌, List, [], ◌∷◌, ◌++◌, length, map, string_bytes, slice_index_or}
use Rattle.gn_value.specs.Values.{zero_of, kind_of}
use Rattle.gn_value.specs.Operations.{gives}
use Rattle.gn_value.specs.declared.value.ValueKind.{ValueKind}
use Rattle.gn_value.specs.declared.value.Value.{Value}
use Rattle.gn_value.specs.declared.value.ValueKind.TheVariants.{Truth}
use Rattle.gn_value.specs.declared.op.Op.{Op}
use Rattle.gn_node_set.specs.Paths.{Path}
use Rattle.gn_plain.specs.Columns.{named as by_text, anonymous}
use Rattle.gn_plain.specs.Contexts as plain
use Rattle.gn_plain.specs.Fields as plain_step
use Rattle.gn_plain.specs.Fields.{Expr, constant, input, apply, elsewhere, sampled, Exprs, none, and_one, Sources}
use Rattle.gn_field.specs.declared.input.Input.{Input}
use Rattle.gn_field.specs.declared.input.Input.TheVariants as read
use Rattle.gn_field.specs.declared.input.Part.{Part}
use Rattle.gn_field.specs.declared.input.Part.TheVariants as part
use Rattle.gn_field.specs.declared.input.Step.{Step}
use Rattle.gn_field.specs.declared.input.Step.TheVariants as step
use Rattle.gn_field.specs.declared.step.FieldStep.{FieldStep}
use Rattle.gn_field.specs.declared.step.FieldStep.TheVariants.{Constant, Input as Read, Apply, Elsewhere, Sampled}

-- ---- inputs and steps as `gn_plain` has them

abbrev pub plain_input : Input → plain.Input
plain_input read.Position = plain.position
plain_input read.Index = plain.index
plain_input read.Id = plain.id
plain_input read.Normal = plain.normal
plain_input (read.Named name kind) = plain.column (by_text (string_bytes name)) kind
plain_input (read.Exists name) = plain.exists (string_bytes name)
plain_input (read.Anonymous path socket kind) = plain.column (anonymous path.steps.items socket) kind
plain_input read.EdgeIndex1 = plain.edge_index_1
plain_input read.EdgeIndex2 = plain.edge_index_2
plain_input read.EdgePosition1 = plain.edge_position_1
plain_input read.EdgePosition2 = plain.edge_position_2
plain_input read.VertexEdges = plain.vertex_edges
plain_input read.VertexFaces = plain.vertex_faces

abbrev pub plain_part : Part → plain_step.Part
plain_part part.Leading = plain_step.leading
plain_part part.Trailing = plain_step.trailing
plain_part part.Total = plain_step.total

abbrev pub step_of : Step → plain_step.Step
step_of (step.Accumulate kind place part) = plain_step.accumulate kind place (plain_part part)
step_of (step.AtIndex kind place) = plain_step.at_index kind place
step_of (step.OnDomain kind place) = plain_step.on_domain kind place

-- ---- the fields that steps make

abbrev pub exprs_of : {S : Type 0} → List (Expr S) → Exprs S
exprs_of [] = none
exprs_of (e ∷ es) = and_one e (exprs_of es)

-- the field at a place
abbrev pub named : {S : Type 0} → List (Expr S) → ℕ → Expr S
named es k = slice_index_or es k (constant (zero_of Truth))

abbrev pub last_of : {S : Type 0} → List (Expr S) → Expr S
last_of es = named es (length es - 1)

module _ {S : Type 0} where
  -- what a step makes of the fields before it
  abbrev pub made : List (Expr S) → FieldStep S → Expr S
  made es (Constant v) = constant v
  made es (Read x) = input (plain_input x)
  made es (Apply op args) = apply op (exprs_of (map (named es) args.items))
  made es (Elsewhere x args) = elsewhere (step_of x) (exprs_of (map (named es) args.items))
  made es (Sampled tag source arg) = sampled tag.steps.items source (named es arg)

  -- these fields, and those of the steps behind them
  abbrev pub built_on : List (Expr S) → List (FieldStep S) → List (Expr S)
  built_on es [] = es
  built_on es (x ∷ xs) = built_on (es ++ made es x ∷ []) xs

  -- the fields of steps, each at its step's place
  abbrev pub built : List (FieldStep S) → List (Expr S)
  built xs = built_on [] xs

-- ---- steps without their sources

-- what two steps of one list differ in: a sampled one is known by the path of its node
pub data Key : Type 0 where
  of_constant : Value → Key
  of_input : plain.Input → Key
  of_apply : Op → List ℕ → Key
  of_elsewhere : plain_step.Step → List ℕ → Key
  of_sampled : Path → ℕ → Key

-- the places that a step names
abbrev pub names : Key → List ℕ
names (of_constant v) = []
names (of_input x) = []
names (of_apply op args) = args
names (of_elsewhere x args) = args
names (of_sampled path arg) = arg ∷ []

abbrev pub AreBelow : ℕ → List ℕ → Type 0
AreBelow n [] = Unit {0}
AreBelow n (k ∷ ks) = (k < n) × AreBelow n ks

-- each step, the first of which is at place n, names places before its own
abbrev pub LeadBackFrom : ℕ → List Key → Type 0
LeadBackFrom n [] = Unit {0}
LeadBackFrom n (k ∷ ks) = AreBelow n (names k) × LeadBackFrom (suc n) ks

abbrev pub LeadBack : List Key → Type 0
LeadBack ks = LeadBackFrom 0 ks

module _ {S : Type 0} where
  abbrev pub key_of : FieldStep S → Key
  key_of (Constant v) = of_constant v
  key_of (Read x) = of_input (plain_input x)
  key_of (Apply op args) = of_apply op args.items
  key_of (Elsewhere x args) = of_elsewhere (step_of x) args.items
  key_of (Sampled tag source arg) = of_sampled tag.steps.items arg

  abbrev pub keys : List (FieldStep S) → List Key
  keys xs = map key_of xs

  -- the kind of a step's values
  abbrev pub kind_at : Sources S → FieldStep S → ValueKind
  kind_at sources (Constant v) = kind_of v
  kind_at sources (Read x) = plain.kind_of_input (plain_input x)
  kind_at sources (Apply op args) = gives op
  kind_at sources (Elsewhere x args) = plain_step.kind_of_step (step_of x)
  kind_at sources (Sampled tag source arg) = sources.kind source

  -- does a step read its context?
  abbrev pub reads : FieldStep S → Bool
  reads (Read x) = true
  reads (Elsewhere x args) = true
  reads _ = false
