-- Fields as expressions, and their values in a context.
use Rattle.std.specs.Prelude.{ℕ, ◌&&◌, ◌||◌, Bool, true, false, ℤ, pos, negsuc, nat_lt, nat_le, List, [], ◌∷◌, map, filter, if◌then◌else◌}
use Rattle.std.specs.List.{range_with_len}
use Rattle.std.specs.Ordering.{int_eq}
use Rattle.gn_value.specs.Arithmetic.{sat, sat_int, total_by}
use Rattle.gn_value.specs.Values.{fx, v3, zero_of, kind_of, as_int, as_fixed}
use Rattle.gn_value.specs.Operations.{gives}
use Rattle.gn_value.specs.Rows.{row}
use Rattle.gn_value.specs.declared.value.Value.{Value}
use Rattle.gn_value.specs.declared.value.Value.TheVariants.{Int as int, Fixed as fixed, Vector as vector}
use Rattle.gn_value.specs.declared.value.ValueKind.{ValueKind}
use Rattle.gn_value.specs.declared.value.ValueKind.TheVariants.{Truth, Int, Fixed, Vector}
use Rattle.gn_value.specs.declared.value.Place.{Place}
use Rattle.gn_value.specs.declared.op.Op.{Op}
use Rattle.gn_node_set.specs.Paths.{Path}
use Rattle.gn_plain.specs.Interpolation.{x_of, y_of, z_of}
use Rattle.gn_plain.specs.Contexts.{Input, kind_of_input, Component, Context, nowhere, on, input_at}

-- which elements of its group an element's sum is over: those up to it, those before it, or all
pub data Part : Type 0 where
  leading trailing total : Part

-- what reads its arguments elsewhere: a sum over a place, a value on a place at an index, or values on a place
pub data Step : Type 0 where
  accumulate : ValueKind → Place → Part → Step
  at_index : ValueKind → Place → Step
  on_domain : ValueKind → Place → Step

mutual
  -- a field, over the sources that sampled values come from
  pub data Expr (S : Type 0) : Type 0 where
    constant : Value → Expr S
    input : Input → Expr S
    apply : Op → Exprs S → Expr S
    elsewhere : Step → Exprs S → Expr S
    -- made by the node at a path: what the source gives for the argument's value
    sampled : Path → S → Expr S → Expr S

  pub data Exprs (S : Type 0) : Type 0 where
    none : Exprs S
    and_one : Expr S → Exprs S → Exprs S

-- of a source the kind of its values, and the value for an argument's
pub record Sources (S : Type 0) : Type 0 where
  pub kind : S → ValueKind
  pub value : S → Value → Value

-- where no field is sampled
abbrev pub no_sources : Sources ⊥
no_sources = record { kind = λ s. absurd s; value = λ s v. absurd s }

-- ---- what a step gives

abbrev pub kind_of_step : Step → ValueKind
kind_of_step (accumulate kind p part) = kind
kind_of_step (at_index kind p) = kind
kind_of_step (on_domain kind p) = kind

abbrev pub place_of_step : Step → Place
place_of_step (accumulate kind p part) = p
place_of_step (at_index kind p) = p
place_of_step (on_domain kind p) = p

-- a field's value at an element of a context
abbrev pub Reading : Type 0
Reading = Context → ℕ → Value

-- the value of the element of a number, where there is one
abbrev pub element_or : ℤ → ℕ → (ℕ → Value) → Value → Value
element_or (pos n) count value other = if nat_lt n count then value n else other
element_or (negsuc n) count value other = other

-- is element j one that the sum of element k is over?
abbrev pub is_in : Part → ℕ → ℕ → Bool
is_in leading j k = nat_le j k
is_in trailing j k = nat_lt j k
is_in total j k = true

-- an exact sum, saturated once
abbrev pub total_of : ValueKind → List Value → Value
total_of Truth vs = zero_of Truth
total_of Int vs = int (sat_int (total_by as_int vs))
total_of Fixed vs = fixed (fx (sat (total_by as_fixed vs)))
total_of Vector vs = vector (v3 (sat (total_by x_of vs)) (sat (total_by y_of vs)) (sat (total_by z_of vs)))

abbrev pub same_group : (ℕ → Value) → ℕ → ℕ → Bool
same_group group j k = int_eq (as_int (group j)) (as_int (group k))

-- of the elements below a count, the sum for element k
abbrev pub accumulated : ValueKind → Part → ℕ → (ℕ → Value) → (ℕ → Value) → ℕ → Value
accumulated kind part count value group k = total_of kind (map value (filter (λ j. is_in part j k && same_group group j k) (range_with_len 0 count)))

-- a step's value at an element, where the component has the step's place
abbrev pub step_within : Step → List Reading → Component → Place → ℕ → Value
step_within (accumulate kind q part) (value ∷ group ∷ []) c p i = c.interpolated kind q p (accumulated kind part (c.count q) (value (on c q)) (group (on c q))) i
step_within (at_index kind q) (value ∷ index ∷ []) c p i = element_or (as_int (index (on c p) i)) (c.count q) (value (on c q)) (zero_of kind)
step_within (on_domain kind q) (value ∷ []) c p i = c.interpolated kind q p (value (on c q)) i
step_within step _ c p i = zero_of (kind_of_step step)

abbrev pub step_value : Step → List Reading → Reading
step_value step arguments nowhere i = zero_of (kind_of_step step)
step_value step arguments (on c p) i = if c.has (place_of_step step) then step_within step arguments c p i else zero_of (kind_of_step step)

-- ---- what a field gives

module _ {S : Type 0} where
  abbrev mutual
    -- does the field read its context?
    pub varies : Expr S → Bool
    varies (constant v) = false
    varies (input x) = true
    varies (apply op arguments) = any_varies arguments
    varies (elsewhere step arguments) = true
    varies (sampled path source argument) = varies argument

    pub any_varies : Exprs S → Bool
    any_varies none = false
    any_varies (and_one e es) = varies e || any_varies es

module _ {S : Type 0} (sources : Sources S) where
  abbrev pub kind_of_field : Expr S → ValueKind
  kind_of_field (constant v) = kind_of v
  kind_of_field (input x) = kind_of_input x
  kind_of_field (apply op arguments) = gives op
  kind_of_field (elsewhere step arguments) = kind_of_step step
  kind_of_field (sampled path source argument) = sources.kind source

  abbrev mutual
    -- the value at an element of a context
    pub at : Expr S → Reading
    at (constant v) c i = v
    at (input x) c i = input_at c x i
    at (apply op arguments) c i = row op (map (λ (value : Reading). value c i) (readings arguments))
    at (elsewhere step arguments) c i = step_value step (readings arguments) c i
    at (sampled path source argument) c i = sources.value source (at argument c i)

    pub readings : Exprs S → List Reading
    readings none = []
    readings (and_one e es) = at e ∷ readings es
