-- Fields over some elements.
use Rattle.std.specs.Prelude.{◌≡◌, ℕ, ◌<◌, List, [], ◌∷◌, Result, if◌then◌else◌, IfOk}
use Rattle.gn_memory.specs.declared.Memory.{Memory}
use Rattle.gn_value.specs.Registers.{register_kind, register_len, register_value}
use Rattle.gn_value.specs.Values.{zero_of}
use Rattle.gn_value.specs.declared.op.Register.{Register}
use Rattle.gn_value.specs.declared.value.Value.{Value}
use Rattle.gn_plain.specs.Columns.{kind_of_values, count_of_values, value_of}
use Rattle.gn_plain.specs.Contexts.{Context, length_of}
use Rattle.gn_plain.specs.Fields.{Expr, Sources, at, kind_of_field}
use Rattle.gn_mask.specs.Numbers.{is_among}
use Rattle.gn_attr.specs.declared.column.Column.{Column}
use Rattle.gn_attr.specs.Columns.{values_of, IsSoleColumn}
use Rattle.gn_slots.specs.Registers.{AllGive}
use Rattle.gn_run.specs.declared.parts.PartValues.{PartValues}

module _ {S : Type 0} (sources : Sources S) (c : Context) (ns : List ℕ) where
  -- a field's value at some elements, and zero at the others
  abbrev pub value_over : Expr S → ℕ → Value
  value_over e i = if is_among ns i then at sources e c i else zero_of (kind_of_field sources e)

  -- a column of a context's length has the values of a field at some elements, and zero at the others
  pub record IsEvaluated (e : Expr S) (column : Column) : Type 0 where
    pub kind : kind_of_values (values_of column) ≡ kind_of_field sources e
    pub count : count_of_values (values_of column) ≡ length_of c
    pub values : (i : ℕ) → i < length_of c → value_of (values_of column) i ≡ value_over e i
    pub sole : IsSoleColumn column

  abbrev pub AreEvaluated : List (Expr S) → List Column → Type 0
  AreEvaluated [] [] = Unit {0}
  AreEvaluated (e ∷ es) (column ∷ columns) = IsEvaluated e column × AreEvaluated es columns
  AreEvaluated _ _ = ⊥

  -- the same of a register
  pub record IsFilled (e : Expr S) (r : Register) : Type 0 where
    pub kind : register_kind r ≡ kind_of_field sources e
    pub len : register_len r ≡ length_of c
    pub values : (i : ℕ) → i < length_of c → register_value i r ≡ value_over e i

  abbrev pub AreFilled : List (Expr S) → List Register → Type 0
  AreFilled [] [] = Unit {0}
  AreFilled (e ∷ es) (r ∷ rs) = IsFilled e r × AreFilled es rs
  AreFilled _ _ = ⊥

-- a column has the kind and the values of a register, in a block of its own
pub record Holds (r : Register) (column : Column) : Type 0 where
  pub kind : kind_of_values (values_of column) ≡ register_kind r
  pub count : count_of_values (values_of column) ≡ register_len r
  pub values : (i : ℕ) → value_of (values_of column) i ≡ register_value i r
  pub sole : IsSoleColumn column

-- a part's elements, and the values of fields at them
pub record IsPart {S : Type 0} (sources : Sources S) (c : Context) (es : List (Expr S)) (ns : List ℕ) (p : PartValues) : Type 0 where
  pub elements : p.elements.items ≡ ns
  pub values : AllGive sources c ns es p.registers.items

abbrev pub GivesPart : {S : Type 0} → Sources S → Context → List (Expr S) → List ℕ → Result PartValues Memory → Type 0
GivesPart sources c es ns result = IfOk result (IsPart sources c es ns)
