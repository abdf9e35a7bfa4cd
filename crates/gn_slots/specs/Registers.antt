-- What registers hold while a plan is run.
use Rattle.std.specs.Prelude.{◌≡◌, ℕ, ◌<◌, List, [], ◌∷◌, length, map, All, Option, Some, slice_get, slice_index}
use Rattle.std.specs.List.{range_with_len}
use Rattle.gn_value.specs.declared.op.Register.{Register}
use Rattle.gn_value.specs.declared.value.Place.{Place}
use Rattle.gn_value.specs.declared.value.ValueKind.{ValueKind}
use Rattle.gn_value.specs.Registers.{register_kind, register_len, register_value, registers_named}
use Rattle.gn_plain.specs.Contexts.{Component, Context, nowhere, on, length_of}
use Rattle.gn_plain.specs.Fields.{Expr, Sources, at, kind_of_field}
use Rattle.gn_field.specs.declared.step.FieldStep.{FieldStep}
use Rattle.gn_field.specs.declared.step.FieldStep.TheVariants.{Elsewhere}
use Rattle.gn_field.specs.Steps.{LeadBack, named, built, key_of, keys, kind_at}
use Rattle.gn_field.specs.Kinds.{HasKinds}
use Rattle.gn_schedule.specs.declared.plan.Instruction.{Instruction}
use Rattle.gn_slots.specs.declared.whole.Whole.{Whole}
use Rattle.gn_schedule.specs.Plans.{operands}

module _ {S : Type 0} (sources : Sources S) where
  -- a register has the values of a field at elements of a context
  pub record Gives (c : Context) (ns : List ℕ) (e : Expr S) (r : Register) : Type 0 where
    pub kind : register_kind r ≡ kind_of_field sources e
    pub len : register_len r ≡ length ns
    pub values : (k : ℕ) → k < length ns → register_value k r ≡ at sources e c (slice_index ns k)

  abbrev pub AllGive : Context → List ℕ → List (Expr S) → List Register → Type 0
  AllGive c ns [] [] = Unit {0}
  AllGive c ns (e ∷ es) (r ∷ rs) = Gives c ns e r × AllGive c ns es rs
  AllGive c ns _ _ = ⊥

  -- ---- values of steps at all elements of a place

  abbrev pub IsWhole : List (Expr S) → Component → Whole → Type 0
  IsWhole es c w = Gives (on c w.place) (range_with_len 0 (c.count w.place)) (named es w.step) w.values

  -- values are those of the component that a context is on; nowhere none are needed
  abbrev pub AreWhole : List (Expr S) → Context → List Whole → Type 0
  AreWhole es nowhere ws = Unit {0}
  AreWhole es (on c p) ws = (i : ℕ) (w : Whole) → slice_get ws i ≡ Some w → IsWhole es c w

-- the values of a step on a place are there
pub record IsFound (ws : List Whole) (step : ℕ) (place : Place) (r : Register) : Type 0 where
  pub index : ℕ
  pub whole : Whole
  pub is : slice_get ws index ≡ Some whole
  pub of_step : whole.step ≡ step
  pub on_place : whole.place ≡ place
  pub values : whole.values ≡ r

abbrev pub IsThere : List Whole → ℕ → Place → Type 0
IsThere ws step place = (r : Register) × IsFound ws step place r

-- the values of a step that reads elsewhere are there
abbrev pub IsCovered : {S : Type 0} → Context → List Whole → ℕ → FieldStep S → Type 0
IsCovered nowhere ws step x = Unit {0}
IsCovered (on c p) ws step (Elsewhere x args) = IsThere ws step p
IsCovered (on c p) ws step _ = Unit {0}

abbrev pub AreCovered : {S : Type 0} → Context → List Whole → List (FieldStep S) → List Instruction → Type 0
AreCovered {S} c ws xs is = (i : ℕ) (x : Instruction) (does : FieldStep S) → slice_get is i ≡ Some x → slice_get xs x.step ≡ Some does → IsCovered c ws x.step does

-- ---- registers in slots

-- a register for each kind, all of one length
abbrev pub AreSlots : ℕ → List ValueKind → List Register → Type 0
AreSlots n [] [] = Unit {0}
AreSlots n (kind ∷ kinds) (r ∷ rs) = ((register_kind r ≡ kind) × (register_len r ≡ n)) × AreSlots n kinds rs
AreSlots n _ _ = ⊥

-- a slot has a register of a kind and a length
pub record Fits (registers : List Register) (n s : ℕ) (kind : ValueKind) : Type 0 where
  pub register : Register
  pub is : slice_get registers s ≡ Some register
  pub of_kind : register_kind register ≡ kind
  pub len : register_len register ≡ n

module _ {S : Type 0} (sources : Sources S) where
  pub record HasValues (c : Context) (ns : List ℕ) (registers : List Register) (s : ℕ) (e : Expr S) : Type 0 where
    pub register : Register
    pub is : slice_get registers s ≡ Some register
    pub gives : Gives sources c ns e register

  -- each slot has a register of its kind, with the values of the step that it holds
  pub record IsRun (es : List (Expr S)) (c : Context) (ns : List ℕ) (kinds : List ValueKind) (holder : ℕ → Option ℕ) (registers : List Register) : Type 0 where
    pub fit : (s : ℕ) (kind : ValueKind) → slice_get kinds s ≡ Some kind → Fits registers (length ns) s kind
    pub hold : (s k : ℕ) → holder s ≡ Some k → HasValues c ns registers s (named es k)

-- ---- what a run goes by

-- steps lead back and have the kinds that are taken, elements are in range, and the values of steps are those of the context
pub record IsReady {S : Type 0} (sources : Sources S) (taken : S → ValueKind) (xs : List (FieldStep S)) (c : Context) (ns : List ℕ) (ws : List Whole) : Type 0 where
  pub back : LeadBack (keys xs)
  pub kinds : (k : ℕ) → HasKinds sources taken (named (built xs) k)
  pub within : All (λ n. n < length_of c) ns
  pub whole : AreWhole sources (built xs) c ws

-- an instruction finds the values of its step's operands, and a register of its step's kind
pub record CanExecute {S : Type 0} (sources : Sources S) (xs : List (FieldStep S)) (c : Context) (ns : List ℕ) (ws : List Whole) (x : Instruction) (registers : List Register) (into : Register) : Type 0 where
  pub does : FieldStep S
  pub step : slice_get xs x.step ≡ Some does
  pub within : All (λ s. s < length registers) x.args.items
  pub count : length x.args.items ≡ length (operands (key_of does))
  pub args : AllGive sources c ns (map (named (built xs)) (operands (key_of does))) (registers_named registers x.args.items)
  pub covered : IsCovered c ws x.step does
  pub kind : register_kind into ≡ kind_at sources does
  pub len : register_len into ≡ length ns

-- the values of a step are on the place of a context, if it has one
abbrev pub IsThereOn : Context → List Whole → ℕ → Type 0
IsThereOn nowhere ws step = Unit {0}
IsThereOn (on c p) ws step = IsThere ws step p

-- ---- registers of roots

-- a register has the values of the one in a slot
pub record IsCopy (registers : List Register) (s : ℕ) (copy : Register) : Type 0 where
  pub register : Register
  pub is : slice_get registers s ≡ Some register
  pub kind : register_kind copy ≡ register_kind register
  pub len : register_len copy ≡ register_len register
  pub values : (k : ℕ) → register_value k copy ≡ register_value k register

abbrev pub AreCopies : List Register → List ℕ → List Register → Type 0
AreCopies registers [] [] = Unit {0}
AreCopies registers (s ∷ slots) (r ∷ rs) = IsCopy registers s r × AreCopies registers slots rs
AreCopies registers _ _ = ⊥
