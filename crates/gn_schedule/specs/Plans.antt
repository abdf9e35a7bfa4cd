-- In which order steps are run, and where their values are.
use Rattle.std.specs.Prelude.{◌≡◌, ◌≢◌, ℕ, ◌==◌, ◌+◌, ◌<◌, ◌≤◌, Bool, true, List, [], ◌∷◌, length, take, Option, Some, None, slice_get, slice_index, if◌then◌else◌}
use Rattle.gn_node_set.specs.Meanings.{Has}
use Rattle.gn_value.specs.declared.value.ValueKind.{ValueKind}
use Rattle.gn_plain.specs.Fields.{Sources}
use Rattle.gn_field.specs.declared.step.FieldStep.{FieldStep}
use Rattle.gn_field.specs.Steps.{Key, of_constant, of_input, of_apply, of_elsewhere, of_sampled, key_of, kind_at}
use Rattle.gn_schedule.specs.declared.plan.Instruction.{Instruction}
use Rattle.gn_schedule.specs.declared.plan.Plan.{Plan}
use Rattle.gn_schedule.specs.declared.plan.Planning.{Planning}

-- the steps that a step reads at the same elements; one that reads elsewhere reads none there
abbrev pub operands : Key → List ℕ
operands (of_constant v) = []
operands (of_input x) = []
operands (of_apply op args) = args
operands (of_elsewhere x args) = []
operands (of_sampled path arg) = arg ∷ []

-- ---- which steps are needed

abbrev pub AllAre : (ℕ → Bool) → List ℕ → Type 0
AllAre is [] = Unit {0}
AllAre is (k ∷ ks) = (is k ≡ true) × AllAre is ks

-- with each step there are its operands
abbrev pub IsClosed : {S : Type 0} → List (FieldStep S) → (ℕ → Bool) → Type 0
IsClosed {S} xs is = (k : ℕ) (x : FieldStep S) → slice_get xs k ≡ Some x → is k ≡ true → AllAre is (operands (key_of x))

-- no step is noted but those that the roots need
abbrev pub NotesOnly : {S : Type 0} → List (FieldStep S) → List ℕ → List ℕ → Type 0
NotesOnly xs roots readers = (is : ℕ → Bool) → AllAre is roots → IsClosed xs is → (k : ℕ) → 0 < slice_index readers k → is k ≡ true

-- no step is run but those that the roots need
abbrev pub RunsOnly : {S : Type 0} → List (FieldStep S) → List ℕ → List Instruction → Type 0
RunsOnly xs roots is = (needed : ℕ → Bool) → AllAre needed roots → IsClosed xs needed → (i : ℕ) (x : Instruction) → slice_get is i ≡ Some x → needed x.step ≡ true

-- ---- readers

abbrev pub AllReadBy : ℕ → List ℕ → List ℕ → Type 0
AllReadBy k readers [] = Unit {0}
AllReadBy k readers (a ∷ args) = (k ≤ slice_index readers a) × AllReadBy k readers args

-- the numbers at some places are raised to at least one number
pub record Marks (k : ℕ) (args before after : List ℕ) : Type 0 where
  pub long : length after ≡ length before
  pub marked : AllReadBy k after args
  pub more : (j : ℕ) → slice_index before j ≤ slice_index after j
  pub others : (j : ℕ) → ¬ Has args j → slice_index after j ≡ slice_index before j

-- of each step one more than the last that reads it, or a larger number, and 0 where none does
pub record AreReaders {S : Type 0} (xs : List (FieldStep S)) (readers : List ℕ) : Type 0 where
  pub long : length readers ≡ length xs
  pub operands : (k : ℕ) (x : FieldStep S) → slice_get xs k ≡ Some x → 0 < slice_index readers k → AllReadBy (k + 1) readers (operands (key_of x))

-- the readers among the steps from one on are noted
pub record IsReading {S : Type 0} (xs : List (FieldStep S)) (roots : List ℕ) (k : ℕ) (readers : List ℕ) : Type 0 where
  pub long : length readers ≡ length xs
  pub roots_read : AllReadBy (length xs + 1) readers roots
  pub only : NotesOnly xs roots readers
  pub operands_read : (j : ℕ) (x : FieldStep S) → k ≤ j → slice_get xs j ≡ Some x → 0 < slice_index readers j → AllReadBy (j + 1) readers (operands (key_of x))

-- ---- slots

-- the step whose values a slot holds after some instructions
abbrev pub with_step : (ℕ → Option ℕ) → Instruction → ℕ → Option ℕ
with_step held x s = if s == x.into then Some x.step else held s

abbrev pub held_after : (ℕ → Option ℕ) → List Instruction → ℕ → Option ℕ
held_after held [] = held
held_after held (x ∷ xs) = held_after (with_step held x) xs

abbrev pub held : List Instruction → ℕ → Option ℕ
held xs = held_after (λ s. None) xs

-- slots hold the values of steps, in order
abbrev pub Hold : (ℕ → Option ℕ) → List ℕ → List ℕ → Type 0
Hold holder [] [] = Unit {0}
Hold holder (s ∷ slots) (k ∷ steps) = (holder s ≡ Some k) × Hold holder slots steps
Hold holder _ _ = ⊥

-- an instruction finds the values of its step's operands, and writes into another slot, which is of the step's kind
pub record IsInstruction {S : Type 0} (sources : Sources S) (xs : List (FieldStep S)) (kinds : List ValueKind) (holder : ℕ → Option ℕ) (x : Instruction) : Type 0 where
  pub does : FieldStep S
  pub step : slice_get xs x.step ≡ Some does
  pub args : Hold holder x.args.items (operands (key_of does))
  pub apart : ¬ Has x.args.items x.into
  pub kind : slice_get kinds x.into ≡ Some (kind_at sources does)

abbrev pub AreInstructions : {S : Type 0} → Sources S → List (FieldStep S) → List ValueKind → List Instruction → Type 0
AreInstructions sources xs kinds is = (i : ℕ) (x : Instruction) → slice_get is i ≡ Some x → IsInstruction sources xs kinds (held (take i is)) x

-- a plan is one of instructions, after which slots hold the values of some steps
pub record IsPlan {S : Type 0} (sources : Sources S) (xs : List (FieldStep S)) (roots : List ℕ) (p : Plan) : Type 0 where
  pub instructions : AreInstructions sources xs p.kinds.items p.instructions.items
  pub only : RunsOnly xs roots p.instructions.items
  pub ends : Hold (held p.instructions.items) p.roots.items roots

-- ---- a plan in the making

-- the free slot of a kind: the step whose values it holds is read by none from a step on
pub record IsFree (kinds : List ValueKind) (holds readers : List ℕ) (kind : ValueKind) (k s : ℕ) : Type 0 where
  pub within : s < length holds
  pub of_kind : slice_get kinds s ≡ Some kind
  pub past : slice_index readers (slice_index holds s) ≤ k

-- a slot of a kind is taken for a step: a free one, or one more
pub record IsTaken (readers : List ℕ) (kind : ValueKind) (k s : ℕ) (kinds kinds' : List ValueKind) (holds holds' : List ℕ) : Type 0 where
  pub long : length kinds' ≡ length holds'
  pub of_kind : slice_get kinds' s ≡ Some kind
  pub holder : slice_get holds' s ≡ Some k
  pub stays : (j : ℕ) (x : ValueKind) → slice_get kinds j ≡ Some x → slice_get kinds' j ≡ Some x
  pub others : (j : ℕ) → j ≢ s → slice_get holds' j ≡ slice_get holds j
  pub past : (j : ℕ) → slice_get holds s ≡ Some j → slice_index readers j ≤ k
  pub few : length holds' ≤ length holds + 1

-- the first steps are planned: a slot holds each of them that a later one reads
pub record IsPlanning {S : Type 0} (sources : Sources S) (xs : List (FieldStep S)) (readers : List ℕ) (k : ℕ) (p : Planning) : Type 0 where
  pub done : length p.slots.items ≡ k
  pub long : length p.kinds.items ≡ length p.holds.items
  pub same : (s : ℕ) → held p.instructions.items s ≡ slice_get p.holds.items s
  pub few : length p.holds.items ≤ k
  pub early : (s j : ℕ) → slice_get p.holds.items s ≡ Some j → j < k
  pub live : (a : ℕ) → a < k → k < slice_index readers a → slice_get p.holds.items (slice_index p.slots.items a) ≡ Some a
  pub each : AreInstructions sources xs p.kinds.items p.instructions.items
  pub read : (i : ℕ) (x : Instruction) → slice_get p.instructions.items i ≡ Some x → 0 < slice_index readers x.step
