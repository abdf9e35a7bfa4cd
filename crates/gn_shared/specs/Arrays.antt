-- What clauses see of a shared array, and what is true of each handle.
use Rattle.std.specs.Prelude.{◌≡◌, ℕ, ◌<◌, ◌≤◌, ◌^◌, List, []}
use Rattle.gn_shared.specs.declared.array.Hold.{Hold}
use Rattle.gn_shared.specs.declared.array.Hold.TheVariants.{Alone, Counted, Gone}

-- the items, how many parts the handle has, and the name of its block
pub record ArrayView (T : Type 0) : Type 0 where
  pub items : List T
  pub parts : ℕ
  pub block : ℕ

-- how many parts there may be of a block
abbrev pub IsLimit : ℕ → Type 0
IsLimit limit = (2 ≤ limit) × (limit ≤ 2 ^ 62)

module _ {T : Type 0} where
  abbrev pub items_of : Hold T → List T
  items_of (Alone memory name) = memory.value.value.items
  items_of (Counted handle) = handle.value.items
  items_of Gone = []

  abbrev pub block_of : Hold T → ℕ
  block_of (Alone memory name) = name.block
  block_of (Counted handle) = handle.block
  block_of Gone = 0

  -- a sole handle owns its block and has all parts; any other is counted, and has some
  abbrev pub Holds : ℕ → Hold T → ℕ → Type 0
  Holds limit (Alone memory name) parts = (memory.value.users ≡ 1) × (parts ≡ limit) × IsLimit limit
  Holds limit (Counted handle) parts = (handle.limit ≡ limit) × (handle.parts ≡ parts) × (0 < parts) × (parts < limit) × IsLimit limit
  Holds limit Gone parts = ⊥

  abbrev pub IsCounted : Hold T → Type 0
  IsCounted (Alone memory name) = ⊥
  IsCounted (Counted handle) = Unit {0}
  IsCounted Gone = ⊥

  abbrev pub IsAlone : Hold T → Type 0
  IsAlone (Alone memory name) = memory.value.users ≡ 1
  IsAlone (Counted handle) = ⊥
  IsAlone Gone = ⊥
