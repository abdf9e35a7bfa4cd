-- What is true of the sharing machine in every world that events reach.
use Rattle.std.specs.Prelude.{◌≡◌, ◌≢◌, ◌↔◌, ℕ, ◌<◌, IsTrue, IsFalse, List, ◌∷◌, ◌++◌, length, slice_index_or}
use Rattle.gn_shared.specs.declared.world.Handle.{Handle}
use Rattle.gn_shared.specs.Machine.{Event, Go, Change, World, no_handle, block_at, IsLive, handle_of, block_of, live_handles, after, world, IsRun}

-- the handle at place k among the live ones
abbrev pub handle_at : World → ℕ → Handle
handle_at w k = slice_index_or w.handles k no_handle

-- the users word is the number of live handles, a block is alive while it has users, and a marked handle has its block to itself
pub record IsCounted (w : World) : Type 0 where
  pub placed : (k : ℕ) → k < length w.handles → (handle_at w k).block < length w.blocks
  pub counted : (b : ℕ) → (block_at w b).users ≡ live_handles w b
  pub alive : (b : ℕ) → IsTrue (block_at w b).alive ↔ (0 < (block_at w b).users)
  pub alone : (k : ℕ) → k < length w.handles → IsTrue (handle_at w k).marked → (block_at w (handle_at w k).block).users ≡ 1

-- A Change alters the items of no other live handle.
abbrev pub ChangesItsOwn : Type 0
ChangesItsOwn =
    (es : List Event) (holder at value other : ℕ) → IsRun (Change holder at value ∷ es) → IsLive (world es) other → other ≢ holder
    → (block_of (after (world es) (Change holder at value)) other).items ≡ (block_of (world es) other).items

-- A block that an event ends was ended by the Go of its only handle.
abbrev pub EndsAtItsLastGo : Type 0
EndsAtItsLastGo =
    (es : List Event) (e : Event) (b : ℕ) → IsRun (e ∷ es) → IsTrue (block_at (world es) b).alive → IsFalse (block_at (after (world es) e) b).alive
    → (holder : ℕ) × (e ≡ Go holder) × IsLive (world es) holder × ((handle_of (world es) holder).block ≡ b) × (live_handles (world es) b ≡ 1)

-- A block that was made and has ended has no handle and is not alive after any events that follow.
abbrev pub NeverComesBack : Type 0
NeverComesBack =
    (es later : List Event) (b : ℕ) → IsRun (later ++ es) → b < length (world es).blocks → IsFalse (block_at (world es) b).alive
    → IsFalse (block_at (world (later ++ es)) b).alive × (live_handles (world (later ++ es)) b ≡ 0)
