-- The sharing machine: blocks of items with a word that counts their users, and the live handles on them.
use Rattle.std.specs.Prelude.{◌==◌, ℕ, ◌+◌, ◌-◌, ◌<◌, Bool, true, false, not, IsTrue, List, [], ◌∷◌, ◌++◌, length, slice_index_or, slice_set, remove, Contains, count_by}
use Rattle.std.specs.List.{position_or_len}
use Rattle.gn_shared.specs.declared.world.Handle.{Handle}

-- A holder's number names one handle, and is used once. Each event is one atomic step on a users word, or a write by a handle.
pub data Event : Type 0 where
  Make : (holder : ℕ) → (items : List ℕ) → Event
  Add : (holder from : ℕ) → Event
  Go : (holder : ℕ) → Event
  Look : (holder : ℕ) → Event
  Change : (holder at value : ℕ) → Event

pub record Block : Type 0 where
  pub items : List ℕ
  pub users : ℕ
  pub alive : Bool

-- each block that was ever made, the handles that are live, and the holders that were ever used
pub record World : Type 0 where
  pub blocks : List Block
  pub handles : List Handle
  pub used : List ℕ

abbrev pub no_block : Block
no_block = record { items = []; users = 0; alive = false }

abbrev pub no_handle : Handle
no_handle = record { holder = 0; block = 0; marked = false }

abbrev pub block_at : World → ℕ → Block
block_at w b = slice_index_or w.blocks b no_block

-- where the holder's handle stands among the live ones; past them all where it is not live
abbrev pub place_of : World → ℕ → ℕ
place_of w holder = position_or_len (λ h. h.holder == holder) w.handles

abbrev pub IsLive : World → ℕ → Type 0
IsLive w holder = place_of w holder < length w.handles

abbrev pub IsNew : World → ℕ → Type 0
IsNew w holder = ¬ Contains w.used holder

abbrev pub handle_of : World → ℕ → Handle
handle_of w holder = slice_index_or w.handles (place_of w holder) no_handle

-- the block of the holder's handle
abbrev pub block_of : World → ℕ → Block
block_of w holder = block_at w (handle_of w holder).block

abbrev pub live_handles : World → ℕ → ℕ
live_handles w b = count_by (λ h. h.block == b) w.handles

abbrev pub with_block : World → ℕ → Block → List Block
with_block w holder block = slice_set w.blocks (handle_of w holder).block block

abbrev pub with_mark : World → ℕ → Bool → List Handle
with_mark w holder mark =
    let h = handle_of w holder in
    slice_set w.handles (place_of w holder) (record { holder = h.holder; block = h.block; marked = mark })

abbrev pub with_items : Block → List ℕ → Block
with_items b items = record { items = items; users = b.users; alive = b.alive }

-- the word after a fetch-add
abbrev pub one_more : Block → Block
one_more b = record { items = b.items; users = b.users + 1; alive = b.alive }

-- the word after a fetch-sub; with its last user the block ends
abbrev pub one_fewer : Block → Block
one_fewer b = record { items = b.items; users = b.users - 1; alive = not (b.users - 1 == 0) }

abbrev pub start : World
start = record { blocks = []; handles = []; used = [] }

abbrev pub Allows : World → Event → Type 0
Allows w (Make holder items) = IsNew w holder
Allows w (Add holder from) = IsNew w holder × IsLive w from
Allows w (Go holder) = IsLive w holder
Allows w (Look holder) = IsLive w holder
Allows w (Change holder at value) =
    IsLive w holder × IsTrue (handle_of w holder).marked × (at < length (block_of w holder).items)

abbrev pub after : World → Event → World
after w (Make holder items) =
    record {
      blocks = w.blocks ++ record { items = items; users = 1; alive = true } ∷ [];
      handles = w.handles ++ record { holder = holder; block = length w.blocks; marked = false } ∷ [];
      used = w.used ++ holder ∷ [];
    }
after w (Add holder from) =
    record {
      blocks = with_block w from (one_more (block_of w from));
      handles = with_mark w from false ++ record { holder = holder; block = (handle_of w from).block; marked = false } ∷ [];
      used = w.used ++ holder ∷ [];
    }
after w (Go holder) =
    record {
      blocks = with_block w holder (one_fewer (block_of w holder));
      handles = remove w.handles (place_of w holder);
      used = w.used;
    }
after w (Look holder) =
    record { blocks = w.blocks; handles = with_mark w holder ((block_of w holder).users == 1); used = w.used }
after w (Change holder at value) =
    let b = block_of w holder in
    record {
      blocks = with_block w holder (with_items b (slice_set b.items at value));
      handles = w.handles;
      used = w.used;
    }

-- what a list of events leaves; the last event stands first
abbrev pub world : List Event → World
world [] = start
world (e ∷ es) = after (world es) e

-- each event is allowed in its turn
abbrev pub IsRun : List Event → Type 0
IsRun [] = Unit {0}
IsRun (e ∷ es) = IsRun es × Allows (world es) e
