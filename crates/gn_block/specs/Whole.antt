-- A block that is owned outright, with the right to free it.
use Rattle.std.specs.Prelude.{ℕ}
use base.Fml.{GName, Fml, fsep}
use denote.RattleType.{RattleType}
use denote.RawPtr.{Ptr}
use mir.Syntax.{Ty}
use Rattle.std.specs.declared.alloc.Global.{Global}
use Rattle.std.specs.contracts.impls.GlobalAllocator.TheImpl.{ghosts}
use Rattle.counted_slot.specs.Counting.{idle}
use Rattle.std_alloc.specs.Box.Ownership.{box_owns}
use Rattle.gn_block.specs.contracts.block.Core.{the_row}

-- every value of `Global` frees the same blocks
abbrev pub heap : Global
heap = record { memory = record { seal = tt } }

abbrev pub right_to_free : Ty → Ptr → Fml
right_to_free = ghosts.dealloc_token heap

abbrev pub whole : (R : RattleType) → Ptr → ℕ → R.Denot → Fml
whole R p n x = box_owns right_to_free (the_row R) p (record { users = n; value = x })

abbrev pub loose_owns : (R : RattleType) → Ptr → ℕ → R.Denot → GName → Fml
loose_owns R p n x δ = fsep (whole R p n x) (idle δ)
