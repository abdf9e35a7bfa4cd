-- What an array ends as once its items were written.
use Rattle.std.specs.Prelude.{ℕ, List, ◌++◌, length, take, drop}
use Rattle.std.specs.Borrow.{Lends, LendsIfOk, MutBor, Fml}
use denote.RattleType.{RattleType}
use denote.Array.{Array}
use Rattle.std.specs.declared.result.Result.{Result}
use Rattle.std_alloc.specs.Box.{with_value as with_box}
use Rattle.std_alloc.specs.contracts.vec.Vec.{the_row as vec_row}
use Rattle.std.specs.contracts.alloc.Global.{the_row as heap_row}
use Rattle.std.specs.contracts.impls.GlobalAllocator.TheImpl.{ghosts}
use Rattle.gn_shared.specs.declared.array.InUse.{InUse}
use Rattle.gn_shared.specs.declared.array.Hold.{Hold}
use Rattle.gn_shared.specs.declared.array.Hold.TheVariants.{Alone, Counted, Gone}
use Rattle.gn_shared.specs.contracts.array.Hold.{the_row as hold_row}
use Rattle.gn_shared.specs.Arrays.{ArrayView}
use Rattle.gn_shared.specs.contracts.array.SharedArray.{the_row}

-- the items where these were written over them. As many stay as there were, and a slice has just as many
abbrev pub written : {T : Type 0} → List T → List T → List T
written old items = take (length old) (items ++ drop (length items) old)

-- the handle is sole, and has the items that were written
abbrev pub with_written : {T : Type 0} → ℕ → ArrayView T → List T → ArrayView T
with_written limit v items = record { items = written v.items items; parts = limit; block = v.block }

-- `write` lends the items where it succeeds, and else the handle stays as it was
abbrev pub LendsItemsIfOk : (R N : RattleType) (limit : ℕ) → MutBor (ArrayView R.Denot) → Result (MutBor (List R.Denot)) InUse → Fml
LendsItemsIfOk R N limit s r = LendsIfOk (the_row R N) (Array R 0) s r (with_written limit s.now) s.now

-- the same of the vector that has the items
abbrev pub vec_of : RattleType → RattleType
vec_of R = vec_row R heap_row ghosts

abbrev pub with_vec : (R : RattleType) → ℕ → ArrayView R.Denot → (vec_of R).Denot → ArrayView R.Denot
with_vec R limit v xs = record { items = xs.items; parts = limit; block = v.block }

abbrev pub LendsVec : (R N : RattleType) (limit : ℕ) → MutBor (ArrayView R.Denot) → MutBor (vec_of R).Denot → Fml
LendsVec R N limit s r = Lends (the_row R N) (vec_of R) s r (with_vec R limit s.now)

abbrev pub with_alone_vec : (R : RattleType) → Hold R.Denot → (vec_of R).Denot → Hold R.Denot
with_alone_vec R (Alone memory name) xs = Alone (with_box memory (record { users = memory.value.users; value = xs })) name
with_alone_vec R (Counted handle) xs = Counted handle
with_alone_vec R Gone xs = Gone

abbrev pub LendsAlone : (R : RattleType) → MutBor (Hold R.Denot) → MutBor (vec_of R).Denot → Fml
LendsAlone R s r = Lends (hold_row R) (vec_of R) s r (with_alone_vec R s.now)

abbrev pub LendsItems : (R N : RattleType) (limit : ℕ) → MutBor (ArrayView R.Denot) → MutBor (List R.Denot) → Fml
LendsItems R N limit s r = Lends (the_row R N) (Array R 0) s r (with_written limit s.now)
