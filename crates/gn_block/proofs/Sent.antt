-- What a handle owns and shows names no key, so that it may cross threads where its value may.
use Rattle.std.proofs.Common.{ℕ, ◌+◌, Bool, true, false, [], ◌∷◌}
use mir.Raw.{raw}
use base.Fraction.{full_share}
use base.Fml.{Lft, GName}
use base.Shift.{Keyless}
use base.Stored.{coded_ℕ}
use denote.RattleType.{RattleType}
use denote.Memory.{lone}
use denote.RawPtr.{Ptr, block_ptr, null_ptr}
use denote.Builtin.{u64}
use denote.Struct.Struct.{Struct}
use denote.Struct.Declared.{shape}
use denote.Param.Send.{IsSend, IsSync, part_keyless, struct_send, recorded_send, sendable}
use types.Keyed.{entry_keyless}
use Rattle.std.proofs.Crossing.{frees}
use Rattle.atomic_table.specs.Seated.{halved}
use Rattle.atomic_table.proofs.Sent.{roster_keyless}
use Rattle.counted_slot.specs.Counting.{offset}
use Rattle.gn_block.specs.Sharing.{Round, while_alive}
use Rattle.gn_block.specs.Blocks.{lent, handle_owns, handle_shares}
use Rattle.gn_block.specs.Whole.{heap, whole}
use Rattle.gn_block.specs.contracts.block.Core as core

module _ (R : RattleType) (s : IsSend R) (y : IsSync R) where
  number : IsSend u64
  number = search sendable

  core_send : IsSend (core.the_row R)
  core_send = let C = core.the_type R in recorded_send (Struct (shape C)) C.D C.to C.to_one (struct_send (shape C) (number, (s, tt)))

  lent_keyless : (b o : ℕ) (x : R.Denot) → Keyless (lent R (whole R (block_ptr b o)) b o x)
  lent_keyless b o x = (
    part_keyless R s full_share x b (o + offset R),
    λ z. (
      (tt, part_keyless R s full_share z.1 b (o + offset R)),
      (part_keyless (core.the_row R) core_send full_share (record { users = z.0; value = z.1 }) b o, frees.frees heap (raw (lone (core.the_row R).mir)) (block_ptr b o)),
    ),
  )

  alive_keyless : (b o limit : ℕ) (x : R.Denot) (δ : GName) (t : Round) (z : Bool) → Keyless (while_alive (lent R (whole R (block_ptr b o)) b o x) b (o + 0) limit δ t z)
  alive_keyless b o limit x δ t true = λ d. (tt, ((λ _. tt), ((λ e c. (tt, tt)), (roster_keyless coded_ℕ.code t.1 0 d.1.1, lent_keyless b o x))))
  alive_keyless b o limit x δ t false = tt

  pub owns_keyless : (p : Ptr) (x : R.Denot) (limit k : ℕ) (δ : GName) → Keyless (handle_owns R (whole R) p x limit k δ)
  owns_keyless (block_ptr b o) x limit k δ = ((λ _. tt), λ t. (alive_keyless b o limit x δ t, (y.shared x b (o + offset R) (t.0 ∷ []), λ j. ((λ e c. (tt, tt)), entry_keyless halved t.1 j _))))
  owns_keyless null_ptr x limit k δ = tt

  pub shares_keyless : (p : Ptr) (x : R.Denot) (limit : ℕ) (δ : GName) (κ : Lft) → Keyless (handle_shares R (whole R) p x limit δ κ)
  shares_keyless (block_ptr b o) x limit δ κ = λ t. ((λ q. tt), ((λ q. tt), (alive_keyless b o limit x δ t, y.shared x b (o + offset R) (t.0 ∷ []))))
  shares_keyless null_ptr x limit δ κ = tt
