-- What a handle on a shared block owns and shows. `whole` is the block owned outright, by its word and its value.
use Rattle.std.specs.Prelude.{ℕ, ◌+◌, [], ◌∷◌}
use base.Fraction.{full_share}
use base.Fml.{Lft, GName, Fml, ffalse, fsep, fex, fall, fwand, flft, finv}
use denote.RattleType.{RattleType}
use denote.Memory.{part_at, shared_of}
use denote.RawPtr.{Ptr, block_ptr, null_ptr}
use denote.Sharing.{said, beside, some, one, held as kept, always}
use Rattle.core.specs.Sync.RawAtomic.{word}
use Rattle.atomic_table.specs.Seated.{fact}
use Rattle.counted_slot.specs.Counting.{offset, tag}
use Rattle.gn_block.specs.Parts.{IsPart}
use Rattle.gn_block.specs.Sharing.{Round, Shared, held}

module _ (R : RattleType) (whole : ℕ → R.Denot → Fml) (b o : ℕ) where
  -- with its word and a value the block is whole again
  abbrev pub rejoins : ℕ × R.Denot → Fml
  rejoins s = fwand (fsep (word b (o + 0) s.0) (part_at R full_share s.1 b (o + offset R))) (whole s.0 s.1)

  -- all of the block but the word
  abbrev pub lent : R.Denot → Fml
  lent x = fsep (part_at R full_share x b (o + offset R)) (fall (ℕ × R.Denot) rejoins)

  module _ (x : R.Denot) (limit : ℕ) (δ : GName) where
    abbrev pub common : Round → Fml
    common t = Shared (lent x) b (o + 0) limit δ t

    abbrev pub seen : Lft → Fml
    seen = shared_of R x b (o + offset R)

    -- what a handle with p parts owns
    abbrev pub handle : ℕ → Round → Fml
    handle p t = fsep (finv (common t)) (fsep (seen (t.0 ∷ [])) (held (lent x) b (o + 0) limit δ t p))

    -- what a `&` to it shows
    abbrev pub shown : Round → Lft → Fml
    shown t = beside (one (λ q. flft (t.0 ∷ []) q)) (beside (one (λ q. tag δ q t.0)) (beside (always (common t)) (kept (t.0 ∷ []) seen)))

abbrev pub handle_owns : (R : RattleType) → (Ptr → ℕ → R.Denot → Fml) → Ptr → R.Denot → ℕ → ℕ → GName → Fml
handle_owns R whole (block_ptr b o) x limit p δ = fsep (fact (IsPart limit p)) (fex Round (handle R (whole (block_ptr b o)) b o x limit δ p))
handle_owns R whole null_ptr x limit p δ = ffalse

abbrev pub handle_shares : (R : RattleType) → (Ptr → ℕ → R.Denot → Fml) → Ptr → R.Denot → ℕ → GName → Lft → Fml
handle_shares R whole (block_ptr b o) x limit δ = some Round (shown R (whole (block_ptr b o)) b o x limit δ)
handle_shares R whole null_ptr x limit δ = said ffalse
