-- A block that is owned outright is its word and the rest, and whole again with both. Assumes `Logic`.
use Rattle.std.proofs.Common.{ℕ, zero, ◌+◌, List, [], ◌∷◌}
use seplogic.Ra.Ura.{Ura}
use mir.Syntax.{Sym}
use mir.Raw.{raw as bare}
use base.Fraction.{full_share}
use base.Logic.{ent, sep, wand, all_e, via, apply∗, id⊢, never, never_e, fst∗}
use base.Fml.{GName, Fml, ftrue, fsep, fall}
use contract.Monad.{fact, fact_i}
use types.Logic.{Logic, sem}
use types.Kit.{‵, raw, ◌⊛◌, ◌$◌, ◌∵◌, !, qed, move, keep, use1, use2, split, split3, fsplit, fsplit3, fjoin, fjoin3, assume, each, updating, now, done}
use types.Tokens.{lent_back}
use denote.RattleType.{RattleType, Denots}
use denote.Laws.{Lawful}
use denote.Memory.{lone, part_of, part_at}
use denote.RawPtr.{Ptr, InBlock, block_ptr, null_ptr}
use denote.Steps.{nothing}
use denote.Struct.Struct.{Struct}
use denote.Struct.Laws.{u64-laws}
use denote.Struct.Members.{Member, row_of, rows_of, parts_at}
use denote.Struct.Parts.{PartsBack, Struct-parts, shape_of}
use Rattle.core.specs.Sync.RawAtomic.{word}
use Rattle.core.proofs.cell.Borrows.{flag}
use Rattle.core.proofs.tally.Steps.{word_out, word_in}
use Rattle.counted_slot.specs.Counting.{offset, idle}
use Rattle.gn_block.specs.Sharing.{Round, all_of_it}
use Rattle.gn_block.specs.Blocks.{rejoins, lent}
use Rattle.gn_block.specs.Whole.{right_to_free, whole, loose_owns}
use Rattle.gn_block.specs.contracts.block.Core as core

module _ {M : Type 1} {𝓤 : Ura M} (𝓛 : Logic 𝓤) (R : RattleType) where
  open 𝓛 use {H}

  pub loose_placed : (p : Ptr) (n : ℕ) (x : R.Denot) (δ : GName) → ent 𝓤 (sem 𝓛 (loose_owns R p n x δ)) (fact 𝓤 (InBlock p))
  loose_placed (block_ptr b o) n x δ = fact_i 𝓤 (Unit {0}) _ tt
  loose_placed null_ptr n x δ =
      let W = sem 𝓛 (whole R null_ptr n x) in let T = sem 𝓛 (right_to_free (bare (lone (core.the_row R).mir)) null_ptr) in
      via 𝓤 W (fst∗ 𝓤 W (sem 𝓛 (idle δ))) (via 𝓤 (never 𝓤) (fst∗ 𝓤 (never 𝓤) T) (never_e 𝓤 _))

  -- the last handle's block
  pub whole_again : (b o limit n : ℕ) (x : R.Denot) (δ : GName) (t : Round) → ent 𝓤 (sem 𝓛 (all_of_it (lent R (whole R (block_ptr b o)) b o x) b (o + 0) limit δ t n)) (H.⇛ (sem 𝓛 (loose_owns R (block_ptr b o) n x δ)))
  whole_again b o limit n x δ t = let W : ℕ → R.Denot → Fml = whole R (block_ptr b o) in let A : Fml = fsep (word b (o + 0) n) (part_at R full_share x b (o + offset R)) in
      qed 𝓛 (‵ (all_of_it (lent R W b o x) b (o + 0) limit δ t n) ∷ []) ∵ updating ! $ fsplit3 ! $ move ! (2 ∷ []) $ fsplit ! $
      -- [name; lent; word; dead]
      move ! (3 ∷ 1 ∷ []) $ lent_back ! tt $ fsplit ! $ move ! (1 ∷ []) $
      use1 𝓛 (‵ (rejoins R W b o (n, x))) (all_e 𝓤 (λ (s : ℕ × R.Denot). sem 𝓛 (rejoins R W b o s)) (n, x)) $
      -- [the way back; the rest; name; word]
      move ! (3 ∷ 1 ∷ []) $ fjoin ! $ use2 𝓛 (‵ (W n x)) (apply∗ 𝓤 (sem 𝓛 A) (sem 𝓛 (W n x))) $ fjoin ! $ now ! $ done !

module _ {M : Type 1} {𝓤 : Ura M} (𝓛 : Logic 𝓤) (m : Member) (L : Lawful 𝓛 (row_of m)) (b o : ℕ) where
  abbrev R : RattleType
  R = row_of m

  abbrev W : ℕ → R.Denot → Fml
  W = whole R (block_ptr b o)

  abbrev CoreRow : RattleType
  CoreRow = core.the_row R

  abbrev ν : Sym
  ν = (core.the_type R).name

  abbrev ks : List Member
  ks = flag ∷ m ∷ []

  abbrev Data : RattleType
  Data = Struct (shape_of ν ks)

  abbrev token : Fml
  token = right_to_free (bare (lone CoreRow.mir)) (block_ptr b o)

  abbrev Fields : ℕ × R.Denot → Fml
  Fields s = part_at Data full_share (s.0, (s.1, tt)) b o

  abbrev field : ℕ → Fml
  field n = part_at (row_of flag) full_share n b (o + 0)

  abbrev At : R.Denot → Fml
  At x = part_at R full_share x b (o + offset R)

  apart : (n : ℕ) (x : R.Denot) → ent 𝓤 (sem 𝓛 (part_at CoreRow full_share (record { users = n; value = x }) b o)) (sem 𝓛 (Fields (n, x)))
  unfolding part_of
  apart n x = id⊢ 𝓤 _

  joined : (s : ℕ × R.Denot) → ent 𝓤 (sem 𝓛 (Fields s)) (sem 𝓛 (part_at CoreRow full_share (record { users = s.0; value = s.1 }) b o))
  unfolding part_of
  joined s = id⊢ 𝓤 _

  again : ent 𝓤 (sep 𝓤 (PartsBack 𝓛 full_share ν ks b o) (sem 𝓛 token)) (sem 𝓛 (fall (ℕ × R.Denot) (rejoins R W b o)))
  again = qed 𝓛 (raw (PartsBack 𝓛 full_share ν ks b o) ∷ ‵ token ∷ []) ∵ each ! (λ (s : ℕ × R.Denot). sem 𝓛 (rejoins R W b o s)) (λ s. assume ! (‵ (fsep (word b (o + 0) s.0) (At s.1))) $ fsplit ! $
      use1 𝓛 (‵ (field s.0)) (word_in 𝓛 b (o + 0) s.0) $ nothing ! $ move ! (1 ∷ 2 ∷ 0 ∷ []) $ fjoin3 ! $ move ! (1 ∷ []) $
      use1 𝓛 (raw (wand 𝓤 (sem 𝓛 (parts_at full_share ks zero (s.0, (s.1, tt)) b o)) (sem 𝓛 (Fields s)))) (all_e 𝓤 (λ (a : Denots (rows_of ks)). wand 𝓤 (sem 𝓛 (parts_at full_share ks zero a b o)) (sem 𝓛 (part_at Data full_share a b o))) (s.0, (s.1, tt))) $
      move ! (1 ∷ 0 ∷ []) $ use2 𝓛 (‵ (Fields s)) (apply∗ 𝓤 (sem 𝓛 (parts_at full_share ks zero (s.0, (s.1, tt)) b o)) (sem 𝓛 (Fields s))) $
      use1 𝓛 (‵ (part_at CoreRow full_share (record { users = s.0; value = s.1 }) b o)) (joined s) $ fjoin ! $ done !)

  pub halves : (n : ℕ) (x : R.Denot) → ent 𝓤 (sem 𝓛 (W n x)) (sep 𝓤 (sem 𝓛 (word b (o + 0) n)) (sem 𝓛 (lent R W b o x)))
  halves n x = qed 𝓛 (‵ (W n x) ∷ []) ∵ fsplit ! $ use1 𝓛 (‵ (Fields (n, x))) (apart n x) $
      use1 𝓛 ((‵ (field n) ⊛ ‵ (At x) ⊛ ‵ ftrue) ⊛ raw (PartsBack 𝓛 full_share ν ks b o)) (Struct-parts 𝓛 full_share ν ks (u64-laws.lawful 𝓛, (L, tt)) (n, (x, tt)) b o) $ split ! $ split3 ! $
      use1 𝓛 (‵ (word b (o + 0) n)) (word_out 𝓛 b (o + 0) n) $ move ! (3 ∷ 4 ∷ []) $ use2 𝓛 (‵ (fall (ℕ × R.Denot) (rejoins R W b o))) again $ move ! (2 ∷ 0 ∷ 1 ∷ []) $ fjoin ! $ keep ! (1 ∷ 0 ∷ []) $ done !
