-- A block that is owned outright becomes one that its handles count. Assumes `Logic`.
use Rattle.std.proofs.Common.{ℕ, ◌+◌, ◌-◌, ◌^◌, ◌<◌, ◌≤◌, [], ◌∷◌, arith}
use seplogic.Ra.Ura.{Ura}
use base.Fraction.{full_share}
use base.FractionLaws.{Counts-all}
use base.Share.{quarter, three_quarters}
use base.Stored.{coded_ℕ}
use base.Logic.{SProp, ent, sep, ex, via, upd}
use base.Fml.{Lft, GName, Share, Incl, Incl-trans, Fml, fex, fall, flft, finv}
use contract.BorrowLft.{meet_⊑_left, meet_⊑_right}
use types.Logic.{Logic, sem}
use types.Kit.{‵, ◌⊛◌, some as exists, later, ◌$◌, ◌∵◌, !, qed, by, move, keep, drop, use0, use1, use2, split, split3, group, fjoin, fjoin3, fpick, fpack, pick, await, updating, now, done}
use types.Tokens.{lft_new, bor_new}
use types.Owned.{basic}
use types.Keyed.{entries_new, entries_take}
use denote.RattleType.{RattleType}
use denote.Memory.{part_at}
use denote.Shares.{Shares}
use denote.Struct.Lending.{Lends-first}
use Rattle.core.specs.Sync.RawAtomic.{word}
use Rattle.atomic_table.specs.Seated.{halved, seen as view, unused, roster}
use Rattle.atomic_table.proofs.Roster.{resets}
use Rattle.counted_slot.specs.Counting.{offset, parts as pieces, tag, idle}
use Rattle.counted_slot.proofs.Parts.{parts_in, parts_cut, renames}
use Rattle.gn_block.specs.Sharing.{Round, seat}
use Rattle.gn_block.specs.Blocks.{rejoins, lent, common, seen, handle}
use Rattle.gn_block.proofs.Parts.{first_handle}
use Rattle.gn_block.proofs.Steps as steps

module _ {M : Type 1} {𝓤 : Ura M} (𝓛 : Logic 𝓤) (R : RattleType) (W : ℕ → R.Denot → Fml) (b o : ℕ) (x : R.Denot) (limit : ℕ) (δ : GName) where
  open 𝓛 use {H, A}

  abbrev Q : Fml
  Q = lent R W b o x

  abbrev s : Lft → Fml
  s = seen R W b o x limit δ

  abbrev c : ℕ → base.Stored.Gv
  c = coded_ℕ.code

  -- a list of one handle, and its place
  abbrev Listed : GName → SProp 𝓤
  Listed γ = sep 𝓤 (sem 𝓛 (roster c γ 0 (limit ∷ []))) (sem 𝓛 (view c γ 0 three_quarters limit))

  listed : ent 𝓤 (base.Logic.emp 𝓤) (H.⇛ (ex 𝓤 Listed))
  listed = let F : GName → SProp 𝓤 = λ γ. sem 𝓛 (unused c γ 0 limit) in
      qed 𝓛 [] ∵ updating ! $ use0 𝓛 (later (exists (λ (γ : GName). ‵ (unused c γ 0 limit)))) (via 𝓤 _ (entries_new halved 𝓛 0 (λ _. (full_share, c limit))) (basic 𝓛 (ex 𝓤 F))) $ await ! tt $ pick ! (λ γ.
      let L : Fml = view c γ 0 quarter limit in let Mine : Fml = view c γ 0 three_quarters limit in
      use1 𝓛 (‵ (view c γ 0 full_share limit) ⊛ ‵ (unused c γ 1 limit)) (entries_take halved 𝓛 γ 0 (λ _. (full_share, c limit))) $ split ! $
      use1 𝓛 (later (‵ L ⊛ ‵ Mine)) (via 𝓤 _ (resets 𝓛 coded_ℕ γ 0 limit limit) (basic 𝓛 (sep 𝓤 (sem 𝓛 L) (sem 𝓛 Mine)))) $ await ! tt $ split ! $
      -- [the list's; own; the unused rest]
      move ! (2 ∷ []) $ fpack ! ℕ (unused c γ 1) limit $ move ! (1 ∷ 0 ∷ []) $ fjoin ! $ now ! $ types.Kit.show ! Listed γ $ done !)

  pub opens_up : 0 < limit → limit ≤ 2 ^ 62 → (l : Lft) → Shares 𝓛 R l → (μ : Lft) (q : Share) → Incl μ l
      → ent 𝓤 (sep 𝓤 (sem 𝓛 (word b (o + 0) 1)) (sep 𝓤 (sem 𝓛 Q) (sep 𝓤 (sem 𝓛 (idle δ)) (A.lft μ q)))) (H.⇛ (sep 𝓤 (sem 𝓛 (fex Round (handle R W b o x limit δ limit))) (A.lft μ q)))
  opens_up pos few l lends μ q inc =
      qed 𝓛 (‵ (word b (o + 0) 1) ∷ ‵ Q ∷ ‵ (idle δ) ∷ ‵ (flft μ q) ∷ []) ∵ updating ! $ lft_new ! tt (λ a. move ! (2 ∷ []) $ bor_new ! tt (a ∷ []) $
      -- [the borrow; the way back; a's token; the word; the name; μ's token]
      move ! (2 ∷ 5 ∷ []) $ group ! 2 $ move ! (1 ∷ 0 ∷ []) $
      use2 𝓛 (later (‵ (s (a ∷ [])) ⊛ ‵ (flft (a ∷ []) full_share) ⊛ ‵ (flft μ q)))
      (Lends-first 𝓛 (part_at R full_share x b (o + offset R)) (fall (ℕ × R.Denot) (rejoins R W b o)) s l (λ κ ts i sp. lends x κ ts b (o + offset R) i sp) (a ∷ []) ((a ∷ [], full_share) ∷ (μ, q) ∷ []) (Incl-trans (meet_⊑_right (a ∷ []) μ) inc) (meet_⊑_left (a ∷ []) μ)) $
      await ! tt $ split3 ! $
      -- [seen; a's token; μ's token; the way back; the word; the name]
      move ! (5 ∷ []) $ fpick ! (λ old. use1 𝓛 (later (‵ (tag δ full_share a))) (via 𝓤 _ (renames 𝓛 δ old a) (basic 𝓛 (sem 𝓛 (tag δ full_share a)))) $ await ! tt $
      move ! (2 ∷ 0 ∷ []) $ fjoin ! $ use1 𝓛 (‵ (pieces δ a (2 ^ 63))) (parts_in 𝓛 δ a (2 ^ 63) full_share (Counts-all 63)) $
      use1 𝓛 (‵ (pieces δ a (2 ^ 63 - 1)) ⊛ ‵ (pieces δ a 1)) (parts_cut 𝓛 δ a (2 ^ 63) (2 ^ 63 - 1) 1 (omega arith) (omega arith) (omega arith) (omega arith)) $ split ! $
      -- [pieces; piece; seen; μ's token; the way back; the word]
      use0 𝓛 (later (exists (λ (γ : GName). ‵ (roster c γ 0 (limit ∷ [])) ⊛ ‵ (view c γ 0 three_quarters limit)))) listed $ await ! tt $ pick ! (λ γ. split ! $ let t : Round = (a, γ) in let I : Fml = common R W b o x limit δ t in
      -- [list; own; pieces; piece; seen; μ's token; the way back; the word]
      move ! (7 ∷ 2 ∷ 0 ∷ 6 ∷ []) $ group ! 4 $ use1 𝓛 (‵ I) (steps.alive 𝓛 Q b (o + 0) limit δ t 1 0 (limit ∷ []) (first_handle limit pos)) $ use1 𝓛 (later (‵ (finv I))) (𝓛.invs.inv_new I) $ await ! tt $
      -- [inv; own; piece; seen; μ's token]
      move ! (2 ∷ 1 ∷ []) $ fjoin ! $ fpack ! ℕ (seat Q b (o + 0) limit δ t limit) 0 $ move ! (1 ∷ 2 ∷ 0 ∷ []) $ fjoin3 ! $ fpack ! Round (handle R W b o x limit δ limit) t $ now ! $ done !)))
