-- What a `&` to a handle and to a name shows is made of a borrow. Assumes `Logic`.
use Rattle.std.proofs.Common.{ℕ, ◌+◌, List, [], ◌∷◌}
use seplogic.Ra.Ura.{Ura}
use base.Fraction.{full_share}
use base.FractionLaws.{Counts}
use base.Logic.{ent, sep, upd_i, id⊢, emp, never_e}
use base.Fml.{Lft, GName, Share, Fml, ftrue, ffalse, fsep, fseps, fwand, fupd, fdead, fbor, flft, finv}
use types.Logic.{Logic, sem}
use types.Kit.{‵, ◌⊛◌, ◌$◌, ◌∵◌, !, qed, by, move, keep, drop, use0, use1, split, split3, group, fsplit, fsplit3, fjoin, fjoin3, fpick, fpack, assume, suffices, updating, now, done}
use types.Tokens.{bor_open, obor_alter, bor_fracture}
use denote.RattleType.{RattleType, RowLaws}
use denote.RawPtr.{Ptr, InBlock, block_ptr, null_ptr}
use denote.Sharing.{ShrLaws, some, one, held as kept, always, beside}
use denote.SharingLaws.{contraction, said_shr_laws, some_shr_laws, beside_shr_laws, one_shr_laws, always_shr_laws, held_shr_laws}
use denote.Steps.{nothing}
use denote.Moves.{moves_from}
use denote.Struct.Lending.{Lends, Lends-false}
use contract.Monad.{fact, fact_i}
use contract.BorrowLft.{meet_⊑_left}
use Rattle.core.proofs.cell.Borrows.{by_one}
use Rattle.atomic_table.specs.Seated.{fact as so}
use Rattle.counted_slot.specs.Counting.{offset, parts as pieces, tag, idle}
use Rattle.counted_slot.proofs.Parts.{parts_in}
use Rattle.gn_block.specs.Parts.{IsPart}
use Rattle.gn_block.specs.Sharing.{Round, seat}
use Rattle.gn_block.specs.Blocks.{lent, common, seen, handle, shown, handle_owns, handle_shares}
use Rattle.gn_block.specs.Names.{name_shares}

module _ (R : RattleType) (whole : Ptr → ℕ → R.Denot → Fml) (L : RowLaws R) where
  shown_laws : (b o : ℕ) (x : R.Denot) (limit : ℕ) (δ : GName) (t : Round) → ShrLaws (shown R (whole (block_ptr b o)) b o x limit δ t)
  shown_laws b o x limit δ t = let I = common R (whole (block_ptr b o)) b o x limit δ t in let s = seen R (whole (block_ptr b o)) b o x limit δ in
      let rest = beside (always I) (kept (t.0 ∷ []) s) in
      beside_shr_laws (one (λ q. flft (t.0 ∷ []) q)) (beside (one (λ q. tag δ q t.0)) rest) (one_shr_laws (λ q. flft (t.0 ∷ []) q))
      (beside_shr_laws (one (λ q. tag δ q t.0)) rest (one_shr_laws (λ q. tag δ q t.0)) (beside_shr_laws (always I) (kept (t.0 ∷ []) s) (always_shr_laws I) (held_shr_laws (t.0 ∷ []) s (L x b (o + offset R)))))

  pub handle_laws : (p : Ptr) (x : R.Denot) (limit : ℕ) (δ : GName) → ShrLaws (handle_shares R whole p x limit δ)
  handle_laws null_ptr x limit δ = said_shr_laws ffalse tt
  handle_laws (block_ptr b o) x limit δ = some_shr_laws Round (shown R (whole (block_ptr b o)) b o x limit δ) (shown_laws b o x limit δ)

pub name_laws : (δ : GName) → ShrLaws (name_shares δ)
name_laws δ = some_shr_laws ℕ (λ c. one (λ q. tag δ q c)) (λ c. one_shr_laws (λ q. tag δ q c))

module _ {M : Type 1} {𝓤 : Ura M} (𝓛 : Logic 𝓤) where
  open 𝓛 use {H, A}

  module _ (δ : GName) (κ : Lft) where
    named_again : (c : ℕ) → ent 𝓤 (emp 𝓤) (sem 𝓛 (fwand (fsep (fdead κ) (fseps (tag δ full_share c ∷ []))) (fupd (idle δ))))
    unfolding fseps
    named_again c = qed 𝓛 [] ∵ assume ! (‵ (fsep (fdead κ) (fsep (tag δ full_share c) ftrue))) $ suffices ! (sem 𝓛 (idle δ)) (upd_i 𝓤 (sem 𝓛 (idle δ))) $
        fsplit3 ! $ keep ! (1 ∷ []) $ fpack ! ℕ (tag δ full_share) c $ done !

    name_by_token : (q : Share) → ent 𝓤 (sep 𝓤 (A.bor κ (idle δ)) (A.lft κ q)) (H.⇛ (sep 𝓤 (sem 𝓛 (name_shares δ κ)) (A.lft κ q)))
    unfolding fseps
    name_by_token q = qed 𝓛 (‵ (fbor κ (idle δ)) ∷ ‵ (flft κ q) ∷ []) ∵ updating ! $ bor_open ! tt $ move ! (1 ∷ []) $ fpick ! (λ c.
        use0 𝓛 (‵ (fwand (fsep (fdead κ) (fseps (tag δ full_share c ∷ []))) (fupd (idle δ)))) (named_again c) $ nothing ! $
        -- [nothing; the way back; tag; the open borrow]
        move ! (2 ∷ 0 ∷ []) $ fjoin ! $ move ! (2 ∷ 0 ∷ 1 ∷ []) $ obor_alter ! tt (tag δ full_share c ∷ []) $
        use1 𝓛 (‵ (fbor κ (tag δ full_share c)) ⊛ ‵ ftrue) (id⊢ 𝓤 _) $ split ! $ bor_fracture ! tt (λ r. tag δ r c) full_share $
        fpack ! ℕ (λ c. one (λ q. tag δ q c) κ) c $ now ! $ keep ! (0 ∷ 2 ∷ []) $ done !)

  pub Lends-name : (l : Lft) (δ : GName) → Lends 𝓛 (idle δ) (name_shares δ) l
  Lends-name l δ = λ κ ts inc sp. by_one 𝓛 κ ts sp (A.bor κ (idle δ)) (sem 𝓛 (name_shares δ κ)) (name_by_token δ κ)

module _ {M : Type 1} {𝓤 : Ura M} (𝓛 : Logic 𝓤) (R : RattleType) (whole : Ptr → ℕ → R.Denot → Fml) (L : RowLaws R) where
  open 𝓛 use {H, A}

  module _ (b o : ℕ) (x : R.Denot) (limit p : ℕ) (δ : GName) (κ : Lft) where
    abbrev W : ℕ → R.Denot → Fml
    W = whole (block_ptr b o)

    abbrev Owns : Fml
    Owns = handle_owns R whole (block_ptr b o) x limit p δ

    abbrev Lent : Fml
    Lent = some Round (shown R W b o x limit δ) κ

    abbrev I : Round → Fml
    I = common R W b o x limit δ

    abbrev s : Lft → Fml
    s = seen R W b o x limit δ

    abbrev Own : Round → ℕ → Fml
    Own t j = Rattle.atomic_table.specs.Seated.seen base.Stored.coded_ℕ.code t.1 j base.Share.three_quarters p

    abbrev Two : Round → Share → List Fml
    Two t e = flft (t.0 ∷ []) e ∷ tag δ e t.0 ∷ []

    again : (t : Round) (j : ℕ) (e : Share) → Counts 63 e 1 → IsPart limit p → ent 𝓤 (sep 𝓤 (sem 𝓛 (finv (I t))) (sep 𝓤 (sem 𝓛 (s (t.0 ∷ []))) (sem 𝓛 (Own t j)))) (sem 𝓛 (fwand (fsep (fdead κ) (fseps (Two t e))) (fupd Owns)))
    unfolding fseps
    again t j e c part = qed 𝓛 (‵ (finv (I t)) ∷ ‵ (s (t.0 ∷ [])) ∷ ‵ (Own t j) ∷ []) ∵ assume ! (‵ (fsep (fdead κ) (fsep (flft (t.0 ∷ []) e) (fsep (tag δ e t.0) ftrue)))) $ suffices ! (sem 𝓛 Owns) (upd_i 𝓤 (sem 𝓛 Owns)) $
        fsplit ! $ drop ! $ fsplit3 ! $ fjoin ! $ use1 𝓛 (‵ (pieces δ t.0 1)) (parts_in 𝓛 δ t.0 1 e c) $
        -- [piece; nothing; inv; seen; own place]
        move ! (0 ∷ 4 ∷ []) $ fjoin ! $ fpack ! ℕ (seat (lent R W b o x) b (o + 0) limit δ t p) j $
        move ! (2 ∷ 3 ∷ 0 ∷ []) $ fjoin3 ! $ fpack ! Round (handle R W b o x limit δ p) t $ nothing ! $ fpack ! (IsPart limit p) (λ _. ftrue) part $ fjoin ! $ keep ! (0 ∷ []) $ done !

    by_token : (q : Share) → ent 𝓤 (sep 𝓤 (A.bor κ Owns) (A.lft κ q)) (H.⇛ (sep 𝓤 (sem 𝓛 Lent) (A.lft κ q)))
    unfolding fseps
    by_token q = qed 𝓛 (‵ (fbor κ Owns) ∷ ‵ (flft κ q) ∷ []) ∵ updating ! $ bor_open ! tt $ move ! (1 ∷ []) $ fsplit ! $ fpick ! (λ part. drop ! $ fpick ! (λ t. fsplit3 ! $ move ! (2 ∷ []) $ fpick ! (λ j. fsplit ! $ fpick ! (λ e. fpick ! (λ c. fsplit ! $ move ! (3 ∷ []) $
        -- [inv; token; tag; own place; seen; the open borrow]
        use1 𝓛 (‵ (finv (I t)) ⊛ ‵ (finv (I t))) (𝓛.invs.inv_dup (I t)) $ split ! $ move ! (5 ∷ []) $
        use1 𝓛 (‵ (s (t.0 ∷ [])) ⊛ ‵ (s (t.0 ∷ []))) (contraction 𝓛 s (L x b (o + offset R)) (t.0 ∷ [])) $ split ! $
        -- [seen; seen; inv; inv; token; tag; own place; the open borrow]
        move ! (2 ∷ 0 ∷ 6 ∷ []) $ group ! 3 $ use1 𝓛 (‵ (fwand (fsep (fdead κ) (fseps (Two t e))) (fupd Owns))) (again t j e c part) $ nothing ! $
        -- [nothing; the way back; seen; inv; token; tag; the open borrow]
        move ! (5 ∷ 0 ∷ []) $ fjoin ! $ move ! (4 ∷ 0 ∷ []) $ fjoin ! $ move ! (4 ∷ 0 ∷ 1 ∷ []) $ obor_alter ! tt (Two t e) $
        use1 𝓛 (‵ (fbor κ (flft (t.0 ∷ []) e)) ⊛ (‵ (fbor κ (tag δ e t.0)) ⊛ ‵ ftrue)) (id⊢ 𝓤 _) $ split3 ! $ bor_fracture ! tt (λ r. flft (t.0 ∷ []) r) e $ move ! (1 ∷ []) $ bor_fracture ! tt (λ r. tag δ r t.0) e $
        -- [the tag's; the token's; nothing; the token of κ; seen; inv]
        move ! (0 ∷ 5 ∷ 4 ∷ []) $ fjoin3 ! $ move ! (1 ∷ 0 ∷ []) $ fjoin ! $
        fpack ! Round (λ c. shown R W b o x limit δ c κ) t $ now ! $ keep ! (0 ∷ 2 ∷ []) $ done !)))))

  pub Lends-handle : (l : Lft) (p : Ptr) (x : R.Denot) (limit k : ℕ) (δ : GName) → Lends 𝓛 (handle_owns R whole p x limit k δ) (handle_shares R whole p x limit δ) l
  Lends-handle l null_ptr x limit k δ = Lends-false 𝓛 (handle_shares R whole null_ptr x limit δ) l
  Lends-handle l (block_ptr b o) x limit k δ = λ κ ts inc sp. by_one 𝓛 κ ts sp (A.bor κ (handle_owns R whole (block_ptr b o) x limit k δ)) (sem 𝓛 (handle_shares R whole (block_ptr b o) x limit δ κ)) (by_token b o x limit k δ κ)

  -- what a `&` to a handle shows of the value
  pub sees : (b o : ℕ) (x : R.Denot) (limit : ℕ) (δ : GName) (κ : Lft) → ent 𝓤 (sem 𝓛 (handle_shares R whole (block_ptr b o) x limit δ κ)) (sem 𝓛 (seen R (whole (block_ptr b o)) b o x limit δ κ))
  sees b o x limit δ κ = let s = seen R (whole (block_ptr b o)) b o x limit δ in
      qed 𝓛 (‵ (handle_shares R whole (block_ptr b o) x limit δ κ) ∷ []) ∵ fpick ! (λ t. fsplit ! $ move ! (1 ∷ []) $ fsplit3 ! $ keep ! (3 ∷ 2 ∷ []) $ by ! (moves_from 𝓛 s (L x b (o + offset R)) κ (t.0 ∷ []) (t.0 ∷ []) (meet_⊑_left (t.0 ∷ []) κ)))

  -- and of the name
  pub sees_name : (p : Ptr) (x : R.Denot) (limit : ℕ) (δ : GName) (κ : Lft) → ent 𝓤 (sem 𝓛 (handle_shares R whole p x limit δ κ)) (sem 𝓛 (name_shares δ κ))
  sees_name (block_ptr b o) x limit δ κ = qed 𝓛 (‵ (handle_shares R whole (block_ptr b o) x limit δ κ) ∷ []) ∵ fpick ! (λ t. fsplit3 ! $ keep ! (1 ∷ []) $ fpack ! ℕ (λ c. one (λ q. tag δ q c) κ) t.0 $ done !)
  sees_name null_ptr x limit δ κ = never_e 𝓤 _

  pub shares_placed : (p : Ptr) (x : R.Denot) (limit : ℕ) (δ : GName) (κ : Lft) → ent 𝓤 (sem 𝓛 (handle_shares R whole p x limit δ κ)) (fact 𝓤 (InBlock p))
  shares_placed (block_ptr b o) x limit δ κ = fact_i 𝓤 (Unit {0}) _ tt
  shares_placed null_ptr x limit δ κ = never_e 𝓤 _
