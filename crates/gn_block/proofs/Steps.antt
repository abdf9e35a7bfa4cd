-- The atomic steps on the users word, under what holds between any two of them. Assumes `Logic`.
use Rattle.std.proofs.Common.{◌≡◌, ◌≢◌, ℕ, ◌+◌, ◌-◌, ◌%◌, ◌^◌, ◌<◌, ◌≤◌, Bool, true, false, List, [], ◌∷◌, ◌++◌, set, refl, arith}
use mathlib.Core.Logic.{dite}
use mathlib.Core.List.{Mem, not-mem-nil}
use mathlib.Core.Option.{some as at_place}
use native.Mathlib.Decide.{ℕ_discrete}
use lib.ListN.{get_elem?}
use seplogic.Ra.Ura.{Ura}
use base.Fraction.{full_share}
use base.Share.{three_quarters}
use base.Stored.{coded_ℕ}
use base.Logic.{SProp, ent, sep, wand, ex, ex_i, all, all_e, guard, emp, never, never_e, upd, upd_i, upd_mono, mono_r, via, apply∗}
use base.Fml.{GName, Fml, ftrue, fex, fall, flft, fdead, flent, finv, fnamed}
use types.Logic.{Logic, sem}
use types.Kit.{‵, group, raw, ◌⊛◌, some as exists, given, ◌$◌, ◌∵◌, !, qed, by, move, keep, drop, split, fsplit, fsplit3, fjoin, fjoin3, fpick, fpack, pick, learn, show, check, frame, each, assume, suffices, settle, use0, use1, use2, rewrite, done}
use denote.RawPtr.{block_ptr}
use denote.Steps.{nothing}
use Rattle.core.specs.Sync.RawAtomic.{Shift, rests, ends, enters, leaves, word, if_none, along, shifted, back, found, always, asks}
use Rattle.atomic_table.specs.Seated.{seen, roster}
use Rattle.atomic_table.proofs.Lists.{set_again}
use Rattle.atomic_table.proofs.Roster.{Moved, moves, Joined, joins}
use Rattle.counted_slot.specs.Counting.{parts as pieces, tag, share}
use Rattle.counted_slot.proofs.Parts.{parts_cut, parts_glue, parts_whole}
use Rattle.gn_block.specs.Parts.{AreDivided}
use Rattle.gn_block.specs.Sharing.{Round, Division, divided, while_alive, Shared, seat, held, all_of_it, after_add, after_go, after_look}
use Rattle.gn_block.proofs.Parts.{room, alone, added, returned}

module _ {M : Type 1} {𝓤 : Ura M} (𝓛 : Logic 𝓤) where
  open 𝓛 use {H, A}

  abbrev Pr : Type 2
  Pr = SProp 𝓤

  abbrev ◌⊢◌ : Pr → Pr → Type 1
  P ⊢ Q = ent 𝓤 P Q

  abbrev ◌∗◌ : Pr → Pr → Pr
  P ∗ Q = sep 𝓤 P Q

  abbrev ◌-∗◌ : Pr → Pr → Pr
  P -∗ Q = wand 𝓤 P Q

  abbrev ⟦◌⟧ : Fml → Pr
  ⟦ P ⟧ = sem 𝓛 P

  infix 26 ◌⊢◌
  infixr 35 ◌∗◌
  infixr 30 ◌-∗◌
  module _ (I : Fml) where
    -- X, once the open invariant I is shut
    abbrev pub Shut : Pr → Pr
    Shut X = all 𝓤 (λ (j : ℕ). shifted 𝓛 (if_none 𝓛 X) ((j, I) ∷ []))

    shuts : (X : Pr) → upd 𝓤 (⟦ I ⟧ ∗ X) ⊢ Shut X
    shuts X = qed 𝓛 (raw (upd 𝓤 (⟦ I ⟧ ∗ X)) ∷ []) ∵ each ! (λ (j : ℕ). shifted 𝓛 (if_none 𝓛 X) ((j, I) ∷ [])) (λ j. let Q : List (ℕ × Fml) → Pr = if_none 𝓛 X in
        suffices ! _ (ex_i 𝓤 (λ (s : Shift). along 𝓛 s Q ((j, I) ∷ [])) (leaves rests)) $ by ! (upd_mono 𝓤 {P = ⟦ I ⟧ ∗ X} {Q = ⟦ I ⟧ ∗ upd 𝓤 X} (mono_r 𝓤 ⟦ I ⟧ (upd_i 𝓤 X))))

    -- the same where the lifetime a ends first
    shuts_ended : (a : ℕ) (X : Pr) → A.lft (a ∷ []) full_share ∗ (A.dead (a ∷ []) -∗ (⟦ I ⟧ ∗ X)) ⊢ Shut X
    shuts_ended a X = let D : Pr = A.dead (a ∷ []) in let N : Pr = D -∗ (⟦ I ⟧ ∗ X) in qed 𝓛 (‵ (flft (a ∷ []) full_share) ∷ raw N ∷ []) ∵
        each ! (λ (j : ℕ). shifted 𝓛 (if_none 𝓛 X) ((j, I) ∷ [])) (λ j. let Q : List (ℕ × Fml) → Pr = if_none 𝓛 X in let Z : Pr = ⟦ I ⟧ ∗ upd 𝓤 X in
        suffices ! _ (ex_i 𝓤 (λ (s : Shift). along 𝓛 s Q ((j, I) ∷ [])) (ends a (leaves rests))) $ suffices ! _ (upd_i 𝓤 (A.lft (a ∷ []) full_share ∗ (D -∗ upd 𝓤 Z))) $ frame ! $
        assume ! (‵ (fdead (a ∷ []))) $ use2 𝓛 (‵ I ⊛ raw X) (apply∗ 𝓤 D (⟦ I ⟧ ∗ X)) $ split ! $ suffices ! _ (upd_i 𝓤 Z) $ frame ! $ suffices ! _ (upd_i 𝓤 X) $ done !)

    module _ (b o : ℕ) (f : ℕ → ℕ) (after : ℕ → Fml) where
      -- the word is n, and once it is f n the step is over
      abbrev pub Lies : ℕ → Pr
      Lies n = ⟦ word b o n ⟧ ∗ (⟦ word b o (f n) ⟧ -∗ Shut ⟦ after n ⟧)

      inside : (X : Pr) → ⟦ I ⟧ ∗ X ⊢ ex 𝓤 Lies → A.inv I ∗ X ⊢ asks 𝓛 (block_ptr b o) f always after
      inside X h = let K : List (ℕ × Fml) → Pr = λ l. ex 𝓤 (found 𝓛 l b o f always after) in
          qed 𝓛 (‵ (finv I) ∷ raw X ∷ []) ∵ use1 𝓛 (exists (λ (j : ℕ). ‵ (fnamed j I))) (𝓛.invs.inv_named I) $ pick ! (λ j. let L : List (ℕ × Fml) = (j, I) ∷ [] in let F : Pr = K L in
          suffices ! _ (ex_i 𝓤 (λ (s : Shift). along 𝓛 s K []) (enters j I rests)) $ suffices ! _ (upd_i 𝓤 (guard 𝓤 (¬ Mem j []) (A.named j I ∗ (⟦ I ⟧ -∗ upd 𝓤 F)))) $
          check ! (λ m. not-mem-nil m) $ frame ! $ assume ! (‵ I) $ use2 𝓛 (exists (λ (n : ℕ). ‵ (word b o n) ⊛ raw (⟦ word b o (f n) ⟧ -∗ Shut ⟦ after n ⟧))) h $ suffices ! _ (upd_i 𝓤 F) $
          pick ! (λ n. split ! $ show ! (found 𝓛 L b o f always after) n $ frame ! $ each ! (λ (_ : always n). back 𝓛 L b o f after n) (λ _. assume ! (‵ (word b o (f n))) $
          use2 𝓛 (raw (Shut ⟦ after n ⟧)) (apply∗ 𝓤 ⟦ word b o (f n) ⟧ (Shut ⟦ after n ⟧)) $ by ! (all_e 𝓤 (λ (i : ℕ). shifted 𝓛 (if_none 𝓛 ⟦ after n ⟧) ((i, I) ∷ [])) j))))

  module _ (P : Fml) (b o limit : ℕ) (δ : GName) (t : Round) where
    abbrev I : Fml
    I = Shared P b o limit δ t

    abbrev a : ℕ
    a = t.0

    abbrev γ : GName
    γ = t.1

    abbrev lent : Fml
    lent = flent (a ∷ []) P

    abbrev all_handles : List ℕ → Fml
    all_handles hs = roster coded_ℕ.code γ 0 hs

    abbrev Own : ℕ → ℕ → Fml
    Own j p = seen coded_ℕ.code γ j three_quarters p

    abbrev Told : ℕ → List ℕ → ℕ → Pr
    Told j hs = Moved 𝓛 coded_ℕ γ 0 hs j j

    -- n handles, and w parts that came back
    pub alive : (n w : ℕ) (hs : List ℕ) → AreDivided limit n w hs → ⟦ word b o n ⟧ ∗ ⟦ pieces δ a (2 ^ 63 - n) ⟧ ∗ ⟦ all_handles hs ⟧ ∗ ⟦ lent ⟧ ⊢ ⟦ I ⟧
    alive n w hs so = qed 𝓛 (‵ (word b o n) ∷ ‵ (pieces δ a (2 ^ 63 - n)) ∷ ‵ (all_handles hs) ∷ ‵ lent ∷ []) ∵ move ! (2 ∷ 3 ∷ []) $ fjoin ! $ move ! (2 ∷ 0 ∷ []) $ fjoin ! $
        nothing ! $ fpack ! (AreDivided limit n w hs) (λ _. ftrue) so $ fjoin ! $ move ! (1 ∷ 0 ∷ []) $ fjoin ! $
        fpack ! Division (divided P b o limit δ t) (n, (w, hs)) $ fpack ! Bool (while_alive P b o limit δ t) true $ done !

    sits : (p j : ℕ) → ⟦ pieces δ a 1 ⟧ ∗ ⟦ Own j p ⟧ ⊢ ⟦ held P b o limit δ t p ⟧
    sits p j = qed 𝓛 (‵ (pieces δ a 1) ∷ ‵ (Own j p) ∷ []) ∵ fjoin ! $ fpack ! ℕ (seat P b o limit δ t p) j $ done !

    module _ (f : ℕ → ℕ) (after : ℕ → Fml) where
      abbrev Goal : Pr
      Goal = ex 𝓤 (Lies I b o f after)

      -- a handle with p parts finds the block alive, itself in the list, and the parts divided
      found_by : (p : ℕ)
          → ((n w : ℕ) (hs : List ℕ) (j : ℕ) → get_elem? hs j ≡ at_place p → AreDivided limit n w hs → ⟦ pieces δ a (2 ^ 63 - n) ⟧ ∗ all 𝓤 (Told j hs) ∗ ⟦ lent ⟧ ∗ ⟦ pieces δ a 1 ⟧ ⊢ ⟦ word b o (f n) ⟧ -∗ Shut I ⟦ after n ⟧)
          → ⟦ I ⟧ ∗ ⟦ held P b o limit δ t p ⟧ ⊢ Goal
      found_by p k = qed 𝓛 (‵ I ∷ ‵ (held P b o limit δ t p) ∷ []) ∵ fpick ! (λ y. by ! (each_way y))
        where
          each_way : (y : Bool) → ⟦ while_alive P b o limit δ t y ⟧ ∗ ⟦ held P b o limit δ t p ⟧ ⊢ Goal
          each_way false = qed 𝓛 (‵ (fdead (a ∷ [])) ∷ ‵ (held P b o limit δ t p) ∷ []) ∵ move ! (1 ∷ []) $ fpick ! (λ j. fsplit ! $ fpick ! (λ e. fpick ! (λ _. fsplit ! $ keep ! (0 ∷ 3 ∷ []) $
              by ! (via 𝓤 (never 𝓤) (𝓛.lfts.lft-dead (a ∷ []) e) (never_e 𝓤 Goal)))))
          each_way true = qed 𝓛 (‵ (fex Division (divided P b o limit δ t)) ∷ ‵ (held P b o limit δ t p) ∷ []) ∵ fpick ! (λ s. let n = s.0 in let w = s.1.0 in let hs = s.1.1 in fsplit3 ! $ move ! (1 ∷ []) $ fpick ! (λ so. drop ! $
              -- [word; pieces, list and lent; held]
              move ! (1 ∷ []) $ fsplit3 ! $ move ! (4 ∷ []) $ fpick ! (λ j. fsplit ! $
              -- [piece; own place; pieces; list; lent; word]
              move ! (3 ∷ 1 ∷ []) $ use2 𝓛 (given (get_elem? hs j ≡ at_place p) (raw (all 𝓤 (Told j hs)))) (moves 𝓛 coded_ℕ γ hs 0 j j p (omega arith)) $ learn ! (λ at.
              show ! (Lies I b o f after) n $ move ! (4 ∷ 2 ∷ 0 ∷ 3 ∷ 1 ∷ []) $ frame ! $ by ! (k n w hs j at so)))))

    module _ (few : limit ≤ 2 ^ 62) (p : ℕ) (pos : 0 < p) where
      -- one more handle, which gets k of the p parts
      pub adds_one : (k : ℕ) → 0 < k → k < p → A.inv I ∗ ⟦ held P b o limit δ t p ⟧ ⊢ asks 𝓛 (block_ptr b o) (λ n. (n + 1) % 2 ^ 64) always (after_add P b o limit δ t p k)
      adds_one k plus less = let f : ℕ → ℕ = λ n. (n + 1) % 2 ^ 64 in let after : ℕ → Fml = after_add P b o limit δ t p k in
          inside I b o f after ⟦ held P b o limit δ t p ⟧ (found_by f after p (λ n w hs j at so.
          let X : Pr = ⟦ after n ⟧ in let Z : Pr = ⟦ I ⟧ ∗ X in let rest : List ℕ = set hs j (p - k) in let r = room limit n w hs j p so pos at in let bound = r.0 in
          qed 𝓛 (‵ (pieces δ a (2 ^ 63 - n)) ∷ raw (all 𝓤 (Told j hs)) ∷ ‵ lent ∷ ‵ (pieces δ a 1) ∷ []) ∵ assume ! (‵ (word b o (f n))) $
          let is : f n ≡ n + 1 = omega (arith, bound, few) in rewrite ! 0 (λ (x : ℕ). ‵ (word b o x)) is refl $ move ! (1 ∷ []) $
          use1 𝓛 (‵ (pieces δ a (2 ^ 63 - (n + 1))) ⊛ ‵ (pieces δ a 1)) (parts_cut 𝓛 δ a (2 ^ 63 - n) (2 ^ 63 - (n + 1)) 1 (omega (arith, bound, few)) (omega arith) (omega (arith, bound, few)) (omega arith)) $ split ! $
          -- [pieces; piece; word; all; lent; piece]
          suffices ! _ (shuts I X) $ move ! (3 ∷ []) $ use1 𝓛 (raw (Told j hs (p - k))) (all_e 𝓤 (Told j hs) (p - k)) $ settle 𝓛 Z (‵ (all_handles rest) ⊛ ‵ (Own j (p - k))) $ split ! $
          use1 𝓛 (raw (upd 𝓤 (ex 𝓤 (Joined 𝓛 coded_ℕ γ 0 rest k)))) (joins 𝓛 coded_ℕ γ rest 0 k) $ settle 𝓛 Z (exists (λ (i : ℕ). ‵ (all_handles (rest ++ k ∷ [])) ⊛ ‵ (Own i k))) $ pick ! (λ i. split ! $ suffices ! _ (upd_i 𝓤 Z) $
          -- [list; own of the new one; own; pieces; piece; word; lent; piece]
          move ! (4 ∷ 1 ∷ []) $ use2 𝓛 (‵ (held P b o limit δ t k)) (sits k i) $ move ! (6 ∷ 2 ∷ []) $ use2 𝓛 (‵ (held P b o limit δ t (p - k))) (sits (p - k) j) $
          -- [held; held; list; pieces; word; lent]
          fjoin ! $ move ! (3 ∷ 2 ∷ 1 ∷ 4 ∷ []) $ group ! 4 $ use1 𝓛 (‵ I) (alive (n + 1) w (rest ++ k ∷ []) (added limit n w hs j p so pos at k plus less)) $ done !)))

      none_else : (n : ℕ) (Q : Fml) → n ≢ 1 → emp 𝓤 ⊢ ⟦ fall (n ≡ 1) (λ _. Q) ⟧
      none_else n Q other = qed 𝓛 [] ∵ each ! (λ (_ : n ≡ 1). ⟦ Q ⟧) (λ e. absurd (other e))

      none_left : (n : ℕ) (Q : Fml) → n ≡ 1 → emp 𝓤 ⊢ ⟦ fall (n ≢ 1) (λ _. Q) ⟧
      none_left n Q one = qed 𝓛 [] ∵ each ! (λ (_ : n ≢ 1). ⟦ Q ⟧) (λ other. absurd (other one))

      so : (φ : Type 0) (Q : Fml) → ⟦ Q ⟧ ⊢ ⟦ fall φ (λ _. Q) ⟧
      so φ Q = qed 𝓛 (‵ Q ∷ []) ∵ each ! (λ (_ : φ). ⟦ Q ⟧) (λ _. done !)

      -- the only handle ends the round, and has all of it
      last : (n m : ℕ) (X : Pr) → n ≡ 1 → (⟦ all_of_it P b o limit δ t m ⟧ ⊢ X) → ⟦ word b o m ⟧ ∗ ⟦ pieces δ a (2 ^ 63 - n) ⟧ ∗ ⟦ lent ⟧ ∗ ⟦ pieces δ a 1 ⟧ ⊢ Shut I X
      last n m X one gives_x =
          let whole : (2 ^ 63 - n) + 1 ≡ 2 ^ 63 = omega (arith, one) in
          qed 𝓛 (‵ (word b o m) ∷ ‵ (pieces δ a (2 ^ 63 - n)) ∷ ‵ lent ∷ ‵ (pieces δ a 1) ∷ []) ∵ move ! (1 ∷ 3 ∷ []) $
          use2 𝓛 (‵ (pieces δ a ((2 ^ 63 - n) + 1))) (parts_glue 𝓛 δ a (2 ^ 63 - n) 1 (omega arith) (omega (arith, one))) $ rewrite ! 0 (λ (x : ℕ). ‵ (pieces δ a x)) whole refl $
          use1 𝓛 (‵ (share δ a full_share)) (parts_whole 𝓛 δ a) $ fsplit ! $
          -- [token; tag; word; lent]
          suffices ! _ (shuts_ended I a X) $ frame ! $ assume ! (‵ (fdead (a ∷ []))) $ use1 𝓛 (‵ (fdead (a ∷ [])) ⊛ ‵ (fdead (a ∷ []))) (𝓛.lfts.dead_dup (a ∷ [])) $ split ! $
          fpack ! Bool (while_alive P b o limit δ t) false $ frame ! $ move ! (1 ∷ []) $ fpack ! ℕ (tag δ full_share) a $ move ! (0 ∷ 3 ∷ []) $ fjoin ! $ move ! (2 ∷ 1 ∷ 0 ∷ []) $ fjoin3 ! $ by ! gives_x

      -- a handle with p parts goes
      pub goes : A.inv I ∗ ⟦ held P b o limit δ t p ⟧ ⊢ asks 𝓛 (block_ptr b o) (λ n. (n + (2 ^ 64 - 1)) % 2 ^ 64) always (after_go P b o limit δ t)
      goes = let f : ℕ → ℕ = λ n. (n + (2 ^ 64 - 1)) % 2 ^ 64 in let after : ℕ → Fml = after_go P b o limit δ t in
          inside I b o f after ⟦ held P b o limit δ t p ⟧ (found_by f after p (λ n w hs j at so_far. let X : Pr = ⟦ after n ⟧ in let Z : Pr = ⟦ I ⟧ ∗ X in let r = room limit n w hs j p so_far pos at in let bound = r.0 in let some = r.1 in dite (ℕ_discrete n 1)
          (λ one. qed 𝓛 (‵ (pieces δ a (2 ^ 63 - n)) ∷ raw (all 𝓤 (Told j hs)) ∷ ‵ lent ∷ ‵ (pieces δ a 1) ∷ []) ∵ assume ! (‵ (word b o (f n))) $
          let is : f n ≡ 0 = omega (arith, one) in rewrite ! 0 (λ (x : ℕ). ‵ (word b o x)) is refl $ keep ! (0 ∷ 1 ∷ 3 ∷ 4 ∷ []) $
          by ! (last n 0 X one (so (n ≡ 1) (all_of_it P b o limit δ t 0))))
          (λ more. qed 𝓛 (‵ (pieces δ a (2 ^ 63 - n)) ∷ raw (all 𝓤 (Told j hs)) ∷ ‵ lent ∷ ‵ (pieces δ a 1) ∷ []) ∵ assume ! (‵ (word b o (f n))) $
          let is : f n ≡ n - 1 = omega (arith, some, bound, few) in rewrite ! 0 (λ (x : ℕ). ‵ (word b o x)) is refl $
          -- [word; pieces; all; lent; piece]
          move ! (1 ∷ 4 ∷ []) $ use2 𝓛 (‵ (pieces δ a ((2 ^ 63 - n) + 1))) (parts_glue 𝓛 δ a (2 ^ 63 - n) 1 (omega arith) (omega (arith, some))) $
          let less : (2 ^ 63 - n) + 1 ≡ 2 ^ 63 - (n - 1) = omega (arith, some, bound, few) in rewrite ! 0 (λ (x : ℕ). ‵ (pieces δ a x)) less refl $
          suffices ! _ (shuts I X) $ move ! (2 ∷ []) $ use1 𝓛 (raw (Told j hs 0)) (all_e 𝓤 (Told j hs) 0) $ settle 𝓛 Z (‵ (all_handles (set hs j 0)) ⊛ ‵ (Own j 0)) $ split ! $ suffices ! _ (upd_i 𝓤 Z) $
          -- [list; own place; pieces; word; lent]
          move ! (3 ∷ 2 ∷ 0 ∷ 4 ∷ []) $ group ! 4 $ use1 𝓛 (‵ I) (alive (n - 1) (w + p) (set hs j 0) (returned limit n w hs j p so_far pos at)) $ frame ! $ drop ! $ by ! (none_else n (all_of_it P b o limit δ t 0) more))))

      -- a handle with p parts looks
      pub looks_in : A.inv I ∗ ⟦ held P b o limit δ t p ⟧ ⊢ asks 𝓛 (block_ptr b o) (λ n. n) always (after_look P b o limit δ t p)
      looks_in = let after : ℕ → Fml = after_look P b o limit δ t p in
          inside I b o (λ n. n) after ⟦ held P b o limit δ t p ⟧ (found_by (λ n. n) after p (λ n w hs j at so_far. let X : Pr = ⟦ after n ⟧ in let Z : Pr = ⟦ I ⟧ ∗ X in
          let r = room limit n w hs j p so_far pos at in let Found : Type 0 = (0 < n) × (p ≡ limit → n ≡ 1) in let tells : Found = (r.1, alone limit n w hs j p so_far pos at) in dite (ℕ_discrete n 1)
          (λ one. qed 𝓛 (‵ (pieces δ a (2 ^ 63 - n)) ∷ raw (all 𝓤 (Told j hs)) ∷ ‵ lent ∷ ‵ (pieces δ a 1) ∷ []) ∵ assume ! (‵ (word b o n)) $
          rewrite ! 0 (λ (x : ℕ). ‵ (word b o x)) one refl $ keep ! (0 ∷ 1 ∷ 3 ∷ 4 ∷ []) $
          by ! (last n 1 X one (qed 𝓛 (‵ (all_of_it P b o limit δ t 1) ∷ []) ∵ use1 𝓛 (‵ (fall (n ≡ 1) (λ _. all_of_it P b o limit δ t 1))) (so (n ≡ 1) (all_of_it P b o limit δ t 1)) $
          use0 𝓛 (‵ (fall (n ≢ 1) (λ _. held P b o limit δ t p))) (none_left n (held P b o limit δ t p) one) $ move ! (1 ∷ 0 ∷ []) $ fjoin ! $ nothing ! $ fpack ! Found (λ _. ftrue) tells $ fjoin ! $ done !)))
          (λ more. qed 𝓛 (‵ (pieces δ a (2 ^ 63 - n)) ∷ raw (all 𝓤 (Told j hs)) ∷ ‵ lent ∷ ‵ (pieces δ a 1) ∷ []) ∵ assume ! (‵ (word b o n)) $
          suffices ! _ (shuts I X) $ move ! (2 ∷ []) $ use1 𝓛 (raw (Told j hs p)) (all_e 𝓤 (Told j hs) p) $ settle 𝓛 Z (‵ (all_handles (set hs j p)) ⊛ ‵ (Own j p)) $ split ! $ suffices ! _ (upd_i 𝓤 Z) $
          rewrite ! 0 (λ (hs' : List ℕ). ‵ (all_handles hs')) (set_again hs j p at) refl $
          -- [list; own place; word; pieces; lent; piece]
          move ! (5 ∷ 1 ∷ []) $ use2 𝓛 (‵ (held P b o limit δ t p)) (sits p j) $ move ! (2 ∷ 3 ∷ 1 ∷ 4 ∷ []) $ group ! 4 $ use1 𝓛 (‵ I) (alive n w hs so_far) $ frame ! $
          use1 𝓛 (‵ (fall (n ≢ 1) (λ _. held P b o limit δ t p))) (so (n ≢ 1) (held P b o limit δ t p)) $ use0 𝓛 (‵ (fall (n ≡ 1) (λ _. all_of_it P b o limit δ t 1))) (none_else n (all_of_it P b o limit δ t 1) more) $
          fjoin ! $ nothing ! $ fpack ! Found (λ _. ftrue) tells $ fjoin ! $ done !)))
