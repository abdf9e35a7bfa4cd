-- What holds of a block between any two atomic steps on its users word, and what each handle holds of it.
-- The block is lent for a lifetime of its own, a round, whose token lies in 2 ^ 63 pieces: each handle has one, so the word is their number.
-- The name δ of the block is the same in every round; each piece says which round it is.
use Rattle.std.specs.Prelude.{◌≡◌, ◌≢◌, ℕ, ◌-◌, ◌^◌, ◌<◌, Bool, true, false, List, [], ◌∷◌}
use base.Share.{three_quarters}
use base.Stored.{coded_ℕ}
use base.Fml.{GName, Fml, fsep, fex, fall, fdead, flent}
use Rattle.core.specs.Sync.RawAtomic.{word}
use Rattle.atomic_table.specs.Seated.{fact, seen, roster}
use Rattle.counted_slot.specs.Counting.{parts as pieces, idle}
use Rattle.gn_block.specs.Parts.{AreDivided}

-- a round: its lifetime, and the name of its list of handles
abbrev pub Round : Type 0
Round = ℕ × GName

-- the handles, the parts that came back, and the parts of each handle
abbrev pub Division : Type 0
Division = ℕ × (ℕ × List ℕ)

-- P is what is lent, b and o the place of the word
module _ (P : Fml) (b o limit : ℕ) (δ : GName) (t : Round) where
  abbrev pub divided : Division → Fml
  divided s =
      fsep (word b o s.0)
      (fsep (fact (AreDivided limit s.0 s.1.0 s.1.1))
      (fsep (pieces δ t.0 (2 ^ 63 - s.0)) (fsep (roster coded_ℕ.code t.1 0 s.1.1) (flent (t.0 ∷ []) P))))

  abbrev pub while_alive : Bool → Fml
  while_alive true = fex Division divided
  while_alive false = fdead (t.0 ∷ [])

  -- what holds between any two steps
  abbrev pub Shared : Fml
  Shared = fex Bool while_alive

  -- the handle at place j of the list, with p parts
  abbrev pub seat : ℕ → ℕ → Fml
  seat p j = fsep (pieces δ t.0 1) (seen coded_ℕ.code t.1 j three_quarters p)

  -- what a handle with p parts holds
  abbrev pub held : ℕ → Fml
  held p = fex ℕ (seat p)

  -- the word n, what was lent, and the block's name
  abbrev pub all_of_it : ℕ → Fml
  all_of_it n = fsep (word b o n) (fsep (fdead (t.0 ∷ [])) (fsep (idle δ) (flent (t.0 ∷ []) P)))

  -- an Add, which gives k of p parts to a new handle
  abbrev pub after_add : ℕ → ℕ → ℕ → Fml
  after_add p k n = fsep (held (p - k)) (held k)

  -- a Go, which found n
  abbrev pub after_go : ℕ → Fml
  after_go n = fall (n ≡ 1) (λ _. all_of_it 0)

  -- a Look, which found n
  abbrev pub after_look : ℕ → ℕ → Fml
  after_look p n = fsep (fact ((0 < n) × (p ≡ limit → n ≡ 1))) (fsep (fall (n ≡ 1) (λ _. all_of_it 1)) (fall (n ≢ 1) (λ _. held p)))
