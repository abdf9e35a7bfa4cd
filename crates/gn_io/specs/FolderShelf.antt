-- What a shelf over files of the current folder counts.
use Rattle.std.specs.Prelude.{◌≡◌, ℕ, ◌+◌, ◌<◌, ◌≤◌, List, [], length}
use Rattle.gn_io.specs.declared.shelf.Fetched.{Fetched}
use Rattle.gn_io.specs.declared.shelf.Fetched.TheVariants.{Whole, Absent, TooLong, Failed}
use Rattle.gn_io.specs.Outside.{stopped}

-- how many calls failed and how many found no file
pub record FileCounts : Type 0 where
  pub faults : ℕ
  pub misses : ℕ

-- the counts after an answer
abbrev pub counted : FileCounts → Fetched → FileCounts
counted c Failed = record c { faults = stopped (c.faults + 1) }
counted c Absent = record c { misses = stopped (c.misses + 1) }
counted c _ = c

-- a file is read no further than one byte past the limit
abbrev pub IsOnePast : ℕ → Fetched → Type 0
IsOnePast limit (TooLong size) = size ≡ limit + 1
IsOnePast limit _ = Unit {0}

-- what a reader with these bytes left answers under a limit, and the bytes that come with the answer: all of them within the limit, none beyond it
abbrev pub Reads : ℕ → List ℕ → Fetched → List ℕ → Type 0
Reads limit bytes Whole given = (given ≡ bytes) × (length bytes ≤ limit)
Reads limit bytes (TooLong size) given = (given ≡ []) × (limit < length bytes) × (size ≡ limit + 1)
Reads limit bytes _ given = ⊥

-- the answers to a reader that reports no fault
abbrev pub IsWholeOrLong : Fetched → Type 0
IsWholeOrLong Whole = Unit {0}
IsWholeOrLong (TooLong size) = Unit {0}
IsWholeOrLong _ = ⊥
