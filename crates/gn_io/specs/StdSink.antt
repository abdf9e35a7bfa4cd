-- What a sink over a writer has passed on to it.
use Rattle.std.specs.Prelude.{ℕ, ◌+◌, ◌≤◌, List, length, take, Option}
use Rattle.std.specs.Io.KnownBytes.{Appends}
use Rattle.gn_io.specs.declared.sink.Put.{Put}
use Rattle.gn_io.specs.declared.sink.Put.TheVariants.{All, Failed}
use Rattle.gn_io.specs.Outside.{stopped}

-- the writer, and how many calls failed
pub record CountedWriter (W : Type 0) : Type 0 where
  pub to : W
  pub faults : ℕ

-- the bytes that a writer holds, where it says so, grew by those that went in
abbrev pub Writes : List ℕ → Put → Option (List ℕ) → Option (List ℕ) → Type 0
Writes piece All before now = Appends before now piece
Writes piece (Failed taken) before now = (taken ≤ length piece) × Appends before now (take taken piece)

-- the count of faults after an answer
abbrev pub faults_after : ℕ → Put → ℕ
faults_after faults All = faults
faults_after faults (Failed taken) = stopped (faults + 1)
