-- What a call of `put` says by its answer.
use Rattle.std.specs.Prelude.{◌≡◌, ℕ, ◌≤◌, List, length, take, Option}
use Rattle.gn_io.specs.declared.sink.Put.{Put}
use Rattle.gn_io.specs.declared.sink.Put.TheVariants.{All, Failed}
use Rattle.gn_io.specs.Outside.{with_bytes}

-- the bytes of the piece that went in, from its first on
abbrev pub Takes : List ℕ → Put → Option (List ℕ) → Option (List ℕ) → Type 0
Takes piece All before now = now ≡ with_bytes before piece
Takes piece (Failed taken) before now = (taken ≤ length piece) × (now ≡ with_bytes before (take taken piece))

-- a fact for the answer `Failed`
abbrev pub OnFailedPut : Put → Type 0 → Type 0
OnFailedPut (Failed taken) fact = fact
OnFailedPut All fact = Unit {0}
