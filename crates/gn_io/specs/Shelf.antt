-- What a call of `fetch` says by its answer.
use Rattle.std.specs.Prelude.{◌≡◌, ◌⊎◌, ℕ, ◌<◌, ◌≤◌, List, [], length, Option, Some, IfSome, IsSomeAnd}
use Rattle.gn_io.specs.declared.shelf.Fetched.{Fetched}
use Rattle.gn_io.specs.declared.shelf.Fetched.TheVariants.{Whole, Absent, TooLong, Failed, Memory}
use Rattle.gn_io.specs.Outside.{Files, Names, with_name}

-- the name was asked for: each call adds it, but one that found no memory may add nothing
abbrev pub AsksFor : List ℕ → Fetched → Option Names → Option Names → Type 0
AsksFor name Memory before now = (now ≡ with_name before name) ⊎ (now ≡ before)
AsksFor name _ before now = now ≡ with_name before name

-- the names answered `Absent` gain the name by that answer, and stay by every other
abbrev pub Misses : List ℕ → Fetched → Option Names → Option Names → Type 0
Misses name Absent before now = now ≡ with_name before name
Misses name _ before now = now ≡ before

-- the answer and the bytes that come with it are those of the file, if files are shown
abbrev pub Serves : Option Files → List ℕ → ℕ → List ℕ → Fetched → Type 0
Serves told name limit bytes Whole =
    (length bytes ≤ limit) × IfSome told (λ files. files name ≡ Some bytes)
Serves told name limit bytes (TooLong size) =
    (bytes ≡ []) × (limit < size) × IfSome told (λ files. IsSomeAnd (files name) (λ file. length file ≡ size))
Serves told name limit bytes _ = bytes ≡ []

-- a fact for the answer `Absent`
abbrev pub OnAbsent : Fetched → Type 0 → Type 0
OnAbsent Absent fact = fact
OnAbsent _ fact = Unit {0}

-- a fact for the answer `Failed`
abbrev pub OnFailedFetch : Fetched → Type 0 → Type 0
OnFailedFetch Failed fact = fact
OnFailedFetch _ fact = Unit {0}
