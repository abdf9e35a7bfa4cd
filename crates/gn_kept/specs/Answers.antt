-- What is kept of the files that were asked for, and what a call for a name says by its answer.
use Rattle.std.specs.Prelude.{◌≡◌, ◌⊎◌, ℕ, ◌<◌, ◌≤◌, List, [], ◌∷◌, ◌++◌, length, Option, Some, None, IfSome, IsSomeAnd, bytes_eq}
use Rattle.std.specs.Map.{lookup}
use Rattle.gn_io.specs.Files.{FileAnswer, whole, absent, too_long}
use Rattle.gn_io.specs.Outside.{Files, Names, with_name}
use Rattle.gn_kept.specs.declared.kept.Got.{Got}
use Rattle.gn_kept.specs.declared.kept.Got.TheVariants.{Whole, Absent, TooLong, Failed, Memory}

-- names with what is kept for them, in the order in which they were asked for
abbrev pub Answers : Type 0
Answers = List (List ℕ × FileAnswer)

-- what is kept for a name
abbrev pub kept_for : Answers → List ℕ → Option FileAnswer
kept_for answers name = lookup (bytes_eq name) answers

-- what an answer says of the file; a fault and want of memory say nothing
abbrev pub said : Got → Option FileAnswer
said (Whole bytes) = Some (whole bytes.items)
said Absent = Some absent
said (TooLong size) = Some (too_long size)
said _ = None

-- what is kept is given, unless there is no memory for it
abbrev pub IsAgain : FileAnswer → Got → Type 0
IsAgain answer Memory = Unit {0}
IsAgain answer got = said got ≡ Some answer

-- what an answer says is kept under the name, behind what was kept before
abbrev pub with_answer : List ℕ → Option FileAnswer → Answers → Answers
with_answer name None answers = answers
with_answer name (Some answer) answers = answers ++ (name, answer) ∷ []

-- the name was asked for: each answer adds it, but want of memory may add nothing
abbrev pub Asks : List ℕ → Got → Option Names → Option Names → Type 0
Asks name Memory before now = (now ≡ with_name before name) ⊎ (now ≡ before)
Asks name _ before now = now ≡ with_name before name

-- the names answered `Absent` gain the name by that answer, may gain it where there is no memory, and stay by every other
abbrev pub Misses : List ℕ → Got → Option Names → Option Names → Type 0
Misses name Absent before now = now ≡ with_name before name
Misses name Memory before now = (now ≡ with_name before name) ⊎ (now ≡ before)
Misses name _ before now = now ≡ before

-- the bytes are within the limit, a length is above it, and both are the file's, if the shelf shows its files
abbrev pub IsOfFile : Option Files → List ℕ → ℕ → Got → Type 0
IsOfFile told name limit (Whole bytes) = (length bytes.items ≤ limit) × IfSome told (λ files. files name ≡ Some bytes.items)
IsOfFile told name limit (TooLong size) = (limit < size) × IfSome told (λ files. IsSomeAnd (files name) (λ file. length file ≡ size))
IsOfFile told name limit _ = Unit {0}

-- a fact for the answer `Absent`
abbrev pub OnAbsent : Got → Type 0 → Type 0
OnAbsent Absent fact = fact
OnAbsent _ fact = Unit {0}

-- a fact for the answer `Failed`
abbrev pub OnFailed : Got → Type 0 → Type 0
OnFailed Failed fact = fact
OnFailed _ fact = Unit {0}
