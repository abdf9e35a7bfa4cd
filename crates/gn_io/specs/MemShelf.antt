-- A shelf over files in memory: what each call answers, and what the shelf shows of its calls.
use Rattle.std.specs.Prelude.{◌≡◌, ◌⊎◌, ℕ, ◌+◌, nat_eq, nat_le, Bool, true, false, List, [], ◌∷◌, ◌++◌, length, map, filter, count_by, Option, Some, None, bytes_eq, if◌then◌else◌}
use Rattle.std.specs.List.{list_any}
use Rattle.std.specs.Map.{lookup}
use Rattle.gn_io.specs.declared.shelf.Fetched.{Fetched}
use Rattle.gn_io.specs.declared.shelf.Fetched.TheVariants.{Whole, Absent, TooLong, Failed, Memory}
use Rattle.gn_io.specs.Outside.{Names, stopped}

-- the files by name, the numbers of the calls that fail and of those that find nothing, and the
-- calls so far, each with its name and its answer
pub record StoredFiles : Type 0 where
  pub files : List (List ℕ × List ℕ)
  pub fail : List ℕ
  pub miss : List ℕ
  pub calls : List (List ℕ × Fetched)

-- the bytes of the file of a name
abbrev pub file_of : StoredFiles → List ℕ → Option (List ℕ)
file_of s name = lookup (bytes_eq name) s.files

-- the answer is `Absent`
abbrev pub is_absent : Fetched → Bool
is_absent Absent = true
is_absent _ = false

-- the answer is `Failed`
abbrev pub is_failed : Fetched → Bool
is_failed Failed = true
is_failed _ = false

-- the names of all calls
abbrev pub asked_of : StoredFiles → Names
asked_of s = map (λ call. call.0) s.calls

-- the names of the calls that found nothing
abbrev pub missed_of : StoredFiles → Names
missed_of s = map (λ call. call.0) (filter (λ call. is_absent call.1) s.calls)

-- how many calls failed
abbrev pub faults_of : StoredFiles → ℕ
faults_of s = stopped (count_by (λ call. is_failed call.1) s.calls)

-- how many calls found nothing
abbrev pub misses_of : StoredFiles → ℕ
misses_of s = stopped (count_by (λ call. is_absent call.1) s.calls)

-- a file that is there is given whole within the limit
abbrev pub answer_within : ℕ → Option (List ℕ) → Fetched
answer_within limit None = Absent
answer_within limit (Some file) = if nat_le (length file) limit then Whole else TooLong (length file)

-- the number is one of these
abbrev pub is_listed : ℕ → List ℕ → Bool
is_listed number numbers = list_any (λ n. nat_eq n number) numbers

-- the answer to the next call, where there is memory
abbrev pub answer_of : StoredFiles → List ℕ → ℕ → Fetched
answer_of s name limit =
    if is_listed (length s.calls + 1) s.fail then Failed
    else (if is_listed (length s.calls + 1) s.miss then Absent else answer_within limit (file_of s name))

-- a call answered as it must, or found no memory
abbrev pub AnswersAs : Fetched → Fetched → Type 0
AnswersAs answer Memory = Unit {0}
AnswersAs answer result = result ≡ answer

-- the bytes of the file come with the answer `Whole`, and none with every other
abbrev pub GivesFile : Option (List ℕ) → Fetched → List ℕ → Type 0
GivesFile file Whole bytes = file ≡ Some bytes
GivesFile file _ bytes = bytes ≡ []

-- the shelf after one more call
abbrev pub with_call : StoredFiles → List ℕ → Fetched → StoredFiles
with_call s name answer = record s { calls = s.calls ++ (name, answer) ∷ [] }

-- a call was recorded with its answer, and nothing else is new; one that found no memory may be left out
abbrev pub Records : StoredFiles → List ℕ → Fetched → StoredFiles → Type 0
Records s name Memory t = (t ≡ with_call s name Memory) ⊎ (t ≡ s)
Records s name answer t = t ≡ with_call s name answer
