-- A sink into memory of a fixed room: what each call takes and answers.
use Rattle.std.specs.Prelude.{ℕ, ◌+◌, ◌-◌, nat_eq, nat_lt, min, Bool, ◌||◌, List, ◌++◌, length, take, find, Option, is_some, option_map, unwrap_or, if◌then◌else◌}
use Rattle.gn_io.specs.declared.sink.Put.{Put}
use Rattle.gn_io.specs.declared.sink.Put.TheVariants.{All, Failed}
use Rattle.gn_io.specs.Outside.{stopped}

-- the calls that fail, each with the most that it takes, how many bytes there is room for, the bytes
-- taken so far, how many calls there were, and how many of them failed
pub record StoredBytes : Type 0 where
  pub fail : List (ℕ × ℕ)
  pub room : ℕ
  pub held : List ℕ
  pub calls : ℕ
  pub faults : ℕ

-- the most that a call takes, by the first entry of its number
abbrev pub most_at : List (ℕ × ℕ) → ℕ → Option ℕ
most_at fail call = option_map (λ entry. entry.1) (find (λ entry. nat_eq entry.0 call) fail)

-- the number of the next call
abbrev pub next_call : StoredBytes → ℕ
next_call s = stopped (s.calls + 1)

-- how many bytes of a piece the next call takes: by its entry, the piece and the room that is left
abbrev pub taken_of : StoredBytes → List ℕ → ℕ
taken_of s piece =
    min (min (unwrap_or (most_at s.fail (next_call s)) (length piece)) (length piece)) (s.room - length s.held)

-- the next call fails where it has an entry or not all of the piece fits
abbrev pub is_failing : StoredBytes → List ℕ → Bool
is_failing s piece = is_some (most_at s.fail (next_call s)) || nat_lt (taken_of s piece) (length piece)

-- the answer of the next call
abbrev pub put_answer : StoredBytes → List ℕ → Put
put_answer s piece = if is_failing s piece then Failed (taken_of s piece) else All

-- the sink after the next call
abbrev pub after_put : StoredBytes → List ℕ → StoredBytes
after_put s piece = record s {
  held = s.held ++ take (taken_of s piece) piece;
  calls = next_call s;
  faults = if is_failing s piece then stopped (s.faults + 1) else s.faults;
}
