-- Writing through a page whose bytes are handed on to an output.
use Rattle.std.specs.Prelude.{◌≡◌, ℕ, ◌+◌, ◌≤◌, List, ◌++◌, length, take, Option, Result, Ok, Err}
use Rattle.gn_io.specs.Outside.{Rose, stopped, with_bytes}
use Rattle.gn_io.specs.declared.sink.Put.{Put}
use Rattle.gn_io.specs.declared.sink.Put.TheVariants.{All, Failed}
use Rattle.gn_obj.specs.declared.page.Unwritten.{Unwritten}

-- the bytes that wait on the page, and how many were handed on before them: a count that stops at 2^64 - 1
pub record PageBytes : Type 0 where
  pub waiting : List ℕ
  pub sent : ℕ

-- a text behind what is on the page
abbrev pub with_text : PageBytes → List ℕ → PageBytes
with_text page text = record { waiting = page.waiting ++ text; sent = page.sent }

-- what the output holds and how many of its calls failed, with the page before it
pub record Writer : Type 0 where
  pub held : Option (List ℕ)
  pub faults : ℕ
  pub page : PageBytes

abbrev pub writer : Option (List ℕ) → ℕ → PageBytes → Writer
writer held faults page = record { held = held; faults = faults; page = page }

-- one text more was written
pub record Grown (text : List ℕ) (before now : Writer) : Type 0 where
  pub put : List ℕ
  pub output : now.held ≡ with_bytes before.held put
  pub whole : put ++ now.page.waiting ≡ before.page.waiting ++ text
  pub sent : stopped now.page.sent ≡ stopped (before.page.sent + length put)
  pub faults : before.faults ≤ now.faults

-- the output failed, and took a front part of what waited and of the text
pub record Cut (text : List ℕ) (before now : Writer) : Type 0 where
  pub count : ℕ
  pub within : count ≤ length (before.page.waiting ++ text)
  pub output : now.held ≡ with_bytes before.held (take count (before.page.waiting ++ text))
  pub sent : stopped now.page.sent ≡ stopped (before.page.sent + count)
  pub rose : Rose before.faults now.faults
  pub faults : before.faults ≤ now.faults

-- a text was written behind the page, or the output failed
abbrev pub Writes : List ℕ → Writer → Writer → Result (Unit {0}) Unwritten → Type 0
Writes text before now (Ok _) = Grown text before now
Writes text before now (Err _) = Cut text before now

-- a text was written through the page to an output, or the output failed
abbrev pub Written : {K : Type 0} → List ℕ → (K → Option (List ℕ)) → (K → ℕ) → K → K → PageBytes → PageBytes → Result (Unit {0}) Unwritten → Type 0
Written text held faults out out' page page' result =
    Writes text (writer (held out) (faults out) page) (writer (held out') (faults out') page') result

-- the text went in whole, or a front part of it did, whose length is returned, up to 2^64 - 1
abbrev pub TakesText : List ℕ → Put → Option (List ℕ) → Option (List ℕ) → Type 0
TakesText text All before now = now ≡ with_bytes before text
TakesText text (Failed taken) before now =
    (count : ℕ) × (count ≤ length text) × (now ≡ with_bytes before (take count text)) × (taken ≡ stopped count)
