-- What a reader of lines does in one step.
use Rattle.std.specs.Prelude.{◌≡◌, ℕ, ◌+◌, ◌<◌, ◌≤◌, Bool, true, false, List, [], ◌∷◌, ◌++◌, filter, length}
use Rattle.gn_lines.specs.Lines.{Text, Line, is_word, lines_from, physical_lines, first_words, other_lines}
use Rattle.gn_lines.specs.declared.reader.Step.{Step}
use Rattle.gn_lines.specs.declared.reader.Step.TheVariants.{Word, End, Continued}

-- lines whose first has one word more
abbrev pub with_word : Text → List Line → List Line
with_word w [] = []
with_word w (l ∷ ls) = record { number = l.number; words = w ∷ l.words } ∷ ls

-- the lines of a text of which the first physical line has that number
abbrev pub lines_at : ℕ → Text → List Line
lines_at n text = lines_from n (physical_lines text)

-- the lines behind the line feed that a text begins with, where the line before it has that number
abbrev pub lines_past : ℕ → Text → List Line
lines_past n [] = lines_at n []
lines_past n (b ∷ text) = lines_at (n + 1) text

-- how many lines are behind the first
abbrev pub count_of_others : List Line → ℕ
count_of_others ls = length (other_lines ls)

-- the line that is read has no more words
abbrev pub IsAtEnd : List Line → List Line → Type 0
IsAtEnd old new = (first_words old ≡ []) × (first_words new ≡ [])

-- the reader went on to the next line, or there is none
abbrev pub IsNextLine : Bool → List Line → List Line → Type 0
IsNextLine true old new = new ≡ other_lines old
IsNextLine false old new = other_lines old ≡ []

-- the lines behind a line's end
abbrev pub lines_behind : ℕ → Text → List Line
lines_behind n [] = []
lines_behind n (b ∷ text) = lines_at (n + 1) text

-- the first of the lines has the words, and goes on as the first of the others
abbrev pub GoesOn : List Text → List Line → List Line → Type 0
GoesOn ws old new = (first_words old ≡ ws ++ first_words new) × (other_lines old ≡ other_lines new)

abbrev pub IsStep : Text → Step → Type 0
IsStep text (Word w behind) = ((n : ℕ) → lines_at n text ≡ with_word w.now (lines_at n behind.now)) × (length behind.now < length text)
IsStep text (End end) =
    ((n : ℕ) → lines_at n text ≡ record { number = n; words = [] } ∷ lines_behind n end.now)
    × ((n : ℕ) → lines_at n end.now ≡ record { number = n; words = [] } ∷ lines_behind n end.now)
    × (length end.now ≤ length text)
IsStep text (Continued w end) = ((n : ℕ) → GoesOn (filter is_word (w.now ∷ [])) (lines_at n text) (lines_past n end.now)) × (length end.now < length text)
