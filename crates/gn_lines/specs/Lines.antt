-- The lines of a text, and the words of a line.
use Rattle.std.specs.Prelude.{ℕ, ◌+◌, ◌-◌, ◌==◌, ◌&&◌, ◌||◌, nat_lt, Bool, false, List, [], ◌∷◌, ◌++◌, length, take, drop, filter, slice_index, if◌then◌else◌}
use Rattle.std.specs.List.{slice_split}

abbrev pub Text : Type 0
Text = List ℕ

abbrev pub is_line_feed : ℕ → Bool
is_line_feed b = b == 10

-- space, tab and carriage return
abbrev pub is_blank : ℕ → Bool
is_blank b = b == 32 || (b == 9 || b == 13)

-- ---- the words of one physical line

abbrev pub is_word : Text → Bool
is_word text = nat_lt 0 (length text)

-- what is between blanks
abbrev pub words : Text → List Text
words line = filter is_word (slice_split is_blank line)

-- `#` at the line's start or behind a blank is the first byte of a word
abbrev pub begins_comment : Text → Bool
begins_comment word = slice_index word 0 == 35

-- a comment is cut off together with what follows it
abbrev pub before_comment : List Text → List Text
before_comment [] = []
before_comment (w ∷ ws) = if begins_comment w then [] else w ∷ before_comment ws

abbrev pub plain_words : Text → List Text
plain_words line = before_comment (words line)

abbrev pub ends_with_backslash : Text → Bool
ends_with_backslash word = slice_index word (length word - 1) == 92

-- a line goes on in the next one where its last word ends with `\`
abbrev pub is_continued : List Text → Bool
is_continued [] = false
is_continued (w ∷ []) = ends_with_backslash w
is_continued (w ∷ v ∷ ws) = is_continued (v ∷ ws)

-- the words with a blank in place of that `\`
abbrev pub without_backslash : List Text → List Text
without_backslash [] = []
without_backslash (w ∷ []) = filter is_word (take (length w - 1) w ∷ [])
without_backslash (w ∷ v ∷ ws) = w ∷ without_backslash (v ∷ ws)

-- ---- lines

-- a line: the number of its first physical line, and its words
pub record Line : Type 0 where
  pub number : ℕ
  pub words : List Text

-- the words of a physical line of that number, with the line that it goes on in
abbrev pub joined : ℕ → List Text → List Line → List Line
joined n ws [] = record { number = n; words = ws } ∷ []
joined n ws (l ∷ ls) = record { number = n; words = ws ++ l.words } ∷ ls

-- one physical line before the lines of the text behind it
abbrev pub with_physical_line : ℕ → List Text → List Line → List Line
with_physical_line n ws ls =
    if is_continued ws then joined n (without_backslash ws) ls else record { number = n; words = ws } ∷ ls

-- the lines of physical lines of which the first has that number
abbrev pub lines_from : ℕ → List Text → List Line
lines_from n [] = []
lines_from n (p ∷ ps) = with_physical_line n (plain_words p) (lines_from (n + 1) ps)

-- the text behind a byte order mark
abbrev pub without_mark : Text → Text
without_mark (a ∷ b ∷ c ∷ text) = if a == 239 && (b == 187 && c == 191) then text else a ∷ b ∷ c ∷ text
without_mark text = text

-- what is between line feeds
abbrev pub physical_lines : Text → List Text
physical_lines text = slice_split is_line_feed text

unfoldable pub lines : Text → List Line
lines text = lines_from 1 (physical_lines (without_mark text))

-- the words of the first of some lines, and the lines behind it
abbrev pub first_words : List Line → List Text
first_words [] = []
first_words (l ∷ ls) = l.words

abbrev pub first_number : List Line → ℕ
first_number [] = 0
first_number (l ∷ ls) = l.number

abbrev pub other_lines : List Line → List Line
other_lines ls = drop 1 ls
