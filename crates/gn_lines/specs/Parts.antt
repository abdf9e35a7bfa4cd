-- The parts of a text at which a reader of lines stops.
use Rattle.std.specs.Prelude.{ℕ, ◌==◌, ◌||◌, Bool, [], ◌∷◌, Option, Some, None, if◌then◌else◌}
use Rattle.gn_lines.specs.Lines.{Text, is_blank, is_line_feed}

-- a text behind the blanks that it begins with
abbrev pub after_blanks : Text → Text
after_blanks [] = []
after_blanks (b ∷ text) = if is_blank b then after_blanks text else b ∷ text

-- a text from its first line feed on
abbrev pub from_line_feed : Text → Text
from_line_feed [] = []
from_line_feed (b ∷ text) = if is_line_feed b then b ∷ text else from_line_feed text

-- where a text begins with the end of a line, or with a comment, the text from that end on
abbrev pub from_end : Text → Option Text
from_end [] = Some []
from_end (b ∷ text) =
    if is_line_feed b then Some (b ∷ text) else (if b == 35 then Some (from_line_feed text) else None)

-- the same behind blanks
abbrev pub line_end : Text → Option Text
line_end text = from_end (after_blanks text)

abbrev pub is_separator : ℕ → Bool
is_separator b = is_blank b || is_line_feed b

-- the bytes up to a blank or a line feed, and the text behind them
abbrev pub word_at : Text → Text
word_at [] = []
word_at (b ∷ text) = if is_separator b then [] else b ∷ word_at text

abbrev pub after_word : Text → Text
after_word [] = []
after_word (b ∷ text) = if is_separator b then b ∷ text else after_word text
