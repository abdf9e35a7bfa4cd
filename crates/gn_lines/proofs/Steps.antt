-- How the parts of a text that a reader stops at show in its lines.
use Rattle.std.proofs.Common.{◌≡◌, ℕ, ◌+◌, ◌-◌, ◌<◌, ◌≤◌, Bool, true, false, cond, ◌==◌, List, [], ◌∷◌, length, take, drop, filter, Option, Some, None, refl, sym, ◌∙◌, ap, subst, arith, append-nil, length-drop}
use Rattle.std.specs.List.{slice_split, onto_first}
use Rattle.std.proofs.lemmas.Bool.Decides.{nat_tests}
use Rattle.std.proofs.lemmas.List.Splits.{slice_split-cons_yes, slice_split-cons_no}
use Rattle.gn_lines.specs.Lines.{Text, Line, is_line_feed, is_blank, is_word, words, begins_comment, before_comment, plain_words, ends_with_backslash, is_continued, without_backslash, joined, with_physical_line, lines_from, physical_lines, first_words, first_number, other_lines}
use Rattle.gn_lines.specs.Parts.{after_blanks, from_line_feed, from_end, line_end, is_separator, word_at, after_word}
use Rattle.gn_lines.specs.Steps.{with_word, lines_at, lines_past, lines_behind, GoesOn}

-- ---- the first physical line of a text, and the others

abbrev first_part : List Text → Text
first_part [] = []
first_part (p ∷ ps) = p

abbrev first : Text → Text
first text = first_part (physical_lines text)

abbrev others : Text → List Text
others text = drop 1 (physical_lines text)

onto : (b : ℕ) (p : Text) (ps : List (Text)) (xs : List Text) → xs ≡ p ∷ ps → onto_first b xs ≡ (b ∷ p) ∷ ps
onto b p ps xs h = rw h refl

parts_at : (b : ℕ) (text : Text) (c : Bool) → physical_lines text ≡ first text ∷ others text → cond c ([] ∷ physical_lines text) (onto_first b (physical_lines text)) ≡ first_part (cond c ([] ∷ physical_lines text) (onto_first b (physical_lines text))) ∷ drop 1 (cond c ([] ∷ physical_lines text) (onto_first b (physical_lines text)))
parts_at b text true h = refl
parts_at b text false h = let e = onto b _ _ _ h in rw e refl

parts : (text : Text) → physical_lines text ≡ first text ∷ others text
parts [] = refl
parts (b ∷ text) = parts_at b text (is_line_feed b) (parts text)

-- a byte before a text that is no line feed
more : (b : ℕ) (text : Text) → is_line_feed b ≡ false → physical_lines (b ∷ text) ≡ (b ∷ first text) ∷ others text
more b text h = slice_split-cons_no is_line_feed b text h ∙ onto b _ _ _ (parts text)

first-more : (b : ℕ) (text : Text) → is_line_feed b ≡ false → first (b ∷ text) ≡ b ∷ first text
first-more b text h = ap first_part (more b text h)

others-more : (b : ℕ) (text : Text) → is_line_feed b ≡ false → others (b ∷ text) ≡ others text
others-more b text h = ap (λ ps. drop 1 ps) (more b text h)

-- a line feed before a text
feed : (b : ℕ) (text : Text) → is_line_feed b ≡ true → physical_lines (b ∷ text) ≡ [] ∷ physical_lines text
feed b text h = slice_split-cons_yes is_line_feed b text h

lines-parts : (n : ℕ) (text : Text) → lines_at n text ≡ with_physical_line n (plain_words (first text)) (lines_from (n + 1) (others text))
lines-parts n text = ap (lines_from n) (parts text)

-- ---- blanks

blank-no_feed : (b : ℕ) → is_blank b ≡ true → is_line_feed b ≡ false
blank-no_feed b h = grind (arith, nat_tests)

words-blank : (b : ℕ) (line : Text) → is_blank b ≡ true → words (b ∷ line) ≡ words line
words-blank b line h = ap (filter is_word) (slice_split-cons_yes is_blank b line h)

-- two texts of the same words and lines
abbrev Same : Text → Text → Type 0
Same u t = (words (first u) ≡ words (first t)) × (others u ≡ others t)

skipped-at : (b : ℕ) (text : Text) (c : Bool) → is_blank b ≡ c → Same (after_blanks text) text → Same (cond c (after_blanks text) (b ∷ text)) (b ∷ text)
skipped-at b text false h k = (refl, refl)
skipped-at b text true h k =
    let no = blank-no_feed b h in
    (k.0 ∙ sym (words-blank b (first text) h) ∙ sym (ap words (first-more b text no)), k.1 ∙ sym (others-more b text no))

skipped : (text : Text) → Same (after_blanks text) text
skipped [] = (refl, refl)
skipped (b ∷ text) = skipped-at b text (is_blank b) refl (skipped text)

abbrev BeginsPlain : Text → Type 0
BeginsPlain [] = Unit {0}
BeginsPlain (b ∷ text) = is_blank b ≡ false

plain-at : (b : ℕ) (text : Text) (c : Bool) → is_blank b ≡ c → BeginsPlain (after_blanks text) → BeginsPlain (cond c (after_blanks text) (b ∷ text))
plain-at b text true h k = k
plain-at b text false h k = h

plain : (text : Text) → BeginsPlain (after_blanks text)
plain [] = tt
plain (b ∷ text) = plain-at b text (is_blank b) refl (plain text)

shorter-at : (b : ℕ) (text : Text) (c : Bool) → length (after_blanks text) ≤ length text → length (cond c (after_blanks text) (b ∷ text)) ≤ length (b ∷ text)
shorter-at b text true h = omega arith
shorter-at b text false h = omega arith

shorter : (text : Text) → length (after_blanks text) ≤ length text
shorter [] = omega arith
shorter (b ∷ text) = shorter-at b text (is_blank b) (shorter text)

-- ---- words

separator : (b : ℕ) → is_separator b ≡ false → (is_blank b ≡ false) × (is_line_feed b ≡ false)
separator b h = (grind (arith, nat_tests), grind (arith, nat_tests))

abbrev split : Text → List Text
split text = slice_split is_blank (first text)

-- the words of a text's first line: the one at its front, and those behind it
abbrev Splits : Text → Text → Text → Type 0
Splits u w q = (split u ≡ w ∷ drop 1 (split q)) × (others u ≡ others q)

starts : (xs ys : List Text) → xs ≡ [] ∷ ys → xs ≡ [] ∷ drop 1 xs
starts xs ys h = rw h refl

separate-at : (b : ℕ) (text : Text) (c : Bool) → is_line_feed b ≡ c → is_separator b ≡ true → split (b ∷ text) ≡ [] ∷ drop 1 (split (b ∷ text))
separate-at b text true h k = starts (split (b ∷ text)) [] (ap (λ ps. slice_split is_blank (first_part ps)) (feed b text h))
separate-at b text false h k =
    let blank : is_blank b ≡ true = grind (arith, nat_tests) in
    starts (split (b ∷ text)) (split text) (ap (slice_split is_blank) (first-more b text h) ∙ slice_split-cons_yes is_blank b (first text) blank)

separate : (b : ℕ) (text : Text) → is_separator b ≡ true → split (b ∷ text) ≡ [] ∷ drop 1 (split (b ∷ text))
separate b text h = separate-at b text (is_line_feed b) refl h

word-at : (b : ℕ) (text : Text) (c : Bool) → is_separator b ≡ c → Splits text (word_at text) (after_word text) → Splits (b ∷ text) (cond c [] (b ∷ word_at text)) (cond c (b ∷ text) (after_word text))
word-at b text true h k = (separate b text h, refl)
word-at b text false h k =
    let s = separator b h in
    ((ap (slice_split is_blank) (first-more b text s.1) ∙ slice_split-cons_no is_blank b (first text) s.0) ∙ onto b _ _ _ k.0, others-more b text s.1 ∙ k.1)

word : (text : Text) → Splits text (word_at text) (after_word text)
word [] = (refl, refl)
word (b ∷ text) = word-at b text (is_separator b) refl (word text)

-- the text behind a word begins with no word
stop-at : (b : ℕ) (text : Text) (c : Bool) → is_separator b ≡ c → (word_at (after_word text) ≡ []) × (after_word (after_word text) ≡ after_word text) → (word_at (cond c (b ∷ text) (after_word text)) ≡ []) × (after_word (cond c (b ∷ text) (after_word text)) ≡ cond c (b ∷ text) (after_word text))
stop-at b text true h k = (rw h refl, rw h refl)
stop-at b text false h k = k

stop : (text : Text) → (word_at (after_word text) ≡ []) × (after_word (after_word text) ≡ after_word text)
stop [] = (refl, refl)
stop (b ∷ text) = stop-at b text (is_separator b) refl (stop text)

no_word : (q : Text) → word_at q ≡ [] → after_word q ≡ q → words (first q) ≡ filter is_word (drop 1 (split q))
no_word q h k =
    let e : split q ≡ [] ∷ drop 1 (split q) = (word q).0 ∙ ap (λ w. w ∷ drop 1 (split (after_word q))) h ∙ ap (λ r. [] ∷ drop 1 (split r)) k in
    ap (filter is_word) e

kept : (w : Text) (ws : List Text) → is_word w ≡ true → filter is_word (w ∷ ws) ≡ w ∷ filter is_word ws
kept w ws h = rw h refl

first_word : (u : Text) → is_word (word_at u) ≡ true → words (first u) ≡ word_at u ∷ words (first (after_word u))
first_word u h =
    let s = stop u in
    let q = no_word (after_word u) s.0 s.1 in
    ap (filter is_word) (word u).0 ∙ kept (word_at u) (drop 1 (split (after_word u))) h ∙ ap (λ ws. word_at u ∷ ws) (sym q)

-- ---- the end of a line

abbrev parts_behind : Text → List Text
parts_behind [] = []
parts_behind (b ∷ text) = physical_lines text

behind : (n : ℕ) (end : Text) → lines_from (n + 1) (parts_behind end) ≡ lines_behind n end
behind n [] = refl
behind n (b ∷ text) = refl

-- a text from the end of its line on
record AtEnd (end : Text) : Type 0 where
  no_words : plain_words (first end) ≡ []
  rest : others end ≡ parts_behind end

feed-end : (b : ℕ) (text : Text) → is_line_feed b ≡ true → AtEnd (b ∷ text)
feed-end b text h = record { no_words = ap (λ ps. plain_words (first_part ps)) (feed b text h); rest = ap (λ ps. drop 1 ps) (feed b text h) }

record EndsAt (text end : Text) : Type 0 where
  at : AtEnd end
  rest : others text ≡ parts_behind end
  short : length end ≤ length text

feed_at : (b : ℕ) (text : Text) (c : Bool) → is_line_feed b ≡ c → EndsAt text (from_line_feed text) → EndsAt (b ∷ text) (cond c (b ∷ text) (from_line_feed text))
feed_at b text true h k = record { at = feed-end b text h; rest = ap (λ ps. drop 1 ps) (feed b text h); short = omega arith }
feed_at b text false h k = let s = k.short in record { at = k.at; rest = others-more b text h ∙ k.rest; short = omega arith }

to_feed : (text : Text) → EndsAt text (from_line_feed text)
to_feed [] = record { at = record { no_words = refl; rest = refl }; rest = refl; short = omega arith }
to_feed (b ∷ text) = feed_at b text (is_line_feed b) refl (to_feed text)

-- ---- a text behind blanks

-- a text that begins with a plain word
record BeginsWord (u : Text) : Type 0 where
  words : plain_words (first u) ≡ word_at u ∷ plain_words (first (after_word u))
  rest : others u ≡ others (after_word u)
  some : 0 < length (word_at u)
  short : length (after_word u) < length u

-- a text that begins with the end of a line
record BeginsEnd (u end : Text) : Type 0 where
  no_words : plain_words (first u) ≡ []
  ends : EndsAt u end

behind_word-at : (b : ℕ) (text : Text) (c : Bool) → length (after_word text) ≤ length text → length (cond c (b ∷ text) (after_word text)) ≤ length (b ∷ text)
behind_word-at b text true h = omega arith
behind_word-at b text false h = omega arith

behind_word : (text : Text) → length (after_word text) ≤ length text
behind_word [] = omega arith
behind_word (b ∷ text) = behind_word-at b text (is_separator b) (behind_word text)

uncommented : (w : Text) (ws : List Text) → begins_comment w ≡ false → before_comment (w ∷ ws) ≡ w ∷ before_comment ws
uncommented w ws h = rw h refl

commented : (w : Text) (ws : List Text) → begins_comment w ≡ true → before_comment (w ∷ ws) ≡ []
commented w ws h = rw h refl

word_more : (b : ℕ) (text : Text) → is_separator b ≡ false → (word_at (b ∷ text) ≡ b ∷ word_at text) × (after_word (b ∷ text) ≡ after_word text)
word_more b text h = (rw h refl, rw h refl)

some_word : (b : ℕ) (w : Text) → is_word (b ∷ w) ≡ true
some_word b w = grind (arith, nat_tests)

begins_word : (b : ℕ) (text : Text) → is_blank b ≡ false → is_line_feed b ≡ false → (b == 35) ≡ false → BeginsWord (b ∷ text)
begins_word b text h k m =
    let sep : is_separator b ≡ false = grind (arith, nat_tests) in
    let e = word_more b text sep in
    let w = first_word (b ∷ text) (rw e.0 (some_word b (word_at text))) in
    let short = behind_word text in
    record {
      words = ap before_comment w ∙ uncommented (word_at (b ∷ text)) (words (first (after_word (b ∷ text)))) (rw e.0 m);
      rest = (word (b ∷ text)).1;
      some = rw e.0 (omega arith);
      short = rw e.1 (omega arith);
    }

begins_comment_end : (b : ℕ) (text : Text) → (b == 35) ≡ true → BeginsEnd (b ∷ text) (from_line_feed text)
begins_comment_end b text m =
    let sep : is_separator b ≡ false = grind (arith, nat_tests) in
    let no : is_line_feed b ≡ false = grind (arith, nat_tests) in
    let e = word_more b text sep in
    let w = first_word (b ∷ text) (rw e.0 (some_word b (word_at text))) in
    let to = to_feed text in
    let short = to.short in
    record {
      no_words = ap before_comment w ∙ commented (word_at (b ∷ text)) (words (first (after_word (b ∷ text)))) (rw e.0 m);
      ends = record { at = to.at; rest = others-more b text no ∙ to.rest; short = omega arith };
    }

begins_feed : (b : ℕ) (text : Text) → is_line_feed b ≡ true → BeginsEnd (b ∷ text) (b ∷ text)
begins_feed b text h =
    let at = feed-end b text h in
    record { no_words = at.no_words; ends = record { at = at; rest = at.rest; short = omega arith } }

-- what a text begins with
abbrev Begins : Text → Option Text → Type 0
Begins u None = BeginsWord u
Begins u (Some end) = BeginsEnd u end

begins-at : (b : ℕ) (text : Text) (c d : Bool) → is_blank b ≡ false → is_line_feed b ≡ c → (b == 35) ≡ d → Begins (b ∷ text) (cond c (Some (b ∷ text)) (cond d (Some (from_line_feed text)) None))
begins-at b text true d p h k = begins_feed b text h
begins-at b text false true p h k = begins_comment_end b text k
begins-at b text false false p h k = begins_word b text p h k

begins : (u : Text) → BeginsPlain u → Begins u (from_end u)
begins [] p = record { no_words = refl; ends = record { at = record { no_words = refl; rest = refl }; rest = refl; short = omega arith } }
begins (b ∷ text) p = begins-at b text (is_line_feed b) (b == 35) p refl refl

begins_behind_blanks : (text : Text) (o : Option Text) → o ≡ line_end text → Begins (after_blanks text) o
begins_behind_blanks text o h = subst (Begins (after_blanks text)) (sym h) (begins (after_blanks text) (plain text))

-- ---- the lines of a text

no_words_left : (text : Text) → plain_words (first (after_blanks text)) ≡ plain_words (first text)
no_words_left text = ap before_comment (skipped text).0

lines-shape : (n : ℕ) (text : Text) (ws : List Text) (ps : List Text) → plain_words (first text) ≡ ws → others text ≡ ps → lines_at n text ≡ with_physical_line n ws (lines_from (n + 1) ps)
lines-shape n text ws ps h k = lines-parts n text ∙ ap (λ xs. with_physical_line n xs (lines_from (n + 1) (others text))) h ∙ ap (λ qs. with_physical_line n ws (lines_from (n + 1) qs)) k

at_end : (n : ℕ) (end : Text) → AtEnd end → lines_at n end ≡ record { number = n; words = [] } ∷ lines_behind n end
at_end n end a =
    lines-shape n end [] (parts_behind end) a.no_words a.rest ∙ ap (λ ls. record { number = n; words = [] } ∷ ls) (behind n end)

before_end : (n : ℕ) (text end : Text) → plain_words (first text) ≡ [] → others text ≡ parts_behind end → lines_at n text ≡ record { number = n; words = [] } ∷ lines_behind n end
before_end n text end h k =
    lines-shape n text [] (parts_behind end) h k ∙ ap (λ ls. record { number = n; words = [] } ∷ ls) (behind n end)

pub end_of_line : (text end : Text) → Some end ≡ line_end text → ((n : ℕ) → lines_at n text ≡ record { number = n; words = [] } ∷ lines_behind n end) × ((n : ℕ) → lines_at n end ≡ record { number = n; words = [] } ∷ lines_behind n end) × (length end ≤ length text)
end_of_line text end h =
    let b : BeginsEnd (after_blanks text) end = begins_behind_blanks text (Some end) h in
    let e = b.ends in
    let s = shorter text in
    let k = e.short in
    (λ n. before_end n text end (sym (no_words_left text) ∙ b.no_words) (sym (skipped text).1 ∙ e.rest), λ n. at_end n end e.at, omega arith)

more_words-at : (n : ℕ) (w v : Text) (vs ws : List Text) (ls : List Line) (c : Bool) → cond c (joined n (w ∷ ws) ls) (record { number = n; words = w ∷ v ∷ vs } ∷ ls) ≡ with_word w (cond c (joined n ws ls) (record { number = n; words = v ∷ vs } ∷ ls))
more_words-at n w v vs ws [] true = refl
more_words-at n w v vs ws (l ∷ ls) true = refl
more_words-at n w v vs ws ls false = refl

more_words : (n : ℕ) (w : Text) (ws : List Text) (ls : List Line) → (ws ≡ [] → ends_with_backslash w ≡ false) → with_physical_line n (w ∷ ws) ls ≡ with_word w (with_physical_line n ws ls)
more_words n w [] ls h = let e = h refl in rw e refl
more_words n w (v ∷ vs) ls h = more_words-at n w v vs (without_backslash (v ∷ vs)) ls (is_continued (v ∷ vs))

-- a word, unless it is the last and ends with a backslash
word_of_line : (text : Text) → None ≡ line_end text → (plain_words (first (after_word (after_blanks text))) ≡ [] → ends_with_backslash (word_at (after_blanks text)) ≡ false) → ((n : ℕ) → lines_at n text ≡ with_word (word_at (after_blanks text)) (lines_at n (after_word (after_blanks text)))) × (length (after_word (after_blanks text)) < length text)
word_of_line text h k =
    let u = after_blanks text in
    let q = after_word u in
    let b : BeginsWord u = begins_behind_blanks text None h in
    let s = shorter text in
    let m = b.short in
    let words : plain_words (first text) ≡ word_at u ∷ plain_words (first q) = sym (no_words_left text) ∙ b.words in
    let rest : others text ≡ others q = sym (skipped text).1 ∙ b.rest in
    (λ n. lines-shape n text (word_at u ∷ plain_words (first q)) (others q) words rest ∙ more_words n (word_at u) (plain_words (first q)) (lines_from (n + 1) (others q)) k ∙ ap (with_word (word_at u)) (sym (lines-parts n q)), omega arith)

pub word_without_backslash : (text : Text) → None ≡ line_end text → ends_with_backslash (word_at (after_blanks text)) ≡ false → ((n : ℕ) → lines_at n text ≡ with_word (word_at (after_blanks text)) (lines_at n (after_word (after_blanks text)))) × (length (after_word (after_blanks text)) < length text)
word_without_backslash text h k = word_of_line text h (λ e. k)

absurd_word : (w : Text) (ws : List Text) (P : Type 0) → w ∷ ws ≡ [] → P
absurd_word w ws P h = cc

pub word_before_words : (text : Text) → None ≡ line_end text → None ≡ line_end (after_word (after_blanks text)) → ((n : ℕ) → lines_at n text ≡ with_word (word_at (after_blanks text)) (lines_at n (after_word (after_blanks text)))) × (length (after_word (after_blanks text)) < length text)
word_before_words text h k =
    let q = after_word (after_blanks text) in
    let b : BeginsWord (after_blanks q) = begins_behind_blanks q None k in
    word_of_line text h (λ e. absurd_word (word_at (after_blanks q)) (plain_words (first (after_word (after_blanks q)))) (ends_with_backslash (word_at (after_blanks text)) ≡ false) (sym b.words ∙ no_words_left q ∙ e))

some_at : (n : ℕ) (ws vs : List Text) (ls : List Line) (c : Bool) → 0 < length (cond c (joined n vs ls) (record { number = n; words = ws } ∷ ls))
some_at n ws vs ls false = omega arith
some_at n ws vs [] true = omega arith
some_at n ws vs (l ∷ ls) true = omega arith

some_lines : (n : ℕ) (text : Text) → 0 < length (lines_at n text)
some_lines n text = rw (lines-parts n text) (some_at n (plain_words (first text)) (without_backslash (plain_words (first text))) (lines_from (n + 1) (others text)) (is_continued (plain_words (first text))))

joined-goes_on : (n : ℕ) (ws : List Text) (ls : List Line) → 0 < length ls → GoesOn ws (joined n ws ls) ls
joined-goes_on n ws [] h = absurd (omega arith)
joined-goes_on n ws (l ∷ ls) h = (refl, refl)

goes_on : (n : ℕ) (ws : List Text) (end : Text) → GoesOn ws (joined n ws (lines_behind n end)) (lines_past n end)
goes_on n ws [] = (sym (append-nil ws), refl)
goes_on n ws (b ∷ text) = joined-goes_on n ws (lines_at (n + 1) text) (some_lines (n + 1) text)

last_word : (n : ℕ) (w : Text) (ws : List Text) (ls : List Line) → ws ≡ [] → ends_with_backslash w ≡ true → with_physical_line n (w ∷ ws) ls ≡ joined n (filter is_word (take (length w - 1) w ∷ [])) ls
last_word n w [] ls h k = rw k refl
last_word n w (v ∷ vs) ls h k = cc

pub word_with_backslash : (text end : Text) → None ≡ line_end text → ends_with_backslash (word_at (after_blanks text)) ≡ true → Some end ≡ line_end (after_word (after_blanks text)) → ((n : ℕ) → GoesOn (filter is_word (take (length (word_at (after_blanks text)) - 1) (word_at (after_blanks text)) ∷ [])) (lines_at n text) (lines_past n end)) × (length end < length text)
word_with_backslash text end h k m =
    let u = after_blanks text in
    let w = word_at u in
    let q = after_word u in
    let b : BeginsWord u = begins_behind_blanks text None h in
    let e : BeginsEnd (after_blanks q) end = begins_behind_blanks q (Some end) m in
    let ends = e.ends in
    let s = shorter text in
    let t = shorter q in
    let d = b.short in
    let f = ends.short in
    let words : plain_words (first text) ≡ w ∷ plain_words (first q) = sym (no_words_left text) ∙ b.words in
    let rest : others text ≡ parts_behind end = sym (skipped text).1 ∙ b.rest ∙ sym (skipped q).1 ∙ ends.rest in
    let last : plain_words (first q) ≡ [] = sym (no_words_left q) ∙ e.no_words in
    let front = filter is_word (take (length w - 1) w ∷ []) in (
      λ n. subst (λ (ls : List Line). GoesOn front ls (lines_past n end))
          (sym (lines-shape n text (w ∷ plain_words (first q)) (parts_behind end) words rest ∙ last_word n w (plain_words (first q)) (lines_from (n + 1) (parts_behind end)) last k ∙ ap (joined n front) (behind n end)))
          (goes_on n front end),
      omega arith,
    )

-- ---- the line that is read

first_number-at : (n : ℕ) (ws vs : List Text) (ls : List Line) (c : Bool) → first_number (cond c (joined n vs ls) (record { number = n; words = ws } ∷ ls)) ≡ n
first_number-at n ws vs ls false = refl
first_number-at n ws vs [] true = refl
first_number-at n ws vs (l ∷ ls) true = refl

pub first_number-lines_at : (n : ℕ) (text : Text) → first_number (lines_at n text) ≡ n
first_number-lines_at n text = rw (lines-parts n text) (first_number-at n (plain_words (first text)) (without_backslash (plain_words (first text))) (lines_from (n + 1) (others text)) (is_continued (plain_words (first text))))

pub some_text : (n : ℕ) (text : Text) → (first_words (lines_at n text) ≡ [] → ⊥) → 0 < length text
some_text n [] h = absurd (h refl)
some_text n (b ∷ text) h = omega arith

one_word_more : (w : Text) (ls : List Line) → 0 < length ls → first_words (with_word w ls) ≡ w ∷ first_words ls
one_word_more w [] h = absurd (omega arith)
one_word_more w (l ∷ ls) h = refl

pub first_words-word : (n : ℕ) (text behind w : Text) → lines_at n text ≡ with_word w (lines_at n behind) → first_words (lines_at n text) ≡ w ∷ first_words (lines_at n behind)
first_words-word n text behind w h = ap first_words h ∙ one_word_more w (lines_at n behind) (some_lines n behind)

-- one line fewer
pub fewer : (n : ℕ) (text : Text) (ls : List Line) → lines_at n text ≡ ls → length (other_lines (lines_at n text)) < length ls
fewer n text ls h = let some = some_lines n text in rw (← h) (omega (arith, length-drop 1 (lines_at n text)))

pub past_feed : (n : ℕ) (end : Text) → 0 < length end → lines_past n end ≡ lines_behind n end
past_feed n [] h = absurd (omega arith)
past_feed n (b ∷ text) h = refl
