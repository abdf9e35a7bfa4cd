-- Lines of texts, by computation.
use Rattle.std.proofs.Common.{◌≡◌, ℕ, List, [], ◌∷◌, codes, refl}
use Rattle.gn_lines.specs.Lines.{Text, Line, lines}

abbrev line : ℕ → List Text → Line
line n ws = record { number = n; words = ws }

nothing_is_an_empty_line : lines [] ≡ line 1 [] ∷ []
unfolding lines
nothing_is_an_empty_line = refl

a_mark_is_dropped : lines (239 ∷ 187 ∷ 191 ∷ codes "v 1") ≡ line 1 (codes "v" ∷ codes "1" ∷ []) ∷ []
unfolding lines
a_mark_is_dropped = refl

blanks_separate_words : lines (codes "\tv  1 \r\n\n") ≡ line 1 (codes "v" ∷ codes "1" ∷ []) ∷ line 2 [] ∷ line 3 [] ∷ []
unfolding lines
blanks_separate_words = refl

comments_are_cut_off : lines (codes "#v 1\nv#1 2 #3\\\n4") ≡ line 1 [] ∷ line 2 (codes "v#1" ∷ codes "2" ∷ []) ∷ line 3 (codes "4" ∷ []) ∷ []
unfolding lines
comments_are_cut_off = refl

a_line_goes_on : lines (codes "f 1\\ \r\n\\ # no\n23\\\n4\nv") ≡ line 1 (codes "f" ∷ codes "1" ∷ codes "23" ∷ codes "4" ∷ []) ∷ line 5 (codes "v" ∷ []) ∷ []
unfolding lines
a_line_goes_on = refl

a_word_is_not_joined : lines (codes "f 1\\\n2") ≡ line 1 (codes "f" ∷ codes "1" ∷ codes "2" ∷ []) ∷ []
unfolding lines
a_word_is_not_joined = refl

one_backslash_is_a_blank : lines (codes "f\\\\\n\nv") ≡ line 1 (codes "f\\" ∷ []) ∷ line 3 (codes "v" ∷ []) ∷ []
unfolding lines
one_backslash_is_a_blank = refl

the_last_line_goes_on_in_nothing : lines (codes "v\\") ≡ line 1 (codes "v" ∷ []) ∷ []
unfolding lines
the_last_line_goes_on_in_nothing = refl
