-- Which vertices the references of a line name.
use Rattle.std.specs.Prelude.{ℕ, ◌-◌, ◌==◌, ◌&&◌, ◌||◌, nat_le, nat_lt, Bool, List, length, map, slice_index, Result, Ok, Err, if◌then◌else◌}
use Rattle.std.specs.List.{list_all}
use Rattle.std.specs.Str.Parse.{digits_value, starts_with_minus, without_leading_sign}
use Rattle.gn_decimal.specs.Decimal.{digits_of, after_digits}
use Rattle.gn_lines.specs.Lines.{Text}

-- the number that a reference's digits write, behind a sign if there is one; 0 without digits
abbrev pub number_of : Text → ℕ
number_of word = digits_value 10 (digits_of (without_leading_sign word))

-- nothing, or a slash and more
abbrev pub is_end_or_slash : Text → Bool
is_end_or_slash text = length text == 0 || slice_index text 0 == 47

-- a sign or none, and a number above 0; behind a slash anything
abbrev pub is_reference : Text → Bool
is_reference word = nat_lt 0 (number_of word) && is_end_or_slash (after_digits (without_leading_sign word))

-- one of `count` vertices
abbrev pub names_vertex : ℕ → Text → Bool
names_vertex count word = nat_le (number_of word) count

-- the vertex, by its number from 0: counted from the first on, or behind a minus from the last back
abbrev pub vertex_named : ℕ → Text → ℕ
vertex_named count word = if starts_with_minus word then count - number_of word else number_of word - 1

-- ---- the rules of a line

abbrev pub no_position : ℕ
no_position = 1

abbrev pub too_few_references : ℕ
too_few_references = 2

abbrev pub no_reference : ℕ
no_reference = 3

abbrev pub no_vertex : ℕ
no_vertex = 4

abbrev pub too_many_elements : ℕ
too_many_elements = 5

-- the vertices that references name, or the least rule that they break
abbrev pub vertices_named : ℕ → ℕ → List Text → Result (List ℕ) ℕ
vertices_named least count ws =
    if nat_lt (length ws) least then Err too_few_references
    else (if list_all is_reference ws
    then (if list_all (names_vertex count) ws then Ok (map (vertex_named count) ws) else Err no_vertex)
    else Err no_reference)
