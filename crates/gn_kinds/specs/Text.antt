-- The texts that stand in a tree: ids, and the names of columns and files.
use Rattle.std.specs.Prelude.{ℕ, Bool, not, ◌&&◌, ◌||◌, ◌==◌, nat_le, nat_lt, length, codes, bytes_eq}
use Rattle.std.specs.List.{list_all, list_any}
use Rattle.std.specs.Prelude.{List}
use Rattle.gn_kinds.specs.Row.{Text}

-- `a` to `z`, `0` to `9` and `_`
abbrev pub is_id_byte : ℕ → Bool
is_id_byte b = nat_le 97 b && nat_le b 122 || nat_le 48 b && nat_le b 57 || (b == 95)

-- 1 to 32 of these
abbrev pub is_id : Text → Bool
is_id t = nat_lt 0 (length t) && nat_le (length t) 32 && list_all is_id_byte t

-- `!` to `~`
abbrev pub is_name_byte : ℕ → Bool
is_name_byte b = nat_le 33 b && nat_le b 126

-- the name of a column: 1 to 64 of these, and not `position`
abbrev pub is_column_name : Text → Bool
is_column_name t = nat_lt 0 (length t) && nat_le (length t) 64 && list_all is_name_byte t && not (bytes_eq t (codes "position"))

-- a byte that is no control character
abbrev pub is_printed_byte : ℕ → Bool
is_printed_byte b = nat_le 32 b && not (b == 127)

-- the name of a file: 1 to 255 of these
abbrev pub is_file_name : Text → Bool
is_file_name t = nat_lt 0 (length t) && nat_le (length t) 255 && list_all is_printed_byte t

-- one of these words
abbrev pub is_word : List Text → Text → Bool
is_word words t = list_any (λ w. bytes_eq w t) words
