-- Values that are looked at as a whole: no part of them has a form of its own.
use Rattle.std.specs.Prelude.{Bool, false, ◌==◌, List, is_some, option_and_then}
use Rattle.std.specs.Option.{option_map_or}
use Rattle.serde_json.specs.Data.{Data}
use Rattle.serde_json.specs.Find.{as_bool, as_str, as_number, as_u64}
use Rattle.gn_value.specs.declared.value.Place.{Place}
use Rattle.gn_value.specs.declared.value.ValueKind.{ValueKind}
use Rattle.gn_kinds.specs.declared.row.SocketKind.{SocketKind}
use Rattle.gn_kinds.specs.Names.{kind_named, place_named}
use Rattle.gn_kinds.specs.Row.{Text}
use Rattle.gn_kinds.specs.Table.{row_of_kind}
use Rattle.gn_kinds.specs.Text.{is_id, is_column_name, is_file_name, is_word}
use Rattle.gn_atom.specs.Constant.{constant_as}

-- what such a value must be
pub data Atom : Type 0 where
  the_format an_id a_node_kind a_truth a_column_name a_file_name : Atom
  a_kind_in : List SocketKind → Atom
  a_word_of : List Text → Atom
  a_place_in : List Place → Atom
  a_constant_as : ValueKind → Atom

abbrev pub is_text : (Text → Bool) → Data → Bool
is_text good d = option_map_or good (as_str d) false

abbrev pub is_atom : Atom → Data → Bool
is_atom the_format d = option_map_or (λ n. n == 1) (option_and_then as_u64 (as_number d)) false
is_atom an_id d = is_text is_id d
is_atom a_node_kind d = is_text (λ k. is_some (row_of_kind k)) d
is_atom a_truth d = is_some (as_bool d)
is_atom a_column_name d = is_text is_column_name d
is_atom a_file_name d = is_text is_file_name d
is_atom (a_kind_in kinds) d = is_text (λ k. is_some (kind_named kinds k)) d
is_atom (a_word_of words) d = is_text (is_word words) d
is_atom (a_place_in places) d = is_text (λ p. is_some (place_named places p)) d
is_atom (a_constant_as kind) d = is_some (constant_as kind d)
