-- The code's atoms as those of the definitions.
use Rattle.std.specs.Prelude.{map}
use Rattle.gn_atom.specs.Atom as is
use Rattle.gn_atom.specs.declared.atom.Atom.{Atom}
use Rattle.gn_atom.specs.declared.atom.Atom.TheVariants as a

abbrev pub atom_of : Atom → is.Atom
atom_of a.Format = is.the_format
atom_of a.Id = is.an_id
atom_of a.NodeKind = is.a_node_kind
atom_of a.Truth = is.a_truth
atom_of a.ColumnName = is.a_column_name
atom_of a.FileName = is.a_file_name
atom_of (a.KindIn kinds) = is.a_kind_in kinds.now
atom_of (a.WordOf words) = is.a_word_of (map (λ w. w.now) words.now)
atom_of (a.PlaceIn places) = is.a_place_in places.now
atom_of (a.ConstantAs kind) = is.a_constant_as kind
