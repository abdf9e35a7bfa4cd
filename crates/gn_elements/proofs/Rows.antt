-- A row of references, word by word.
use Rattle.std.proofs.Common.{◌≡◌, ℕ, ◌+◌, Bool, true, ◌&&◌, List, ◌++◌, length, map}
use Rattle.std.specs.List.{list_all}
use Rattle.gn_lines.specs.Lines.{Text}
use Rattle.gn_elements.specs.References.{is_reference, names_vertex, vertex_named}

-- what is known of the words of a row when some are left: whether the others are references, whether their vertices are there, and which these are
pub record RowSoFar (count : ℕ) (all : List Text) (left : List Text) (formed : Bool) (there : Bool) (row : List ℕ) : Type 0 where
  pub counted : length row + length left ≡ length all
  pub are_references : (formed && list_all is_reference left) ≡ list_all is_reference all
  pub are_there : formed ≡ true → (there && list_all (names_vertex count) left) ≡ list_all (names_vertex count) all
  pub vertices : formed ≡ true → there ≡ true → row ++ map (vertex_named count) left ≡ map (vertex_named count) all
