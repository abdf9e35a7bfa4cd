-- Import: the mesh that a file's text spells, or nothing and why.
use Rattle.std.specs.Prelude.{ℕ, List, [], ◌∷◌, ◌++◌, codes, Option, Some, None, Result, Ok, Err}
use Rattle.std.specs.Fmt.{decimal}
use Rattle.gn_elements.specs.Read.{Bad, mesh}
use Rattle.gn_node_set.specs.Paths.{Path}
use Rattle.gn_node_set.specs.Meanings.{Answer, Whole, Absent, TooLong, Done}
use Rattle.gn_plain.specs.Geometry.{Shape, empty, of_shape}
use Rattle.gn_rows.specs.Carried.{Carried, a_geometry}

module _ {S : Type 0} where
  abbrev pub nothing_read : Path → List ℕ → Done (Carried S)
  nothing_read path text = record { outputs = a_geometry empty ∷ []; warnings = record { path = path; text = text } ∷ [] }

  abbrev pub spelled : Path → Result Shape Bad → Done (Carried S)
  spelled path (Ok s) = record { outputs = a_geometry (of_shape s) ∷ []; warnings = [] }
  spelled path (Err bad) = nothing_read path (codes "obj line " ++ decimal bad.line ++ codes ": O" ++ decimal bad.rule)

  abbrev pub imported : Path → Option Answer → Done (Carried S)
  imported path (Some (Whole bytes)) = spelled path (mesh bytes)
  imported path (Some Absent) = nothing_read path (codes "absent")
  imported path (Some TooLong) = nothing_read path (codes "too long")
  imported path None = record { outputs = []; warnings = [] }
