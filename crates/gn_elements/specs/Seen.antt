-- The parts of a mesh as clauses see them.
use Rattle.std.specs.Prelude.{◌≡◌, ℕ, List, length, Result, Ok, Err}
use Rattle.gn_lines.specs.Lines.{Text, Line}
use Rattle.gn_elements.specs.Growing.{Growing, none_yet, with_lines}
use Rattle.gn_edges.specs.Added.{edges_in}
use Rattle.gn_elements.specs.References.{vertices_named}
use Rattle.gn_elements.specs.declared.parts.Parts.{Parts}
use Rattle.gn_elements.specs.Faults.{IsFault}
use Rattle.gn_elements.specs.declared.fault.ObjFault.{ObjFault}

abbrev pub growing : Parts → Growing
growing p = record {
  points = p.points.items;
  edges = edges_in p.edges;
  corner_points = p.corner_points.items;
  corner_edges = p.corner_edges.items;
  faces = p.faces.items;
}

-- the vertices that words refer to, of those that were read so far, or the least rule that the words break
abbrev pub named_in : Parts → ℕ → List Text → Result (List ℕ) ℕ
named_in parts least words = vertices_named least (length parts.points.items) words

-- what the lines of a text grow to, or why nothing was read of them
abbrev pub IsGrown : List Line → Result Parts ObjFault → Type 0
IsGrown ls (Ok parts) = with_lines none_yet ls ≡ Ok (growing parts)
IsGrown ls (Err fault) = IsFault (with_lines none_yet ls) fault
