-- Sockets that are looked up by their names.
use Rattle.std.specs.Prelude.{ℕ, ◌+◌, List, ◌++◌, map, Option, Some, None, slice_get, option_map, option_and_then}
use Rattle.gn_kinds.specs.Row.{Text}
use Rattle.gn_kinds.specs.Seen.{output_of}
use Rattle.gn_kinds.specs.declared.row.SocketKind.{SocketKind}
use Rattle.gn_rules.specs.Sockets.{Declared, one_of, output_of_row}
use Rattle.gn_meaning.specs.Sites.{Site, Read, nowhere, plain_read}
use Rattle.gn_meaning.specs.Reads.{number_in, passed}
use Rattle.gn_scopes.specs.Groups.{sockets_in}
use Rattle.gn_table.specs.declared.outputs.Outputs.{Outputs}

-- the number of the first with the name, and the kind of what it carries
abbrev pub find_in : List Declared → Text → Option (ℕ × SocketKind)
find_in ds name = option_and_then (λ n. option_map (λ d. (n, d.shape.kind)) (slice_get ds n)) (number_in ds name)

-- what is found, with others before it
abbrev pub behind : ℕ → ℕ × SocketKind → ℕ × SocketKind
behind count (n, kind) = (n + count, kind)

-- what a socket of a kind reads from what was found, whose sites are these
abbrev pub read_found : (ℕ → Site) → SocketKind → Option (ℕ × SocketKind) → Read
read_found to kind None = plain_read nowhere
read_found to kind (Some (n, from)) = record { from = to n; through = passed from kind }

abbrev pub outputs_by : Outputs → List Declared
outputs_by x = map (output_of_row x.chosen) (map output_of x.rows.now) ++ map one_of (sockets_in x.others.now)
