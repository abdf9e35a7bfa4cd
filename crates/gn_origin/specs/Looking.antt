-- Sockets that are looked up by their names.
use Rattle.std.specs.Prelude.{◌≡◌, ℕ, List, [], ◌∷◌, codes, Option, Some, None, slice_get}
use Rattle.gn_kinds.specs.declared.row.SocketKind.TheVariants.{Geometry}
use Rattle.gn_kinds.specs.Row.{Text}
use Rattle.gn_tree.specs.Trees.{Socket}
use Rattle.gn_tree.specs.Seen.{socket_of}
use Rattle.gn_tree.specs.declared.tree.Socket.{Socket as CodeSocket}
use Rattle.gn_names.specs.First.{first_of}
use Rattle.gn_rules.specs.Things.{socket_names}
use denote.Ref.{Bor}

-- the socket by which a tree takes its input
abbrev pub own_sockets : List Socket
own_sockets = record { name = codes "geometry"; kind = Geometry } ∷ []

-- the first socket with the name was found, with its number, or there is none
abbrev pub IsFound : List Socket → Text → Option (ℕ × Bor CodeSocket) → Type 0
IsFound xs name None = first_of (socket_names xs) name ≡ None
IsFound xs name (Some (number, socket)) = (first_of (socket_names xs) name ≡ Some number) × (slice_get xs number ≡ Some (socket_of socket.now))
