-- What the code reads in a list, seen from the way to the list.
use Rattle.std.specs.Prelude.{◌≡◌, ℕ, List, [], ◌∷◌, map, Option, Some, None}
use Rattle.gn_kinds.specs.declared.row.SocketKind.{SocketKind}
use Rattle.gn_meaning.specs.Sites as sites
use Rattle.gn_meaning.specs.Sites.{Way}
use Rattle.gn_meaning.specs.Reads.{kind_number}
use Rattle.gn_table.specs.Constants.{name_of}
use Rattle.gn_table.specs.declared.read.Site.{Site}
use Rattle.gn_table.specs.declared.read.Site.TheVariants.{Output, Entry, Constant, Nowhere}
use Rattle.gn_table.specs.declared.read.Read.{Read}

abbrev pub site_of : Way → Site → sites.Site
site_of way (Output node socket) = sites.at_output way node socket
site_of way (Entry number) = sites.at_input way number
site_of way (Constant c) = sites.at_constant (name_of c)
site_of way Nowhere = sites.nowhere

-- the conversion to a kind by its number, if there is one
abbrev pub kinds_of : Option SocketKind → List ℕ
kinds_of None = []
kinds_of (Some kind) = kind_number kind ∷ []

abbrev pub read_of : Way → Read → sites.Read
read_of way x = record { from = site_of way x.site; through = kinds_of x.conversion }

abbrev pub reads_in : Way → List Read → List sites.Read
reads_in way xs = map (read_of way) xs
