-- The names of kinds of sockets and of places.
use Rattle.std.specs.Prelude.{List, Option, codes, find, bytes_eq}
use Rattle.gn_value.specs.declared.value.Place.{Place}
use Rattle.gn_value.specs.declared.value.Place.TheVariants.{Point, Edge, Face, Corner, Cloud, Instance}
use Rattle.gn_kinds.specs.declared.row.SocketKind.{SocketKind}
use Rattle.gn_kinds.specs.declared.row.SocketKind.TheVariants.{Truth, Int, Fixed, Vector, Geometry}
use Rattle.gn_kinds.specs.Row.{Text}

abbrev pub kind_name : SocketKind → Text
kind_name Truth = codes "truth"
kind_name Int = codes "int"
kind_name Fixed = codes "fixed"
kind_name Vector = codes "vector"
kind_name Geometry = codes "geometry"

abbrev pub place_name : Place → Text
place_name Point = codes "point"
place_name Edge = codes "edge"
place_name Face = codes "face"
place_name Corner = codes "corner"
place_name Cloud = codes "cloud"
place_name Instance = codes "instance"

-- the one of these kinds, and of these places, that has the name
abbrev pub kind_named : List SocketKind → Text → Option SocketKind
kind_named kinds name = find (λ k. bytes_eq (kind_name k) name) kinds

abbrev pub place_named : List Place → Text → Option Place
place_named places name = find (λ p. bytes_eq (place_name p) name) places
