-- Why no mesh is made of lists.
use Rattle.gn_plain.specs.Topology.{Topology, IsValid}
use Rattle.gn_geom.specs.declared.mesh.PartsFault.{PartsFault}
use Rattle.gn_geom.specs.declared.mesh.PartsFault.TheVariants.{Invalid, Memory}

-- they are not those of a mesh, or there was no memory
abbrev pub IsPartsFault : Topology → PartsFault → Type 0
IsPartsFault t Invalid = ¬ IsValid t
IsPartsFault t Memory = Unit {0}
