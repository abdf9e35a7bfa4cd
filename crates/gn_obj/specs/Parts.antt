-- What is read from a text, as the topology of a mesh.
use Rattle.gn_plain.specs.Topology.{Topology}
use Rattle.gn_geom.specs.Meshes.{topology}
use Rattle.gn_elements.specs.declared.parts.Parts.{Parts}

abbrev pub topology_read : Parts → Topology
topology_read p =
    topology p.points.items p.edges p.faces.items p.corner_points.items p.corner_edges.items
