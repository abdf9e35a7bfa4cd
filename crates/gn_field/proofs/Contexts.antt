-- Clouds and instances have no topology.
use Rattle.std.proofs.Common.{None, refl, sym}
use Rattle.gn_value.specs.declared.value.Place.TheVariants.{Cloud, Instance}
use Rattle.gn_plain.specs.Geometry.{Geometry}
use Rattle.gn_plain.specs.Contexts.{context}
use Rattle.gn_field.specs.Contexts.{IsTopologyOf}
use Rattle.gn_field.proofs.Same.{place_decides}

clouds_have_no_topology : (g : Geometry) → IsTopologyOf (context g Cloud) None
clouds_have_no_topology g = (refl, ((λ kind q value i has. refl), (λ q has. sym ((place_decides Cloud q).0 has))))

instances_have_no_topology : (g : Geometry) → IsTopologyOf (context g Instance) None
instances_have_no_topology g = (refl, ((λ kind q value i has. refl), (λ q has. sym ((place_decides Instance q).0 has))))
