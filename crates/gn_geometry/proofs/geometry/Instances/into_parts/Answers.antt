use Rattle.std.proofs.Common.{ap, sym, ◌∙◌}
use Rattle.gn_geometry.specs.Geometries.{list_of_parts, parts_in}
use Rattle.gn_geometry.proofs.geometry.Instances.into_parts.Goals as goal

pub returns-clause-parts : goal.returns-clause-parts
returns-clause-parts c = sym (list_of_parts c.self.inside.parts.items) ∙ ap parts_in c.self.view_is
