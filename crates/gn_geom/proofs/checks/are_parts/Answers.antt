use Rattle.std.proofs.Common.{rules}
use Rattle.gn_geom.proofs.FaceLemmas.{valid_parts, faces_of_valid}
use Rattle.gn_geom.proofs.checks.are_parts.Goals as goal

pub returns : goal.returns
returns c = (
  λ t. valid_parts _ (search rules) (search rules) (search rules) (search rules) (search rules) (search rules) (search rules) (c.are_faces.ensures.0 t),
  λ valid. c.are_faces.ensures.1 (faces_of_valid _ valid),
)
