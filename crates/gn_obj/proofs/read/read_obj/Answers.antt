use Rattle.std.proofs.Common.{◌∙◌, sym, ap, refl, Ok}
use Rattle.std.proofs.lemmas.Result.{err_from_is_err_and}
use Rattle.gn_elements.specs.Seen.{growing}
use Rattle.gn_spelled.proofs.Spelled.{spelled, spelled_bad}
use Rattle.gn_obj.proofs.FaultLemmas.{same_fault}
use Rattle.gn_obj.proofs.read.read_obj.Goals as goal

pub mesh_of_parts-requires-clause-valid : goal.mesh_of_parts-requires-clause-valid
mesh_of_parts-requires-clause-valid c =
    (spelled c.args.bytes.now (growing c.in_ok-parts.parts) c.in_ok-parts.parts.edges c.in_ok-parts.ensures refl).0

pub mesh_of_parts-requires-clause-numbered : goal.mesh_of_parts-requires-clause-numbered
mesh_of_parts-requires-clause-numbered c =
    (spelled c.args.bytes.now (growing c.in_ok-parts.parts) c.in_ok-parts.parts.edges c.in_ok-parts.ensures refl).1

pub returns-in_err-parts-clause-fault : goal.returns-in_err-parts-clause-fault
returns-in_err-parts-clause-fault c =
    let p = err_from_is_err_and c.from_residual.result c.from_residual.ensures.1 in
    rw (p.1, p.2) (same_fault _ _ c.in_err-parts.field-0.0 (spelled_bad c.args.bytes.now) c.in_err-parts.ensures)

pub returns-clause-mesh : goal.returns-clause-mesh
returns-clause-mesh c =
    let s = spelled c.args.bytes.now (growing c.in_ok-parts.parts) c.in_ok-parts.parts.edges c.in_ok-parts.ensures refl in
    s.2 ∙ ap (λ m. Ok m) (sym c.in_ok-mesh_of_parts.ensures.mesh)
