use Rattle.std.proofs.Common.{[], ap, sym, ◌∷◌, ◌-◌, ℕ, List, subst, refl, take, drop, length, arith}
use Rattle.std.specs.List.{flat_map}
use Rattle.gn_plain.specs.Topology.{AreOffsets, parts_between}
use Rattle.gn_geom.proofs.FaceLemmas.{next_offset}
use Rattle.gn_obj.specs.Texts.{face_text}
use Rattle.gn_obj.proofs.ObjTexts.{first_and_rest}
use Rattle.gn_obj.proofs.PageLemmas.{cut_fails, kept, more_written, more_cut}
use Rattle.gn_obj.proofs.write.write_faces.Goals as goal

-- the offsets behind the first
abbrev behind : List ℕ → List ℕ
behind offsets = take (length offsets - 1) (drop 1 offsets)

pub loop-end-init : goal.loop-end-init
loop-end-init g c =
    let same = first_and_rest c.args.offsets.now c.in-len1-up.len_at_least in
    let rises = subst (AreOffsets (length c.args.corner_points.now)) same c.requires in
    record {
      rise = rises.1;
      left = ([], kept _, ap (λ offsets. flat_map face_text (parts_between offsets c.args.corner_points.now)) (sym same));
    }

pub write_corners-requires : goal.write_corners-requires
write_corners-requires g c =
    let next = next_offset _ _ _ _ c.loop-end-test.true c.loop-end.invariant.rise in
    (omega (arith, next.0), next.1)

pub returns-in_err-write_corners : goal.returns-in_err-write_corners
returns-in_err-write_corners g c =
    cut_fails _ _ _ _ c.from_residual.ensures.0 (more_cut (λ ends. flat_map face_text (parts_between (c.loop-end.begin ∷ ends) c.args.corner_points.now)) (behind c.args.offsets.now) c.loop-end.end-index 0 _ _ _ _ _ _ c.loop-end-test.true refl c.loop-end.invariant.left c.in_err-write_corners.ensures)

pub loop-end-preserved : goal.loop-end-preserved
loop-end-preserved g c =
    let next = next_offset _ _ _ _ c.loop-end-test.true c.loop-end.invariant.rise in
    record {
      rise = next.2;
      left = more_written (λ ends. flat_map face_text (parts_between (c.loop-end.begin ∷ ends) c.args.corner_points.now)) (behind c.args.offsets.now) c.loop-end.end-index 0 _ _ _ _ _ _ c.loop-end-test.true refl c.loop-end.invariant.left c.in_ok-write_corners.ensures;
    }
