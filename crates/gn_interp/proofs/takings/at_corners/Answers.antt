use Rattle.std.proofs.Common.{◌≡◌, ℕ, suc, ◌+◌, ◌-◌, ◌∷◌, ◌++◌, drop, take, length, get_or, flat_map, refl, sym, subst, arith}
use Rattle.gn_plain.specs.Topology.{parts_between}
use Rattle.gn_plain.specs.Interpolation.{corners, corners_from}
use Rattle.gn_interp.specs.Takings.{corner_takings, topology_of, unplaced}
use Rattle.gn_interp.proofs.Corners.{corners_of, next_offset, face_step}
use Rattle.gn_interp.proofs.takings.at_corners.Goals as goal

pub slice_bounds-vertices-end : goal.slice_bounds-vertices-end
slice_bounds-vertices-end c =
    let faces = c.args.topology.now.faces.now in
    let ends = take (length faces - 1) (drop 1 faces) in
    (next_offset (length c.args.topology.now.corner_points.now) c.loop-face.begin (get_or ends c.loop-face.face 0) ends c.loop-face.face c.loop-face-test.true refl c.loop-face.invariant.rise).1

pub loop-face-preserved : goal.loop-face-preserved
loop-face-preserved c =
    let faces = c.args.topology.now.faces.now in
    let ends = take (length faces - 1) (drop 1 faces) in
    let vs = c.args.topology.now.corner_points.now in
    let ks = c.args.topology.now.corner_edges.now in
    let f = corner_takings c.args.from c.args.to in
    let i = c.loop-face.face in
    let next = get_or ends i 0 in
    let all = flat_map f (corners (unplaced (topology_of c.args.topology.now))) in
    let done = c.add_face.new.takings.items in
    let more : i + 1 ≡ suc i = omega arith in
    let steps = next_offset (length vs) c.loop-face.begin next ends i c.loop-face-test.true refl c.loop-face.invariant.rise in
    let step = face_step f i c.loop-face.begin next ends vs ks i c.loop-face.takings.items done all c.loop-face-test.true refl c.loop-face.invariant.rise c.requires.valid.paired c.in_ok-add_face.ensures c.loop-face.invariant.pairs in
    let Left : ℕ → Type 0 = λ n. done ++ flat_map f (corners_from n next (parts_between (next ∷ drop (i + 1) ends) (corners_of vs ks))) ≡ all in
    record { rise = steps.2; pairs = subst Left (sym more) step }
