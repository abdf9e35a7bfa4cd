use Rattle.std.proofs.Common.{◌≡◌, ℕ, suc, ◌+◌, [], List, ◌++◌, length, flat_map, drop, get_or, refl, sym, ap, ap₂, ◌∙◌, subst, nat_lt, if◌then◌else◌, append-nil, arith}
use Rattle.std.proofs.Math.ListN.{drop_of_length-le}
use Rattle.gn_plain.specs.Interpolation.{Taking, Touching, corners_on, last_edge}
use Rattle.gn_plain.proofs.TopologyLemmas.{length-corners}
use Rattle.gn_interp.specs.Takings.{corner_takings}
use Rattle.gn_interp.proofs.Corners.{corners_of, last_is, add_step}
use Rattle.gn_interp.proofs.takings.add_face.Goals as goal

pub loop-at-init : goal.loop-at-init
loop-at-init c =
    let vs = c.args.vertices.now in
    let ks = c.args.edges.now in
    let start : c.args.first + 0 ≡ c.args.first = omega arith in
    let before : c.last_of-edge_before.result ≡ last_edge (corners_of vs ks) = c.last_of-edge_before.ensures ∙ sym (last_is vs ks c.requires.paired c.requires.some) in
    ap₂ (λ n b. c.args.takings.now.items ++ flat_map (corner_takings c.args.from c.args.to) (corners_on c.args.face c.args.first n b (corners_of vs ks))) start before

pub loop-at-preserved : goal.loop-at-preserved
loop-at-preserved c =
    let vs = c.args.vertices.now in
    let ks = c.args.edges.now in
    let f = corner_takings c.args.from c.args.to in
    let i = c.loop-at.at in
    let corner = c.args.first + i in
    let k = get_or ks i 0 in
    let all = c.args.takings.now.items ++ flat_map f (corners_on c.args.face c.args.first c.args.first (last_edge (corners_of vs ks)) (corners_of vs ks)) in
    let more : i + 1 ≡ suc i = omega arith in
    let next : c.args.first + i + 1 ≡ suc corner = omega arith in
    let behind : c.args.first + (i + 1) ≡ suc corner = omega arith in
    let nexts : c.next_of.result ≡ (if nat_lt (suc i) (length vs) then suc corner else c.args.first) =
    c.next_of.ensures ∙ ap₂ (λ m n. if nat_lt m (length vs) then n else c.args.first) more next in
    let step = add_step f c.args.face c.args.first corner c.loop-at.edge_before vs ks i (get_or vs i 0) k c.next_of.result c.loop-at.takings.items c.add_corner.new.takings.items all
    c.requires.paired c.loop-at-test.true refl refl nexts c.in_ok-add_corner.ensures c.loop-at.invariant in
    let Left : ℕ → ℕ → Type 0 = λ n m. c.add_corner.new.takings.items ++ flat_map f (corners_on c.args.face c.args.first n k (drop m (corners_of vs ks))) ≡ all in
    subst (λ n. Left n (i + 1)) (sym behind) (subst (Left (suc corner)) (sym more) step)

pub returns : goal.returns
returns c =
    let vs = c.args.vertices.now in
    let ks = c.args.edges.now in
    let f = corner_takings c.args.from c.args.to in
    let many : length (corners_of vs ks) ≡ length vs = length-corners vs ks c.requires.paired in
    let none : drop c.loop-at.at (corners_of vs ks) ≡ [] = drop_of_length-le (corners_of vs ks) {i = c.loop-at.at} (omega (arith, many, c.loop-at-test.false)) in
    sym (append-nil c.loop-at.takings.items)
    ∙ (ap (λ cs. c.loop-at.takings.items ++ flat_map f (corners_on c.args.face c.args.first (c.args.first + c.loop-at.at) c.loop-at.edge_before cs)) (sym none) ∙ c.loop-at.invariant)
