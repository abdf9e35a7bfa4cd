-- A path names one node of one list, and the path of a run is that of its node.
use Rattle.std.proofs.Common.{◌≡◌, ◌≤◌, ℕ, suc, length, [], ◌∷◌, Option, Some, None, codes, refl, sym, ◌∙◌, ap, arith}
use Rattle.std.specs.Prelude.{Bool, true, false, bytes_eq, option_map, if◌then◌else◌}
use Rattle.gn_lazy.specs.declared.path.PathStep.{PathStep}
use Rattle.gn_kinds.specs.Row.{Text}
use Rattle.gn_tree.specs.Trees.{Tree, Node, node}
use Rattle.gn_rules.specs.Sockets.{node_at}
use Rattle.gn_node_set.specs.Paths.{Path}
use Rattle.gn_meaning.specs.Sites.{Way, the_tree, into, plain_step, path_by, path_of, at_output}
use Rattle.gn_meaning.specs.Bodies.{Body, body_in, body_at, kind_in}
use Rattle.gn_meaning.specs.Reads.{Run, Part, a_group, a_repeat, part_by, part_in, part_at, node_reads, run_in, run_of}
use Rattle.gn_meaning.proofs.Options.{some_same, then_some, map_some}

-- ---- a way and the steps behind it are known by the path

no_shorter : (way : Way) (p : Path) → length p ≤ length (path_by way p)
no_shorter the_tree p = omega arith
no_shorter (into way step) p =
    let more : suc (length p) ≤ length (path_by way (step ∷ p)) = no_shorter way (step ∷ p) in
    omega arith

too_long : (way : Way) (step : PathStep) (p q : Path) → length p ≡ length q → p ≡ path_by way (step ∷ q) → ⊥
too_long way step p q same e =
    let more : suc (length q) ≤ length (path_by way (step ∷ q)) = no_shorter way (step ∷ q) in
    let all : length p ≡ length (path_by way (step ∷ q)) = ap length e in
    omega (arith, same)

same_parts : (way other : Way) (p q : Path) → length p ≡ length q → path_by way p ≡ path_by other q → (way ≡ other) × (p ≡ q)
same_parts the_tree the_tree p q same e = (refl, e)
same_parts the_tree (into other step) p q same e = absurd (too_long other step p q same e)
same_parts (into way step) the_tree p q same e = absurd (too_long way step q p (sym same) (sym e))
same_parts (into way step) (into other turn) p q same e =
    let both : (way ≡ other) × (step ∷ p ≡ turn ∷ q) = same_parts way other (step ∷ p) (turn ∷ q) (ap suc same) e in
    (cc, cc)

number : Path → ℕ
number [] = 0
number (step ∷ p) = step.node

pub path_names_node : (way other : Way) (n k : ℕ) → path_of way n ≡ path_of other k → (way ≡ other) × (n ≡ k)
unfolding number
path_names_node way other n k e =
    let both : (way ≡ other) × (plain_step n ∷ [] ≡ plain_step k ∷ []) = same_parts way other (plain_step n ∷ []) (plain_step k ∷ []) refl e in
    (both.0, ap number both.1)

-- ---- runs

abbrev HasPath : Path → Part → Type 0
HasPath p part = (run : Run) → run_in part ≡ Some run → run.path ≡ p

by_name : (group : Bool) (b : Body) (run : Run) → HasPath run.path (if group then a_group b run.reads else a_repeat run b)
by_name true b run x e = cc
by_name false b run x e = ap (λ r. r.path) (sym (some_same e))

by_body : (name : Text) (body : Option Body) (run : Run) → HasPath run.path (part_by name body run)
by_body name None run x e = ap (λ r. r.path) (sym (some_same e))
by_body name (Some b) run x e = by_name (bytes_eq name (codes "group")) b run x e

by_node : (b : Body) (way : Way) (n : ℕ) (x : Node) → HasPath (path_of way n) (part_in b.scope way n x)
by_node b way n (node id kind settings inputs) =
    by_body kind (body_in b.scope kind settings) (record { path = path_of way n; kind = kind_in b.scope (node id kind settings inputs); reads = node_reads b.scope way (node id kind settings inputs) })

pub path_of_run : (t : Tree) (way : Way) (n s : ℕ) (run : Run) → run_of t (at_output way n s) ≡ Some run → run.path ≡ path_of way n
path_of_run t way n s run e =
    let part : (part : Part) × (part_at t way n ≡ Some part) × (run_in part ≡ Some run) = then_some run_in (part_at t way n) run e in
    let list : (b : Body) × (body_at t way ≡ Some b) × (option_map (part_in b.scope way n) (node_at b.scope.nodes n) ≡ Some part.0) =
    then_some (λ b. option_map (part_in b.scope way n) (node_at b.scope.nodes n)) (body_at t way) part.0 part.1 in
    let there : (x : Node) × (node_at list.0.scope.nodes n ≡ Some x) × (part_in list.0.scope way n x ≡ part.0) = map_some (part_in list.0.scope way n) (node_at list.0.scope.nodes n) part.0 list.2 in
    by_node list.0 way n there.0 run (ap run_in there.2 ∙ part.2)
