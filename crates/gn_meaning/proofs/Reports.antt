-- A tree has one report: paths have one order, and a path has one run.
use Rattle.std.proofs.Common.{◌≡◌, ◌<◌, ◌⊎◌, inl, inr, ℕ, List, [], ◌∷◌, ◌++◌, Option, Some, None, refl, sym, ◌∙◌, subst, arith}
use Rattle.std.specs.Prelude.{Bool, true, false, ◌&&◌, ◌||◌, ◌==◌, nat_lt}
use Rattle.std.proofs.lemmas.Bool.Decides.{Decides-eqb, nat_tests}
use Rattle.gn_lazy.specs.declared.path.PathStep.{PathStep}
use Rattle.gn_tree.specs.NodeKinds.{Kind}
use Rattle.gn_tree.specs.Trees.{Tree}
use Rattle.gn_node_set.specs.Paths.{Path, same_turn, turn_before, step_before, path_before}
use Rattle.gn_node_set.specs.Meanings.{Has, Warning, Rows}
use Rattle.gn_meaning.specs.Sites.{Site, at_output, at_input, at_item, at_constant, nowhere, Read}
use Rattle.gn_meaning.specs.Reads.{Run, run_of}
use Rattle.gn_meaning.specs.Denotation.{Given, Ends}
use Rattle.gn_meaning.specs.Report.{Rises, Warns, no_run, and_run, IsReport}
use Rattle.gn_meaning.proofs.Options.{some_same}
use Rattle.gn_meaning.proofs.Paths.{path_names_node, path_of_run}
use Rattle.gn_meaning.proofs.Values.{one_end}

-- ---- no path comes before one that comes before it

either : (b c : Bool) → (b || c) ≡ true → (b ≡ true) ⊎ (c ≡ true)
either true c e = inl refl
either false c e = inr e

both : (b c : Bool) → (b && c) ≡ true → (b ≡ true) × (c ≡ true)
both true c e = (refl, e)
both false c e = cc

lower : (i j : ℕ) → nat_lt i j ≡ true → i < j
lower i j e = grind (arith, nat_tests)

same_number : (i j : ℕ) → (i == j) ≡ true → i ≡ j
same_number i j e = (Decides-eqb i j).0 e

turns_apart : (a b : Option ℕ) → turn_before a b ≡ true → turn_before b a ≡ true → ⊥
turns_apart None None e h = cc
turns_apart None (Some k) e h = cc
turns_apart (Some j) None e h = cc
turns_apart (Some j) (Some k) e h =
    let up : j < k = lower j k e in
    let down : k < j = lower k j h in
    omega (arith, up, down)

not_before_same : (a b : Option ℕ) → turn_before a b ≡ true → (same_turn a b ≡ true) ⊎ (same_turn b a ≡ true) → ⊥
not_before_same None None e h = cc
not_before_same None (Some k) e (inl h) = cc
not_before_same None (Some k) e (inr h) = cc
not_before_same (Some j) None e h = cc
not_before_same (Some j) (Some k) e (inl h) =
    let up : j < k = lower j k e in
    let same : j ≡ k = same_number j k h in
    omega (arith, up, same)
not_before_same (Some j) (Some k) e (inr h) =
    let up : j < k = lower j k e in
    let same : k ≡ j = same_number k j h in
    omega (arith, up, same)

abbrev StepLess : PathStep → PathStep → Type 0
StepLess s t = (s.node < t.node) ⊎ ((s.node ≡ t.node) × (turn_before s.turn t.turn ≡ true))

step_less : (s t : PathStep) → step_before s t ≡ true → StepLess s t
step_less s t e = elim (either (nat_lt s.node t.node) (s.node == t.node && turn_before s.turn t.turn) e) as (λ _. StepLess s t) [
  | inl up ↦ inl (lower s.node t.node up)
  | inr h ↦ inr (same_number s.node t.node (both (s.node == t.node) (turn_before s.turn t.turn) h).0, (both (s.node == t.node) (turn_before s.turn t.turn) h).1)
]

-- the same step, and then what is behind it
abbrev Behind : PathStep → PathStep → Path → Path → Type 0
Behind s t p q = (s.node ≡ t.node) × (same_turn s.turn t.turn ≡ true) × (path_before p q ≡ true)

path_less : (s t : PathStep) (p q : Path) → path_before (s ∷ p) (t ∷ q) ≡ true → StepLess s t ⊎ Behind s t p q
path_less s t p q e = elim (either (step_before s t) (s.node == t.node && (same_turn s.turn t.turn && path_before p q)) e) as (λ _. StepLess s t ⊎ Behind s t p q) [
  | inl h ↦ inl (step_less s t h)
  | inr h ↦
      let first : ((s.node == t.node) ≡ true) × ((same_turn s.turn t.turn && path_before p q) ≡ true) = both (s.node == t.node) (same_turn s.turn t.turn && path_before p q) h in
      let second : (same_turn s.turn t.turn ≡ true) × (path_before p q ≡ true) = both (same_turn s.turn t.turn) (path_before p q) first.1 in
      inr (same_number s.node t.node first.0, second.0, second.1)
]

steps_apart : (s t : PathStep) → StepLess s t → StepLess t s → ⊥
steps_apart s t (inl up) (inl down) = omega (arith, up, down)
steps_apart s t (inl up) (inr (same, h)) = omega (arith, up, same)
steps_apart s t (inr (same, h)) (inl down) = omega (arith, down, same)
steps_apart s t (inr (same, h)) (inr (too, k)) = turns_apart s.turn t.turn h k

step_or_behind : (s t : PathStep) (p q : Path) → StepLess s t → (Behind s t p q) ⊎ (Behind t s q p) → ⊥
step_or_behind s t p q (inl up) (inl (same, h, k)) = omega (arith, up, same)
step_or_behind s t p q (inl up) (inr (same, h, k)) = omega (arith, up, same)
step_or_behind s t p q (inr (at, up)) (inl (same, h, k)) = not_before_same s.turn t.turn up (inl h)
step_or_behind s t p q (inr (at, up)) (inr (same, h, k)) = not_before_same s.turn t.turn up (inr h)

paths_apart : (p q : Path) → path_before p q ≡ true → path_before q p ≡ true → ⊥
paths_apart [] [] e h = cc
paths_apart [] (t ∷ q) e h = cc
paths_apart (s ∷ p) [] e h = cc
paths_apart (s ∷ p) (t ∷ q) e h = by (path_less s t p q e) (path_less t s q p h) (paths_apart p q)
  where
    by : StepLess s t ⊎ Behind s t p q → StepLess t s ⊎ Behind t s q p → (path_before p q ≡ true → path_before q p ≡ true → ⊥) → ⊥
    by (inl up) (inl down) rest = steps_apart s t up down
    by (inl up) (inr behind) rest = step_or_behind s t p q up (inr behind)
    by (inr behind) (inl down) rest = step_or_behind t s q p down (inr behind)
    by (inr (same, h, k)) (inr (too, i, j)) rest = rest k j

-- ---- rising lists with the same members are the same

abbrev Within : List Path → List Path → Type 0
Within ps qs = (p : Path) → Has ps p → Has qs p

same_head : (p q : Path) (ps qs : List Path) → Rises (p ∷ ps) → Rises (q ∷ qs) → Has (q ∷ qs) p → Has (p ∷ ps) q → p ≡ q
same_head p q ps qs r w (inl e) k = e
same_head p q ps qs r w (inr h) (inl e) = sym e
same_head p q ps qs r w (inr h) (inr k) = absurd (paths_apart p q (r.0 q k) (w.0 p h))

rest_within : (p q : Path) (ps qs : List Path) → p ≡ q → Rises (p ∷ ps) → Within (p ∷ ps) (q ∷ qs) → Within ps qs
rest_within p q ps qs e r w x h = elim (w x (inr h)) as (λ _. Has qs x) [
  | inl at ↦
      let bad : path_before p p ≡ true = subst (λ y. path_before p y ≡ true) (at ∙ sym e) (r.0 x h) in
      absurd (paths_apart p p bad bad)
  | inr k ↦ k
]

one_list : (ps qs : List Path) → Rises ps → Rises qs → Within ps qs → Within qs ps → ps ≡ qs
one_list [] [] r w to from = refl
one_list [] (q ∷ qs) r w to from = absurd (from q (inl refl))
one_list (p ∷ ps) [] r w to from = absurd (to p (inl refl))
one_list (p ∷ ps) (q ∷ qs) r w to from =
    let head : p ≡ q = same_head p q ps qs r w (to p (inl refl)) (from q (inl refl)) in
    let rest : ps ≡ qs = one_list ps qs r.1 w.1 (rest_within p q ps qs head r to) (rest_within q p qs ps (sym head) w from) in
    λ i. head i ∷ rest i

-- ---- a path has one run, and the runs of paths have one list of warnings

runs_same : (t : Tree) (site other : Site) (run too : Run) → run_of t site ≡ Some run → run_of t other ≡ Some too → run.path ≡ too.path → run ≡ too
runs_same t (at_output way n s) (at_output way2 m r) run too e h same =
    let one : (way ≡ way2) × (n ≡ m) = path_names_node way way2 n m (sym (path_of_run t way n s run e) ∙ same ∙ path_of_run t way2 m r too h) in
    some_same (sym e ∙ (λ i. run_of t (at_output (one.0 i) (one.1 i) s)) ∙ h)
runs_same t (at_output way n s) (at_input way2 i) run too e h same = cc
runs_same t (at_output way n s) (at_item way2 m k i) run too e h same = cc
runs_same t (at_output way n s) (at_constant c) run too e h same = cc
runs_same t (at_output way n s) nowhere run too e h same = cc
runs_same t (at_input way i) other run too e h same = cc
runs_same t (at_item way n k i) other run too e h same = cc
runs_same t (at_constant c) other run too e h same = cc
runs_same t nowhere other run too e h same = cc

module _ {V : Type 0} (rows : Rows Kind V) (given : Given V) (t : Tree) where
  one_warning : {ps qs : List Path} {ws us : List Warning} → Warns rows given t ps ws → Warns rows given t qs us → ps ≡ qs → ws ≡ us
  one_warning no_run no_run e = refl
  one_warning no_run (and_run site run done there ends rest) e = cc
  one_warning (and_run site run done there ends rest) no_run e = cc
  one_warning (and_run {paths} {warnings} site run done there ends rest) (and_run {paths = others} {warnings = more} other too end at ending later) e =
      let same : run ≡ too = runs_same t site other run too there at (cc) in
      let dones : done ≡ end = one_end rows given t too done end (subst (λ r. Ends rows given t r done) same ends) ending in
      let all : warnings ≡ more = one_warning rest later (cc) in
      λ i. (dones i).warnings ++ all i

  pub one_report : (roots : List Read) (ps qs : List Path) (ws us : List Warning) → IsReport rows given t roots ps ws → IsReport rows given t roots qs us → (ps ≡ qs) × (ws ≡ us)
  one_report roots ps qs ws us r w =
      let paths : ps ≡ qs = one_list ps qs r.rise w.rise (λ p h. (w.members p).1 ((r.members p).0 h)) (λ p h. (r.members p).1 ((w.members p).0 h)) in
      (paths, one_warning r.warn w.warn paths)
