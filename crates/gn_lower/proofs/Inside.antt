-- What a list unfolds to, by its first node.
use Rattle.std.proofs.Common.{◌≡◌, ℕ, List, [], ◌∷◌, ◌++◌, Some, refl, sym, ◌∙◌, ap, subst}
use Rattle.std.specs.Prelude.{option_and_then}
use Rattle.gn_tree.specs.Trees.{Tree}
use Rattle.gn_rules.specs.Rules.{graph_of}
use Rattle.gn_meaning.specs.Sites.{Way, into, plain_step, at_output, Read}
use Rattle.gn_meaning.specs.Bodies.{Body}
use Rattle.gn_meaning.specs.Reads.{Run, a_group, part_at, run_in, run_of}
use Rattle.gn_meaning.proofs.Options.{some_same, none_some}
use Rattle.gn_stands.specs.Order.{by_rank}
use Rattle.gn_lower.specs.Unfolding.{Unfold, nothing, by_run, by_group}

module _ (t : Tree) where
  pub none_inside : {way : Way} {ns : List ℕ} {left : List Run} → Unfold t way ns left → ns ≡ [] → left ≡ []
  none_inside nothing e = refl
  none_inside (by_run run at u) e = cc
  none_inside (by_group b reads at inside u) e = cc

  -- a node that is run comes first
  pub run_inside : {way : Way} {ns : List ℕ} {left : List Run} (n : ℕ) (rest : List ℕ) (run : Run) → Unfold t way ns left → ns ≡ n ∷ rest → run_of t (at_output way n 0) ≡ Some run → (runs : List Run) × Unfold t way rest runs × (run ∷ runs ≡ left)
  run_inside n rest run nothing e is = cc
  run_inside {way} n rest run (by_run {n = m} {ns = ns} {runs = runs} other at u) e is =
      let node : m ≡ n = cc in
      let more : ns ≡ rest = cc in
      let same : run ≡ other = some_same (sym is ∙ (ap (λ i. run_of t (at_output way i 0)) (sym node) ∙ at)) in
      (runs, subst (λ ms. Unfold t way ms runs) more u, ap (λ r. r ∷ runs) same)
  run_inside {way} n rest run (by_group {n = m} b reads at inside u) e is =
      let node : m ≡ n = cc in
      absurd (none_some (ap (option_and_then run_in) (ap (λ i. part_at t way i) (sym node) ∙ at)) is)

  -- a group node comes first
  pub group_inside : {way : Way} {ns : List ℕ} {left : List Run} (n : ℕ) (rest : List ℕ) (b : Body) (reads : List Read) → Unfold t way ns left → ns ≡ n ∷ rest → part_at t way n ≡ Some (a_group b reads)
      → (inner : List Run) × (runs : List Run) × Unfold t (into way (plain_step n)) (by_rank (graph_of b.scope.nodes)) inner × Unfold t way rest runs × (inner ++ runs ≡ left)
  group_inside n rest b reads nothing e is = cc
  group_inside {way} n rest b reads (by_run {n = m} run at u) e is =
      let node : m ≡ n = cc in
      absurd (none_some (ap (option_and_then run_in) is) (ap (λ i. run_of t (at_output way i 0)) (sym node) ∙ at))
  group_inside {way} n rest b reads (by_group {n = m} {ns = ns} {inner = inner} {runs = runs} c others at inside u) e is =
      let node : m ≡ n = cc in
      let more : ns ≡ rest = cc in
      let part : a_group c others ≡ a_group b reads = some_same (sym at ∙ (ap (λ i. part_at t way i) node ∙ is)) in
      let body : c ≡ b = cc in (
        inner,
        runs,
        subst (λ d. Unfold t (into way (plain_step n)) (by_rank (graph_of d.scope.nodes)) inner) body (subst (λ i. Unfold t (into way (plain_step i)) (by_rank (graph_of c.scope.nodes)) inner) node inside),
        subst (λ ms. Unfold t way ms runs) more u,
        refl,
      )
