-- A state may begin with a graph of numbers in which each node has its number as its path.
use Rattle.std.proofs.Common.{◌≡◌, inl, inr, ℕ, zero, suc, ◌+◌, ◌<◌, false, List, [], ◌∷◌, ◌++◌, map, length, take, Option, Some, None, IsTrue, refl, sym, ap, ◌∙◌, subst, arith}
use Rattle.std.specs.Prelude.{nat_lt, slice_get}
use Rattle.gn_lazy.specs.Graphs.{Nodes, is_there, has_output, IsOrdered}
use Rattle.gn_lazy.specs.declared.graph.Origin.{Origin}
use Rattle.gn_lazy.specs.declared.graph.Origin.TheVariants.{Input, Constant, Out}
use Rattle.gn_lazy.specs.declared.graph.Link.{Link as GraphLink}
use Rattle.gn_lazy.specs.declared.graph.GraphNode.{GraphNode}
use Rattle.gn_node_set.specs.Meanings.{Has, Link, Node, AllDiffer}
use Rattle.gn_node_set.specs.Paths.{Path, has_turn, ends_plain}
use Rattle.gn_node_set.proofs.Lists.{append_assoc, map_append, has_image, image_of, member_at, place_of, same_place, append_nil}
use Rattle.gn_exec_laws.specs.Tasks.{task_of, node_of, link_of, source_of, output_of}
use Rattle.gn_exec_laws.specs.Fits.{shifted, SourceSort, LinkSort, LinkSorts, HasItems, NodeFits, NodesFit, CanStart, paths_of}
use Rattle.gn_exec_core.proofs.Using.{all_has}
use Rattle.gn_machine_tests.specs.declared.numbers.NumberKind.{NumberKind}
use Rattle.gn_machine_tests.specs.declared.numbers.NumberKind.TheVariants.{Add, Choose, Measure, Repeat}
use Rattle.gn_machine_tests.specs.Numbers.{numbers, role_of}
use Rattle.gn_machine_tests.specs.Named.{one_step, AreNamed}

from_zero : (n : ℕ) → n ≡ 0 + n
from_zero n = omega arith

pub any_shift : (through : List ℕ) → shifted numbers tt through ≡ Some tt
any_shift [] = refl
any_shift (kind ∷ kinds) = any_shift kinds

first_output : (s : ℕ) → IsTrue (nat_lt s 1) → s ≡ 0
first_output zero t = refl
first_output (suc s) t = absurd (let less : suc s < 1 = grind arith in omega (arith, less))

below_one : (s k : ℕ) → k ≡ 1 → IsTrue (nat_lt s k) → s ≡ 0
below_one s k e t = first_output s (subst (λ j. IsTrue (nat_lt s j)) e t)

abbrev sorts_of : List GraphLink → List (Unit {0})
sorts_of links = map (λ l. tt) links

two_sorts : (links : List GraphLink) → length links ≡ 2 → sorts_of links ≡ tt ∷ tt ∷ []
two_sorts [] e = absurd (omega (arith, e))
two_sorts (a ∷ []) e = absurd (omega (arith, e))
two_sorts (a ∷ b ∷ []) e = refl
two_sorts (a ∷ b ∷ c ∷ links) e = absurd (omega (arith, e))

any_items : (kind : NumberKind) (links : List GraphLink) → (kind ≡ Repeat → length links ≡ 2) → HasItems numbers (role_of kind) kind (sorts_of links)
any_items Add links two = tt
any_items Choose links two = tt
any_items Measure links two = tt
any_items Repeat links two = (tt, two_sorts links (two refl))

no_turn : (path : Path) (n : ℕ) → path ≡ one_step n → has_turn path ≡ false
no_turn path n e = ap has_turn e

plain_end : (path : Path) (n : ℕ) → path ≡ one_step n → IsTrue (ends_plain path)
plain_end path n e = subst (λ p. IsTrue (ends_plain p)) (sym e) refl

same_step : (j k : ℕ) → one_step j ≡ one_step k → j ≡ k
same_step j k e = ap first e
  where
    first : Path → ℕ
    first [] = 0
    first (s ∷ p) = s.node

module _ (g : Nodes NumberKind) (given : List ℕ) (ordered : IsOrdered g) (named : AreNamed g.nodes) where
  abbrev node : GraphNode NumberKind → Node NumberKind ℕ
  node = node_of (λ kind. kind) 0 g.nodes given

  abbrev carried : GraphLink → Link ℕ
  carried = link_of (λ kind. kind) 0 g.nodes given

  -- ---- what stands before is of the one sort

  output_sort : (before after : List (GraphNode NumberKind)) → before ++ after ≡ g.nodes → (k s : ℕ) (o : Option (GraphNode NumberKind)) → slice_get before k ≡ o → IsTrue (has_output o s) → SourceSort numbers [] (map node before) (output_of (λ kind. kind) 0 (slice_get g.nodes k) s) tt
  output_sort before after all k s None e t = absurd (cc)
  output_sort before after all k s (Some at) e t =
      let whole : slice_get g.nodes k ≡ Some at = subst (λ ns. slice_get ns k ≡ Some at) all (same_place before after k at e) in
      let zeroth : s ≡ 0 = below_one s at.outputs (named k at whole).one t in
      subst (λ o. SourceSort numbers [] (map node before) (output_of (λ kind. kind) 0 o s) tt) (sym whole)
      (node at, has_image node before at (member_at before k at e), refl, ap (λ j. slice_get (tt ∷ []) j) zeroth)

  source_sort : (before after : List (GraphNode NumberKind)) → before ++ after ≡ g.nodes → (o : Origin) → IsTrue (is_there before g.constants o) → SourceSort numbers [] (map node before) (source_of (λ kind. kind) 0 g.nodes given o) tt
  source_sort before after all Input t = (refl, λ p. refl)
  source_sort before after all (Constant slot) t = (refl, λ p. refl)
  source_sort before after all (Out k s) t = output_sort before after all k s (slice_get before k) refl t

  link_sort : (before after : List (GraphNode NumberKind)) → before ++ after ≡ g.nodes → (l : GraphLink) → IsTrue (is_there before g.constants l.origin) → LinkSort numbers [] (map node before) (carried l) tt
  link_sort before after all l t = (tt, source_sort before after all l.origin t, any_shift l.through.items)

  link_sorts : (before after : List (GraphNode NumberKind)) → before ++ after ≡ g.nodes → (links : List GraphLink) → ((l : GraphLink) → Has links l → IsTrue (is_there before g.constants l.origin)) → LinkSorts numbers [] (map node before) (map carried links) (sorts_of links)
  link_sorts before after all [] there = tt
  link_sorts before after all (l ∷ links) there = (link_sort before after all l (there l (inl refl)), link_sorts before after all links (λ x h. there x (inr h)))

  node_fits : (before after : List (GraphNode NumberKind)) (at : GraphNode NumberKind) → before ++ after ≡ g.nodes → (at.kind ≡ Repeat → length at.inputs.items ≡ 2) → ((l : GraphLink) → Has at.inputs.items l → IsTrue (is_there before g.constants l.origin)) → NodeFits numbers [] (map node before) (node at)
  node_fits before after at all two there = record {
    sorts = sorts_of at.inputs.items;
    links = link_sorts before after all at.inputs.items there;
    kind = record { fits = refl; items = any_items at.kind at.inputs.items two };
  }

  taken_before : {A : Type 0} (before after : List A) → take (length before) (before ++ after) ≡ before
  taken_before [] [] = refl
  taken_before [] (x ∷ after) = refl
  taken_before (x ∷ before) after = ap (λ xs. x ∷ xs) (taken_before before after)

  at_length : {A : Type 0} (before after : List A) (x : A) → slice_get (before ++ x ∷ after) (length before) ≡ Some x
  at_length [] after x = refl
  at_length (y ∷ before) after x = at_length before after x

  there_before : (before after : List (GraphNode NumberKind)) (at : GraphNode NumberKind) → before ++ at ∷ after ≡ g.nodes → (l : GraphLink) → Has at.inputs.items l → IsTrue (is_there before g.constants l.origin)
  there_before before after at all l has =
      let here : slice_get g.nodes (length before) ≡ Some at = subst (λ ns. slice_get ns (length before) ≡ Some at) all (at_length before after at) in
      let front : take (length before) g.nodes ≡ before = ap (take (length before)) (sym all) ∙ taken_before before (at ∷ after) in
      subst (λ ns. IsTrue (is_there ns g.constants l.origin)) front (all_has (λ x. IsTrue (is_there (take (length before) g.nodes) g.constants x.origin)) at.inputs.items (ordered.0 (length before) at here) l has)

  item_before : (before after : List (GraphNode NumberKind)) (at : GraphNode NumberKind) → before ++ at ∷ after ≡ g.nodes → at.kind ≡ Repeat → length at.inputs.items ≡ 2
  item_before before after at all e = (named (length before) at (subst (λ ns. slice_get ns (length before) ≡ Some at) all (at_length before after at))).item e

  fit_from : (before rest : List (GraphNode NumberKind)) → before ++ rest ≡ g.nodes → NodesFit numbers [] (map node before) (map node rest)
  fit_from before [] all = tt
  fit_from before (at ∷ rest) all = (
    node_fits before (at ∷ rest) at all (item_before before rest at all) (there_before before rest at all),
    subst (λ ns. NodesFit numbers [] ns (map node rest)) (map_append node before (at ∷ [])) (fit_from (before ++ at ∷ []) rest (append_assoc before (at ∷ []) rest ∙ all)),
  )

  -- ---- paths

  differ_from : (rest : List (GraphNode NumberKind)) (k : ℕ) → ((n : ℕ) (at : GraphNode NumberKind) → slice_get rest n ≡ Some at → at.path.steps.items ≡ one_step (k + n)) → AllDiffer (paths_of (map node rest))
  differ_from [] k are = tt
  differ_from (at ∷ rest) k are = (
    λ has.
        let x : (x : Node NumberKind ℕ) × Has (map node rest) x × (at.path.steps.items ≡ x.path) = image_of (λ y. y.path) (map node rest) at.path.steps.items has in
        let y : (y : GraphNode NumberKind) × Has rest y × (x.0 ≡ node y) = image_of node rest x.0 x.1 in
        let j : (j : ℕ) × (slice_get rest j ≡ Some y.0) = place_of rest y.0 y.1 in
        let same : k + 0 ≡ k + suc j.0 = same_step (k + 0) (k + suc j.0) (sym (are 0 at refl) ∙ x.2 ∙ ap (λ z. z.path) y.2 ∙ are (suc j.0) y.0 j.1) in
        omega (arith, same),
    differ_from rest (suc k) (λ n x e. let later : k + suc n ≡ suc k + n = omega arith in are (suc n) x e ∙ ap one_step later),
  )

  path_of : (x : Node NumberKind ℕ) → Has (map node g.nodes) x → (n : ℕ) × (x.path ≡ one_step n)
  path_of x has =
      let y : (y : GraphNode NumberKind) × Has g.nodes y × (x ≡ node y) = image_of node g.nodes x has in
      let j : (j : ℕ) × (slice_get g.nodes j ≡ Some y.0) = place_of g.nodes y.0 y.1 in
      (j.0, ap (λ z. z.path) y.2 ∙ (named j.0 y.0 j.1).path)

  -- ---- the start

  pub can_start : CanStart numbers (task_of (λ kind. kind) 0 g given)
  can_start = record {
    fit = fit_from [] g.nodes refl;
    roots = λ link has.
        let l : (l : GraphLink) × Has g.roots l × (link ≡ carried l) = image_of carried g.roots link has in
        let there : IsTrue (is_there g.nodes g.constants l.0.origin) = all_has (λ x. IsTrue (is_there g.nodes g.constants x.origin)) g.roots ordered.1 l.0 l.1 in
        (tt, subst (λ x. LinkSort numbers [] (map node g.nodes) x tt) (sym l.2) (link_sort g.nodes [] (append_nil g.nodes) l.0 there));
    differ = differ_from g.nodes 0 (λ n at e. (named n at e).path ∙ ap one_step (from_zero n));
    no_turns = λ x has. let p = path_of x has in no_turn x.path p.0 p.1;
    ends = λ x has. let p = path_of x has in plain_end x.path p.0 p.1;
  }
