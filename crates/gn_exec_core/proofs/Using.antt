-- The numbers mark what is used in the world, and nothing else.
use Rattle.std.proofs.Common.{◌≡◌, inl, inr, ℕ, zero, suc, ◌<◌, Bool, true, false, List, [], ◌∷◌, map, length, take, Option, Some, None, IsTrue, All, refl, sym, ap, ◌∙◌, subst, arith}
use Rattle.std.specs.Prelude.{slice_get, slice_index_or}
use Rattle.gn_lazy.specs.Graphs.{Nodes, has_output, is_there, IsOrdered}
use Rattle.gn_lazy.specs.declared.graph.Origin.{Origin}
use Rattle.gn_lazy.specs.declared.graph.Origin.TheVariants.{Input, Constant, Out}
use Rattle.gn_lazy.specs.declared.graph.Link.{Link as GraphLink}
use Rattle.gn_lazy.specs.declared.graph.GraphNode.{GraphNode}
use Rattle.gn_node_set.specs.Paths.{Path}
use Rattle.gn_node_set.specs.Meanings.{Has, Source, a_value, an_output, Link, Node, Role, Plain, Switch, File, Zone, Choice, one_case, all_cases, no_case, member, chosen, selected, AllDiffer, Meanings}
use Rattle.gn_node_set.proofs.Lists.{some_same, not_both, has_image, image_of, member_at, place_of as place_in, index_at, at_image, image_at, one_place}
use Rattle.gn_exec_laws.proofs.Sorts.{selected_from}
use Rattle.gn_exec_laws.specs.Graphs.{Task, choice_of}
use Rattle.gn_exec_laws.specs.Tasks.{output_of, source_of, link_of, node_of, task_of}
use Rattle.gn_exec_laws.specs.Fits.{paths_of}
use Rattle.gn_exec_laws.specs.Machine.{World, reads, condition_set, sure_as, sure, Reached, Used}
use Rattle.gn_uses.specs.declared.outputs.Out.{Out as Place}
use Rattle.gn_uses.specs.Nodes as numbers
use Rattle.gn_uses.specs.Nodes.{Wanted}
use Rattle.gn_nodes.specs.Calls.{choice_as}
use Rattle.gn_exec_core.specs.Holds.{place_of, input_of, present, AreNumbered}

-- ---- lists

pub inside : {A : Type 0} (xs : List A) (n : ℕ) (x : A) → slice_get xs n ≡ Some x → n < length xs
inside [] n x e = cc
inside (y ∷ xs) zero x e = omega arith
inside (y ∷ xs) (suc n) x e = let rest : n < length xs = inside xs n x e in omega arith

pub all_has : {A : Type 0} (P : A → Type 0) (xs : List A) → All P xs → (x : A) → Has xs x → P x
all_has P xs a x h = let p : (n : ℕ) × (slice_get xs n ≡ Some x) = place_in xs x h in subst P (index_at xs p.0 x x p.1) (a p.0 x (inside xs p.0 x p.1))

pub before_there : {A : Type 0} (n : ℕ) (xs : List A) (k : ℕ) (x : A) → slice_get (take n xs) k ≡ Some x → slice_get xs k ≡ Some x
before_there zero [] k x e = e
before_there zero (y ∷ xs) k x e = cc
before_there (suc n) [] k x e = e
before_there (suc n) (y ∷ xs) zero x e = e
before_there (suc n) (y ∷ xs) (suc k) x e = before_there n xs k x e

pub present_from : {A : Type 0} (xs : List (Option A)) (x : A) → Has (present xs) x → Has xs (Some x)
present_from [] x h = absurd h
present_from (None ∷ xs) x h = inr (present_from xs x h)
present_from (Some y ∷ xs) x (inl e) = inl (ap Some e)
present_from (Some y ∷ xs) x (inr h) = inr (present_from xs x h)

pub in_present : {A : Type 0} (xs : List (Option A)) (x : A) → Has xs (Some x) → Has (present xs) x
in_present [] x h = absurd h
in_present (None ∷ xs) x (inl e) = absurd (not_both e refl)
in_present (None ∷ xs) x (inr h) = in_present xs x h
in_present (Some y ∷ xs) x (inl e) = inl (some_same e)
in_present (Some y ∷ xs) x (inr h) = inr (in_present xs x h)

member_map : {A B : Type 0} (f : A → B) (xs : List A) (n : ℕ) → member (map f xs) n ≡ map f (member xs n)
member_map f [] n = refl
member_map f (x ∷ xs) zero = refl
member_map f (x ∷ xs) (suc n) = member_map f xs n

chosen_map : {A B : Type 0} (f : A → B) (c : Choice) (xs : List A) → chosen c (map f xs) ≡ map f (chosen c xs)
chosen_map f (one_case n) xs = member_map f xs n
chosen_map f all_cases xs = refl
chosen_map f no_case xs = refl

pub selected_map : {A B : Type 0} (f : A → B) (r : Role) (c : Choice) (xs : List A) → selected r c (map f xs) ≡ map f (selected r c xs)
selected_map f Plain c xs = refl
selected_map f File c xs = refl
selected_map f Zone c [] = refl
selected_map f Zone c (x ∷ xs) = refl
selected_map f Switch c [] = refl
selected_map f Switch c (x ∷ xs) = ap (λ ys. f x ∷ ys) (chosen_map f c xs)

module _ {G K V S T : Type 0} (m : Meanings K V S T) (kind_of : G → K) (graph : Nodes G) (given : List V) where
  abbrev pub at_node : GraphNode G → Node K V
  at_node = node_of kind_of m.nothing graph.nodes given

  abbrev pub link : GraphLink → Link V
  link = link_of kind_of m.nothing graph.nodes given

  abbrev pub task : Task K V
  task = task_of kind_of m.nothing graph given

  -- what is surely read is what is selected by the choice so far
  pub sure_is : (role : Role) (set : Bool) (c : Choice) (links : List (Link V)) → sure_as m role set c links ≡ selected role (choice_as role set c) links
  sure_is Plain set c links = refl
  sure_is File set c links = refl
  sure_is Zone set c links = refl
  sure_is Switch true c links = refl
  sure_is Switch false c [] = refl
  sure_is Switch false c (x ∷ links) = refl

  names : (o : Origin) (x : Place) → place_of o ≡ Some x → o ≡ Out x.node x.output
  names Input x e = cc
  names (Constant slot) x e = cc
  names (Out n s) x e = let same : record { node = n; output = s } ≡ x = some_same e in λ i. Out (same i).node (same i).output

  stands : (k s : ℕ) (o : Option (GraphNode G)) → slice_get graph.nodes k ≡ o → IsTrue (has_output o s) → (at : GraphNode G) × (slice_get graph.nodes k ≡ Some at)
  stands k s None e h = absurd (cc)
  stands k s (Some at) e h = (at, e)

  stands_before : (n k s : ℕ) (o : Option (GraphNode G)) → slice_get (take n graph.nodes) k ≡ o → IsTrue (has_output o s) → (at : GraphNode G) × (slice_get graph.nodes k ≡ Some at)
  stands_before n k s None e h = absurd (cc)
  stands_before n k s (Some at) e h = (at, before_there n graph.nodes k at e)

  leads_to : (o : Origin) (k s : ℕ) (at : GraphNode G) → o ≡ Out k s → slice_get graph.nodes k ≡ Some at → source_of kind_of m.nothing graph.nodes given o ≡ an_output at.path.steps.items s
  leads_to o k s at e f = ap (source_of kind_of m.nothing graph.nodes given) e ∙ ap (λ x. output_of kind_of m.nothing x s) f

  found_as : (k t : ℕ) (p : Path) (s : ℕ) (o : Option (GraphNode G)) → slice_get graph.nodes k ≡ o → output_of kind_of m.nothing o t ≡ an_output p s → (at : GraphNode G) × (slice_get graph.nodes k ≡ Some at) × (at.path.steps.items ≡ p) × (t ≡ s)
  found_as k t p s None e f = let bad : a_value m.nothing ≡ an_output p s = f in cc
  found_as k t p s (Some at) e f = let same : an_output at.path.steps.items t ≡ an_output p s = f in (at, e, cc, cc)

  comes_from : (o : Origin) (p : Path) (s : ℕ) → source_of kind_of m.nothing graph.nodes given o ≡ an_output p s → (k : ℕ) × (at : GraphNode G) × (o ≡ Out k s) × (slice_get graph.nodes k ≡ Some at) × (at.path.steps.items ≡ p)
  comes_from Input p s e = let bad : a_value (slice_index_or given 0 m.nothing) ≡ an_output p s = e in cc
  comes_from (Constant slot) p s e = let bad : a_value (slice_index_or given (suc slot) m.nothing) ≡ an_output p s = e in cc
  comes_from (Out k t) p s e = let f = found_as k t p s (slice_get graph.nodes k) refl e in (k, f.0, ap (Out k) f.3, f.1, f.2)

  module _ (w : World K V) (g : numbers.Nodes) (h : AreNumbered m kind_of graph given w g) where
    pub in_world : (n : ℕ) (at : GraphNode G) → slice_get graph.nodes n ≡ Some at → slice_get w.graph n ≡ Some (at_node at)
    in_world n at e = ap (λ ns. slice_get ns n) h.nodes ∙ at_image (node_of kind_of m.nothing graph.nodes given) graph.nodes n at e

    pub from_world : (n : ℕ) (node : Node K V) → slice_get w.graph n ≡ Some node → (at : GraphNode G) × (slice_get graph.nodes n ≡ Some at) × (at_node at ≡ node)
    from_world n node e = image_at (node_of kind_of m.nothing graph.nodes given) graph.nodes n node (ap (λ ns. slice_get ns n) (sym h.nodes) ∙ e)

    -- what the node needs, by its links and by its numbers
    read_links : GraphNode G → List GraphLink
    read_links at = selected (m.rows.role (kind_of at.kind)) (choice_as (m.rows.role (kind_of at.kind)) (condition_set m w (at_node at).links) (choice_of m (reads m w) (at_node at))) at.inputs.items

    sure_links : (at : GraphNode G) → sure m w (at_node at) ≡ map link (read_links at)
    unfolding read_links
    sure_links at =
        sure_is (m.rows.role (kind_of at.kind)) (condition_set m w (at_node at).links) (choice_of m (reads m w) (at_node at)) (map link at.inputs.items)
        ∙ selected_map link (m.rows.role (kind_of at.kind)) (choice_as (m.rows.role (kind_of at.kind)) (condition_set m w (at_node at).links) (choice_of m (reads m w) (at_node at))) at.inputs.items

    needed : (n : ℕ) (at : GraphNode G) → slice_get graph.nodes n ≡ Some at → numbers.needs g n ≡ map input_of (read_links at)
    unfolding read_links
    needed n at e =
        let i = h.each n at e in
        ap (λ r. selected r (numbers.choice_of (numbers.choice g n)) (numbers.inputs g n)) i.role
        ∙ ap (λ c. selected (m.rows.role (kind_of at.kind)) c (numbers.inputs g n)) i.choice
        ∙ ap (λ xs. selected (m.rows.role (kind_of at.kind)) (choice_as (m.rows.role (kind_of at.kind)) (condition_set m w (at_node at).links) (choice_of m (reads m w) (at_node at))) xs) i.inputs
        ∙ selected_map input_of (m.rows.role (kind_of at.kind)) (choice_as (m.rows.role (kind_of at.kind)) (condition_set m w (at_node at).links) (choice_of m (reads m w) (at_node at))) at.inputs.items

    module _ (ordered : IsOrdered graph) (differ : AllDiffer (paths_of w.graph)) where
      here : (x : Place) (o : Origin) → place_of o ≡ Some x → IsTrue (is_there graph.nodes graph.constants o) → (at : GraphNode G) × (slice_get graph.nodes x.node ≡ Some at)
      here x o e t =
          let t' : IsTrue (is_there graph.nodes graph.constants (Out x.node x.output)) = subst (λ p. IsTrue (is_there graph.nodes graph.constants p)) (names o x e) t in
          stands x.node x.output (slice_get graph.nodes x.node) refl t'

      here_before : (n : ℕ) (x : Place) (o : Origin) → place_of o ≡ Some x → IsTrue (is_there (take n graph.nodes) graph.constants o) → (at : GraphNode G) × (slice_get graph.nodes x.node ≡ Some at)
      here_before n x o e t =
          let t' : IsTrue (is_there (take n graph.nodes) graph.constants (Out x.node x.output)) = subst (λ p. IsTrue (is_there (take n graph.nodes) graph.constants p)) (names o x e) t in
          stands_before n x.node x.output (slice_get (take n graph.nodes) x.node) refl t'

      abbrev pub Found : Place → Type 0
      Found x = (at : GraphNode G) × (slice_get graph.nodes x.node ≡ Some at) × Reached m task w (sure m w) (an_output at.path.steps.items x.output)

      -- an input that a node surely reads leads to what its number names
      reached_input : (n s : ℕ) (at : GraphNode G) (x : Place) → slice_get graph.nodes n ≡ Some at → Reached m task w (sure m w) (an_output at.path.steps.items s) → Has (map input_of (read_links at)) (Some x) → Found x
      unfolding read_links
      reached_input n s at x e r has =
          let l : (l : GraphLink) × Has (read_links at) l × (Some x ≡ input_of l) = image_of input_of (read_links at) (Some x) has in
          let in_links : Has at.inputs.items l.0 = selected_from (m.rows.role (kind_of at.kind)) (choice_as (m.rows.role (kind_of at.kind)) (condition_set m w (at_node at).links) (choice_of m (reads m w) (at_node at))) at.inputs.items l.0 l.1 in
          let there = here_before n x l.0.origin (sym l.2) (all_has (λ x. IsTrue (is_there (take n graph.nodes) graph.constants x.origin)) at.inputs.items (ordered.0 n at e) l.0 in_links) in
          let used : Has (sure m w (at_node at)) (link l.0) = subst (λ ls. Has ls (link l.0)) (sym (sure_links at)) (has_image link (read_links at) l.0 l.1) in
          let reached : Reached m task w (sure m w) (link l.0).from = Reached.an_input (at_node at) s (link l.0) (member_at w.graph n (at_node at) (in_world n at e)) r used in
          (there.0, there.1, subst (Reached m task w (sure m w)) (leads_to l.0.origin x.node x.output there.0 (names l.0.origin x (sym l.2)) there.1) reached)

      pub wanted_found : (x : Place) → Wanted g x → Found x
      wanted_found x (Wanted.a_root y has) =
          let l : (l : GraphLink) × Has graph.roots l × (Some x ≡ input_of l) = image_of input_of graph.roots (Some x) (present_from (map input_of graph.roots) x (subst (λ ys. Has ys x) h.roots has)) in
          let there = here x l.0.origin (sym l.2) (all_has (λ x. IsTrue (is_there graph.nodes graph.constants x.origin)) graph.roots ordered.1 l.0 l.1) in
          let reached : Reached m task w (sure m w) (link l.0).from = Reached.a_root (link l.0) (has_image link graph.roots l.0 l.1) in
          (there.0, there.1, subst (Reached m task w (sure m w)) (leads_to l.0.origin x.node x.output there.0 (names l.0.origin x (sym l.2)) there.1) reached)
      wanted_found x (Wanted.an_input y z wanted has) =
          let t : Found y = wanted_found y wanted in
          reached_input y.node y.output t.0 x t.1 t.2 (subst (λ xs. Has xs (Some x)) (needed y.node t.0 t.1) has)
      wanted_found x (Wanted.a_result y z wanted e) =
          let none : numbers.result_at g y ≡ None = ap (λ xs. slice_index_or xs y.output None) (h.no_results y.node) in
          absurd (not_both none e)

      one_number : (n k : ℕ) (a b : GraphNode G) → slice_get graph.nodes n ≡ Some a → slice_get graph.nodes k ≡ Some b → a.path.steps.items ≡ b.path.steps.items → n ≡ k
      one_number n k a b e f same = one_place (λ node. node.path) w.graph differ n k (at_node a) (at_node b) (in_world n a e) (in_world k b f) same

      -- a link that leads to an output of a node names it by its number
      named : (l : GraphLink) (k s : ℕ) (at : GraphNode G) → slice_get graph.nodes k ≡ Some at → (link l).from ≡ an_output at.path.steps.items s → Some (record { node = k; output = s }) ≡ input_of l
      named l k s at e f =
          let c = comes_from l.origin at.path.steps.items s f in
          let same : c.0 ≡ k = one_number c.0 k c.1 at c.3 e c.4 in
          sym (ap place_of c.2 ∙ ap (λ j. Some (record { node = j; output = s })) same)

      pub reached_wanted : (y : Source V) → Reached m task w (sure m w) y → (k s : ℕ) (at : GraphNode G) → slice_get graph.nodes k ≡ Some at → y ≡ an_output at.path.steps.items s → Wanted g (record { node = k; output = s })
      reached_wanted y (Reached.a_root l has) k s at e f =
          let gl : (gl : GraphLink) × Has graph.roots gl × (l ≡ link gl) = image_of link graph.roots l has in
          let is : Some (record { node = k; output = s }) ≡ input_of gl.0 = named gl.0 k s at e (ap (λ x. x.from) (sym gl.2) ∙ f) in
          Wanted.a_root (record { node = k; output = s })
          (subst (λ ys. Has ys (record { node = k; output = s })) (sym h.roots)
          (in_present (map input_of graph.roots) (record { node = k; output = s })
          (subst (Has (map input_of graph.roots)) (sym is) (has_image input_of graph.roots gl.0 gl.1))))
      reached_wanted y (Reached.an_input node t l in_graph r has) k s at e f =
          let j : (j : ℕ) × (slice_get w.graph j ≡ Some node) = place_in w.graph node in_graph in
          let b : (b : GraphNode G) × (slice_get graph.nodes j.0 ≡ Some b) × (at_node b ≡ node) = from_world j.0 node j.1 in
          let before : Wanted g (record { node = j.0; output = t }) = reached_wanted (an_output node.path t) r j.0 t b.0 b.1 (ap (λ n. an_output n.path t) (sym b.2)) in
          let has' : Has (map link (read_links b.0)) l = subst (λ ls. Has ls l) (sure_links b.0) (subst (λ n. Has (sure m w n) l) (sym b.2) has) in
          let gl : (gl : GraphLink) × Has (read_links b.0) gl × (l ≡ link gl) = image_of link (read_links b.0) l has' in
          let is : Some (record { node = k; output = s }) ≡ input_of gl.0 = named gl.0 k s at e (ap (λ x. x.from) (sym gl.2) ∙ f) in
          Wanted.an_input (record { node = j.0; output = t }) (record { node = k; output = s }) before
          (subst (λ xs. Has xs (Some (record { node = k; output = s }))) (sym (needed j.0 b.0 b.1))
          (subst (Has (map input_of (read_links b.0))) (sym is) (has_image input_of (read_links b.0) gl.0 gl.1)))
      reached_wanted y (Reached.a_result p t outs l opened r at_l) k s at e f = absurd (not_both (h.shut p) opened)

      pub used_same : (n : ℕ) (at : GraphNode G) → slice_get graph.nodes n ≡ Some at → Used m task w (at_node at) → numbers.Used g n
      used_same n at e u = (u.0, reached_wanted (an_output at.path.steps.items u.0) u.1 n u.0 at e refl)

      pub same_used : (n : ℕ) → numbers.Used g n → (at : GraphNode G) × (slice_get graph.nodes n ≡ Some at) × Used m task w (at_node at)
      same_used n u = let t : Found (record { node = n; output = u.0 }) = wanted_found (record { node = n; output = u.0 }) u.1 in (t.0, t.1, (u.0, t.2))
