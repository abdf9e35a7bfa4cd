-- The numbers find just the nodes ready that a worker may take, and such a node's values are what its links carry.
use Rattle.std.proofs.Common.{◌≡◌, ◌≢◌, inl, inr, ℕ, Bool, true, false, ◌&&◌, List, [], ◌∷◌, map, Option, Some, None, refl, sym, ap, ◌∙◌, subst}
use Rattle.std.specs.Prelude.{slice_get, option_map, if◌then◌else◌}
use Rattle.gn_lazy.specs.Graphs.{Nodes, IsOrdered}
use Rattle.gn_lazy.specs.declared.graph.Link.{Link as GraphLink}
use Rattle.gn_lazy.specs.declared.graph.GraphNode.{GraphNode}
use Rattle.gn_node_set.specs.Meanings.{Has, Link, Node, Role, Plain, Switch, File, Zone, Choice, selected, Answer, AllDiffer, Meanings}
use Rattle.gn_node_set.proofs.Lists.{held, is_held}
use Rattle.gn_exec_laws.specs.Graphs.{choice_of, links_read}
use Rattle.gn_exec_laws.specs.Fits.{paths_of}
use Rattle.gn_exec_laws.specs.Machine.{Event, World, world, is_set, reads, condition_set, sure_as, sure, Ready}
use Rattle.gn_uses.specs.declared.nodes.Role.{Role as NumberRole}
use Rattle.gn_uses.specs.declared.nodes.Role.TheVariants as role
use Rattle.gn_uses.specs.Nodes as numbers
use Rattle.gn_uses.specs.Nodes.{all_set, is_set_up}
use Rattle.gn_uses.specs.Uses as uses
use Rattle.gn_nodes.specs.Calls.{choice_as, chosen_as}
use Rattle.gn_exec_core.specs.Holds.{present, value_now, AreNumbered, HaveConditions, AreTaken}
use Rattle.gn_exec_core.proofs.Using.{selected_map, at_node, link, task, sure_is, in_world, from_world, used_same, same_used}

each_set : {A : Type 0} (f : A → Bool) (xs : List A) → all_set (map f xs) ≡ true → (x : A) → Has xs x → f x ≡ true
each_set f [] e x h = absurd h
each_set f (y ∷ xs) e x (inl q) = ap f q ∙ first (f y) (all_set (map f xs)) e
  where
    first : (a b : Bool) → (a && b) ≡ true → a ≡ true
    first true b e = refl
    first false b e = cc
each_set f (y ∷ xs) e x (inr h) = each_set f xs (second (f y) (all_set (map f xs)) e) x h
  where
    second : (a b : Bool) → (a && b) ≡ true → b ≡ true
    second true b e = e
    second false b e = cc

and_left : (a b : Bool) → (a && b) ≡ true → a ≡ true
and_left true b e = refl
and_left false b e = cc

and_right : (a b : Bool) → (a && b) ≡ true → b ≡ true
and_right true b e = e
and_right false b e = cc

both : (a b : Bool) → a ≡ true → b ≡ true → (a && b) ≡ true
both a b e f = ap (λ c. c && b) e ∙ f

set_each : {A : Type 0} (f : A → Bool) (xs : List A) → ((x : A) → Has xs x → f x ≡ true) → all_set (map f xs) ≡ true
set_each f [] h = refl
set_each f (x ∷ xs) h = both (f x) (all_set (map f xs)) (h x (inl refl)) (set_each f xs (λ y k. h y (inr k)))

present_map : {A B : Type 0} (f : A → B) (xs : List (Option A)) → map f (present xs) ≡ present (map (option_map f) xs)
present_map f [] = refl
present_map f (None ∷ xs) = present_map f xs
present_map f (Some x ∷ xs) = ap (λ ys. f x ∷ ys) (present_map f xs)

present_all : {A B : Type 0} (f : A → Bool) (g : A → B) (xs : List A) → ((x : A) → Has xs x → f x ≡ true) → present (map (λ x. if f x then Some (g x) else None) xs) ≡ map g xs
present_all f g [] h = refl
present_all f g (x ∷ xs) h =
    ap (λ b. present ((if b then Some (g x) else None) ∷ map (λ y. if f y then Some (g y) else None) xs)) (h x (inl refl))
    ∙ ap (λ ys. g x ∷ ys) (present_all f g xs (λ y k. h y (inr k)))

is_file : (r : NumberRole) → numbers.role_of r ≡ File → r ≡ role.File
is_file role.Plain e = cc
is_file role.Switch e = cc
is_file role.File e = refl
is_file role.Zone e = cc

module _ {G H K V S T : Type 0} (m : Meanings K V S T) (kind_of : G → K) (content : H → V) (graph : Nodes G) (given : List V) (es : List Event) (u : uses.Uses) where
  abbrev w : World K V
  w = world m (task m kind_of graph given) es

  abbrev node : GraphNode G → Node K V
  node = at_node m kind_of graph given

  first_sure : (b : Bool) (c : Choice) (l : Link V) (ls : List (Link V)) → Has (sure_as m Switch b c (l ∷ ls)) l
  first_sure true c l ls = inl refl
  first_sure false c l ls = inl refl

  conditioned : (c : Choice) (xs : List GraphLink) → xs ≢ [] → ((l : Link V) → Has (sure_as m Switch (condition_set m w (map (link m kind_of graph given) xs)) c (map (link m kind_of graph given) xs)) l → is_set w l.from ≡ true) → condition_set m w (map (link m kind_of graph given) xs) ≡ true
  conditioned c [] ne h = absurd (ne refl)
  conditioned c (x ∷ xs) ne h = h (link m kind_of graph given x) (first_sure (is_set w (link m kind_of graph given x).from) c (link m kind_of graph given x) (map (link m kind_of graph given) xs))

  -- with its condition set, what a switch reads is sure
  read_sure : (r : Role) (b : Bool) (c : Choice) (links : List (Link V)) → (r ≡ Switch → b ≡ true) → sure_as m r b c links ≡ selected r c links
  read_sure Plain b c links h = refl
  read_sure File b c links h = refl
  read_sure Zone b c links h = refl
  read_sure Switch true c links h = refl
  read_sure Switch false c links h = let bad : false ≡ true = h refl in cc

  module _ (h : AreNumbered m kind_of graph given w u.nodes) (conditions : HaveConditions m kind_of graph.nodes) (ordered : IsOrdered graph) (differ : AllDiffer (paths_of w.graph)) (taken : AreTaken u.taken es) where
    full_links : (n : ℕ) (at : GraphNode G) → slice_get graph.nodes n ≡ Some at → all_set (selected (numbers.role_of (numbers.role u.nodes n)) (numbers.choice_of (numbers.choice u.nodes n)) (numbers.filled u.nodes n)) ≡ all_set (map (λ l. is_set w l.from) (sure m w (node at)))
    full_links n at e =
        let i = h.each n at e in
        let set : Bool = condition_set m w (node at).links in
        let choice : Choice = choice_of m (reads m w) (node at) in
        ap (λ r. all_set (selected r (numbers.choice_of (numbers.choice u.nodes n)) (numbers.filled u.nodes n))) i.role
        ∙ ap (λ c. all_set (selected (m.rows.role (kind_of at.kind)) c (numbers.filled u.nodes n))) i.choice
        ∙ ap (λ xs. all_set (selected (m.rows.role (kind_of at.kind)) (choice_as (m.rows.role (kind_of at.kind)) set choice) xs)) i.filled
        ∙ ap all_set (selected_map (λ l. is_set w l.from) (m.rows.role (kind_of at.kind)) (choice_as (m.rows.role (kind_of at.kind)) set choice) (node at).links)
        ∙ ap (λ ls. all_set (map (λ l. is_set w l.from) ls)) (sym (sure_is m kind_of graph given (m.rows.role (kind_of at.kind)) set choice (node at).links))

    answer_there : (n : ℕ) (at : GraphNode G) → slice_get graph.nodes n ≡ Some at → is_set_up (numbers.role u.nodes n) (numbers.choice u.nodes n) (numbers.answered u.nodes n) ≡ true → m.rows.role (kind_of at.kind) ≡ File → (a : Answer) × (w.answers (node at).path ≡ Some a)
    answer_there n at e up file =
        let i = h.each n at e in
        let is : numbers.role u.nodes n ≡ role.File = is_file (numbers.role u.nodes n) (i.role ∙ file) in
        held (w.answers (node at).path) (sym i.answered ∙ sym (ap (λ r. is_set_up r (numbers.choice u.nodes n) (numbers.answered u.nodes n)) is) ∙ up)

    pub ready_found : (n : ℕ) → uses.Ready u n → (at : GraphNode G) × (slice_get graph.nodes n ≡ Some at) × Ready m (task m kind_of graph given) es n (node at)
    ready_found n r =
        let t = same_used m kind_of graph given w u.nodes h ordered differ n r.used in
        let full = and_left (all_set (selected (numbers.role_of (numbers.role u.nodes n)) (numbers.choice_of (numbers.choice u.nodes n)) (numbers.filled u.nodes n))) (is_set_up (numbers.role u.nodes n) (numbers.choice u.nodes n) (numbers.answered u.nodes n)) r.full in
        let up = and_right (all_set (selected (numbers.role_of (numbers.role u.nodes n)) (numbers.choice_of (numbers.choice u.nodes n)) (numbers.filled u.nodes n))) (is_set_up (numbers.role u.nodes n) (numbers.choice u.nodes n) (numbers.answered u.nodes n)) r.full in (
          t.0,
          t.1,
          record {
            there = in_world m kind_of graph given w u.nodes h n t.0 t.1;
            used = t.2;
            fresh = λ v has. r.fresh ((taken n).1 (v, has));
            inputs = each_set (λ l. is_set w l.from) (sure m w (node t.0)) (sym (full_links n t.0 t.1) ∙ full);
            answered = answer_there n t.0 t.1 up;
          },
        )

    all_up : (n : ℕ) (at : GraphNode G) → slice_get graph.nodes n ≡ Some at → Ready m (task m kind_of graph given) es n (node at) → (r : NumberRole) → numbers.role u.nodes n ≡ r → is_set_up r (numbers.choice u.nodes n) (numbers.answered u.nodes n) ≡ true
    all_up n at e r role.Plain is = refl
    all_up n at e r role.Zone is = refl
    all_up n at e r role.File is =
        let i = h.each n at e in
        let file : m.rows.role (kind_of at.kind) ≡ File = sym i.role ∙ ap numbers.role_of is in
        let a = r.answered file in
        i.answered ∙ is_held (w.answers (node at).path) a.0 a.1
    all_up n at e r role.Switch is =
        let i = h.each n at e in
        let switch : m.rows.role (kind_of at.kind) ≡ Switch = sym i.role ∙ ap numbers.role_of is in
        let inputs : (l : Link V) → Has (sure_as m Switch (condition_set m w (node at).links) (choice_of m (reads m w) (node at)) (node at).links) l → is_set w l.from ≡ true =
        subst (λ x. (l : Link V) → Has (sure_as m x (condition_set m w (node at).links) (choice_of m (reads m w) (node at)) (node at).links) l → is_set w l.from ≡ true) switch r.inputs in
        i.chosen ∙ ap (λ x. chosen_as x (condition_set m w (node at).links)) switch ∙ conditioned (choice_of m (reads m w) (node at)) at.inputs.items (conditions n at e switch) inputs

    pub found_ready : (n : ℕ) (x : Node K V) → Ready m (task m kind_of graph given) es n x → uses.Ready u n
    found_ready n x r =
        let t = from_world m kind_of graph given w u.nodes h n x r.there in
        let r' : Ready m (task m kind_of graph given) es n (node t.0) = subst (Ready m (task m kind_of graph given) es n) (sym t.2) r in
        record {
          used = used_same m kind_of graph given w u.nodes h ordered differ n t.0 t.1 r'.used;
          full = both (all_set (selected (numbers.role_of (numbers.role u.nodes n)) (numbers.choice_of (numbers.choice u.nodes n)) (numbers.filled u.nodes n))) (is_set_up (numbers.role u.nodes n) (numbers.choice u.nodes n) (numbers.answered u.nodes n))
              (full_links n t.0 t.1 ∙ set_each (λ l. is_set w l.from) (sure m w (node t.0)) r'.inputs)
              (all_up n t.0 t.1 r' (numbers.role u.nodes n) refl);
          fresh = λ has. let v = (taken n).0 has in r'.fresh v.0 v.1;
        }

    -- the values of what it selects are the inputs of its run
    pub values_read : (n : ℕ) (at : GraphNode G) (e : slice_get graph.nodes n ≡ Some at) → Ready m (task m kind_of graph given) es n (node at) → (xs : List (Option H)) → map (option_map content) xs ≡ map (value_now m w) (node at).links
        → map content (present (selected (numbers.role_of (numbers.role u.nodes n)) (numbers.choice_of (numbers.choice u.nodes n)) xs)) ≡ map (reads m w) (links_read m (reads m w) (node at))
    values_read n at e r xs same =
        let i = h.each n at e in
        let set : Bool = condition_set m w (node at).links in
        let choice : Choice = choice_of m (reads m w) (node at) in
        let c : Choice = choice_as (m.rows.role (kind_of at.kind)) set choice in
        let switched : m.rows.role (kind_of at.kind) ≡ Switch → set ≡ true =
        λ switch.
        conditioned choice at.inputs.items (conditions n at e switch)
        (subst (λ x. (l : Link V) → Has (sure_as m x set choice (node at).links) l → is_set w l.from ≡ true) switch r.inputs) in
        ap (λ x. map content (present (selected x (numbers.choice_of (numbers.choice u.nodes n)) xs))) i.role
        ∙ ap (λ x. map content (present (selected (m.rows.role (kind_of at.kind)) x xs))) i.choice
        ∙ present_map content (selected (m.rows.role (kind_of at.kind)) c xs)
        ∙ ap present (sym (selected_map (option_map content) (m.rows.role (kind_of at.kind)) c xs))
        ∙ ap (λ ys. present (selected (m.rows.role (kind_of at.kind)) c ys)) same
        ∙ ap present (selected_map (value_now m w) (m.rows.role (kind_of at.kind)) c (node at).links)
        ∙ ap (λ ls. present (map (value_now m w) ls)) (sym (sure_is m kind_of graph given (m.rows.role (kind_of at.kind)) set choice (node at).links))
        ∙ present_all (λ l. is_set w l.from) (reads m w) (sure m w (node at)) r.inputs
        ∙ ap (map (reads m w)) (read_sure (m.rows.role (kind_of at.kind)) set choice (node at).links switched)
