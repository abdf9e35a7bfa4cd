-- What a state begins with is what holds in the first world.
use Rattle.std.proofs.Common.{◌≡◌, ◌≢◌, ℕ, zero, suc, ◌+◌, ◌<◌, Bool, true, false, List, [], ◌∷◌, map, length, take, Option, Some, None, IsTrue, All, refl, sym, ap, ◌∙◌, subst, arith}
use Rattle.std.specs.Prelude.{is_some, is_none, IsSome, nat_lt, slice_get, slice_index_or, option_map, if◌then◌else◌}
use Rattle.gn_lazy.specs.Graphs.{Nodes, is_there, has_output, IsOrdered}
use Rattle.gn_lazy.specs.declared.graph.Origin.{Origin}
use Rattle.gn_lazy.specs.declared.graph.Origin.TheVariants.{Input, Constant, Out}
use Rattle.gn_lazy.specs.declared.graph.Link.{Link as GraphLink}
use Rattle.gn_lazy.specs.declared.graph.GraphNode.{GraphNode}
use Rattle.gn_node_set.specs.Meanings.{Has, Link, Node, Role, Plain, Switch, File, Zone, Meanings}
use Rattle.gn_node_set.proofs.Lists.{some_same, has_image, member_at, index_at, index_image, at_image, map_map, map_equal}
use Rattle.gn_exec_laws.specs.Graphs.{condition}
use Rattle.gn_exec_laws.specs.Tasks.{output_of, source_of}
use Rattle.gn_exec_laws.specs.Fits.{shifted, LinkSort, KindFits, NodeFits, CanStart, IsLawful}
use Rattle.gn_exec_laws.specs.Machine.{World, first_world, is_set, reads, condition_set}
use Rattle.gn_exec_laws.proofs.Sorts.{Beside, beside_of, links_beside, each_fits, converted_sort}
use Rattle.gn_uses.specs.declared.nodes.Role.TheVariants as role
use Rattle.gn_uses.specs.declared.nodes.Choice.{Choice as NumberChoice}
use Rattle.gn_uses.specs.Nodes as numbers
use Rattle.gn_uses.specs.Uses.{Uses}
use Rattle.gn_uses.proofs.Reading.{has_index}
use Rattle.gn_nodes.specs.Calls.{MayBeFirst, choice_as, chosen_as}
use Rattle.gn_exec_core.specs.Holds.{place_of, input_of, present, value_now, IsNumbered, AreNumbered, HaveConditions, AreTaken, AreKept}
use Rattle.gn_exec_core.specs.Starts.{first_set, first_value, start_at, start_value, CanCarryAs, CanCarry, IsChosenBy, MayChoose, HasNumbers}
use Rattle.gn_exec_core.proofs.Using.{all_has, before_there, at_node, link, task}

-- what stands at a place, by an equation of images
at_place : {A B C : Type 0} (f : A → B) (xs : List A) (h : C → B) (ys : List C) (n : ℕ) (d : A) (y : C) → map f xs ≡ map h ys → slice_get ys n ≡ Some y → f (slice_index_or xs n d) ≡ h y
at_place f xs h ys n d y e at = sym (index_image f xs n d) ∙ ap (λ zs. slice_index_or zs n (f d)) e ∙ index_at (map h ys) n (f d) (h y) (at_image h ys n y at)

stands_at : {A C : Type 0} (xs : List A) (h : C → A) (ys : List C) (n : ℕ) (d : A) (y : C) → xs ≡ map h ys → slice_get ys n ≡ Some y → slice_index_or xs n d ≡ h y
stands_at xs h ys n d y e at = ap (λ zs. slice_index_or zs n d) e ∙ index_at (map h ys) n d (h y) (at_image h ys n y at)

past_end : {A B : Type 0} (h : A → B) (xs : List A) (n : ℕ) (d : B) → slice_get xs n ≡ None → slice_index_or (map h xs) n d ≡ d
past_end h [] n d e = refl
past_end h (x ∷ xs) zero d e = let bad : Some x ≡ None = e in cc
past_end h (x ∷ xs) (suc n) d e = past_end h xs n d e

all_same : {A B : Type 0} (xs : List A) (n : ℕ) (d : B) → slice_index_or (map (λ x. d) xs) n d ≡ d
all_same [] n d = refl
all_same (x ∷ xs) zero d = refl
all_same (x ∷ xs) (suc n) d = all_same xs n d

pub is_at : {A : Type 0} (xs : List A) (n : ℕ) (d : A) → n < length xs → slice_get xs n ≡ Some (slice_index_or xs n d)
is_at [] n d h = absurd (omega arith)
is_at (x ∷ xs) zero d h = refl
is_at (x ∷ xs) (suc n) d h = is_at xs n d (omega arith)

is_less : (n k : ℕ) → nat_lt n k ≡ true → n < k
is_less n k e = grind arith

module _ {G H K V S T : Type 0} (m : Meanings K V S T) (kind_of : G → K) (content : H → V) (graph : Nodes G) (given : List V) where
  abbrev w : World K V
  w = first_world m (task m kind_of graph given)

  abbrev node : GraphNode G → Node K V
  node = at_node m kind_of graph given

  abbrev carried : GraphLink → Link V
  carried = link m kind_of graph given

  -- ---- values

  output_value : (n s : ℕ) (through : List ℕ) (o : Option (GraphNode G)) → IsTrue (has_output o s) → value_now m w (record { from = output_of kind_of m.nothing o s; through = through }) ≡ None
  output_value n s through None t = absurd (cc)
  output_value n s through (Some at) t = refl

  origin_value : (o : Origin) (through : List ℕ) → IsTrue (is_there graph.nodes graph.constants o) → value_now m w (record { from = source_of kind_of m.nothing graph.nodes given o; through = through }) ≡ start_at m given through o
  origin_value Input through t = refl
  origin_value (Constant slot) through t = refl
  origin_value (Out n s) through t = output_value n s through (slice_get graph.nodes n) t

  link_value_first : (l : GraphLink) → IsTrue (is_there graph.nodes graph.constants l.origin) → value_now m w (carried l) ≡ start_value m given l
  link_value_first l t = origin_value l.origin l.through.items t

  output_unset : (s : ℕ) (o : Option (GraphNode G)) → IsTrue (has_output o s) → false ≡ is_set w (output_of kind_of m.nothing o s)
  output_unset s None t = absurd (cc)
  output_unset s (Some at) t = refl

  origin_set : (o : Origin) → IsTrue (is_there graph.nodes graph.constants o) → is_none (place_of o) ≡ is_set w (source_of kind_of m.nothing graph.nodes given o)
  origin_set Input t = refl
  origin_set (Constant slot) t = refl
  origin_set (Out n s) t = output_unset s (slice_get graph.nodes n) t

  -- ---- what lies before a node is there

  there_within : (n : ℕ) (o : Origin) → IsTrue (is_there (take n graph.nodes) graph.constants o) → IsTrue (is_there graph.nodes graph.constants o)
  there_within n Input t = t
  there_within n (Constant slot) t = t
  there_within n (Out k s) t = by (slice_get (take n graph.nodes) k) refl t
    where
      by : (o : Option (GraphNode G)) → slice_get (take n graph.nodes) k ≡ o → IsTrue (has_output o s) → IsTrue (has_output (slice_get graph.nodes k) s)
      by None e t = absurd (cc)
      by (Some at) e t = subst (λ x. IsTrue (has_output x s)) (sym (before_there n graph.nodes k at e)) t

  module _ (ordered : IsOrdered graph) where
    input_there : (n : ℕ) (at : GraphNode G) → slice_get graph.nodes n ≡ Some at → (l : GraphLink) → Has at.inputs.items l → IsTrue (is_there graph.nodes graph.constants l.origin)
    input_there n at e l has = there_within n l.origin (all_has (λ x. IsTrue (is_there (take n graph.nodes) graph.constants x.origin)) at.inputs.items (ordered.0 n at e) l has)

    values_first : (n : ℕ) (at : GraphNode G) → slice_get graph.nodes n ≡ Some at → map (start_value m given) at.inputs.items ≡ map (value_now m w) (node at).links
    values_first n at e =
        map_equal (start_value m given) (λ l. value_now m w (carried l)) at.inputs.items (λ l has. sym (link_value_first l (input_there n at e l has)))
        ∙ sym (map_map (value_now m w) carried at.inputs.items)

    filled_first : (n : ℕ) (at : GraphNode G) → slice_get graph.nodes n ≡ Some at → map (λ l. is_none (input_of l)) at.inputs.items ≡ map (λ l. is_set w l.from) (node at).links
    filled_first n at e =
        map_equal (λ l. is_none (input_of l)) (λ l. is_set w (carried l).from) at.inputs.items (λ l has. origin_set l.origin (input_there n at e l has))
        ∙ sym (map_map (λ l. is_set w l.from) carried at.inputs.items)

    -- the values of the roots
    pub roots_first : map (start_value m given) graph.roots ≡ map (value_now m w) (map carried graph.roots)
    roots_first =
        map_equal (start_value m given) (λ l. value_now m w (carried l)) graph.roots (λ l has. sym (link_value_first l (all_has (λ x. IsTrue (is_there graph.nodes graph.constants x.origin)) graph.roots ordered.1 l has)))
        ∙ sym (map_map (value_now m w) carried graph.roots)

  -- ---- choices

  set_first : (links : List (Link V)) → first_set (map (value_now m w) links) ≡ condition_set m w links
  set_first [] = refl
  set_first (l ∷ links) = by (is_set w l.from)
    where
      by : (b : Bool) → is_some (if b then Some (reads m w l) else None) ≡ b
      by true = refl
      by false = refl

  choice_first : (kind : K) (role : Role) (links : List (Link V)) → choice_as role (first_set (map (value_now m w) links)) (m.rows.choice kind (first_value m (map (value_now m w) links))) ≡ choice_as role (condition_set m w links) (m.rows.choice kind (condition m (reads m w) links))
  choice_first kind Plain links = refl
  choice_first kind File links = refl
  choice_first kind Zone links = refl
  choice_first kind Switch [] = refl
  choice_first kind Switch (l ∷ links) = by (is_set w l.from)
    where
      by : (b : Bool) → choice_as Switch (is_some (if b then Some (reads m w l) else None)) (m.rows.choice kind (first_value m ((if b then Some (reads m w l) else None) ∷ map (value_now m w) links))) ≡ choice_as Switch b (m.rows.choice kind (reads m w l))
      by true = refl
      by false = refl

  -- ---- all holds at the start

  module _ (ordered : IsOrdered graph) (conditions : HaveConditions m kind_of graph.nodes)
      (rows : List (List (Option H))) (rows_are : map (λ row. map (option_map content) row) rows ≡ map (λ at. map (start_value m given) at.inputs.items) graph.nodes)
      (choices : List (Option NumberChoice)) (chosen : (n : ℕ) (at : GraphNode G) → slice_get graph.nodes n ≡ Some at → IsChosenBy m (kind_of at.kind) (map (option_map content) (slice_index_or rows n [])) (slice_index_or choices n None))
      (u : Uses) (are : HasNumbers m kind_of graph.nodes choices u.nodes) (roots : u.nodes.roots ≡ present (map input_of graph.roots)) (none_taken : u.taken ≡ []) where
    row_first : (n : ℕ) (at : GraphNode G) → slice_get graph.nodes n ≡ Some at → map (option_map content) (slice_index_or rows n []) ≡ map (value_now m w) (node at).links
    row_first n at e = at_place (λ row. map (option_map content) row) rows (λ x. map (start_value m given) x.inputs.items) graph.nodes n [] at rows_are e ∙ values_first ordered n at e

    numbered_first : (n : ℕ) (at : GraphNode G) → slice_get graph.nodes n ≡ Some at → IsNumbered m w u.nodes n at (node at)
    numbered_first n at e =
        let c = chosen n at e in
        record {
          role = at_place numbers.role_of u.nodes.roles (λ x. m.rows.role (kind_of x.kind)) graph.nodes n role.Plain at are.roles e;
          inputs = stands_at u.nodes.inputs (λ x. map input_of x.inputs.items) graph.nodes n [] at are.inputs e;
          choice = ap (λ cs. numbers.choice_of (slice_index_or cs n None)) are.choices ∙ c.choice
              ∙ ap (λ vs. choice_as (m.rows.role (kind_of at.kind)) (first_set vs) (m.rows.choice (kind_of at.kind) (first_value m vs))) (row_first n at e)
              ∙ choice_first (kind_of at.kind) (m.rows.role (kind_of at.kind)) (node at).links;
          chosen = ap (λ cs. is_some (slice_index_or cs n None)) are.choices ∙ c.chosen
              ∙ ap (λ vs. chosen_as (m.rows.role (kind_of at.kind)) (first_set vs)) (row_first n at e)
              ∙ ap (chosen_as (m.rows.role (kind_of at.kind))) (set_first (node at).links);
          filled = stands_at u.nodes.filled (λ x. map (λ l. is_none (input_of l)) x.inputs.items) graph.nodes n [] at are.filled e ∙ filled_first ordered n at e;
          answered = stands_at u.nodes.answered (λ x. false) graph.nodes n false at are.answered e;
        }

    -- before any event the numbers, and the values and answers that are kept, are those of the first world
    pub all_first : AreNumbered m kind_of graph given w u.nodes
    all_first = record {
      nodes = refl;
      each = numbered_first;
      roots = roots;
      no_results = λ n. ap (λ rs. slice_index_or rs n []) are.results ∙ all_same graph.nodes n [];
      shut = λ p. refl;
    }

    pub kept_first : AreKept m kind_of content graph given w u.taken rows
    kept_first n at e fresh = row_first n at e

    pub taken_first : AreTaken u.taken []
    taken_first n = (λ h. absurd (subst (λ ns. Has ns n) none_taken h), λ v. absurd v.1)

  module _ (lawful : IsLawful m) (start : CanStart m (task m kind_of graph given)) (count : length given ≡ graph.constants + 1) (ordered : IsOrdered graph) where
    fits : (n : ℕ) (at : GraphNode G) → slice_get graph.nodes n ≡ Some at → NodeFits m [] (map node graph.nodes) (node at)
    fits n at e = each_fits m [] [] (map node graph.nodes) start.fit (node at) (has_image node graph.nodes at (member_at graph.nodes n at e))

    some_shift : (v : V) (t s : S) (through : List ℕ) → m.sort v ≡ t → shifted m t through ≡ Some s → IsSome (shifted m (m.sort v) through)
    some_shift v t s through e f = ap is_some (ap (λ x. shifted m x through) e ∙ f)

    carries : (o : Origin) (through : List ℕ) (s : S) → IsTrue (is_there graph.nodes graph.constants o) → LinkSort m [] (map node graph.nodes) (record { from = source_of kind_of m.nothing graph.nodes given o; through = through }) s → CanCarryAs m given through o
    carries Input through s t sort = (omega (arith, count), some_shift (slice_index_or given 0 m.nothing) sort.0 s through sort.1.0 sort.2)
    carries (Constant slot) through s t sort = let inside : slot < graph.constants = is_less slot graph.constants t in (omega (arith, count, inside), some_shift (slice_index_or given (suc slot) m.nothing) sort.0 s through sort.1.0 sort.2)
    carries (Out n k) through s t sort = tt

    -- each input can carry the given value that it leads to
    input_carries : (n : ℕ) (at : GraphNode G) → slice_get graph.nodes n ≡ Some at → (l : GraphLink) → Has at.inputs.items l → CanCarry m given l
    input_carries n at e l has =
        let f = fits n at e in
        let s : (s : S) × LinkSort m [] (map node graph.nodes) (carried l) s =
        beside_of (LinkSort m [] (map node graph.nodes)) (node at).links f.sorts (links_beside m [] (map node graph.nodes) (node at).links f.sorts f.links) (carried l) (has_image carried at.inputs.items l has) in
        carries l.origin l.through.items s.0 (input_there ordered n at e l has) s.1

    -- and so can each root
    root_carries : (l : GraphLink) → Has graph.roots l → CanCarry m given l
    root_carries l has =
        let s = start.roots (carried l) (has_image carried graph.roots l has) in
        carries l.origin l.through.items s.0 (all_has (λ x. IsTrue (is_there graph.nodes graph.constants x.origin)) graph.roots ordered.1 l has) s.1

    pub roots_carry : All (λ l. CanCarry m given l) graph.roots
    roots_carry k e within = root_carries (slice_index_or graph.roots k e) (has_index graph.roots k e within)

    conditioned : (kind : K) (given_links : List GraphLink) (sorts : List S) → given_links ≢ [] → Beside (LinkSort m [] (map node graph.nodes)) (map carried given_links) sorts → KindFits m kind sorts
        → ((l : GraphLink) → Has given_links l → IsTrue (is_there graph.nodes graph.constants l.origin))
        → first_set (map (start_value m given) given_links) ≡ true → MayBeFirst m kind (m.sort (first_value m (map (start_value m given) given_links)))
    conditioned kind [] sorts ne b fits t set = absurd (ne refl)
    conditioned kind (l ∷ ls) [] ne b fits t set = absurd b
    conditioned kind (l ∷ ls) (s ∷ sorts) ne b fits t set =
        (sorts, subst (λ x. KindFits m kind (x ∷ sorts)) (sym (sort_first l.origin l.through.items s b.0 (start_value m given l) refl set (map (start_value m given) ls))) fits)
      where
        sort_first : (o : Origin) (through : List ℕ) (s : S) → LinkSort m [] (map node graph.nodes) (record { from = source_of kind_of m.nothing graph.nodes given o; through = through }) s → (x : Option V) → start_at m given through o ≡ x → is_some x ≡ true → (rest : List (Option V)) → m.sort (first_value m (x ∷ rest)) ≡ s
        sort_first Input through s sort None e set rest = cc
        sort_first Input through s sort (Some v) e set rest =
            ap m.sort (sym (some_same e)) ∙ converted_sort m lawful (slice_index_or given 0 m.nothing) s through (ap (λ x. shifted m x through) sort.1.0 ∙ sort.2)
        sort_first (Constant slot) through s sort None e set rest = cc
        sort_first (Constant slot) through s sort (Some v) e set rest =
            ap m.sort (sym (some_same e)) ∙ converted_sort m lawful (slice_index_or given (suc slot) m.nothing) s through (ap (λ x. shifted m x through) sort.1.0 ∙ sort.2)
        sort_first (Out n k) through s sort None e set rest = cc
        sort_first (Out n k) through s sort (Some v) e set rest = let bad : None ≡ Some v = e in cc

    -- a switch may choose by its first value
    may_choose : (conditions : HaveConditions m kind_of graph.nodes) (n : ℕ) (at : GraphNode G) → slice_get graph.nodes n ≡ Some at → MayChoose m (kind_of at.kind) (map (start_value m given) at.inputs.items)
    may_choose conditions n at e switch set =
        let f = fits n at e in
        conditioned (kind_of at.kind) at.inputs.items f.sorts (conditions n at e switch) (links_beside m [] (map node graph.nodes) (node at).links f.sorts f.links) f.kind (input_there ordered n at e) set

    -- so each node's inputs can carry what is given
    pub all_carry : All (λ at. All (λ l. CanCarry m given l) at.inputs.items) graph.nodes
    all_carry n d inside k e within =
        input_carries n (slice_index_or graph.nodes n d) (is_at graph.nodes n d inside) (slice_index_or (slice_index_or graph.nodes n d).inputs.items k e) (has_index (slice_index_or graph.nodes n d).inputs.items k e within)

    pub each_may_choose : (conditions : HaveConditions m kind_of graph.nodes) (rows : List (List (Option H))) → map (λ row. map (option_map content) row) rows ≡ map (λ at. map (start_value m given) at.inputs.items) graph.nodes
        → (n : ℕ) (at : GraphNode G) → slice_get graph.nodes n ≡ Some at → MayChoose m (kind_of at.kind) (map (option_map content) (slice_index_or rows n []))
    each_may_choose conditions rows are n at e =
        subst (MayChoose m (kind_of at.kind)) (sym (at_place (λ row. map (option_map content) row) rows (λ x. map (start_value m given) x.inputs.items) graph.nodes n [] at are e)) (may_choose conditions n at e)

    -- only a switch has chosen
    pub chosen_switch : (rows : List (List (Option H))) (choices : List (Option NumberChoice)) → ((n : ℕ) (at : GraphNode G) → slice_get graph.nodes n ≡ Some at → IsChosenBy m (kind_of at.kind) (map (option_map content) (slice_index_or rows n [])) (slice_index_or choices n None))
        → (n : ℕ) (at : GraphNode G) → slice_get graph.nodes n ≡ Some at → is_some (slice_index_or choices n None) ≡ true → m.rows.role (kind_of at.kind) ≡ Switch
    chosen_switch rows choices chosen n at e some = by (m.rows.role (kind_of at.kind)) refl (sym (chosen n at e).chosen ∙ some)
      where
        by : (r : Role) → m.rows.role (kind_of at.kind) ≡ r → chosen_as r (first_set (map (option_map content) (slice_index_or rows n []))) ≡ true → m.rows.role (kind_of at.kind) ≡ Switch
        by Plain e t = let bad : false ≡ true = t in cc
        by File e t = let bad : false ≡ true = t in cc
        by Zone e t = let bad : false ≡ true = t in cc
        by Switch e t = e
