-- What a finish leaves: the values that links carry then, and what the numbers say.
use Rattle.std.proofs.Common.{◌≡◌, ◌≢◌, ◌⊎◌, inl, inr, ℕ, zero, suc, ◌<◌, Bool, true, false, List, [], ◌∷◌, ◌++◌, map, length, Option, Some, None, refl, sym, ap, ◌∙◌, subst, true≢false, arith, if◌then◌else◌}
use Rattle.std.specs.Prelude.{is_some, unwrap_or, slice_get, slice_index_or, option_map, option_and_then}
use Rattle.std.proofs.lemmas.List.{length-map}
use Rattle.gn_lazy.specs.Graphs.{Nodes}
use Rattle.gn_lazy.specs.declared.graph.Origin.{Origin}
use Rattle.gn_lazy.specs.declared.graph.Origin.TheVariants as origin
use Rattle.gn_lazy.specs.declared.graph.Link.{Link as GraphLink}
use Rattle.gn_lazy.specs.declared.graph.GraphNode.{GraphNode}
use Rattle.gn_node_set.specs.Paths.{with_entry}
use Rattle.gn_node_set.specs.Meanings.{Has, Source, an_output, Link, plain_link, Role, Plain, Switch, File, Zone, Choice as MeantChoice, Warning, AllDiffer, Meanings, converted}
use Rattle.gn_node_set.proofs.Lists.{some_same, not_both, one_place}
use Rattle.gn_node_set.proofs.Paths.{entry_here, entry_other}
use Rattle.gn_exec_laws.specs.Graphs.{link_value, condition}
use Rattle.gn_exec_laws.specs.Tasks.{output_of, source_of}
use Rattle.gn_exec_laws.specs.Fits.{paths_of}
use Rattle.gn_exec_laws.specs.Machine.{World, is_there, is_set, set_outputs, reads, condition_set}
use Rattle.gn_uses.specs.declared.nodes.Choice.{Choice}
use Rattle.gn_uses.specs.declared.nodes.Role.{Role as NumberRole}
use Rattle.gn_uses.specs.declared.nodes.Role.TheVariants as role
use Rattle.gn_uses.specs.Nodes as numbers
use Rattle.gn_uses.specs.Uses.{IsUnchosen, HasInput}
use Rattle.gn_readers.specs.declared.place.Place.{Place}
use Rattle.gn_readers.specs.declared.place.Place.TheVariants.{Input}
use Rattle.gn_readers.specs.declared.place.Reader.{Reader}
use Rattle.gn_readers.specs.Readers.{link_at, AreReaders}
use Rattle.gn_readers.proofs.Noting.{same_number}
use Rattle.gn_nodes.specs.Calls.{choice_as, chosen_as}
use Rattle.gn_delivery.specs.declared.plan.Chosen.{Chosen}
use Rattle.gn_delivery.specs.declared.plan.Plan.{Plan}
use Rattle.gn_delivery.specs.Slots.{or_as_before}
use Rattle.gn_delivery.specs.Plans.{carried, due_from, due_by, due, IsChoice, IsPlanFor}
use Rattle.gn_delivery.specs.Marks.{Chooses, Fills}
use Rattle.gn_delivery.proofs.Planned.{index_map, one_there}
use Rattle.gn_delivery.proofs.Planning.{due_elsewhere, due_from_node, due_reader, reader_due}
use Rattle.gn_exec_core.specs.Holds.{value_now, AreNumbered, HaveConditions}
use Rattle.gn_exec_core.specs.Starts.{first_set, first_value}
use Rattle.gn_exec_core.proofs.Using.{inside, at_node, link, in_world}

-- ---- lists

pub get_map : {A B : Type 0} (f : A → B) (xs : List A) (n : ℕ) → slice_get (map f xs) n ≡ option_map f (slice_get xs n)
get_map f [] n = refl
get_map f (x ∷ xs) zero = refl
get_map f (x ∷ xs) (suc n) = get_map f xs n

pub same_lists : {A : Type 0} (xs ys : List A) → ((n : ℕ) → slice_get xs n ≡ slice_get ys n) → xs ≡ ys
same_lists [] [] h = refl
same_lists [] (y ∷ ys) h = absurd (let bad : None ≡ Some y = h 0 in not_both refl bad)
same_lists (x ∷ xs) [] h = absurd (let bad : Some x ≡ None = h 0 in not_both bad refl)
same_lists (x ∷ xs) (y ∷ ys) h = let first : x ≡ y = some_same (h 0) in let rest : xs ≡ ys = same_lists xs ys (λ n. h (suc n)) in λ i. first i ∷ rest i

same_flags : (xs ys : List Bool) → length xs ≡ length ys → ((n : ℕ) → n < length ys → slice_index_or xs n false ≡ slice_index_or ys n false) → xs ≡ ys
same_flags [] [] e h = refl
same_flags [] (y ∷ ys) e h = absurd (omega (arith, e))
same_flags (x ∷ xs) [] e h = absurd (omega (arith, e))
same_flags (x ∷ xs) (y ∷ ys) e h =
    let first : x ≡ y = h 0 (omega arith) in
    let rest : xs ≡ ys = same_flags xs ys (omega (arith, e)) (λ n below. h (suc n) (omega (arith, below))) in
    λ i. first i ∷ rest i

map_is : {A B C : Type 0} (f : B → C) (h : A → B) (o : Option A) → option_map f (option_map h o) ≡ option_map (λ x. f (h x)) o
map_is f h None = refl
map_is f h (Some x) = refl

-- ---- values

module _ {K V S T : Type 0} (m : Meanings K V S T) (w : World K V) where
  -- what a link shows where nothing leads on
  abbrev shown : Link V → Option V
  shown l = if is_there w l.from then Some (link_value m (set_outputs m w) l) else None

  now_shown : ((x : Source V) → w.leads x ≡ plain_link x) → (l : Link V) → value_now m w l ≡ shown l
  now_shown leads l = ap (λ y. if is_there w y.from then Some (link_value m (set_outputs m w) (record { from = y.from; through = y.through ++ l.through })) else None) (leads l.from)

  value_set : (l : Link V) → is_some (value_now m w l) ≡ is_set w l.from
  value_set l = by (is_set w l.from)
    where
      by : (b : Bool) → is_some (if b then Some (reads m w l) else None) ≡ b
      by true = refl
      by false = refl

  set_values : (links : List (Link V)) → first_set (map (value_now m w) links) ≡ condition_set m w links
  set_values [] = refl
  set_values (l ∷ links) = value_set l

  -- what a switch has chosen, by the value of its condition
  choice_values : (kind : K) (role : Role) (links : List (Link V)) → choice_as role (first_set (map (value_now m w) links)) (m.rows.choice kind (first_value m (map (value_now m w) links))) ≡ choice_as role (condition_set m w links) (m.rows.choice kind (condition m (reads m w) links))
  choice_values kind Plain links = refl
  choice_values kind File links = refl
  choice_values kind Zone links = refl
  choice_values kind Switch [] = refl
  choice_values kind Switch (l ∷ links) = by (is_set w l.from)
    where
      by : (b : Bool) → choice_as Switch (is_some (if b then Some (reads m w l) else None)) (m.rows.choice kind (first_value m ((if b then Some (reads m w l) else None) ∷ map (value_now m w) links))) ≡ choice_as Switch b (m.rows.choice kind (reads m w l))
      by true = refl
      by false = refl

module _ {G K V S T : Type 0} (m : Meanings K V S T) (kind_of : G → K) (graph : Nodes G) (given : List V) (w : World K V) (g : numbers.Nodes) (holds : AreNumbered m kind_of graph given w g)
    (leads : (x : Source V) → w.leads x ≡ plain_link x) (differ : AllDiffer (paths_of w.graph)) (n : ℕ) (at : GraphNode G) (here : slice_get graph.nodes n ≡ Some at) (outs : List V) (warnings : List Warning) where
  -- the world in which the node has these outputs
  abbrev pub v : World K V
  v = record w { set = with_entry at.path.steps.items outs w.set; warned = with_entry at.path.steps.items warnings w.warned }

  abbrev carries : GraphLink → Link V
  carries = link m kind_of graph given

  abbrev is_due : Place → Option V
  is_due = due m kind_of graph outs n

  abbrev Shows : Source V → List ℕ → Option V → Type 0
  Shows x through d = shown m v (record { from = x; through = through }) ≡ or_as_before d (shown m w (record { from = x; through = through }))

  shown_here : (t : ℕ) (through : List ℕ) → Shows (an_output at.path.steps.items t) through (Some (carried m kind_of graph outs t through))
  shown_here t through = ap (λ o. if is_some o then Some (converted m.rows (slice_index_or (unwrap_or o []) t m.nothing) through) else None) (entry_here at.path.steps.items outs w.set)

  shown_there : (b : GraphNode G) (t : ℕ) (through : List ℕ) → at.path.steps.items ≢ b.path.steps.items → Shows (an_output b.path.steps.items t) through None
  shown_there b t through other = ap (λ o. if is_some o then Some (converted m.rows (slice_index_or (unwrap_or o []) t m.nothing) through) else None) (entry_other at.path.steps.items outs w.set b.path.steps.items other)

  other_path : (k : ℕ) (b : GraphNode G) → slice_get graph.nodes k ≡ Some b → k ≢ n → at.path.steps.items ≢ b.path.steps.items
  other_path k b e d same =
      d (one_place (λ y. y.path) w.graph differ k n (at_node m kind_of graph given b) (at_node m kind_of graph given at) (in_world m kind_of graph given w g holds k b e) (in_world m kind_of graph given w g holds n at here) (sym same))

  shown_output : (k t : ℕ) (through : List ℕ) (o : Option (GraphNode G)) → slice_get graph.nodes k ≡ o → Shows (output_of kind_of m.nothing o t) through (due_from m kind_of graph outs n (origin.Out k t) through)
  shown_output k t through o e = elim (same_number k n) [
    | inl same ↦
        let is : o ≡ Some at = sym e ∙ ap (slice_get graph.nodes) same ∙ here in
        subst (λ x. Shows (output_of kind_of m.nothing x t) through (due_from m kind_of graph outs n (origin.Out k t) through)) (sym is)
        (subst (Shows (an_output at.path.steps.items t) through) (sym (due_from_node m kind_of graph outs n (origin.Out k t) t through (ap (λ j. origin.Out j t) same))) (shown_here t through))
    | inr d ↦ subst (Shows (output_of kind_of m.nothing o t) through) (sym (due_elsewhere m kind_of graph outs n k t through d)) (by o e d)
  ]
    where
      by : (o : Option (GraphNode G)) → slice_get graph.nodes k ≡ o → k ≢ n → Shows (output_of kind_of m.nothing o t) through None
      by None e d = refl
      by (Some b) e d = shown_there b t through (other_path k b e d)

  shown_source : (o : Origin) (through : List ℕ) → Shows (source_of kind_of m.nothing graph.nodes given o) through (due_from m kind_of graph outs n o through)
  shown_source origin.Input through = refl
  shown_source (origin.Constant slot) through = refl
  shown_source (origin.Out k t) through = shown_output k t through (slice_get graph.nodes k) refl

  -- a link carries what is due, and else what it carried
  pub value_after : (l : GraphLink) → value_now m v (carries l) ≡ or_as_before (due_from m kind_of graph outs n l.origin l.through.items) (value_now m w (carries l))
  value_after l =
      now_shown m v leads (carries l)
      ∙ shown_source l.origin l.through.items
      ∙ ap (or_as_before (due_from m kind_of graph outs n l.origin l.through.items)) (sym (now_shown m w leads (carries l)))

  -- the values of links at some places
  pub values_after : (links : List GraphLink) (place : ℕ → Place) → ((i : ℕ) → link_at graph (place i) ≡ slice_get links i) → (xs xs' : List (Option V))
      → ((i : ℕ) → slice_get xs' i ≡ option_map (or_as_before (is_due (place i))) (slice_get xs i)) → xs ≡ map (value_now m w) (map carries links) → xs' ≡ map (value_now m v) (map carries links)
  values_after links place places xs xs' delivered before = same_lists xs' (map (value_now m v) (map carries links)) (λ i.
      delivered i
      ∙ ap (λ ys. option_map (or_as_before (is_due (place i))) (slice_get ys i)) before
      ∙ ap (option_map (or_as_before (is_due (place i)))) (value_at w i)
      ∙ ap (λ o. option_map (or_as_before (due_by m kind_of graph outs n o)) (option_map (λ l. value_now m w (carries l)) (slice_get links i))) (places i)
      ∙ by (slice_get links i)
      ∙ sym (value_at v i))
    where
      value_at : (u : World K V) (i : ℕ) → slice_get (map (value_now m u) (map carries links)) i ≡ option_map (λ l. value_now m u (carries l)) (slice_get links i)
      value_at u i = get_map (value_now m u) (map carries links) i ∙ ap (option_map (value_now m u)) (get_map carries links i) ∙ map_is (value_now m u) carries (slice_get links i)

      by : (o : Option GraphLink) → option_map (or_as_before (due_by m kind_of graph outs n o)) (option_map (λ l. value_now m w (carries l)) o) ≡ option_map (λ l. value_now m v (carries l)) o
      by None = refl
      by (Some l) = ap Some (sym (value_after l))

  -- ---- the numbers

  module _ (rs : List Reader) (readers : AreReaders graph n rs) where
    input_link : (k i : ℕ) (b : GraphNode G) → slice_get graph.nodes k ≡ Some b → link_at graph (Input k i) ≡ slice_get b.inputs.items i
    input_link k i b e = ap (λ o. option_and_then (λ x. slice_get x.inputs.items i) o) e

    -- a reader at a place where nothing is due
    none_due : (r : Reader) (p : Place) → Has rs r → r.place ≡ p → is_due p ≡ None → ⊥
    none_due r p h e none =
        let leads_there = (readers.each r).0 h in
        not_both none (ap is_due (sym e) ∙ due_reader m kind_of graph outs n r leads_there.0 leads_there.1 leads_there.2)

    pub has_input : (k i : ℕ) (l : GraphLink) → length g.sizes ≡ length graph.nodes → link_at graph (Input k i) ≡ Some l → HasInput g k i
    has_input k i l sizes e = by (slice_get graph.nodes k) refl e
      where
        by : (o : Option (GraphNode G)) → slice_get graph.nodes k ≡ o → option_and_then (λ x. slice_get x.inputs.items i) o ≡ Some l → HasInput g k i
        by None is f = cc
        by (Some b) is f =
            let before : length (numbers.filled g k) ≡ length b.inputs.items = ap length (holds.each k b is).filled ∙ length-map (map carries b.inputs.items) (λ y. is_set w y.from) ∙ length-map b.inputs.items carries in
            let there : k < length graph.nodes = inside graph.nodes k b is in
            let within : i < length b.inputs.items = inside b.inputs.items i l f in
            record { there = omega (arith, there, sizes); input = omega (arith, within, before) }

    -- flags of inputs
    module _ (g' : numbers.Nodes) (fills : Fills g rs g') where
      flag_after : (k i : ℕ) (b : GraphNode G) (l : GraphLink) → slice_get graph.nodes k ≡ Some b → slice_get b.inputs.items i ≡ Some l → (d : Option V) → is_due (Input k i) ≡ d
          → slice_index_or (numbers.filled g' k) i false ≡ is_some (or_as_before d (value_now m w (carries l)))
      flag_after k i b l e f (Some x) is =
          let r = reader_due m kind_of graph outs n (Input k i) x is in
          fills.all (record { output = r.0; place = Input k i }) k i ((readers.each (record { output = r.0; place = Input k i })).1 r.1) refl
      flag_after k i b l e f None is = elim (fills.each k i) [
        | inl same ↦
            same ∙ ap (λ xs. slice_index_or xs i false) (holds.each k b e).filled
            ∙ index_map (λ y. is_set w y.from) (map carries b.inputs.items) i false (carries l) (get_map carries b.inputs.items i ∙ ap (option_map carries) f)
            ∙ sym (value_set m w (carries l))
        | inr q ↦ absurd (none_due q.0.0 (Input k i) q.0.1 q.0.2 is)
      ]

      pub filled_after : (k : ℕ) (b : GraphNode G) → slice_get graph.nodes k ≡ Some b → numbers.filled g' k ≡ map (λ l. is_set v l.from) (at_node m kind_of graph given b).links
      filled_after k b e =
          let flags = map (λ l. is_set v l.from) (map carries b.inputs.items) in
          let counted : length (map (λ l. is_set v l.from) (map carries b.inputs.items)) ≡ length b.inputs.items = length-map (map carries b.inputs.items) (λ l. is_set v l.from) ∙ length-map b.inputs.items carries in
          let before : length (numbers.filled g k) ≡ length b.inputs.items = ap length (holds.each k b e).filled ∙ length-map (map carries b.inputs.items) (λ l. is_set w l.from) ∙ length-map b.inputs.items carries in
          same_flags (numbers.filled g' k) (map (λ l. is_set v l.from) (map carries b.inputs.items)) (fills.inputs k ∙ before ∙ sym counted)
          (λ i below.
          let l = one_there b.inputs.items i (subst (λ j. i < j) counted below) in
          flag_after k i b l.0 e l.1 (is_due (Input k i)) refl
          ∙ ap (λ o. is_some (or_as_before (due_by m kind_of graph outs n o) (value_now m w (carries l.0)))) (input_link k i b e ∙ l.1)
          ∙ ap is_some (sym (value_after l.0))
          ∙ value_set m v (carries l.0)
          ∙ sym (index_map (λ y. is_set v y.from) (map carries b.inputs.items) i false (carries l.0) (get_map carries b.inputs.items i ∙ ap (option_map carries) l.1)))

    -- choices
    module _ {H : Type 0} (content : H → V) (plan : Plan H) (planned : IsPlanFor m kind_of graph outs n content rs plan) (conditions : HaveConditions m kind_of graph.nodes) (unset : w.set at.path.steps.items ≡ None)
        (g' : numbers.Nodes) (chooses : Chooses g plan.choices.items g') (sizes : length g.sizes ≡ length graph.nodes) where
      -- only a switch chooses, and only by what is due
      no_choice : (k : ℕ) (b : GraphNode G) → slice_get graph.nodes k ≡ Some b → (m.rows.role (kind_of b.kind) ≡ Switch → is_due (Input k 0) ≡ None) → numbers.choice g' k ≡ numbers.choice g k
      no_choice k b e none = elim (chooses.each k) [
        | inl same ↦ same
        | inr c ↦
            let i : IsChoice m kind_of graph outs n c.0 = planned.choices c.0 c.1 in
            let is : i.node ≡ b = some_same (sym i.there ∙ ap (slice_get graph.nodes) c.2 ∙ e) in
            absurd (not_both (none (ap (λ x. m.rows.role (kind_of x.kind)) (sym is) ∙ i.switch)) (ap (λ j. is_due (Input j 0)) (sym c.2) ∙ i.is_due))
      ]

      -- before its condition was there, a switch had not chosen
      unset_link : (o : Origin) (through : List ℕ) (x : V) → due_from m kind_of graph outs n o through ≡ Some x → is_set w (source_of kind_of m.nothing graph.nodes given o) ≡ false
      unset_link origin.Input through x e = cc
      unset_link (origin.Constant slot) through x e = cc
      unset_link (origin.Out k t) through x e = elim (same_number k n) [
        | inl same ↦
            ap (λ o. is_set w (output_of kind_of m.nothing o t)) (ap (slice_get graph.nodes) same ∙ here)
            ∙ ap (λ y. is_there w y.from) (leads (an_output at.path.steps.items t))
            ∙ ap is_some unset
        | inr d ↦ absurd (not_both (due_elsewhere m kind_of graph outs n k t through d) e)
      ]

      new_choice : (k : ℕ) (b : GraphNode G) (x : V) → slice_get graph.nodes k ≡ Some b → m.rows.role (kind_of b.kind) ≡ Switch → is_due (Input k 0) ≡ Some x → is_some (numbers.choice g k) ≡ false
          → (d : Chosen) × (numbers.choice g' k ≡ Some d.choice) × (numbers.choice_of (Some d.choice) ≡ m.rows.choice (kind_of b.kind) x)
      new_choice k b x e switch is unchosen =
          let r = reader_due m kind_of graph outs n (Input k 0) x is in
          let q : Reader = record { output = r.0; place = Input k 0 } in
          let c = planned.all_choices q ((readers.each q).1 r.1) k b refl e switch in
          let there : k < length graph.nodes = inside graph.nodes k b e in
          let role_is : numbers.role_of (numbers.role g k) ≡ Switch = (holds.each k b e).role ∙ switch in
          let free : IsUnchosen g k = record { there = omega (arith, there, sizes); undecided = undecided (numbers.role g k) (numbers.choice g k) role_is unchosen } in
          let some : is_some (numbers.choice g' k) ≡ true = ap (λ j. is_some (numbers.choice g' j)) (sym c.2) ∙ chooses.all c.0 c.1 (subst (IsUnchosen g) (sym c.2) free) in
          elim (chooses.each k) [
            | inl same ↦ absurd (true≢false (sym some ∙ ap is_some same ∙ unchosen))
            | inr d ↦
                let i : IsChoice m kind_of graph outs n d.0 = planned.choices d.0 d.1 in
                let node_is : i.node ≡ b = some_same (sym i.there ∙ ap (slice_get graph.nodes) d.2 ∙ e) in
                let value_is : i.condition ≡ x = some_same (sym i.is_due ∙ ap (λ j. is_due (Input j 0)) d.2 ∙ is) in
                (d.0, d.3, i.chooses ∙ ap (λ y. m.rows.choice (kind_of y.kind) i.condition) node_is ∙ ap (m.rows.choice (kind_of b.kind)) value_is)
          ]
        where
          undecided : (r : NumberRole) (c : Option Choice) → numbers.role_of r ≡ Switch → is_some c ≡ false → numbers.IsUndecided r c
          undecided role.Plain c e f = cc
          undecided role.File c e f = cc
          undecided role.Zone c e f = cc
          undecided role.Switch None e f = tt
          undecided role.Switch (Some c) e f = cc

      -- what is chosen by values
      abbrev IsChosen : K → List (Option V) → Option Choice → Type 0
      IsChosen kind vs made = (numbers.choice_of made ≡ choice_as (m.rows.role kind) (first_set vs) (m.rows.choice kind (first_value m vs))) × (is_some made ≡ chosen_as (m.rows.role kind) (first_set vs))

      not_switch : (role : Role) (made : Option Choice) (a b : Bool) (x y : MeantChoice) → role ≢ Switch → (numbers.choice_of made ≡ choice_as role a x) × (is_some made ≡ chosen_as role a) → (numbers.choice_of made ≡ choice_as role b y) × (is_some made ≡ chosen_as role b)
      not_switch Plain made a b x y d h = h
      not_switch File made a b x y d h = h
      not_switch Zone made a b x y d h = h
      not_switch Switch made a b x y d h = absurd (d refl)

      chosen_before : (k : ℕ) (b : GraphNode G) → slice_get graph.nodes k ≡ Some b → IsChosen (kind_of b.kind) (map (value_now m w) (map carries b.inputs.items)) (numbers.choice g k)
      chosen_before k b e = (
        (holds.each k b e).choice ∙ sym (choice_values m w (kind_of b.kind) (m.rows.role (kind_of b.kind)) (map carries b.inputs.items)),
        (holds.each k b e).chosen ∙ ap (chosen_as (m.rows.role (kind_of b.kind))) (sym (set_values m w (map carries b.inputs.items))),
      )

      others : (k : ℕ) (b : GraphNode G) → slice_get graph.nodes k ≡ Some b → m.rows.role (kind_of b.kind) ≢ Switch → IsChosen (kind_of b.kind) (map (value_now m v) (map carries b.inputs.items)) (numbers.choice g' k)
      others k b e d =
          let vs = map (value_now m w) (map carries b.inputs.items) in
          let vs' = map (value_now m v) (map carries b.inputs.items) in
          subst (IsChosen (kind_of b.kind) vs') (sym (no_choice k b e (λ s. absurd (d s))))
          (not_switch (m.rows.role (kind_of b.kind)) (numbers.choice g k) (first_set vs) (first_set vs') (m.rows.choice (kind_of b.kind) (first_value m vs)) (m.rows.choice (kind_of b.kind) (first_value m vs')) d (chosen_before k b e))

      other_rest : (kind : K) (x : Option V) (xs ys : List (Option V)) (made : Option Choice) → IsChosen kind (x ∷ xs) made → IsChosen kind (x ∷ ys) made
      other_rest kind None xs ys made h = h
      other_rest kind (Some x) xs ys made h = h

      chosen_by : (kind : K) (x : V) (ys : List (Option V)) (made : Option Choice) (c : Choice) → m.rows.role kind ≡ Switch → made ≡ Some c → numbers.choice_of (Some c) ≡ m.rows.choice kind x → IsChosen kind (Some x ∷ ys) made
      chosen_by kind x ys made c switch is chooses_so = (
        ap numbers.choice_of is ∙ chooses_so ∙ ap (λ r. choice_as r true (m.rows.choice kind x)) (sym switch),
        ap is_some is ∙ ap (λ r. chosen_as r true) (sym switch),
      )

      switch_after : (k : ℕ) (b : GraphNode G) → slice_get graph.nodes k ≡ Some b → m.rows.role (kind_of b.kind) ≡ Switch → (links : List GraphLink) → b.inputs.items ≡ links → links ≢ []
          → IsChosen (kind_of b.kind) (map (value_now m w) (map carries links)) (numbers.choice g k) → (is_some (numbers.choice g k) ≡ condition_set m w (map carries links)) → IsChosen (kind_of b.kind) (map (value_now m v) (map carries links)) (numbers.choice g' k)
      switch_after k b e switch [] are ne before had = absurd (ne refl)
      switch_after k b e switch (l ∷ ls) are ne before had = by (is_due (Input k 0)) refl
        where
          due_is : is_due (Input k 0) ≡ due_from m kind_of graph outs n l.origin l.through.items
          due_is = ap (due_by m kind_of graph outs n) (input_link k 0 b e ∙ ap (λ xs. slice_get xs 0) are)

          by : (d : Option V) → is_due (Input k 0) ≡ d → IsChosen (kind_of b.kind) (value_now m v (carries l) ∷ map (value_now m v) (map carries ls)) (numbers.choice g' k)
          by None is =
              let value : value_now m v (carries l) ≡ value_now m w (carries l) = value_after l ∙ ap (λ d. or_as_before d (value_now m w (carries l))) (sym due_is ∙ is) in
              subst (λ x. IsChosen (kind_of b.kind) (x ∷ map (value_now m v) (map carries ls)) (numbers.choice g' k)) (sym value)
              (subst (IsChosen (kind_of b.kind) (value_now m w (carries l) ∷ map (value_now m v) (map carries ls))) (sym (no_choice k b e (λ s. is)))
              (other_rest (kind_of b.kind) (value_now m w (carries l)) (map (value_now m w) (map carries ls)) (map (value_now m v) (map carries ls)) (numbers.choice g k) before))
          by (Some x) is =
              let value : value_now m v (carries l) ≡ Some x = value_after l ∙ ap (λ d. or_as_before d (value_now m w (carries l))) (sym due_is ∙ is) in
              let free : is_some (numbers.choice g k) ≡ false = had ∙ unset_link l.origin l.through.items x (sym due_is ∙ is) in
              let d = new_choice k b x e switch is free in
              subst (λ y. IsChosen (kind_of b.kind) (y ∷ map (value_now m v) (map carries ls)) (numbers.choice g' k)) (sym value)
              (chosen_by (kind_of b.kind) x (map (value_now m v) (map carries ls)) (numbers.choice g' k) d.0.choice switch d.1 d.2)

      chosen_after : (k : ℕ) (b : GraphNode G) → slice_get graph.nodes k ≡ Some b → (role : Role) → m.rows.role (kind_of b.kind) ≡ role → IsChosen (kind_of b.kind) (map (value_now m v) (map carries b.inputs.items)) (numbers.choice g' k)
      chosen_after k b e Switch is =
          switch_after k b e is b.inputs.items refl (conditions k b e is) (chosen_before k b e)
          ((holds.each k b e).chosen ∙ ap (λ r. chosen_as r (condition_set m w (map carries b.inputs.items))) is)
      chosen_after k b e Plain is = others k b e (λ s. let bad : Plain ≡ Switch = sym is ∙ s in cc)
      chosen_after k b e File is = others k b e (λ s. let bad : File ≡ Switch = sym is ∙ s in cc)
      chosen_after k b e Zone is = others k b e (λ s. let bad : Zone ≡ Switch = sym is ∙ s in cc)

      -- all the numbers
      pub numbered_after : (g'' : numbers.Nodes) → Fills g' rs g'' → AreNumbered m kind_of graph given v g''
      numbered_after g'' fills = subst (AreNumbered m kind_of graph given v) (sym is) (record {
        nodes = holds.nodes;
        each = λ k b e.
            let i = holds.each k b e in
            let c = chosen_after k b e (m.rows.role (kind_of b.kind)) refl in
            record {
              role = i.role;
              inputs = i.inputs;
              choice = c.0 ∙ choice_values m v (kind_of b.kind) (m.rows.role (kind_of b.kind)) (map carries b.inputs.items);
              chosen = c.1 ∙ ap (chosen_as (m.rows.role (kind_of b.kind))) (set_values m v (map carries b.inputs.items));
              filled = filled_after (record g { filled = g''.filled }) from_first k b e;
              answered = i.answered;
            };
        roots = holds.roots;
        no_results = holds.no_results;
        shut = holds.shut;
      })
        where
          is : g'' ≡ record g { choices = g'.choices; filled = g''.filled }
          is = fills.same ∙ ap (λ (x : numbers.Nodes). record x { filled = g''.filled }) chooses.same

          flags : g'.filled ≡ g.filled
          flags = ap (λ (x : numbers.Nodes). x.filled) chooses.same

          from_first : Fills g rs (record g { filled = g''.filled })
          from_first = record {
            same = refl;
            len = fills.len ∙ ap length flags;
            inputs = λ k. fills.inputs k ∙ ap (λ fs. length (slice_index_or fs k [])) flags;
            each = λ k i. subst (λ fs. (slice_index_or (numbers.filled g'' k) i false ≡ slice_index_or (slice_index_or fs k []) i false) ⊎ (((r : Reader) × Has rs r × (r.place ≡ Input k i)) × (slice_index_or (numbers.filled g'' k) i false ≡ true))) flags (fills.each k i);
            all = fills.all;
          }
