-- Each step of unfolding keeps what stands, and leaves fewer steps.
use Rattle.std.proofs.Common.{◌≡◌, ◌≤◌, ◌<◌, ◌⊎◌, inl, inr, ℕ, List, [], ◌∷◌, ◌++◌, map, length, reverse, false, Some, refl, sym, ◌∙◌, ap, subst, vec_len, arith}
use Rattle.std.specs.Prelude.{slice_get}
use Rattle.std.specs.declared.alloc.Global.{Global}
use Rattle.std.specs.declared.vec.Vec.{Vec}
use Rattle.std.proofs.lemmas.List.{reverse-reverse}
use Rattle.gn_lazy.specs.declared.path.PathStep.{PathStep}
use Rattle.gn_lazy.specs.declared.graph.GraphNode.{GraphNode}
use Rattle.gn_tree.specs.declared.kind.Kind.{Kind}
use Rattle.gn_node_kind.specs.Seen.{written_as}
use Rattle.gn_node_set.specs.Lists.{all_of}
use Rattle.gn_meaning.specs.Bodies.{kind_in}
use Rattle.gn_meaning.specs.Sites.{plain_step}
use Rattle.gn_meaning.proofs.Formed.{has_form}
use Rattle.gn_table.specs.declared.table.Part.TheVariants as part
use Rattle.gn_table.specs.declared.table.Row.{Row}
use Rattle.gn_table.specs.declared.table.Table.{Table}
use Rattle.gn_lower.specs.declared.carried.Carried.{Carried}
use Rattle.gn_lower.specs.declared.visit.Made.TheVariants as made
use Rattle.gn_lower.specs.declared.visit.Visit.{Visit}
use Rattle.gn_lower.specs.declared.unfold.Unfolding.{Unfolding}
use Rattle.gn_lower.specs.Carried.{Begins, Came, Makes, came_in, came_of}
use Rattle.gn_lower.specs.Unfolding.{ComesNext, Goes, Stands, StandsAt, Steps, state_of, steps_in, steps_left, tree_in}
use Rattle.gn_lower.specs.Events.{Adds, Carry, Enters, Keeps, Leaves, Links}
use Rattle.gn_lower.proofs.Adding.{after_adding}
use Rattle.gn_lower.proofs.Entering.{after_entering}
use Rattle.gn_lower.proofs.Granted.{parent}
use Rattle.gn_lower.proofs.Leaving.{after_leaving, no_lists, no_steps}
use Rattle.gn_lower.proofs.Lists.{reverse_empty, reverse_push}

module _ (old new : Unfolding) (stands : Stands old) where
  goes : Keeps old new → StandsAt (tree_in old) stands.of.runs (state_of new) × (steps_left (tree_in old) (state_of new) < steps_in old) → Goes old new
  goes same (state, fewer) =
      let is : new ≡ record new { tree = old.tree; tables = old.tables; groups = old.groups } = λ i. record new { tree = same.tree i; tables = same.tables i; groups = same.groups i } in
      subst (λ u. Goes old u) (sym is) (refl, record { keeps = stands.keeps; formed = stands.formed; tables = stands.tables; groups = stands.groups; of = stands.of; state = state }, fewer)

  stays : Keeps old new → StandsAt (tree_in old) stands.of.runs (state_of new) → (new.tree ≡ old.tree) × Stands new
  stays same state =
      let is : new ≡ record new { tree = old.tree; tables = old.tables; groups = old.groups } = λ i. record new { tree = same.tree i; tables = same.tables i; groups = same.groups i } in
      subst (λ u. (u.tree ≡ old.tree) × Stands u) (sym is) (refl, record { keeps = stands.keeps; formed = stands.formed; tables = stands.tables; groups = stands.groups; of = stands.of; state = state })

  -- ---- a node is added

  module _ (mid : Unfolding) (n outputs : ℕ) (row : Row) (node : GraphNode Kind) (links : Links old row.reads.items node.inputs.items mid) (same : new ≡ record mid { visit = new.visit; nodes = new.nodes }) where
    abbrev with_new : Unfolding → Unfolding
    with_new u = record u { visit = new.visit; nodes = new.nodes }

    changed : new ≡ record old { visit = new.visit; nodes = new.nodes; constants = mid.constants }
    changed = same ∙ ap with_new links.others

    pub goes_on_adding : ComesNext old n row → row.part ≡ part.Run outputs → node.path.steps.items ≡ old.way.items ++ plain_step n ∷ [] → node.outputs ≡ outputs → written_as node.kind ≡ kind_in stands.state.visit.body.scope row.node.now
        → new.nodes.items ≡ mid.nodes.items ++ node ∷ [] → Makes mid.visit n (made.Node (length mid.nodes.items)) new.visit → Goes old new
    goes_on_adding next is path count kind pushed makes =
        let nodes : mid.nodes ≡ old.nodes = ap (λ u. u.nodes) links.others in
        let visit : mid.visit ≡ old.visit = ap (λ u. u.visit) links.others in
        let constants : new.constants ≡ mid.constants = ap (λ u. u.constants) same in
        let adds : Adds (state_of old) n row outputs (state_of new) = record {
          way = ap (λ u. reverse u.way.items) changed;
          outer = ap (λ u. reverse u.outer.items) changed;
          node = node;
          nodes = pushed ∙ ap (λ ns. ns.items ++ node ∷ []) nodes;
          more = links.more;
          constants = ap (λ cs. cs.items) constants ∙ links.constants;
          visit = subst (λ ns. Makes old.visit n (made.Node (length ns.items)) new.visit) nodes (subst (λ x. Makes x n (made.Node (length mid.nodes.items)) new.visit) visit makes);
          path = path ∙ ap (λ steps. steps ++ plain_step n ∷ []) (sym (reverse-reverse old.way.items));
          outputs_are = count;
          links = subst (λ cs. Carry old.nodes.items old.visit row.reads.items cs.items node.inputs.items) (sym constants) links.carry;
        } in
        let keeps : Keeps old new = record { tree = ap (λ u. u.tree) changed; tables = ap (λ u. u.tables) changed; groups = ap (λ u. u.groups) changed } in
        goes keeps (after_adding (tree_in old) stands.keeps (has_form (tree_in old) stands.formed) stands.of.runs (state_of old) (state_of new) stands.state n outputs row next.0 next.1 is adds kind)

  -- ---- a group is entered or left

  module _ (same : new ≡ record old { visit = new.visit; way = new.way; outer = new.outer }) where
    kept : Keeps old new
    kept = record { tree = ap (λ u. u.tree) same; tables = ap (λ u. u.tables) same; groups = ap (λ u. u.groups) same }

    pub goes_on_entering : (n group : ℕ) (row : Row) (table : Table) (step : PathStep) (entries : List Came) → ComesNext old n row → row.part ≡ part.Group group → slice_get old.tables.now.groups.items group ≡ Some table → step ≡ plain_step n
        → new.way.items ≡ old.way.items ++ step ∷ [] → new.outer.items ≡ old.outer.items ++ old.visit ∷ [] → all_of (map (came_in old.visit) row.reads.items) ≡ Some entries → Begins table entries new.visit → Goes old new
    goes_on_entering n group row table step entries next is found plain way outer reads begins =
        let enters : Enters (state_of old) n row table (state_of new) = record {
          nodes = ap (λ u. u.nodes.items) same;
          constants = ap (λ u. u.constants.items) same;
          way = ap reverse way ∙ (reverse_push old.way.items step ∙ ap (λ s. s ∷ reverse old.way.items) plain);
          outer = ap reverse outer ∙ reverse_push old.outer.items old.visit;
          entries = entries;
          reads = reads;
          visit = begins;
        } in
        goes kept (after_entering (tree_in old) stands.keeps (has_form (tree_in old) stands.formed) stands.of.runs (state_of old) (state_of new) stands.state old.tables.now stands.tables n group row table next.0 next.1 is found enters)

    pub goes_on_leaving : (around : Visit) (step : PathStep) (outputs : Vec Carried Global) → length old.visit.table.now.order.items ≤ old.visit.next → old.outer.items ≡ new.outer.items ++ around ∷ [] → old.way.items ≡ new.way.items ++ step ∷ []
        → all_of (map (came_in old.visit) old.visit.table.now.given.items) ≡ Some (map came_of outputs.items) → Makes around step.node (made.Group outputs) new.visit → Goes old new
    goes_on_leaving around step outputs done outer way given makes =
        let plain : step ≡ plain_step step.node = (parent old stands around step new.outer.items new.way.items outer way).0 in
        let leaves : Leaves (state_of old) step.node around (state_of new) = record {
          nodes = ap (λ u. u.nodes.items) same;
          constants = ap (λ u. u.constants.items) same;
          way = ap reverse way ∙ (reverse_push new.way.items step ∙ ap (λ s. s ∷ reverse new.way.items) plain);
          outer = ap reverse outer ∙ reverse_push new.outer.items around;
          outputs = outputs;
          visit = makes;
          given = given;
        } in
        goes kept (after_leaving (tree_in old) stands.keeps (has_form (tree_in old) stands.formed) stands.of.runs (state_of old) (state_of new) stands.state step.node around done leaves)

-- ---- nothing is left

none_first : {A : Type 0} (xs ys : List A) → xs ++ ys ≡ [] → xs ≡ []
none_first [] ys e = refl
none_first (x ∷ xs) ys e = cc

pub none_popped : {A : Type 0} (v : Vec A Global) → vec_len v ≡ 0 → v.items ≡ []
none_popped {A} v empty = none v.items (sym v.ok.0 ∙ empty)
  where
    none : (xs : List A) → length xs ≡ 0 → xs ≡ []
    none [] e = refl
    none (x ∷ xs) e = absurd (omega (arith, e))

module _ (old new : Unfolding) (stands : Stands old) (same : new ≡ record old { way = new.way; outer = new.outer }) (done : length old.visit.table.now.order.items ≤ old.visit.next) where
  both_empty : (old.outer.items ≡ []) ⊎ (old.way.items ≡ []) → (old.outer.items ≡ []) × (old.way.items ≡ [])
  both_empty (inl e) = (e, reverse_empty old.way.items (no_steps (tree_in old) old.nodes.items stands.state.around (ap reverse e)))
  both_empty (inr e) = (reverse_empty old.outer.items (no_lists (tree_in old) old.nodes.items stands.state.around (ap reverse e)), e)

  pub nothing_left : (a : List Visit) (b : List PathStep) → old.outer.items ≡ new.outer.items ++ a → old.way.items ≡ new.way.items ++ b → (old.outer.items ≡ []) ⊎ (old.way.items ≡ []) → Steps old new false
  nothing_left a b outer_is way_is either =
      let empty : (old.outer.items ≡ []) × (old.way.items ≡ []) = both_empty either in
      let no_outer : new.outer.items ≡ [] = none_first new.outer.items a (sym outer_is ∙ empty.0) in
      let no_way : new.way.items ≡ [] = none_first new.way.items b (sym way_is ∙ empty.1) in
      let visit : new.visit ≡ old.visit = ap (λ u. u.visit) same in
      let outer : new.outer.items ≡ old.outer.items = no_outer ∙ sym empty.0 in
      let way : new.way.items ≡ old.way.items = no_way ∙ sym empty.1 in
      let nodes : new.nodes ≡ old.nodes = ap (λ u. u.nodes) same in
      let constants : new.constants ≡ old.constants = ap (λ u. u.constants) same in
      let state : state_of new ≡ state_of old = λ i. record { visit = visit i; outer = reverse (outer i); way = reverse (way i); nodes = (nodes i).items; constants = (constants i).items } in
      let keeps : Keeps old new = record { tree = ap (λ u. u.tree) same; tables = ap (λ u. u.tables) same; groups = ap (λ u. u.groups) same } in
      let kept : (new.tree ≡ old.tree) × Stands new = stays old new stands keeps (subst (StandsAt (tree_in old) stands.of.runs) (sym state) stands.state) in
      let done_new : length new.visit.table.now.order.items ≤ new.visit.next = subst (λ v. length v.table.now.order.items ≤ v.next) (sym visit) done in
      (kept.0, kept.1, (no_way, no_outer, done_new))
