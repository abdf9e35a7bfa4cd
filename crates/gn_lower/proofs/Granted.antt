-- What each step of unfolding may take for granted.
use Rattle.std.proofs.Common.{◌≡◌, ◌≢◌, ◌<◌, ◌≤◌, ℕ, List, [], ◌∷◌, ◌++◌, map, length, reverse, true, Some, codes, sym, ◌∙◌, ap, subst}
use Rattle.std.specs.Prelude.{All, IsSome, is_some, slice_get}
use Rattle.std.specs.Arc.{arc_value}
use Rattle.std.proofs.lemmas.Option.{slice_get_within}
use Rattle.gn_lazy.specs.declared.path.PathStep.{PathStep}
use Rattle.gn_lazy.specs.declared.graph.GraphNode.{GraphNode}
use Rattle.gn_tree.specs.Form.{node_fits}
use Rattle.gn_tree.specs.Nodes.{kind_in}
use Rattle.gn_tree.specs.Seen.{group_of}
use Rattle.gn_tree.specs.Trees.{Node as TreeNode, Tree}
use Rattle.gn_tree.specs.declared.kind.Kind.{Kind}
use Rattle.gn_rules.specs.Sockets.{node_at}
use Rattle.gn_node_set.proofs.Lists.{member_at}
use Rattle.gn_meaning.specs.Sites.{Way, plain_step}
use Rattle.gn_meaning.specs.Bodies.{body_at}
use Rattle.gn_meaning.specs.Forms.{HasForm}
use Rattle.gn_meaning.proofs.Formed.{has_form}
use Rattle.gn_meaning.proofs.Opened.{at_way}
use Rattle.gn_meaning.proofs.Parts.{Holds}
use Rattle.gn_table.specs.declared.read.Read.{Read}
use Rattle.gn_table.specs.declared.table.Part.TheVariants as part
use Rattle.gn_table.specs.declared.table.Row.{Row}
use Rattle.gn_table.specs.declared.table.Table.{Table}
use Rattle.gn_table.specs.Tables.{IsPart, IsRow, run_at}
use Rattle.gn_lower.specs.declared.visit.Visit.{Visit}
use Rattle.gn_lower.specs.declared.unfold.Unfolding.{Unfolding}
use Rattle.gn_lower.specs.Carried.{IsRead, came_in}
use Rattle.gn_lower.specs.Unfolding.{ComesNext, IsVisit, Stands, tree_in, way_by}
use Rattle.gn_lower.proofs.Coming.{all_read, given_comes, known_node}
use Rattle.gn_lower.proofs.Leaving.{Parent, parent_of}
use Rattle.gn_lower.proofs.Lists.{reverse_push}
use Rattle.gn_lower.proofs.Next.{IsNext, next_is}
use Rattle.gn_lower.proofs.Typed.{no_group, written_fits}

-- what is read is there
pub reads_there : (nodes : List (GraphNode Kind)) (visit : Visit) (reads : List Read) → All (IsRead nodes visit) reads → All (λ r. IsSome (came_in visit r)) reads
reads_there nodes visit reads all k d less = ap is_some (all k d less).is

module _ (u : Unfolding) (stands : Stands u) where
  abbrev t : Tree
  t = tree_in u

  abbrev form : HasForm t
  form = has_form t stands.formed

  abbrev way : Way
  way = way_by (reverse u.way.items)

  abbrev v : IsVisit t u.nodes.items way u.visit
  v = stands.state.visit

  list : (body_at t way ≡ Some v.body) × Holds t v.body
  list = at_way t stands.keeps form v.leads

  -- ---- the node that comes next

  pub row_there : (n : ℕ) → slice_get u.visit.table.now.order.items u.visit.next ≡ Some n → n < length u.visit.table.now.rows.items
  row_there n next =
      let x : (x : TreeNode) × (node_at v.body.scope.nodes n ≡ Some x) = known_node t stands.keeps form u.nodes.items way u.visit v n (member_at u.visit.table.now.order.items u.visit.next n next) in
      let row : (row : Row) × (slice_get u.visit.table.now.rows.items n ≡ Some row) × IsRow v.body.scope x.0 row = v.table.rows n x.0 x.1 in
      slice_get_within u.visit.table.now.rows.items n row.0 row.1

  module _ (n : ℕ) (row : Row) (next : ComesNext u n row) where
    it : IsNext t stands.keeps form u.nodes.items way u.visit v n row
    it = next_is t stands.keeps form u.nodes.items way u.visit v n row next.0 next.1

    pub row_read : All (IsRead u.nodes.items u.visit) row.reads.items
    row_read = all_read t stands.keeps form u.nodes.items way u.visit v row.reads.items it.comes

    own_fits : node_fits it.written ≡ true
    own_fits = written_fits t stands.keeps stands.formed u.nodes.items stands.state.around v.body v.leads n it.written it.there

    pub row_fits : node_fits row.node.now ≡ true
    row_fits = subst (λ x. node_fits x ≡ true) (sym it.is.node) own_fits

    pub row_runs : (outputs : ℕ) → row.part ≡ part.Run outputs → kind_in row.node.now ≢ codes "group"
    row_runs outputs is e =
        let part_is : IsPart v.body.scope it.written (part.Run outputs) = subst (IsPart v.body.scope it.written) is it.is.part in
        no_group t stands.keeps stands.formed v.body n it.written list.1 own_fits it.there way (run_at v.body.scope way n it.written) (part_is.0 way n) (sym (ap kind_in it.is.node) ∙ e)

    pub row_inside : (n < length u.visit.made.items) × (u.visit.next < length u.visit.table.now.order.items)
    row_inside = (
      subst (λ k. n < k) (sym v.sized) (slice_get_within u.visit.table.now.rows.items n row next.1),
      slice_get_within u.visit.table.now.order.items u.visit.next n next.0,
    )

    pub group_table : (group : ℕ) → row.part ≡ part.Group group → (table : Table) × (slice_get u.tables.now.groups.items group ≡ Some table)
    group_table group is =
        let part_is : IsPart v.body.scope it.written (part.Group group) = subst (IsPart v.body.scope it.written) is it.is.part in
        let held = stands.tables.groups group part_is.0 (ap (λ gs. slice_get gs group) (sym list.1.groups) ∙ part_is.1) in
        (held.0, held.1)

  pub groups_here : map group_of (arc_value u.groups).items ≡ v.body.scope.groups
  groups_here = stands.groups ∙ sym list.1.groups

  -- ---- a list that is done

  pub given_read : length u.visit.table.now.order.items ≤ u.visit.next → All (IsRead u.nodes.items u.visit) u.visit.table.now.given.items
  given_read done = all_read t stands.keeps form u.nodes.items way u.visit v u.visit.table.now.given.items (given_comes t stands.keeps form u.nodes.items way u.visit v done)

  module _ (around : Visit) (step : PathStep) (outer : List Visit) (steps : List PathStep) (outer_is : u.outer.items ≡ outer ++ around ∷ []) (way_is : u.way.items ≡ steps ++ step ∷ []) where
    pub parent : (step ≡ plain_step step.node) × Parent t u.nodes.items around step.node (reverse outer) (reverse steps) stands.state.more
    parent = parent_of t u.nodes.items around step (reverse outer) (reverse steps) stands.state.around (ap reverse outer_is ∙ reverse_push outer around) (ap reverse way_is ∙ reverse_push steps step)

    pub parent_inside : (step.node < length around.made.items) × (around.next < length around.table.now.order.items)
    parent_inside =
        let p = parent.1 in
        let x : (x : TreeNode) × (node_at p.visit_is.body.scope.nodes step.node ≡ Some x) = known_node t stands.keeps form u.nodes.items (way_by (reverse steps)) around p.visit_is step.node (member_at around.table.now.order.items around.next step.node p.next) in
        let row : (row : Row) × (slice_get around.table.now.rows.items step.node ≡ Some row) × IsRow p.visit_is.body.scope x.0 row = p.visit_is.table.rows step.node x.0 x.1 in (
          subst (λ k. step.node < k) (sym p.visit_is.sized) (slice_get_within around.table.now.rows.items step.node row.0 row.1),
          slice_get_within around.table.now.order.items around.next step.node p.next,
        )
