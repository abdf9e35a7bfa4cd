-- The list of a group is begun: that keeps what stands, and leaves one step less.
use Rattle.std.proofs.Common.{◌≡◌, ◌<◌, ◌+◌, ℕ, suc, List, ◌∷◌, ◌++◌, length, drop, take, Some, sym, ◌∙◌, ap, subst, arith}
use Rattle.std.specs.Prelude.{IsTrue, sum_by, option_map, slice_get}
use Rattle.std.proofs.lemmas.List.Sums.{sum_by-cons}
use Rattle.std.proofs.lemmas.Option.{slice_get-map}
use Rattle.gn_tree.specs.Trees.{Node as TreeNode, Tree}
use Rattle.gn_rules.specs.Rules.{KeepsRules, graph_of}
use Rattle.gn_rules.specs.Sockets.{node_at}
use Rattle.gn_node_set.specs.Meanings.{Has}
use Rattle.gn_node_set.proofs.Lists.{append_assoc, member_at}
use Rattle.gn_meaning.specs.Sites as sites
use Rattle.gn_meaning.specs.Sites.{Way, into, plain_step, at_input}
use Rattle.gn_meaning.specs.Bodies.{Body, body_at, group_body}
use Rattle.gn_meaning.specs.Forms.{HasForm}
use Rattle.gn_meaning.specs.There.{LeadsTo, into_group}
use Rattle.gn_meaning.specs.Reads.{Run, a_group, node_reads, part_at, read_at}
use Rattle.gn_meaning.proofs.Options.{some_same}
use Rattle.gn_meaning.proofs.Opened.{Opens, at_way, group_opens}
use Rattle.gn_meaning.proofs.Parts.{Holds}
use Rattle.gn_stands.specs.Order.{by_rank}
use Rattle.gn_stands.specs.Sources.{Carries as CarriesRead}
use Rattle.gn_found.specs.Filled.{by_name}
use Rattle.gn_table.specs.declared.read.Read.{Read}
use Rattle.gn_table.specs.declared.table.Part.TheVariants as part
use Rattle.gn_table.specs.declared.table.Row.{Row}
use Rattle.gn_table.specs.declared.table.Table.{Table}
use Rattle.gn_table.specs.declared.table.Tables.{Tables}
use Rattle.gn_table.specs.Reads.{read_of}
use Rattle.gn_table.specs.Tables.{AreTables, IsPart, IsTable}
use Rattle.gn_lower.specs.Carried.{Came, Carries, came_in, came_of, is_there, named_link}
use Rattle.gn_lower.specs.Unfolding.{IsVisit, State, StandsAt, Unfold, inside, steps_around, steps_at, steps_by, steps_from, steps_left, way_by}
use Rattle.gn_lower.specs.Events.{Enters}
use Rattle.gn_lower.proofs.Carrying.{Comes, group_input}
use Rattle.gn_lower.proofs.Coming.{read_there}
use Rattle.gn_lower.proofs.Counted.{steps_are}
use Rattle.gn_lower.proofs.Inside.{group_inside}
use Rattle.gn_lower.proofs.Lists.{all_at, drop_next}
use Rattle.gn_lower.proofs.Next.{IsNext, next_is}
use Rattle.gn_lower.proofs.Unfolds.{order_of}

fewer_in : (inner steps rest one all around : ℕ) → inner ≡ steps → one ≡ suc (suc steps) → all ≡ one + rest → inner + suc (rest + around) < all + around
fewer_in inner steps rest one all around e f g = omega (arith, e, f, g)

module _ (t : Tree) (keeps : KeepsRules t) (form : HasForm t) (all : List Run) (old new : State) (stands : StandsAt t all old) (tables : Tables) (made : AreTables t tables) (n group : ℕ) (row : Row) (table : Table)
    (next : slice_get old.visit.table.now.order.items old.visit.next ≡ Some n) (at : slice_get old.visit.table.now.rows.items n ≡ Some row) (is : row.part ≡ part.Group group)
    (found : slice_get tables.groups.items group ≡ Some table) (enters : Enters old n row table new) where
  abbrev way : Way
  way = way_by old.way

  abbrev body : Body
  body = stands.visit.body

  abbrev order : List ℕ
  order = old.visit.table.now.order.items

  list : (body_at t way ≡ Some body) × Holds t body
  list = at_way t keeps form stands.visit.leads

  it : IsNext t keeps form old.nodes way old.visit stands.visit n row
  it = next_is t keeps form old.nodes way old.visit stands.visit n row next at

  part_is : IsPart body.scope it.written (part.Group group)
  part_is = subst (IsPart body.scope it.written) is it.is.part

  abbrev inner : Body
  inner = group_body body.scope.groups group part_is.0

  abbrev reads : List sites.Read
  reads = node_reads body.scope way it.written

  opens : part_at t way n ≡ Some (a_group inner reads)
  opens = it.part ∙ ap Some (part_is.2 way n)

  abbrev within : Way
  within = into way (plain_step n)

  leads : LeadsTo t within inner
  leads = into_group n reads stands.visit.leads opens

  table_is : IsTable inner table
  table_is =
      let there : slice_get t.groups group ≡ Some part_is.0 = ap (λ gs. slice_get gs group) (sym list.1.groups) ∙ part_is.1 in
      let held : (q : Table) × (slice_get tables.groups.items group ≡ Some q) × IsTable (group_body t.groups group part_is.0) q = made.groups group part_is.0 there in
      subst (λ gs. IsTable (group_body gs group part_is.0) table) (sym list.1.groups) (subst (IsTable (group_body t.groups group part_is.0)) (some_same (sym held.1 ∙ found)) held.2)

  -- ---- its entries are what the group node reads

  entry_known : (i : ℕ) → i < length inner.scope.entries → (c : Came) × (option_map came_of (slice_get new.visit.entries.items i) ≡ Some c) × Carries old.nodes t (at_input within i) c
  entry_known i h =
      let of : (x : TreeNode) × (node_at body.scope.nodes n ≡ Some x) × Opens t body x inner reads = group_opens t keeps form way body list.0 n list.1 inner reads opens in
      let has : Has reads (read_at reads i) = of.2.has i h in
      let r : (r : Read) × (slice_get row.reads.items i ≡ Some r) × (read_of way r ≡ read_at reads i) = read_there t keeps form old.nodes way old.visit stands.visit row.reads.items reads i (it.is.reads way) it.comes has in
      let c : (c : Came) × (slice_get enters.entries i ≡ Some c) × (came_in old.visit r.0 ≡ Some c) = all_at (came_in old.visit) row.reads.items enters.entries i r.0 enters.reads r.1 in
      let comes : Comes t old.nodes way old.visit stands.visit r.0 = it.comes r.0 (member_at row.reads.items i r.0 r.1) in
      let same : comes.came ≡ c.0 = some_same (sym comes.is ∙ c.2) in (
        c.0,
        sym (slice_get-map came_of new.visit.entries.items i) ∙ (ap (λ cs. slice_get cs i) enters.visit.entries ∙ c.1),
        record {
          link = comes.link;
          named = ap (named_link old.nodes) (sym same) ∙ comes.named;
          carries = group_input t way n i inner reads comes.link opens (subst (λ q. CarriesRead by_name t q comes.link) r.2 comes.carries);
          there = subst (λ x. IsTrue (is_there old.nodes x.source)) same comes.there;
        },
      )

  begun : IsVisit t old.nodes within new.visit
  begun = record {
    body = inner;
    leads = leads;
    table = subst (IsTable inner) (sym enters.visit.table) table_is;
    sized = enters.visit.sized ∙ ap (λ q. length q.rows.items) (sym enters.visit.table);
    entries = entry_known;
    outputs = λ m s x there less done. absurd (subst (λ k. Has (take k new.visit.table.now.order.items) m) enters.visit.next done);
  }

  -- ---- what is left

  abbrev rest : List ℕ
  rest = drop (suc old.visit.next) order

  parts : (first : List Run) × (runs : List Run) × Unfold t within (by_rank (graph_of inner.scope.nodes)) first × Unfold t way rest runs × (first ++ runs ≡ stands.left)
  parts = group_inside t n rest inner reads stands.here (drop_next order old.visit.next n next) opens

  from_first : drop new.visit.next new.visit.table.now.order.items ≡ by_rank (graph_of inner.scope.nodes)
  from_first = ap (λ k. drop k new.visit.table.now.order.items) enters.visit.next ∙ (ap (λ q. q.order.items) enters.visit.table ∙ table_is.order)

  abbrev entered : State
  entered = record { visit = new.visit; outer = old.visit ∷ old.outer; way = plain_step n ∷ old.way; nodes = old.nodes; constants = old.constants }

  entered_stands : StandsAt t all entered
  entered_stands = record {
    visit = begun;
    done = stands.done;
    nodes = stands.nodes;
    back = stands.back;
    left = parts.0;
    more = parts.1 ++ stands.more;
    here = subst (λ ns. Unfold t within ns parts.0) (sym from_first) parts.2;
    around = inside old.visit n inner reads stands.visit next opens parts.3 stands.around;
    whole = ap (λ l. stands.done ++ l) (sym (append_assoc parts.0 parts.1 stands.more)) ∙ (ap (λ l. stands.done ++ (l ++ stands.more)) parts.4 ∙ stands.whole);
  }

  abbrev steps_of : ℕ → ℕ
  steps_of m = steps_by t (steps_at t) way m (part_at t way m)

  abbrev steps_in : ℕ → ℕ
  steps_in m = steps_by t (steps_at t) within m (part_at t within m)

  fewer_left : steps_left t entered < steps_left t old
  fewer_left =
      let inner_steps : steps_from t within new.visit.next new.visit ≡ steps_at t within = ap (sum_by steps_in) (from_first ∙ sym (order_of t keeps form within inner leads)) ∙ sym (steps_are t keeps form within inner leads) in
      let first : steps_of n ≡ suc (suc (steps_at t within)) = ap (steps_by t (steps_at t) way n) opens in
      fewer_in (steps_from t within new.visit.next new.visit) (steps_at t within) (sum_by steps_of rest) (steps_of n) (steps_from t way old.visit.next old.visit) (steps_around t old.outer old.way) inner_steps first (ap (sum_by steps_of) (drop_next order old.visit.next n next) ∙ sum_by-cons steps_of n rest)

  pub after_entering : StandsAt t all new × (steps_left t new < steps_left t old)
  after_entering =
      let same : new ≡ entered = λ i. record { visit = new.visit; outer = enters.outer i; way = enters.way i; nodes = enters.nodes i; constants = enters.constants i } in
      subst (λ s. StandsAt t all s × (steps_left t s < steps_left t old)) (sym same) (entered_stands, fewer_left)
