-- A finish may come, and its outputs can be handed on.
use Rattle.std.proofs.Common.{◌≡◌, ◌≢◌, ℕ, zero, suc, ◌<◌, List, [], ◌∷◌, map, length, Option, Some, None, refl, sym, ap, ◌∙◌, subst, arith}
use Rattle.std.specs.Prelude.{is_some, IsSome, slice_get, slice_index_or, option_and_then}
use Rattle.gn_lazy.specs.Graphs.{Nodes}
use Rattle.gn_lazy.specs.declared.graph.Origin.TheVariants as origin
use Rattle.gn_lazy.specs.declared.graph.Link.{Link as GraphLink}
use Rattle.gn_lazy.specs.declared.graph.GraphNode.{GraphNode}
use Rattle.gn_node_set.specs.Meanings.{an_output, Link, Node, Role, Plain, Switch, File, Zone, Meanings}
use Rattle.gn_node_set.proofs.Lists.{some_same, has_image, member_at, known_by}
use Rattle.gn_exec_laws.specs.Tasks.{output_of, source_of}
use Rattle.gn_exec_laws.specs.Fits.{shifted, LinkSort, NodeFits, KindFits, CanStart, IsLawful}
use Rattle.gn_exec_laws.specs.Machine.{World, finish_by_role, with_outputs, finish_node, run_now}
use Rattle.gn_exec_laws.proofs.Sorts.{Beside, beside_of, links_beside, each_fits, converted_sort}
use Rattle.gn_readers.specs.declared.place.Place.{Place}
use Rattle.gn_readers.specs.declared.place.Place.TheVariants.{Input, Root}
use Rattle.gn_readers.specs.declared.place.Reader.{Reader}
use Rattle.gn_readers.specs.Readers.{link_at, LeadsTo}
use Rattle.gn_nodes.specs.Calls.{MayBeFirst}
use Rattle.gn_delivery.specs.Plans.{carried, MayChooseBy, CanRead}
use Rattle.gn_exec_core.proofs.Using.{at_node, link, task}

finished_plainly : {K V S T : Type 0} (m : Meanings K V S T) (w : World K V) (x : Node K V) (role : Role) → role ≢ Zone → finish_by_role m role w x ≡ with_outputs m w x (run_now m w x)
finished_plainly m w x Plain d = refl
finished_plainly m w x Switch d = refl
finished_plainly m w x File d = refl
finished_plainly m w x Zone d = absurd (d refl)

-- the world after a finish of a node that is no zone
pub after_finish : {K V S T : Type 0} (m : Meanings K V S T) (w : World K V) (n : ℕ) (x : Node K V) → slice_get w.graph n ≡ Some x → m.rows.role x.kind ≢ Zone → finish_node m w (slice_get w.graph n) ≡ with_outputs m w x (run_now m w x)
after_finish m w n x there no_zone = ap (finish_node m w) there ∙ finished_plainly m w x (m.rows.role x.kind) no_zone

at_sort : {A B : Type 0} (f : A → B) (xs : List A) (n : ℕ) (d : A) (y : B) → slice_get (map f xs) n ≡ Some y → (n < length xs) × (f (slice_index_or xs n d) ≡ y)
at_sort f [] n d y e = cc
at_sort f (x ∷ xs) zero d y e = (omega arith, some_same e)
at_sort f (x ∷ xs) (suc n) d y e = let rest = at_sort f xs n d y e in let below : n < length xs = rest.0 in (omega (arith, below), rest.1)

module _ {G K V S T : Type 0} (m : Meanings K V S T) (lawful : IsLawful m) (kind_of : G → K) (graph : Nodes G) (given : List V) (start : CanStart m (task m kind_of graph given)) where
  abbrev nodes : List (Node K V)
  nodes = map (at_node m kind_of graph given) graph.nodes

  abbrev carries : GraphLink → Link V
  carries = link m kind_of graph given

  node_fits : (k : ℕ) (b : GraphNode G) → slice_get graph.nodes k ≡ Some b → NodeFits m [] nodes (at_node m kind_of graph given b)
  node_fits k b e = each_fits m [] [] nodes start.fit (at_node m kind_of graph given b) (has_image (at_node m kind_of graph given) graph.nodes b (member_at graph.nodes k b e))

  link_sort : (p : Place) (l : GraphLink) → link_at graph p ≡ Some l → (s : S) × LinkSort m [] nodes (carries l) s
  link_sort (Root r) l e = start.roots (carries l) (has_image carries graph.roots l (member_at graph.roots r l e))
  link_sort (Input k i) l e = by (slice_get graph.nodes k) refl e
    where
      by : (o : Option (GraphNode G)) → slice_get graph.nodes k ≡ o → option_and_then (λ x. slice_get x.inputs.items i) o ≡ Some l → (s : S) × LinkSort m [] nodes (carries l) s
      by None is f = cc
      by (Some b) is f =
          let fits : NodeFits m [] nodes (at_node m kind_of graph given b) = node_fits k b is in
          beside_of (LinkSort m [] nodes) (map carries b.inputs.items) fits.sorts (links_beside m [] nodes (map carries b.inputs.items) fits.sorts fits.links) (carries l) (has_image carries b.inputs.items l (member_at b.inputs.items i l f))

  -- outputs of the sorts that the node gives
  module _ (n : ℕ) (at : GraphNode G) (here : slice_get graph.nodes n ≡ Some at) (outs : List V) (sorts : map m.sort outs ≡ m.gives (kind_of at.kind)) where
    output_sort : (s : ℕ) (through : List ℕ) (t : S) → LinkSort m [] nodes (record { from = an_output at.path.steps.items s; through = through }) t → (s < length outs) × (shifted m (m.sort (slice_index_or outs s m.nothing)) through ≡ Some t)
    output_sort s through t sort =
        let node : Node K V = at_node m kind_of graph given at in
        let same : sort.1.0 ≡ node = known_by (λ x. x.path) nodes start.differ sort.1.0 node sort.1.1 (has_image (at_node m kind_of graph given) graph.nodes at (member_at graph.nodes n at here)) sort.1.2 in
        let given_sort : slice_get (map m.sort outs) s ≡ Some sort.0 = ap (λ xs. slice_get xs s) sorts ∙ ap (λ x. slice_get (m.gives x.kind) s) (sym same) ∙ sort.1.3 in
        let found = at_sort m.sort outs s m.nothing sort.0 given_sort in
        (found.0, ap (λ x. shifted m x through) found.1 ∙ sort.2)

    from_node : (l : GraphLink) (s : ℕ) → l.origin ≡ origin.Out n s → carries l ≡ record { from = an_output at.path.steps.items s; through = l.through.items }
    from_node l s e = ap (λ x. record { from = x; through = l.through.items }) (ap (source_of kind_of m.nothing graph.nodes given) e ∙ ap (λ o. output_of kind_of m.nothing o s) here)

    reader_sort : (l : GraphLink) (s : ℕ) (t : S) → l.origin ≡ origin.Out n s → LinkSort m [] nodes (carries l) t → (s < length outs) × (shifted m (m.sort (slice_index_or outs s m.nothing)) l.through.items ≡ Some t)
    reader_sort l s t e sort = output_sort s l.through.items t (subst (λ x. LinkSort m [] nodes x t) (from_node l s e) sort)

    first_fits : (k : ℕ) (b : GraphNode G) (l : GraphLink) (s : ℕ) (links : List GraphLink) (sorts : List S) → Beside (LinkSort m [] nodes) (map carries links) sorts → KindFits m (kind_of b.kind) sorts → slice_get links 0 ≡ Some l → l.origin ≡ origin.Out n s
        → MayBeFirst m (kind_of b.kind) (m.sort (carried m kind_of graph outs s l.through.items))
    first_fits k b l s [] sorts beside fits e leads = cc
    first_fits k b l s (x ∷ xs) [] beside fits e leads = absurd beside
    first_fits k b l s (x ∷ xs) (t ∷ ts) beside fits e leads =
        let sort = reader_sort l s t leads (subst (λ y. LinkSort m [] nodes (carries y) t) (some_same e) beside.0) in
        let is : m.sort (carried m kind_of graph outs s l.through.items) ≡ t = converted_sort m lawful (slice_index_or outs s m.nothing) t l.through.items sort.1 in
        (ts, subst (λ y. KindFits m (kind_of b.kind) (y ∷ ts)) (sym is) fits)

    may_choose : (r : Reader) (l : GraphLink) → link_at graph r.place ≡ Some l → l.origin ≡ origin.Out n r.output → MayChooseBy m kind_of graph r.place (m.sort (carried m kind_of graph outs r.output l.through.items))
    may_choose r l is leads k b at_first there switch =
        let fits : NodeFits m [] nodes (at_node m kind_of graph given b) = node_fits k b there in
        let first : slice_get b.inputs.items 0 ≡ Some l = ap (option_and_then (λ x. slice_get x.inputs.items 0)) (sym there) ∙ ap (link_at graph) (sym at_first) ∙ is in
        first_fits k b l r.output b.inputs.items fits.sorts (links_beside m [] nodes (map carries b.inputs.items) fits.sorts fits.links) fits.kind first leads

    -- each reader can be given its value
    pub can_read : (r : Reader) → LeadsTo graph n r → CanRead m kind_of graph outs r
    can_read r leads =
        let s = link_sort r.place leads.0 leads.1 in
        let sort = reader_sort leads.0 r.output s.0 leads.2 s.1 in
        record {
          there = sort.0;
          converts = λ l e. subst (λ y. IsSome (shifted m (m.sort (slice_index_or outs r.output m.nothing)) y.through.items)) (some_same (sym leads.1 ∙ e)) (ap is_some sort.1);
          chooses = λ l e. subst (λ y. MayChooseBy m kind_of graph r.place (m.sort (carried m kind_of graph outs r.output y.through.items))) (some_same (sym leads.1 ∙ e)) (may_choose r leads.0 leads.1 leads.2);
        }
