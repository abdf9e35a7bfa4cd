-- What the node that comes next reads is known, and so is what a list gives out whose nodes are done.
use Rattle.std.proofs.Common.{◌≡◌, ◌<◌, ◌≤◌, ◌⊎◌, inl, inr, ℕ, zero, suc, List, [], ◌∷◌, map, length, drop, take, Some, None, refl, sym, ◌∙◌, ap, subst, arith}
use Rattle.std.specs.Prelude.{All, IsTrue, option_map, option_and_then, slice_get, slice_index_or}
use Rattle.std.proofs.lemmas.List.{length-map, take_all}
use Rattle.gn_kinds.specs.Row.{Text}
use Rattle.gn_lazy.specs.declared.graph.GraphNode.{GraphNode}
use Rattle.gn_tree.specs.Trees.{Node as TreeNode, node, Nodes, no_nodes, and_node, Tree}
use Rattle.gn_tree.specs.declared.kind.Kind.{Kind}
use Rattle.gn_cycle.specs.Graph.{has_edge, Leads, targets}
use Rattle.gn_rules.specs.declared.rule.Rule.TheVariants as rule
use Rattle.gn_rules.specs.Scopes.{Scope}
use Rattle.gn_rules.specs.Sockets.{ids, node_at, one_of}
use Rattle.gn_rules.specs.Rules.{KeepsRules, graph_from, graph_of}
use Rattle.gn_node_set.specs.Lists.{all_of}
use Rattle.gn_node_set.specs.Meanings.{Has, Link}
use Rattle.gn_node_set.proofs.Lists.{at_or, has_image, image_at, image_of}
use Rattle.gn_meaning.specs.Sites as sites
use Rattle.gn_meaning.specs.Sites.{Site, Way, nowhere, plain_read}
use Rattle.gn_meaning.specs.Bodies.{Body, body_at}
use Rattle.gn_meaning.specs.Forms.{HasForm}
use Rattle.gn_meaning.specs.There.{LeadsTo}
use Rattle.gn_meaning.specs.Reads.{Part, given_out, part_at, read_at}
use Rattle.gn_meaning.proofs.Found.{Near, constant, entry, output}
use Rattle.gn_meaning.proofs.Inputs.{has_read, reads_near}
use Rattle.gn_meaning.proofs.Lists.{has_at}
use Rattle.gn_meaning.proofs.Opened.{at_way, part_near}
use Rattle.gn_meaning.proofs.Opened as opened
use Rattle.gn_meaning.proofs.Options.{none_some}
use Rattle.gn_meaning.proofs.Order.{node_leading}
use Rattle.gn_meaning.proofs.Parts.{Holds, singles}
use Rattle.gn_meaning.proofs.Reached.{keeps_rule}
use Rattle.gn_stands.specs.Order.{by_rank, OrdersBack}
use Rattle.gn_stands.specs.Sources.{CarryAll}
use Rattle.gn_stands.proofs.Walks.{orders_back}
use Rattle.gn_found.specs.Filled.{by_name}
use Rattle.gn_found.proofs.Edges.{edges_there, has_member}
use Rattle.gn_table.specs.declared.read.Read.{Read}
use Rattle.gn_table.specs.declared.read.Site.{Site as CodeSite}
use Rattle.gn_table.specs.declared.read.Site.TheVariants as site
use Rattle.gn_table.specs.Reads.{read_of, reads_in, site_of}
use Rattle.gn_lower.specs.declared.visit.Visit.{Visit}
use Rattle.gn_lower.specs.Lowered.{Named}
use Rattle.gn_lower.specs.Carried.{Came, IsRead, came_from, came_in, converted, named_link}
use Rattle.gn_lower.specs.Unfolding.{IsVisit}
use Rattle.gn_lower.proofs.Carrying.{Comes, near_comes}
use Rattle.gn_lower.proofs.Lists.{parted}

-- ---- numbers of nodes

-- each number of a list is that of a node, and each node has one of these
pub node_below : (names : List Text) (ns : Nodes) (n : ℕ) → n < length (graph_from names ns) → (x : TreeNode) × (node_at ns n ≡ Some x)
node_below names no_nodes n h = absurd (omega (arith, h))
node_below names (and_node (node id kind set inputs) ns) zero h = (node id kind set inputs, refl)
node_below names (and_node (node id kind set inputs) ns) (suc n) h = node_below names ns n (omega (arith, h))

node_within : (names : List Text) (ns : Nodes) (n : ℕ) (x : TreeNode) → node_at ns n ≡ Some x → n < length (graph_from names ns)
node_within names no_nodes n x e = cc
node_within names (and_node (node id kind set inputs) ns) zero x e = omega arith
node_within names (and_node (node id kind set inputs) ns) (suc n) x e = let less : n < length (graph_from names ns) = node_within names ns n x e in omega (arith, less)

nearer : (s : Scope) (way : Way) (P Q : ℕ → Type 0) → ((m : ℕ) (x : TreeNode) → node_at s.nodes m ≡ Some x → P m → Q m) → {place : Site} → Near s way P place → Near s way Q place
nearer s way P Q h (constant c) = constant c
nearer s way P Q h (entry i less) = entry i less
nearer s way P Q h (output m k x there less p) = output m k x there less (h m x there p)

module _ (t : Tree) (keeps : KeepsRules t) (form : HasForm t) where
  pub order_back : (way : Way) (b : Body) → LeadsTo t way b → OrdersBack (graph_of b.scope.nodes) (by_rank (graph_of b.scope.nodes))
  order_back way b leads =
      let list : (body_at t way ≡ Some b) × Holds t b = at_way t keeps form leads in
      let no_cycle : (m : ℕ) → ¬ Leads (graph_of b.scope.nodes) m m = λ m l. let x : (x : TreeNode) × (node_at b.scope.nodes m ≡ Some x) = node_leading b.scope.nodes m m l in keeps_rule t rule.Order keeps (list.1.nodes m x.0 x.1) l in
      orders_back (graph_of b.scope.nodes) no_cycle (edges_there b.scope.nodes)

  -- ---- a list that is unfolded

  module _ (nodes : List (GraphNode Kind)) (way : Way) (visit : Visit) (v : IsVisit t nodes way visit) where
    abbrev body : Body
    body = v.body

    abbrev order : List ℕ
    order = visit.table.now.order.items

    in_order : OrdersBack (graph_of body.scope.nodes) order
    in_order = subst (OrdersBack (graph_of body.scope.nodes)) (sym v.table.order) (order_back way body v.leads)

    pub known_node : (n : ℕ) → Has order n → (x : TreeNode) × (node_at body.scope.nodes n ≡ Some x)
    known_node n h = node_below (ids body.scope.nodes) body.scope.nodes n ((in_order.members n).0 h)

    pub node_known : (n : ℕ) (x : TreeNode) → node_at body.scope.nodes n ≡ Some x → Has order n
    node_known n x e = (in_order.members n).1 (node_within (ids body.scope.nodes) body.scope.nodes n x e)

    -- what comes along all of some reads
    pub record AllCome (reads : List Read) : Type 0 where
      pub came : List Came
      pub is : all_of (map (came_in visit) reads) ≡ Some came
      pub links : List (Link Named)
      pub named : all_of (map (named_link nodes) came) ≡ Some links
      pub carry : CarryAll by_name t (reads_in way reads) links

    pub all_come : (reads : List Read) → ((r : Read) → Has reads r → Comes t nodes way visit v r) → AllCome reads
    all_come [] h = record { came = []; is = refl; links = []; named = refl; carry = tt }
    all_come (r ∷ reads) h =
        let first : Comes t nodes way visit v r = h r (inl refl) in
        let rest : AllCome reads = all_come reads (λ q k. h q (inr k)) in
        record {
          came = first.came ∷ rest.came;
          is = ap (option_and_then (λ c. option_map (λ cs. c ∷ cs) (all_of (map (came_in visit) reads)))) first.is ∙ ap (option_map (λ cs. first.came ∷ cs)) rest.is;
          links = first.link ∷ rest.links;
          named = ap (option_and_then (λ l. option_map (λ ls. l ∷ ls) (all_of (map (named_link nodes) rest.came)))) first.named ∙ ap (option_map (λ ls. first.link ∷ ls)) rest.named;
          carry = (first.carries, rest.carry);
        }

    pub all_read : (reads : List Read) → ((r : Read) → Has reads r → Comes t nodes way visit v r) → All (IsRead nodes visit) reads
    all_read reads h k d less =
        let c : Comes t nodes way visit v (slice_index_or reads k d) = h (slice_index_or reads k d) (has_at reads k d less) in
        record { came = c.came; is = c.is; there = c.there }

    abbrev Done : ℕ → Type 0
    Done m = Has (take visit.next order) m

    -- what the node reads that comes next
    pub next_comes : (n : ℕ) (p : Part) (reads : List Read) → slice_get order visit.next ≡ Some n → part_at t way n ≡ Some p → reads_in way reads ≡ opened.reads_in p → (r : Read) → Has reads r → Comes t nodes way visit v r
    next_comes n p reads next is same r h =
        let list : (body_at t way ≡ Some body) × Holds t body = at_way t keeps form v.leads in
        let here : Has (opened.reads_in p) (read_of way r) = subst (λ rs. Has rs (read_of way r)) same (has_image (read_of way) reads r h) in
        let near : Near body.scope way (λ m. IsTrue (has_edge (graph_of body.scope.nodes) n m)) (read_of way r).from = part_near t keeps form way body list.0 n list.1 p is (read_of way r) here in
        let before : (m : ℕ) (x : TreeNode) → node_at body.scope.nodes m ≡ Some x → IsTrue (has_edge (graph_of body.scope.nodes) n m) → Done m =
        λ m x there edge. in_order.back (take visit.next order) (drop (suc visit.next) order) n m (parted order visit.next n next) (has_member (targets (graph_of body.scope.nodes) n) m edge) in
        near_comes t nodes way visit v r (nearer body.scope way (λ m. IsTrue (has_edge (graph_of body.scope.nodes) n m)) Done before near)

    -- what the list gives out, where it is done
    pub given_near : (i : ℕ) → i < length body.sockets → Has (given_out body way) (read_at (given_out body way) i)
    given_near i h =
        let list : (body_at t way ≡ Some body) × Holds t body = at_way t keeps form v.leads in
        has_read t keeps body.scope way (map one_of body.sockets) body.output list.1.out (singles body.sockets) (map one_of body.sockets) [] i (singles body.sockets) (subst (λ n. i < n) (sym (length-map body.sockets one_of)) h)

    pub given_comes : length order ≤ visit.next → (r : Read) → Has visit.table.now.given.items r → Comes t nodes way visit v r
    given_comes done r h =
        let list : (body_at t way ≡ Some body) × Holds t body = at_way t keeps form v.leads in
        let here : Has (given_out body way) (read_of way r) = subst (λ rs. Has rs (read_of way r)) (v.table.given way) (has_image (read_of way) visit.table.now.given.items r h) in
        let near : Near body.scope way (λ _. Unit {0}) (read_of way r).from = reads_near t keeps body.scope way (map one_of body.sockets) body.output list.1.out (λ _. Unit {0}) (λ l k m e. tt) (map one_of body.sockets) [] (read_of way r) here in
        let all_done : (m : ℕ) (x : TreeNode) → node_at body.scope.nodes m ≡ Some x → Unit {0} → Done m = λ m x there _. subst (λ ns. Has ns m) (sym (take_all visit.next order done)) (node_known m x there) in
        near_comes t nodes way visit v r (nearer body.scope way (λ _. Unit {0}) Done all_done near)

    -- ---- one of some reads, by its number

    not_nowhere : (r : Read) → Comes t nodes way visit v r → site_of way r.site ≡ nowhere → ⊥
    not_nowhere r c e = by_site r.site refl e
      where
        by_site : (place : CodeSite) → r.site ≡ place → site_of way place ≡ nowhere → ⊥
        by_site (site.Output n s) at f = cc
        by_site (site.Entry i) at f = cc
        by_site (site.Constant x) at f = cc
        by_site site.Nowhere at f = none_some (ap (λ p. option_map (converted r) (came_from visit p)) at) c.is

    -- it is not past the end, since nothing is read from nowhere
    pub read_there : (reads : List Read) (all : List sites.Read) (i : ℕ) → reads_in way reads ≡ all → ((r : Read) → Has reads r → Comes t nodes way visit v r) → Has all (read_at all i) → (r : Read) × (slice_get reads i ≡ Some r) × (read_of way r ≡ read_at all i)
    read_there reads all i same h has = by_place (at_or all i (plain_read nowhere))
      where
        by_place : (slice_get all i ≡ Some (read_at all i)) ⊎ ((slice_get all i ≡ None) × (read_at all i ≡ plain_read nowhere)) → (r : Read) × (slice_get reads i ≡ Some r) × (read_of way r ≡ read_at all i)
        by_place (inl at) = image_at (read_of way) reads i (read_at all i) (ap (λ rs. slice_get rs i) same ∙ at)
        by_place (inr past) =
            let lost : (r : Read) × Has reads r × (read_at all i ≡ read_of way r) = image_of (read_of way) reads (read_at all i) (subst (λ rs. Has rs (read_at all i)) (sym same) has) in
            absurd (not_nowhere lost.0 (h lost.0 lost.1) (ap (λ r. r.from) (sym lost.2 ∙ past.1)))
