-- What is read in a list that is unfolded has its link.
use Rattle.std.proofs.Common.{◌≡◌, ◌<◌, ℕ, suc, List, [], ◌∷◌, ◌++◌, map, length, take, Option, Some, None, refl, sym, ◌∙◌, ap, subst}
use Rattle.std.specs.Prelude.{IsTrue, option_map, option_and_then}
use Rattle.gn_lazy.specs.declared.graph.GraphNode.{GraphNode}
use Rattle.gn_tree.specs.Trees.{Node as TreeNode, Tree}
use Rattle.gn_tree.specs.declared.kind.Kind.{Kind}
use Rattle.gn_node_set.specs.Meanings as meanings
use Rattle.gn_node_set.specs.Lists.{all_of}
use Rattle.gn_node_set.specs.Meanings.{Has, a_value, an_output, Link, plain_link}
use Rattle.gn_rules.specs.Sockets.{node_at, outputs_of}
use Rattle.gn_meaning.specs.Sites as sites
use Rattle.gn_meaning.specs.Sites.{Way, the_tree, into, plain_step, path_of, at_output, at_input, at_constant, nowhere, Read}
use Rattle.gn_meaning.specs.Bodies.{Body}
use Rattle.gn_meaning.specs.Reads.{Run, Part, a_node, a_group, a_repeat, part_at, run_in, run_of, out_of, read_at}
use Rattle.gn_meaning.specs.Origins.{origin_within, read_origin, output_origin, input_origin}
use Rattle.gn_meaning.proofs.Options.{some_same, then_some, map_some}
use Rattle.gn_meaning.proofs.Origins.{one_origin}
use Rattle.gn_rules.specs.Scopes.{Scope}
use Rattle.gn_meaning.proofs.Found.{Near, constant as near_constant, entry, output}
use Rattle.gn_stands.specs.Sources.{CarriesSite, Carries as CarriesRead, CarryAll, link_at, read_within, source_at}
use Rattle.gn_stands.specs.Tasks.{links_within}
use Rattle.gn_found.specs.Filled.{by_name}
use Rattle.gn_table.specs.declared.read.Site.{Site as CodeSite}
use Rattle.gn_table.specs.declared.read.Site.TheVariants as site
use Rattle.gn_table.specs.declared.read.Read.{Read as CodeRead}
use Rattle.gn_table.specs.Constants.{name_of}
use Rattle.gn_table.specs.Reads.{kinds_of, read_of, site_of}
use Rattle.gn_lower.specs.declared.carried.Source.TheVariants.{Constant}
use Rattle.gn_lower.specs.declared.visit.Visit.{Visit}
use Rattle.gn_lower.specs.Carried.{Came, came_from, came_in, converted, is_there, named_link, named_source, plain, Carries}
use Rattle.gn_lower.specs.Lowered.{Named}
use Rattle.gn_lower.specs.Unfolding.{IsVisit}

-- ---- conversions at a socket, and steps back

module _ (t : Tree) where
  -- the link of a site and the conversions at a socket make the link of what is read
  pub through_socket : (r : Read) (link : Link Named) → CarriesSite by_name t r.from link → CarriesRead by_name t r (record { from = link.from; through = link.through ++ r.through })
  through_socket r link (k, e) =
      let o : (o : Read) × (origin_within t k r.from ≡ Some o) × (link_at by_name o ≡ Some link) = then_some (link_at by_name) (origin_within t k r.from) link e in
      let x : (x : meanings.Source Named) × (source_at by_name o.0.from ≡ Some x) × (record { from = x; through = o.0.through } ≡ link) = map_some (λ x. record { from = x; through = o.0.through }) (source_at by_name o.0.from) link o.2 in (
        k,
        ap (λ q. option_and_then (link_at by_name) (option_map (λ p. record { from = p.from; through = p.through ++ r.through }) q)) o.1
            ∙ (ap (option_map (λ y. record { from = y; through = o.0.through ++ r.through })) x.1 ∙ ap (λ l. Some (record { from = l.from; through = l.through ++ r.through })) x.2),
      )

  -- a site that goes back to what is read in one step has its link
  one_back : (place : sites.Site) (r : Read) (link : Link Named) → ((k : ℕ) → origin_within t (suc k) place ≡ read_origin t (origin_within t k) r) → CarriesRead by_name t r link → CarriesSite by_name t place link
  one_back place r link goes (k, e) = (suc k, ap (option_and_then (link_at by_name)) (goes k) ∙ e)

  -- an output of a group node is what the group gives out, and an input of the group is what its node reads
  pub group_output : (way : Way) (n s : ℕ) (b : Body) (reads : List Read) (link : Link Named) → part_at t way n ≡ Some (a_group b reads) → CarriesRead by_name t (out_of t (into way (plain_step n)) s) link → CarriesSite by_name t (at_output way n s) link
  group_output way n s b reads link at carries = one_back (at_output way n s) (out_of t (into way (plain_step n)) s) link (λ k. ap (output_origin t (origin_within t k) way n s) at) carries

  pub group_input : (way : Way) (n i : ℕ) (b : Body) (reads : List Read) (link : Link Named) → part_at t way n ≡ Some (a_group b reads) → CarriesRead by_name t (read_at reads i) link → CarriesSite by_name t (at_input (into way (plain_step n)) i) link
  group_input way n i b reads link at carries = one_back (at_input (into way (plain_step n)) i) (read_at reads i) link (λ k. ap (input_origin t (origin_within t k) way (plain_step n) i) at) carries

  -- an output of a node that is run is one of its own
  pub own_output : (way : Way) (n s : ℕ) (run : Run) → run_of t (at_output way n 0) ≡ Some run → CarriesSite by_name t (at_output way n s) (plain_link (an_output (path_of way n) s))
  own_output way n s run e = by_part (part_at t way n) refl e
    where
      by_part : (o : Option Part) → part_at t way n ≡ o → option_and_then run_in o ≡ Some run → CarriesSite by_name t (at_output way n s) (plain_link (an_output (path_of way n) s))
      by_part None at h = cc
      by_part (Some (a_node r)) at h = (1, ap (λ o. option_and_then (link_at by_name) (output_origin t (origin_within t 0) way n s o)) at)
      by_part (Some (a_group b reads)) at h = cc
      by_part (Some (a_repeat r b)) at h = (1, ap (λ o. option_and_then (link_at by_name) (output_origin t (origin_within t 0) way n s o)) at)

  pub constant_site : (c : sites.Constant) → CarriesSite by_name t (at_constant c) (plain_link (a_value (Some c)))
  constant_site c = (1, refl)

  pub own_input : CarriesSite by_name t (at_input the_tree 0) (plain_link (a_value None))
  own_input = (1, refl)

  -- ---- each site and each read has one link

  one_link : (o q : Read) (l m : Link Named) → o ≡ q → link_at by_name o ≡ Some l → link_at by_name q ≡ Some m → l ≡ m
  one_link o q l m same e f = some_same (sym e ∙ (ap (link_at by_name) same ∙ f))

  pub one_read_link : (r : Read) (l m : Link Named) → CarriesRead by_name t r l → CarriesRead by_name t r m → l ≡ m
  one_read_link r l m (j, e) (k, f) =
      let a : (a : Read) × (read_origin t (origin_within t j) r ≡ Some a) × (link_at by_name a ≡ Some l) = then_some (link_at by_name) (read_origin t (origin_within t j) r) l e in
      let b : (b : Read) × (read_origin t (origin_within t k) r ≡ Some b) × (link_at by_name b ≡ Some m) = then_some (link_at by_name) (read_origin t (origin_within t k) r) m f in
      let o : (o : Read) × (origin_within t j r.from ≡ Some o) × (record { from = o.from; through = o.through ++ r.through } ≡ a.0) = map_some (λ p. record { from = p.from; through = p.through ++ r.through }) (origin_within t j r.from) a.0 a.1 in
      let q : (q : Read) × (origin_within t k r.from ≡ Some q) × (record { from = q.from; through = q.through ++ r.through } ≡ b.0) = map_some (λ p. record { from = p.from; through = p.through ++ r.through }) (origin_within t k r.from) b.0 b.1 in
      let same : o.0 ≡ q.0 = one_origin t r.from o.0 q.0 (j, o.1) (k, q.1) in
      one_link a.0 b.0 l m (sym o.2 ∙ (ap (λ p. record { from = p.from; through = p.through ++ r.through }) same ∙ q.2)) a.2 b.2

  -- so links that carry some reads are those that are found for them
  pub carried_found : (k : ℕ) (reads : List Read) (links found : List (Link Named)) → CarryAll by_name t reads links → links_within by_name t k reads ≡ Some found → links ≡ found
  carried_found k [] [] found c e = some_same e
  carried_found k [] (l ∷ links) found c e = absurd c
  carried_found k (r ∷ reads) [] found c e = absurd c
  carried_found k (r ∷ reads) (l ∷ links) found (c, cs) e =
      let first : (x : Link Named) × (read_within by_name t k r ≡ Some x) × (option_map (λ vs. x ∷ vs) (all_of (map (read_within by_name t k) reads)) ≡ Some found) =
      then_some (λ v. option_map (λ vs. v ∷ vs) (all_of (map (read_within by_name t k) reads))) (read_within by_name t k r) found e in
      let rest : (vs : List (Link Named)) × (all_of (map (read_within by_name t k) reads) ≡ Some vs) × (first.0 ∷ vs ≡ found) = map_some (λ vs. first.0 ∷ vs) (all_of (map (read_within by_name t k) reads)) found first.2 in
      ap (λ x. x ∷ links) (one_read_link r l first.0 c (k, first.1)) ∙ (ap (λ xs. first.0 ∷ xs) (carried_found k reads links rest.0 cs rest.1) ∙ rest.2)

-- ---- sites that stand near, by what they are

module _ (s : Scope) (way : Way) (P : ℕ → Type 0) where
  pub near_output : (n k : ℕ) {place : sites.Site} → Near s way P place → place ≡ at_output way n k → (x : TreeNode) × (node_at s.nodes n ≡ Some x) × (k < length (outputs_of s.groups x)) × P n
  near_output n k (near_constant c) e = cc
  near_output n k (entry i h) e = cc
  near_output n k (output m j x there h p) e =
      let node : m ≡ n = cc in
      let socket : j ≡ k = cc in
      (x, ap (λ i. node_at s.nodes i) (sym node) ∙ there, subst (λ i. i < length (outputs_of s.groups x)) socket h, subst P node p)

  pub near_entry : (n : ℕ) {place : sites.Site} → Near s way P place → place ≡ at_input way n → n < length s.entries
  near_entry n (near_constant c) e = cc
  near_entry n (entry i h) e = let same : i ≡ n = cc in subst (λ j. j < length s.entries) same h
  near_entry n (output m j x there h p) e = cc

  pub near_nothing : {place : sites.Site} → Near s way P place → place ≡ nowhere → ⊥
  near_nothing (near_constant c) e = cc
  near_nothing (entry i h) e = cc
  near_nothing (output m j x there h p) e = cc

-- ---- a read, by what is known of the list

module _ (t : Tree) (nodes : List (GraphNode Kind)) (way : Way) (visit : Visit) (v : IsVisit t nodes way visit) where
  -- what comes along a read carries what is read
  pub record Comes (r : CodeRead) : Type 0 where
    pub came : Came
    pub is : came_in visit r ≡ Some came
    pub link : Link Named
    pub named : named_link nodes came ≡ Some link
    pub carries : CarriesRead by_name t (read_of way r) link
    pub there : IsTrue (is_there nodes came.source)

  comes_by : (r : CodeRead) (c : Came) → came_from visit r.site ≡ Some c → Carries nodes t (site_of way r.site) c → Comes r
  comes_by r c e k =
      let x : (x : meanings.Source Named) × (named_source nodes c.source ≡ Some x) × (record { from = x; through = c.through } ≡ k.link) = map_some (λ x. record { from = x; through = c.through }) (named_source nodes c.source) k.link k.named in
      record {
        came = converted r c;
        is = ap (option_map (converted r)) e;
        link = record { from = k.link.from; through = k.link.through ++ kinds_of r.conversion };
        named = ap (option_map (λ y. record { from = y; through = c.through ++ kinds_of r.conversion })) x.1 ∙ ap (λ l. Some (record { from = l.from; through = l.through ++ kinds_of r.conversion })) x.2;
        carries = through_socket t (read_of way r) k.link k.carries;
        there = k.there;
      }

  -- a read that stands near has it, where the nodes that it may lead to are done
  pub near_comes : (r : CodeRead) → Near v.body.scope way (Has (take visit.next visit.table.now.order.items)) (read_of way r).from → Comes r
  near_comes r near = by_site r.site refl
    where
      by_site : (place : CodeSite) → r.site ≡ place → Comes r
      by_site (site.Output n s) at =
          let x = near_output v.body.scope way (Has (take visit.next visit.table.now.order.items)) n s near (ap (site_of way) at) in
          let c = v.outputs n s x.0 x.1 x.2 x.3 in
          comes_by r c.0 (ap (came_from visit) at ∙ c.1) (subst (λ p. Carries nodes t (site_of way p) c.0) (sym at) c.2)
      by_site (site.Entry i) at =
          let c = v.entries i (near_entry v.body.scope way (Has (take visit.next visit.table.now.order.items)) i near (ap (site_of way) at)) in
          comes_by r c.0 (ap (came_from visit) at ∙ c.1) (subst (λ p. Carries nodes t (site_of way p) c.0) (sym at) c.2)
      by_site (site.Constant c) at =
          comes_by r (plain (Constant c)) (ap (came_from visit) at) (subst (λ p. Carries nodes t (site_of way p) (plain (Constant c))) (sym at) (record {
            link = plain_link (a_value (Some (name_of c)));
            named = refl;
            carries = constant_site t (name_of c);
            there = refl;
          }))
      by_site site.Nowhere at = absurd (near_nothing v.body.scope way (Has (take visit.next visit.table.now.order.items)) near (ap (site_of way) at))
