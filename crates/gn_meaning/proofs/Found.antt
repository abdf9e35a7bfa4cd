-- A link for which the rules find what it carries leads from a site of its list, and so do the inputs of nodes and what lists give out.
use Rattle.std.proofs.Common.{◌≡◌, ◌<◌, ◌+◌, ℕ, suc, List, [], ◌∷◌, length, map, Option, Some, None, codes, refl, sym, ◌∙◌, ap, subst, arith}
use Rattle.std.specs.Prelude.{Bool, true, false, find, bytes_eq, is_none, option_map, option_and_then, if◌then◌else◌}
use Rattle.std.specs.List.{position_from}
use Rattle.gn_kinds.specs.declared.row.SocketKind.{SocketKind}
use Rattle.gn_kinds.specs.Row.{Text}
use Rattle.gn_names.specs.First.{first_of}
use Rattle.gn_tree.specs.Trees.{Link, Node}
use Rattle.gn_rules.specs.declared.shape.Shape.{Shape}
use Rattle.gn_rules.specs.Sockets.{Declared, declared, outputs_of, ids, node_at, node_named}
use Rattle.gn_rules.specs.Scopes.{Scope, source}
use Rattle.gn_meaning.specs.Sites.{Constant, Way, Site, at_output, at_input, at_constant}
use Rattle.gn_meaning.specs.Reads.{number_in, link_site, link_read, read_from}

-- a number, below n
abbrev Below : ℕ → Option ℕ → Type 0
Below n o = (i : ℕ) × (o ≡ Some i) × (i < n)

-- the number of a name for which something is declared
number_from : (ds : List Declared) (name : Text) (i : ℕ) (shape : Shape) → declared ds name ≡ Some shape → Below (i + length ds) (position_from (bytes_eq name) i (map (λ d. d.name) ds))
number_from [] name i shape e = cc
number_from (d ∷ ds) name i shape e = by_test (bytes_eq name d.name) (number_from ds name (i + 1) shape) e
  where
    by_test : (b : Bool) → (declared ds name ≡ Some shape → Below ((i + 1) + length ds) (position_from (bytes_eq name) (i + 1) (map (λ x. x.name) ds)))
        → option_map (λ x. x.shape) (if b then Some d else find (λ x. bytes_eq name x.name) ds) ≡ Some shape
        → Below (i + suc (length ds)) (if b then Some i else position_from (bytes_eq name) (i + 1) (map (λ x. x.name) ds))
    by_test true rest h = (i, refl, omega arith)
    by_test false rest h =
        let there : Below ((i + 1) + length ds) (position_from (bytes_eq name) (i + 1) (map (λ x. x.name) ds)) = rest h in
        let less : there.0 < (i + 1) + length ds = there.2 in
        (there.0, there.1, omega arith)

number_there : (ds : List Declared) (name : Text) (shape : Shape) → declared ds name ≡ Some shape → Below (length ds) (number_in ds name)
number_there ds name shape e =
    let there : Below (0 + length ds) (number_in ds name) = number_from ds name 0 shape e in
    let less : there.0 < 0 + length ds = there.2 in
    (there.0, there.1, omega arith)

module _ (s : Scope) (way : Way) (P : ℕ → Type 0) where
  -- a constant, an input of the list, or an output that a node declares whose number has P
  pub data Near : Site → Type 0 where
    constant : (c : Constant) → Near (at_constant c)
    entry : (i : ℕ) → i < length s.entries → Near (at_input way i)
    output : (m k : ℕ) (x : Node) → node_at s.nodes m ≡ Some x → k < length (outputs_of s.groups x) → P m → Near (at_output way m k)

  abbrev Leads : Option Site → Type 0
  Leads o = (site : Site) × (o ≡ Some site) × Near site

  module _ (l : Link) (shape : Shape) (from : (m : ℕ) → first_of (ids s.nodes) l.from ≡ Some m → P m) where
    from_entries : declared s.entries l.socket ≡ Some shape → Leads (option_map (at_input way) (number_in s.entries l.socket))
    from_entries e =
        let there : Below (length s.entries) (number_in s.entries l.socket) = number_there s.entries l.socket shape e in
        (at_input way there.0, ap (option_map (at_input way)) there.1, entry there.0 there.2)

    from_nodes : (o : Option ℕ) → first_of (ids s.nodes) l.from ≡ o → option_and_then (λ n. declared (outputs_of s.groups n) l.socket) (option_and_then (λ i. node_at s.nodes i) o) ≡ Some shape
        → Leads (option_and_then (λ n. option_and_then (λ x. option_map (at_output way n) (number_in (outputs_of s.groups x) l.socket)) (node_at s.nodes n)) o)
    from_nodes None at e = cc
    from_nodes (Some n) at e = of_node (node_at s.nodes n) refl e
      where
        of_node : (o : Option Node) → node_at s.nodes n ≡ o → option_and_then (λ y. declared (outputs_of s.groups y) l.socket) o ≡ Some shape
            → Leads (option_and_then (λ y. option_map (at_output way n) (number_in (outputs_of s.groups y) l.socket)) o)
        of_node None there h = cc
        of_node (Some x) there h =
            let number : Below (length (outputs_of s.groups x)) (number_in (outputs_of s.groups x) l.socket) = number_there (outputs_of s.groups x) l.socket shape h in
            (at_output way n number.0, ap (option_map (at_output way n)) number.1, output n number.0 x there number.2 (from n at))

    by_from : (b : Bool) → (if b then declared s.entries l.socket else option_and_then (λ n. declared (outputs_of s.groups n) l.socket) (node_named s.nodes l.from)) ≡ Some shape
        → Leads (if b then option_map (at_input way) (number_in s.entries l.socket) else option_and_then (λ n. option_and_then (λ x. option_map (at_output way n) (number_in (outputs_of s.groups x) l.socket)) (node_at s.nodes n)) (first_of (ids s.nodes) l.from))
    by_from true e = from_entries e
    by_from false e = from_nodes (first_of (ids s.nodes) l.from) refl e

    pub links_lead : source s l ≡ Some shape → Leads (link_site s way l)
    links_lead e = by_from (bytes_eq l.from (codes "input")) e

  -- what the link reads, where the rules find what it carries
  pub link_near : (l : Link) (kind : SocketKind) → ((m : ℕ) → first_of (ids s.nodes) l.from ≡ Some m → P m) → is_none (source s l) ≡ false → Near (link_read s way kind l).from
  link_near l kind from e = by_source (source s l) refl e
    where
      by_source : (o : Option Shape) → source s l ≡ o → is_none o ≡ false → Near (link_read s way kind l).from
      by_source None at h = cc
      by_source (Some shape) at h =
          let site : Leads (link_site s way l) = links_lead l shape from at in
          subst Near (sym (ap (λ o. (read_from kind o (link_site s way l)).from) at ∙ ap (λ o. (read_from kind (Some shape) o).from) site.1)) site.2
