-- What the nodes of a list read, and what it gives out, stands in that list.
use Rattle.std.proofs.Common.{◌≡◌, inl, inr, ℕ, zero, suc, List, [], ◌∷◌, ◌++◌, map, Option, Some, None, codes, refl, sym, subst}
use Rattle.std.specs.Prelude.{Bool, true, false, bytes_eq, find, option_map, option_and_then, if◌then◌else◌}
use Rattle.std.specs.Option.{option_map_or}
use Rattle.gn_kinds.specs.declared.row.SocketKind.{SocketKind}
use Rattle.gn_kinds.specs.declared.row.DefaultValue.{DefaultValue}
use Rattle.gn_kinds.specs.declared.row.DefaultValue.TheVariants.{Zero}
use Rattle.gn_names.specs.First.{first_of}
use Rattle.gn_tree.specs.Trees.{Link, Input, constant, link, links, Named, Node, node, Tree}
use Rattle.gn_rules.specs.declared.shape.Shape.{Shape}
use Rattle.gn_rules.specs.Sockets.{Declared, one_of, inputs_of, inputs_of_kind, outputs_of, ids, node_at}
use Rattle.gn_rules.specs.Scopes.{Scope, source}
use Rattle.gn_node_set.specs.Meanings.{Has}
use Rattle.gn_kinds.specs.Row.{Text}
use Rattle.gn_meaning.specs.Sites.{Way, path_of, default_at, Site, at_output, at_input, at_item, at_constant, nowhere, Read, plain_read}
use Rattle.gn_meaning.specs.Bodies.{Body, body_at, body_in, kind_in}
use Rattle.gn_meaning.specs.Reads.{number_in, link_site, read_from, link_read, input_reads, unwritten, socket_reads, reads_of, default_of, node_reads, given_out, read_at, Run, Part, a_group, a_repeat, part_by, part_in, part_at, out_of}
use Rattle.gn_meaning.proofs.Options.{then_some, map_some}
use Rattle.gn_meaning.proofs.Opened.{reads_in}

-- the site is an output or an input of the list, or belongs to none
abbrev pub InList : Way → Site → Type 0
InList way (at_output w n s) = w ≡ way
InList way (at_input w i) = w ≡ way
InList way (at_item w n k i) = ⊥
InList way (at_constant c) = Unit {0}
InList way nowhere = Unit {0}

abbrev pub AllIn : Way → List Read → Type 0
AllIn way [] = Unit {0}
AllIn way (r ∷ rs) = InList way r.from × AllIn way rs

all_in : (way : Way) (xs ys : List Read) → AllIn way xs → AllIn way ys → AllIn way (xs ++ ys)
all_in way [] ys a b = b
all_in way (x ∷ xs) ys a b = (a.0, all_in way xs ys a.1 b)

pub read_in : (way : Way) (rs : List Read) (i : ℕ) → AllIn way rs → InList way (read_at rs i).from
read_in way [] i a = tt
read_in way (r ∷ rs) zero a = a.0
read_in way (r ∷ rs) (suc i) a = read_in way rs i a.1

pub has_in : (way : Way) (rs : List Read) (r : Read) → AllIn way rs → Has rs r → InList way r.from
has_in way [] r a h = absurd h
has_in way (x ∷ rs) r a (inl e) = subst (λ y. InList way y.from) (sym e) a.0
has_in way (x ∷ rs) r a (inr h) = has_in way rs r a.1 h

module _ (s : Scope) (way : Way) where
  site_in : (l : Link) (site : Site) → link_site s way l ≡ Some site → InList way site
  site_in l site e = by_name (bytes_eq l.from (codes "input")) e
    where
      outputs_in : (n : ℕ) → option_and_then (λ x. option_map (at_output way n) (number_in (outputs_of s.groups x) l.socket)) (node_at s.nodes n) ≡ Some site → InList way site
      outputs_in n h =
          let x : (x : Node) × (node_at s.nodes n ≡ Some x) × (option_map (at_output way n) (number_in (outputs_of s.groups x) l.socket) ≡ Some site) =
          then_some (λ x. option_map (at_output way n) (number_in (outputs_of s.groups x) l.socket)) (node_at s.nodes n) site h in
          let k : (k : ℕ) × (number_in (outputs_of s.groups x.0) l.socket ≡ Some k) × (at_output way n k ≡ site) = map_some (at_output way n) (number_in (outputs_of s.groups x.0) l.socket) site x.2 in
          subst (InList way) k.2 refl

      by_name : (b : Bool) → (if b then option_map (at_input way) (number_in s.entries l.socket)
          else option_and_then (λ n. option_and_then (λ x. option_map (at_output way n) (number_in (outputs_of s.groups x) l.socket)) (node_at s.nodes n)) (first_of (ids s.nodes) l.from)) ≡ Some site → InList way site
      by_name true h =
          let i : (i : ℕ) × (number_in s.entries l.socket ≡ Some i) × (at_input way i ≡ site) = map_some (at_input way) (number_in s.entries l.socket) site h in
          subst (InList way) i.2 refl
      by_name false h =
          let n : (n : ℕ) × (first_of (ids s.nodes) l.from ≡ Some n) × (option_and_then (λ x. option_map (at_output way n) (number_in (outputs_of s.groups x) l.socket)) (node_at s.nodes n) ≡ Some site) =
          then_some (λ n. option_and_then (λ x. option_map (at_output way n) (number_in (outputs_of s.groups x) l.socket)) (node_at s.nodes n)) (first_of (ids s.nodes) l.from) site h in
          outputs_in n.0 n.2

  from_in : (kind : SocketKind) (shape : Option Shape) (o : Option Site) → ((site : Site) → o ≡ Some site → InList way site) → InList way (read_from kind shape o).from
  from_in kind None o h = tt
  from_in kind (Some shape) None h = tt
  from_in kind (Some shape) (Some site) h = h site refl

  link_in : (kind : SocketKind) (l : Link) → InList way (link_read s way kind l).from
  link_in kind l = from_in kind (source s l) (link_site s way l) (site_in l)

  links_in : (kind : SocketKind) (ls : List Link) → AllIn way (map (link_read s way kind) ls)
  links_in kind [] = tt
  links_in kind (l ∷ ls) = (link_in kind l, links_in kind ls)

  input_in : (kind : SocketKind) (x : Input) → AllIn way (input_reads s way kind x)
  input_in kind (constant v) = (tt, tt)
  input_in kind (link l) = (link_in kind l, tt)
  input_in kind (links ls) = links_in kind ls

  unwritten_in : (shape : Shape) (default : DefaultValue) → AllIn way (unwritten shape default)
  unwritten_in shape default = by_many shape.many
    where
      by_many : (b : Bool) → AllIn way (if b then [] else plain_read (at_constant (default_at shape.kind default)) ∷ [])
      by_many true = tt
      by_many false = (tt, tt)

  module _ (xs : List Named) where
    socket_in : (d : Declared) (default : DefaultValue) → AllIn way (socket_reads s way xs d default)
    socket_in d default = by_found (find (λ x. bytes_eq d.name x.name) xs)
      where
        by_found : (o : Option Named) → AllIn way (option_map_or (λ x. input_reads s way d.shape.kind x.input) o (unwritten d.shape default))
        by_found None = unwritten_in d.shape default
        by_found (Some x) = input_in d.shape.kind x.input

    pub sockets_in : (ds : List Declared) (defaults : List DefaultValue) → AllIn way (reads_of s way xs ds defaults)
    sockets_in [] defaults = tt
    sockets_in (d ∷ ds) [] = all_in way (socket_reads s way xs d Zero) (reads_of s way xs ds []) (socket_in d Zero) (sockets_in ds [])
    sockets_in (d ∷ ds) (x ∷ more) = all_in way (socket_reads s way xs d x) (reads_of s way xs ds more) (socket_in d x) (sockets_in ds more)

  node_in : (x : Node) → AllIn way (node_reads s way x)
  node_in (node id kind settings inputs) = sockets_in inputs (inputs_of s.groups (node id kind settings inputs)) (map default_of (inputs_of_kind kind))

out_in_by : (way : Way) (i : ℕ) (o : Option Body) → InList way (option_map_or (λ b. read_at (given_out b way) i) o (plain_read nowhere)).from
out_in_by way i None = tt
out_in_by way i (Some b) = read_in way (given_out b way) i (sockets_in b.scope way b.output (map one_of b.sockets) [])

part_by_in : (name : Text) (o : Option Body) (run : Run) (way : Way) → AllIn way run.reads → AllIn way (reads_in (part_by name o run))
part_by_in name None run way a = a
part_by_in name (Some b) run way a = by_name (bytes_eq name (codes "group"))
  where
    by_name : (group : Bool) → AllIn way (reads_in (if group then a_group b run.reads else a_repeat run b))
    by_name true = a
    by_name false = a

part_in_in : (s : Scope) (way : Way) (n : ℕ) (x : Node) → AllIn way (reads_in (part_in s way n x))
part_in_in s way n (node id kind settings inputs) =
    part_by_in kind (body_in s kind settings) (record { path = path_of way n; kind = kind_in s (node id kind settings inputs); reads = node_reads s way (node id kind settings inputs) }) way (node_in s way (node id kind settings inputs))

module _ (t : Tree) where
  -- what a list gives out, and what its nodes read, stands in it
  pub out_in : (way : Way) (i : ℕ) → InList way (out_of t way i).from
  out_in way i = out_in_by way i (body_at t way)

  pub part_reads_in : (way : Way) (n : ℕ) (p : Part) → part_at t way n ≡ Some p → AllIn way (reads_in p)
  part_reads_in way n p e =
      let list : (b : Body) × (body_at t way ≡ Some b) × (option_map (part_in b.scope way n) (node_at b.scope.nodes n) ≡ Some p) =
      then_some (λ b. option_map (part_in b.scope way n) (node_at b.scope.nodes n)) (body_at t way) p e in
      let x : (x : Node) × (node_at list.0.scope.nodes n ≡ Some x) × (part_in list.0.scope way n x ≡ p) = map_some (part_in list.0.scope way n) (node_at list.0.scope.nodes n) p list.2 in
      subst (λ q. AllIn way (reads_in q)) x.2 (part_in_in list.0.scope way n x.0)
