-- What is read in a list doesn't depend on how many groups stand above it.
use Rattle.std.proofs.Common.{◌≡◌, ℕ, List, [], ◌∷◌, ◌++◌, map, Option, Some, None, codes, refl, sym, ◌∙◌, ap, subst}
use Rattle.std.specs.Prelude.{Bool, true, false, bytes_eq, find, option_map, option_and_then, if◌then◌else◌}
use Rattle.std.specs.Option.{option_map_or}
use Rattle.gn_kinds.specs.declared.row.SocketKind.{SocketKind}
use Rattle.gn_kinds.specs.declared.row.DefaultValue.{DefaultValue}
use Rattle.gn_kinds.specs.declared.row.DefaultValue.TheVariants.{Zero}
use Rattle.gn_kinds.specs.Row.{Text}
use Rattle.gn_tree.specs.Trees.{Input, constant, link, links, Named, Node, node, Settings, no_settings, and_setting, and_zone, of_group}
use Rattle.gn_rules.specs.Sockets.{Declared, one_of, inputs_of, inputs_of_kind, node_at, is_zone}
use Rattle.gn_rules.specs.Scopes.{Scope}
use Rattle.gn_node_set.proofs.Lists.{map_equal}
use Rattle.gn_meaning.specs.Sites.{Way, path_of, Read}
use Rattle.gn_meaning.specs.Bodies.{Body, body_in, body_of, body_named, zone_body, kind_in}
use Rattle.gn_meaning.specs.Forms.{SettingsHaveForm}
use Rattle.std.proofs.lemmas.Slice.Eq.{bytes_eq-Decides}
use Rattle.gn_stands.specs.Zones.{bare}
use Rattle.gn_meaning.specs.Reads.{link_read, input_reads, unwritten, socket_reads, reads_of, default_of, node_reads, given_out, Run, Part, a_node, a_group, a_repeat, part_by, part_in}

abbrev pub raised : ℕ → Scope → Scope
raised a s = record { nodes = s.nodes; entries = s.entries; groups = s.groups; above = a }

abbrev pub raised_body : ℕ → Body → Body
raised_body a b = record { scope = raised a b.scope; sockets = b.sockets; output = b.output }

-- the same list, with any number of groups above
abbrev pub Like : Body → Body → Type 0
Like c b = (a : ℕ) × (c ≡ raised_body a b)

pub like_itself : (b : Body) → Like b b
like_itself b = (b.scope.above, refl)

-- the same part, with like bodies
pub data LikeParts : Option Part → Option Part → Type 0 where
  nothing : LikeParts None None
  node_like : (run : Run) → LikeParts (Some (a_node run)) (Some (a_node run))
  group_like : (c b : Body) (reads : List Read) → Like c b → LikeParts (Some (a_group c reads)) (Some (a_group b reads))
  zone_like : (run : Run) (c b : Body) → Like c b → LikeParts (Some (a_repeat run c)) (Some (a_repeat run b))

pub data LikeBodies : Option Body → Option Body → Type 0 where
  no_bodies : LikeBodies None None
  bodies : (c b : Body) → Like c b → LikeBodies (Some c) (Some b)

module _ (a : ℕ) (s : Scope) where
  input_same : (way : Way) (kind : SocketKind) (x : Input) → input_reads (raised a s) way kind x ≡ input_reads s way kind x
  input_same way kind (constant v) = refl
  input_same way kind (link l) = refl
  input_same way kind (links ls) = map_equal (link_read (raised a s) way kind) (link_read s way kind) ls (λ l h. refl)

  socket_same : (way : Way) (xs : List Named) (d : Declared) (default : DefaultValue) → socket_reads (raised a s) way xs d default ≡ socket_reads s way xs d default
  socket_same way xs d default = by_found (find (λ x. bytes_eq d.name x.name) xs)
    where
      by_found : (o : Option Named) → option_map_or (λ x. input_reads (raised a s) way d.shape.kind x.input) o (unwritten d.shape default) ≡ option_map_or (λ x. input_reads s way d.shape.kind x.input) o (unwritten d.shape default)
      by_found None = refl
      by_found (Some x) = input_same way d.shape.kind x.input

  pub reads_same : (way : Way) (xs : List Named) (ds : List Declared) (defaults : List DefaultValue) → reads_of (raised a s) way xs ds defaults ≡ reads_of s way xs ds defaults
  reads_same way xs [] defaults = refl
  reads_same way xs (d ∷ ds) [] = λ i. socket_same way xs d Zero i ++ reads_same way xs ds [] i
  reads_same way xs (d ∷ ds) (x ∷ more) = λ i. socket_same way xs d x i ++ reads_same way xs ds more i

  node_same : (way : Way) (x : Node) → node_reads (raised a s) way x ≡ node_reads s way x
  node_same way (node id kind settings inputs) = reads_same way inputs (inputs_of s.groups (node id kind settings inputs)) (map default_of (inputs_of_kind kind))

  -- what a node opens is alike
  body_in_same : (kind : Text) (settings : Settings) → LikeBodies (body_in (raised a s) kind settings) (body_in s kind settings)
  body_in_same kind no_settings = no_bodies
  body_in_same kind (and_setting (of_group name) rest) = by_name (body_named s.groups name)
    where
      by_name : (o : Option Body) → LikeBodies o o
      by_name None = no_bodies
      by_name (Some b) = bodies b b (like_itself b)
  body_in_same kind (and_setting x rest) = body_in_same kind rest
  body_in_same kind (and_zone items nodes output rest) = bodies (zone_body (raised a s) kind items nodes output) (zone_body s kind items nodes output) (a, refl)

  pub body_same : (x : Node) → LikeBodies (body_of (raised a s) x) (body_of s x)
  body_same (node id kind settings inputs) = body_in_same kind settings

  part_by_same : (name : Text) {o p : Option Body} (run other : Run) → run ≡ other → LikeBodies o p → LikeParts (Some (part_by name o run)) (Some (part_by name p other))
  part_by_same name run other e no_bodies = subst (λ r. LikeParts (Some (a_node run)) (Some (a_node r))) e (node_like run)
  part_by_same name run other e (bodies c b like) = by_name (bytes_eq name (codes "group"))
    where
      by_name : (group : Bool) → LikeParts (Some (if group then a_group c run.reads else a_repeat run c)) (Some (if group then a_group b other.reads else a_repeat other b))
      by_name true = subst (λ r. LikeParts (Some (a_group c run.reads)) (Some (a_group b r.reads))) e (group_like c b run.reads like)
      by_name false = subst (λ r. LikeParts (Some (a_repeat run c)) (Some (a_repeat r b))) e (zone_like run c b like)

  pub part_same : (way : Way) (n : ℕ) (x : Node) → LikeParts (Some (part_in (raised a s) way n x)) (Some (part_in s way n x))
  part_same way n (node id kind settings inputs) =
      part_by_same kind
      (record { path = path_of way n; kind = kind_in (raised a s) (node id kind settings inputs); reads = node_reads (raised a s) way (node id kind settings inputs) })
      (record { path = path_of way n; kind = kind_in s (node id kind settings inputs); reads = node_reads s way (node id kind settings inputs) })
      (λ i. record { path = path_of way n; kind = kind_in s (node id kind settings inputs); reads = node_same way (node id kind settings inputs) i })
      (body_in_same kind settings)

pub out_same : (c b : Body) (way : Way) → Like c b → given_out c way ≡ given_out b way
out_same c b way (a, e) = ap (λ x. given_out x way) e ∙ reads_same a b.scope way b.output (map one_of b.sockets) []

pub parts_like : (c b : Body) (way : Way) (n : ℕ) → Like c b → LikeParts (option_map (part_in c.scope way n) (node_at c.scope.nodes n)) (option_map (part_in b.scope way n) (node_at b.scope.nodes n))
parts_like c b way n (a, e) = subst (λ x. LikeParts (option_map (part_in x.scope way n) (node_at x.scope.nodes n)) (option_map (part_in b.scope way n) (node_at b.scope.nodes n))) (sym e) (by_node (node_at b.scope.nodes n))
  where
    by_node : (o : Option Node) → LikeParts (option_map (part_in (raised a b.scope) way n) o) (option_map (part_in b.scope way n) o)
    by_node None = nothing
    by_node (Some x) = part_same a b.scope way n x

pub inners_like : (c b : Body) (n : ℕ) → Like c b → LikeBodies (option_and_then (body_of c.scope) (node_at c.scope.nodes n)) (option_and_then (body_of b.scope) (node_at b.scope.nodes n))
inners_like c b n (a, e) = subst (λ x. LikeBodies (option_and_then (body_of x.scope) (node_at x.scope.nodes n)) (option_and_then (body_of b.scope) (node_at b.scope.nodes n))) (sym e) (by_node (node_at b.scope.nodes n))
  where
    by_node : (o : Option Node) → LikeBodies (option_and_then (body_of (raised a b.scope)) o) (option_and_then (body_of b.scope) o)
    by_node None = no_bodies
    by_node (Some x) = body_same a b.scope x

-- the body of a zone by its kind alone
pub zone_alone : (s : Scope) (kind : Text) (settings : Settings) (b : Body) → SettingsHaveForm kind settings → bytes_eq kind (codes "group") ≡ false → body_in s kind settings ≡ Some b
    → (is_zone settings ≡ true) × (body_in (bare s.groups) kind settings ≡ Some (raised_body 0 b))
zone_alone s kind no_settings b form other e = cc
zone_alone s kind (and_setting (of_group name) rest) b form other e =
    let yes : bytes_eq kind (codes "group") ≡ true = (bytes_eq-Decides kind (codes "group")).1 form.0 in
    let bad : true ≡ false = sym yes ∙ other in cc
zone_alone s kind (and_setting x rest) b form other e = zone_alone s kind rest b form other e
zone_alone s kind (and_zone items nodes output rest) b form other e = (refl, ap (λ o. option_map (raised_body 0) o) e)
