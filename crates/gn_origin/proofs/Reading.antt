-- What is read in a list of nodes, and what of it comes from elsewhere.
use Rattle.std.proofs.Common.{◌≡◌, ◌++◌, ℕ, zero, suc, List, [], ◌∷◌, map, Option, Some, None, codes, refl, sym, ◌∙◌, ap, subst}
use Rattle.std.specs.Prelude.{bytes_eq, true, false, slice_get, option_map, option_and_then}
use Rattle.gn_kinds.specs.declared.row.SocketKind.{SocketKind}
use Rattle.gn_kinds.specs.declared.row.SocketKind.TheVariants.{Geometry}
use Rattle.gn_kinds.specs.Row.{Text}
use Rattle.gn_kinds.specs.Table.{row_of_kind, table, values, functions, elsewhere, attributes, geometry_kinds, instance_kinds, groups}
use Rattle.gn_names.specs.First.{first_of}
use Rattle.gn_tree.specs.Trees.{Node, node, Settings, Socket, Named, Group, Tree}
use Rattle.gn_rules.specs.declared.shape.Shape.{Shape}
use Rattle.gn_rules.specs.Sockets.{Declared, one, one_of, declared, chosen, further, outputs_of, outputs_of_kind, output_of_row, node_at}
use Rattle.gn_rules.specs.Scopes.{Scope}
use Rattle.gn_rules.specs.Things.{socket_names}
use Rattle.gn_tree.specs.Nodes.{kind_in, settings_in}
use Rattle.gn_meaning.specs.Sites.{Way, at_output, nowhere, Read, plain_read}
use Rattle.gn_meaning.specs.Bodies.{Body, body_at}
use Rattle.gn_meaning.specs.Reads.{Part, a_node, a_group, a_repeat, part_in, part_at, passed, number_in, read_from}
use Rattle.gn_meaning.specs.Origins.{read_origin, output_origin, origin_within}
use Rattle.gn_meaning.proofs.Parts.{group_outputs}
use Rattle.gn_origin.specs.Nodes.{IsOther}
use Rattle.gn_origin.specs.Reading.{IsKnown, IsElsewhere, node_read}
use Rattle.gn_origin.proofs.Looking.{read_at_socket, read_at_none}

pub outputs_seen : (gs : List Group) (x : Node) (xs : List Socket) → kind_in x ≡ codes "group" → further (λ g. g.outputs) gs (settings_in x) ≡ xs → outputs_of gs x ≡ map one_of xs
outputs_seen gs (node id kind set inputs) xs e f = group_outputs gs id kind set inputs xs e f

move_outputs_in : (gs : List Group) (id kind : Text) (set : Settings) (inputs : List Named) → kind ≡ codes "set_position" → further (λ g. g.outputs) gs set ≡ [] → outputs_of gs (node id kind set inputs) ≡ one (codes "geometry") Geometry ∷ []
unfolding row_of_kind table values functions elsewhere attributes geometry_kinds instance_kinds groups
move_outputs_in gs id kind set inputs e f = λ i. map (output_of_row (chosen set)) (outputs_of_kind (e i)) ++ map one_of (f i)

pub move_outputs : (gs : List Group) (x : Node) → kind_in x ≡ codes "set_position" → further (λ g. g.outputs) gs (settings_in x) ≡ [] → outputs_of gs x ≡ one (codes "geometry") Geometry ∷ []
move_outputs gs (node id kind set inputs) e f = move_outputs_in gs id kind set inputs e f

module _ (s : Scope) (way : Way) (kind : SocketKind) (n : ℕ) (x : Node) (name : Text) where
  by_outputs : List Declared → Read
  by_outputs ds = read_from kind (declared ds name) (option_map (at_output way n) (number_in ds name))

  pub group_read : (xs : List Socket) (i : ℕ) (socket : Socket) → outputs_of s.groups x ≡ map one_of xs → first_of (socket_names xs) name ≡ Some i → slice_get xs i ≡ Some socket
      → record { from = at_output way n i; through = passed socket.kind kind } ≡ node_read s way kind n x name
  unfolding by_outputs
  group_read xs i socket e f g = sym (ap by_outputs e ∙ read_at_socket (at_output way n) kind xs name i socket f g)

  pub no_group_read : (xs : List Socket) → outputs_of s.groups x ≡ map one_of xs → first_of (socket_names xs) name ≡ None → node_read s way kind n x name ≡ plain_read nowhere
  unfolding by_outputs
  no_group_read xs e f = ap by_outputs e ∙ read_at_none (at_output way n) kind xs name f

  pub move_read : outputs_of s.groups x ≡ one (codes "geometry") Geometry ∷ [] → bytes_eq name (codes "geometry") ≡ true → record { from = at_output way n 0; through = passed Geometry kind } ≡ node_read s way kind n x name
  unfolding by_outputs
  move_read e f = sym (ap by_outputs e ∙ (rw f refl))

  pub no_move_read : outputs_of s.groups x ≡ one (codes "geometry") Geometry ∷ [] → bytes_eq name (codes "geometry") ≡ false → node_read s way kind n x name ≡ plain_read nowhere
  unfolding by_outputs
  no_move_read e f = ap by_outputs e ∙ (rw f refl)

module _ (t : Tree) where
  pub nothing_read : IsElsewhere t (plain_read nowhere)
  nothing_read o (k, e) known = at k e
    where
      at : (k : ℕ) → read_origin t (origin_within t k) (plain_read nowhere) ≡ Some o → ⊥
      at zero f = cc
      at (suc k) f = cc

  pub part_there : (way : Way) (n : ℕ) (b : Body) (x : Node) → body_at t way ≡ Some b → node_at b.scope.nodes n ≡ Some x → part_at t way n ≡ Some (part_in b.scope way n x)
  part_there way n b x e f = ap (option_and_then (λ c. option_map (part_in c.scope way n) (node_at c.scope.nodes n))) e ∙ ap (option_map (part_in b.scope way n)) f

  module _ (way : Way) (n : ℕ) (part : Part) (at : part_at t way n ≡ Some part) (other : IsOther part) where
    itself : (k s : ℕ) → origin_within t (suc k) (at_output way n s) ≡ Some (plain_read (at_output way n s))
    itself k s = ap (output_origin t (origin_within t k) way n s) at ∙ by_part part other
      where
        by_part : (p : Part) → IsOther p → output_origin t (origin_within t k) way n s (Some p) ≡ Some (plain_read (at_output way n s))
        by_part (a_node run) h = refl
        by_part (a_group b reads) h = absurd h
        by_part (a_repeat run b) h = refl

    not_known : (s : ℕ) → ¬ IsKnown t (at_output way n s)
    not_known s (run, there, kind) = by_part part other (sym at ∙ there)
      where
        by_part : (p : Part) → IsOther p → Some p ≡ Some (a_node run) → ⊥
        by_part (a_node other_run) h e = let same : other_run ≡ run = cc in h (ap (λ r. r.kind.name) same ∙ kind)
        by_part (a_group b reads) h e = h
        by_part (a_repeat other_run b) h e = cc

    pub other_read : (s : ℕ) (kinds : List ℕ) → IsElsewhere t (record { from = at_output way n s; through = kinds })
    other_read s kinds o (k, e) known = found k e
      where
        found : (k : ℕ) → read_origin t (origin_within t k) (record { from = at_output way n s; through = kinds }) ≡ Some o → ⊥
        found zero f = cc
        found (suc k) f =
            let both : Some (record { from = at_output way n s; through = kinds }) ≡ Some o = sym (ap (option_map (λ q. record { from = q.from; through = q.through ++ kinds })) (itself k s)) ∙ f in
            let same : record { from = at_output way n s; through = kinds } ≡ o = cc in
            not_known s (subst (IsKnown t) (sym (ap (λ q. q.from) same)) known)

    pub other_node_read : (scope : Scope) (kind : SocketKind) (x : Node) (name : Text) → IsElsewhere t (node_read scope way kind n x name)
    other_node_read scope kind x name = by (declared (outputs_of scope.groups x) name) (number_in (outputs_of scope.groups x) name)
      where
        by : (shape : Option Shape) (number : Option ℕ) → IsElsewhere t (read_from kind shape (option_map (at_output way n) number))
        by None number = nothing_read
        by (Some shape) None = nothing_read
        by (Some shape) (Some s) = other_read s (passed shape.kind kind)
