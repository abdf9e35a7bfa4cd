-- What the look-ups of a list of nodes say of what is read there.
use Rattle.std.proofs.Common.{◌≡◌, ℕ, [], ◌∷◌, map, Option, Some, None, codes, sym, ◌∙◌, ap, subst}
use Rattle.std.specs.Prelude.{bytes_eq, true, false, slice_get, option_map}
use Rattle.gn_kinds.specs.declared.row.SocketKind.{SocketKind}
use Rattle.gn_kinds.specs.declared.row.SocketKind.TheVariants.{Geometry}
use Rattle.gn_kinds.specs.Row.{Text}
use Rattle.gn_names.specs.First.{first_of}
use Rattle.gn_tree.specs.Trees.{Node, Link, Tree}
use Rattle.gn_tree.specs.Seen.{nodes_of, socket_of}
use Rattle.gn_tree.specs.declared.tree.Socket.{Socket as CodeSocket}
use Rattle.gn_rules.specs.Sockets.{one, one_of, declared, outputs_of, node_at, ids}
use Rattle.gn_rules.specs.Things.{socket_names}
use Rattle.gn_scopes.proofs.Grouping.{node_at_seen}
use Rattle.gn_meaning.specs.Sites.{at_output, at_input, nowhere, Read, plain_read}
use Rattle.gn_meaning.specs.Reads.{passed, number_in, read_from, link_read, part_in}
use Rattle.gn_meaning.specs.Forms.{NodeHasForm}
use Rattle.gn_meaning.proofs.Parts.{node_form}
use Rattle.gn_origin.specs.declared.list.List.{List as CodeList}
use Rattle.gn_origin.specs.declared.list.Part.{Part}
use Rattle.gn_origin.specs.declared.list.Part.TheVariants as part
use Rattle.gn_origin.specs.declared.read.Read.{Read as CodeRead}
use Rattle.gn_origin.specs.declared.read.Site.{Site}
use Rattle.gn_origin.specs.declared.read.Site.TheVariants as site
use Rattle.gn_origin.specs.declared.walk.Frame.{Frame}
use Rattle.gn_origin.specs.Constants.{kinds_of}
use Rattle.gn_origin.specs.Looking.{IsFound}
use Rattle.gn_origin.specs.Nodes.{group_in, IsPart}
use Rattle.gn_origin.specs.Frames.{Frames, way_of, Opens, IsMove}
use Rattle.gn_origin.specs.Reading.{scope_of, tree_by, IsAt, IsElsewhere, IsRead, node_read}
use Rattle.gn_origin.proofs.Looking.{read_at_socket, read_at_none, entry_link, node_link, loose_link}
use Rattle.gn_origin.proofs.Reading.{outputs_seen, move_outputs, group_read, no_group_read, move_read, no_move_read, nothing_read, part_there, other_node_read}
use Rattle.gn_origin.specs.declared.groups.GroupList.{GroupList}
use denote.Ref.{Bor}

-- an equation of reads under what is said of them
pub elsewhere_as : (t : Tree) (r q : Read) → q ≡ r → IsElsewhere t r → IsElsewhere t q
elsewhere_as t r q e h = subst (IsElsewhere t) (sym e) h

module _ (l : CodeList) (fs : Frames) (at : IsAt l fs) where
  node_here : (n : ℕ) (x : Node) → slice_get l.nodes.now n ≡ Some x → node_at at.body.scope.nodes n ≡ Some x
  node_here n x e = ap (λ s. node_at s.nodes n) at.scope ∙ (node_at_seen l.nodes.now n ∙ e)

  pub form_here : (n : ℕ) (x : Node) → slice_get l.nodes.now n ≡ Some x → NodeHasForm x
  form_here n x e = node_form (tree_by l) (nodes_of l.nodes.now) n x at.form (node_at_seen l.nodes.now n ∙ e)

  same_groups : at.body.scope.groups ≡ (tree_by l).groups
  same_groups = ap (λ s. s.groups) at.scope

  module _ (n : ℕ) (x : Bor Node) (kind : SocketKind) (name : Text) (e : slice_get l.nodes.now n ≡ Some x.now) where
    part_at_list : (found : Part) → ((above : ℕ) → IsPart (scope_of l above) x.now found) → IsPart at.body.scope x.now found
    part_at_list found is = subst (λ s. IsPart s x.now found) (sym at.scope) (is at.above)

    module _ (g : Bor GroupList) (is : (above : ℕ) → IsPart (scope_of l above) x.now (part.Group g)) where
      opens : (f : Frame) → f.number ≡ n → f.node ≡ x → f.group ≡ g → Opens (tree_by l) (way_of fs) f
      opens f a b c = record {
        outer = at.body;
        leads = at.leads;
        node = subst (λ m. node_at at.body.scope.nodes m ≡ Some f.node.now) (sym a) (subst (λ y. node_at at.body.scope.nodes n ≡ Some y.now) (sym b) (node_here n x.now e));
        same_groups = same_groups;
        part = subst (λ y. IsPart at.body.scope y.now (part.Group f.group)) (sym b) (subst (λ h. IsPart at.body.scope x.now (part.Group h)) (sym c) (part_at_list (part.Group g) is));
      }

      outputs_here : outputs_of at.body.scope.groups x.now ≡ map one_of (group_in g.now).outputs
      outputs_here =
          let p = part_at_list (part.Group g) is in
          outputs_seen at.body.scope.groups x.now (group_in g.now).outputs p.0 ((p.1).3 (λ h. h.outputs))

      pub group_found : (f : Frame) (o : ℕ) (socket : Bor CodeSocket) (conversion : Option SocketKind) → f.number ≡ n → f.node ≡ x → f.group ≡ g → IsFound (group_in g.now).outputs name (Some (o, socket)) → kinds_of conversion ≡ passed socket.now.kind kind
          → IsRead (tree_by l) fs (Some (record { site = site.Group f o socket; conversion = conversion })) (node_read at.body.scope (way_of fs) kind n x.now name)
      group_found f o socket conversion a b c h k = (
        (λ i. record { from = at_output (way_of fs) (a i) o; through = k i }) ∙ group_read at.body.scope (way_of fs) kind n x.now name (group_in g.now).outputs o (socket_of socket.now) outputs_here h.0 h.1,
        (opens f a b c, subst (λ y. slice_get (group_in y.now).outputs o ≡ Some (socket_of socket.now)) (sym c) h.1),
      )

      pub group_lost : first_of (socket_names (group_in g.now).outputs) name ≡ None → IsElsewhere (tree_by l) (node_read at.body.scope (way_of fs) kind n x.now name)
      group_lost h = elsewhere_as (tree_by l) (plain_read nowhere) (node_read at.body.scope (way_of fs) kind n x.now name) (no_group_read at.body.scope (way_of fs) kind n x.now name (group_in g.now).outputs outputs_here h) (nothing_read (tree_by l))

    module _ (is : (above : ℕ) → IsPart (scope_of l above) x.now part.SetPosition) where
      move_here : IsMove (tree_by l) (way_of fs) n x.now
      move_here = record { outer = at.body; leads = at.leads; node = node_here n x.now e; same_groups = same_groups; part = part_at_list part.SetPosition is }

      move_outputs_here : outputs_of at.body.scope.groups x.now ≡ one (codes "geometry") Geometry ∷ []
      move_outputs_here =
          let p = part_at_list part.SetPosition is in
          move_outputs at.body.scope.groups x.now p.0 ((p.1).1 (λ h. h.outputs))

      pub move_found : (conversion : Option SocketKind) → bytes_eq name (codes "geometry") ≡ true → kinds_of conversion ≡ passed Geometry kind
          → IsRead (tree_by l) fs (Some (record { site = site.Moved n x; conversion = conversion })) (node_read at.body.scope (way_of fs) kind n x.now name)
      move_found conversion h k = ((λ i. record { from = at_output (way_of fs) n 0; through = k i }) ∙ move_read at.body.scope (way_of fs) kind n x.now name move_outputs_here h, move_here)

      pub move_lost : bytes_eq name (codes "geometry") ≡ false → IsElsewhere (tree_by l) (node_read at.body.scope (way_of fs) kind n x.now name)
      move_lost h = elsewhere_as (tree_by l) (plain_read nowhere) (node_read at.body.scope (way_of fs) kind n x.now name) (no_move_read at.body.scope (way_of fs) kind n x.now name move_outputs_here h) (nothing_read (tree_by l))

    pub other_found : ((above : ℕ) → IsPart (scope_of l above) x.now part.Other) → IsElsewhere (tree_by l) (node_read at.body.scope (way_of fs) kind n x.now name)
    other_found is =
        other_node_read (tree_by l) (way_of fs) n (part_in at.body.scope (way_of fs) n x.now) (part_there (tree_by l) (way_of fs) n at.body x.now at.leads (node_here n x.now e)) (part_at_list part.Other is (way_of fs) n) at.body.scope kind x.now name

  module _ (kind : SocketKind) (k : Link) where
    pub entry_found : (i : ℕ) (socket : Bor CodeSocket) (conversion : Option SocketKind) → bytes_eq k.from (codes "input") ≡ true → IsFound (map socket_of l.entries.now.list.now) k.socket (Some (i, socket)) → kinds_of conversion ≡ passed socket.now.kind kind
        → IsRead (tree_by l) fs (Some (record { site = site.Entry i socket; conversion = conversion })) (link_read at.body.scope (way_of fs) kind k)
    entry_found i socket conversion b h c = (
      (λ j. record { from = at_input (way_of fs) i; through = c j })
          ∙ sym (entry_link at.body.scope (way_of fs) kind k b
          ∙ (ap (λ s. read_from kind (declared s.entries k.socket) (option_map (at_input (way_of fs)) (number_in s.entries k.socket))) at.scope
          ∙ read_at_socket (at_input (way_of fs)) kind (map socket_of l.entries.now.list.now) k.socket i (socket_of socket.now) h.0 h.1)),
      subst (λ xs. slice_get xs i ≡ Some (socket_of socket.now)) at.entries h.1,
    )

    pub entry_lost : bytes_eq k.from (codes "input") ≡ true → first_of (socket_names (map socket_of l.entries.now.list.now)) k.socket ≡ None → IsElsewhere (tree_by l) (link_read at.body.scope (way_of fs) kind k)
    entry_lost b h =
        elsewhere_as (tree_by l) (plain_read nowhere) (link_read at.body.scope (way_of fs) kind k)
        (entry_link at.body.scope (way_of fs) kind k b
        ∙ (ap (λ s. read_from kind (declared s.entries k.socket) (option_map (at_input (way_of fs)) (number_in s.entries k.socket))) at.scope
        ∙ read_at_none (at_input (way_of fs)) kind (map socket_of l.entries.now.list.now) k.socket h))
        (nothing_read (tree_by l))

    pub link_lost : bytes_eq k.from (codes "input") ≡ false → first_of (ids (nodes_of l.nodes.now)) k.from ≡ None → IsElsewhere (tree_by l) (link_read at.body.scope (way_of fs) kind k)
    link_lost b h =
        elsewhere_as (tree_by l) (plain_read nowhere) (link_read at.body.scope (way_of fs) kind k)
        (loose_link at.body.scope (way_of fs) kind k b (ap (λ s. first_of (ids s.nodes) k.from) at.scope ∙ h)) (nothing_read (tree_by l))

    pub link_on : (n : ℕ) (x : Node) → bytes_eq k.from (codes "input") ≡ false → first_of (ids (nodes_of l.nodes.now)) k.from ≡ Some n → slice_get l.nodes.now n ≡ Some x → link_read at.body.scope (way_of fs) kind k ≡ node_read at.body.scope (way_of fs) kind n x k.socket
    link_on n x b h e = node_link at.body.scope (way_of fs) kind k n x b (ap (λ s. first_of (ids s.nodes) k.from) at.scope ∙ h) (node_here n x e)

-- the same of a read by its parts
pub read_so : (t : Tree) (fs : Frames) (x : CodeRead) (where_to : Site) (r : Read) → x.site ≡ where_to → IsRead t fs (Some (record { site = where_to; conversion = x.conversion })) r → IsRead t fs (Some x) r
read_so t fs x where_to r e h = subst (λ s. IsRead t fs (Some (record { site = s; conversion = x.conversion })) r) (sym e) h
