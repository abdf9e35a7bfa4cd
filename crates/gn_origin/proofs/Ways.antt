-- Going into group nodes and out of them.
use Rattle.std.proofs.Common.{◌≡◌, ◌++◌, ℕ, List, [], ◌∷◌, map, Option, Some, None, codes, refl, sym, ◌∙◌, ap, subst}
use Rattle.std.specs.Prelude.{bytes_eq, slice_get, option_map, option_and_then}
use Rattle.std.specs.Option.{option_map_or}
use Rattle.std.proofs.lemmas.Option.{slice_get-map}
use Rattle.gn_kinds.specs.Table.{row_of_kind, table, values, functions, elsewhere, attributes, geometry_kinds, instance_kinds, groups}
use Rattle.gn_tree.specs.Trees.{Node, node, Socket, Tree, Group}
use Rattle.gn_rules.specs.Sockets.{one_of, further, inputs_of, inputs_of_kind, node_at}
use Rattle.gn_rules.specs.Scopes.{Scope}
use Rattle.gn_rules.specs.Rules.{KeepsRules}
use Rattle.gn_rules.specs.Things.{a_node, the_inputs}
use Rattle.gn_pointers.specs.Pointers.{key}
use Rattle.gn_tree.specs.Nodes.{kind_in, settings_in, inputs_in}
use Rattle.gn_meaning.specs.Sites.{Way, the_tree, into, plain_step, at_output, at_input, zero_at, nowhere, Read, plain_read}
use Rattle.gn_meaning.specs.Bodies.{Body, tree_body, group_body, body_in, body_of, body_at}
use Rattle.gn_meaning.specs.Reads.{default_of, reads_of, node_reads, given_out, read_at, a_group, part_in, part_at, out_of}
use Rattle.gn_meaning.specs.Origins.{Origins, read_origin, output_origin, input_origin, next_origin, origin_within, IsReadFrom}
use Rattle.gn_meaning.specs.Forms.{HasForm}
use Rattle.gn_meaning.specs.There.{LeadsTo, to_the_tree, into_group}
use Rattle.gn_meaning.proofs.Reached.{Reached, part}
use Rattle.gn_meaning.proofs.Inputs.{InputsReached, inputs_reached}
use Rattle.gn_meaning.proofs.Parts.{group_inputs, singles}
use Rattle.gn_meaning.proofs.Opened.{at_way}
use Rattle.gn_origin.specs.Nodes.{group_in}
use Rattle.gn_origin.specs.Frames.{Frames, way_of, Opens, AreOpen}
use Rattle.gn_origin.specs.declared.walk.Frame.{Frame}
use Rattle.gn_origin.specs.Reading.{IsKnown, IsElsewhere, named_read}
use Rattle.gn_origin.proofs.Reading.{part_there}
use Rattle.gn_origin.proofs.Singles.{read_of_socket}

group_part : (s : Scope) (way : Way) (n : ℕ) (x : Node) (b : Body) → kind_in x ≡ codes "group" → body_in s (kind_in x) (settings_in x) ≡ Some b → part_in s way n x ≡ a_group b (node_reads s way x)
group_part s way n (node id kind set inputs) b e f = rw f (rw (ap (λ k. bytes_eq k (codes "group")) e) refl)

body_seen : (s : Scope) (x : Node) → body_of s x ≡ body_in s (kind_in x) (settings_in x)
body_seen s (node id kind set inputs) = refl

inputs_seen : (gs : List Group) (x : Node) (xs : List Socket) → kind_in x ≡ codes "group" → further (λ g. g.inputs) gs (settings_in x) ≡ xs → inputs_of gs x ≡ map one_of xs
inputs_seen gs (node id kind set inputs) xs e f = group_inputs gs id kind set inputs xs e f

reads_seen : (s : Scope) (way : Way) (x : Node) (xs : List Socket) → kind_in x ≡ codes "group" → inputs_of s.groups x ≡ map one_of xs → node_reads s way x ≡ reads_of s way (inputs_in x) (map one_of xs) []
unfolding row_of_kind table values functions elsewhere attributes geometry_kinds instance_kinds groups
reads_seen s way (node id kind set inputs) xs e f = λ i. reads_of s way inputs (f i) (map default_of (inputs_of_kind (e i)))

one_at : (xs : List Socket) (i : ℕ) (x : Socket) → slice_get xs i ≡ Some x → slice_get (map one_of xs) i ≡ Some (one_of x)
one_at xs i x e = slice_get-map one_of xs i ∙ ap (option_map one_of) e

pub node_inputs : (t : Tree) (s : Scope) (n : ℕ) (x : Node) → Reached t (a_node s n x) → InputsReached t s (inputs_of s.groups x) (inputs_in x)
node_inputs t s n (node id kind set inputs) there = inputs_reached t s (inputs_of s.groups (node id kind set inputs)) inputs (part (key (codes "in")) (the_inputs s (inputs_of s.groups (node id kind set inputs)) inputs) there refl)

-- conversions behind change nothing in where a value comes from
pub elsewhere_after : (t : Tree) (r : Read) (kinds : List ℕ) → IsElsewhere t r → IsElsewhere t (record { from = r.from; through = r.through ++ kinds })
elsewhere_after t r kinds h o (k, e) known = by_value (origin_within t k r.from) refl e
  where
    by_value : (v : Option Read) → origin_within t k r.from ≡ v → option_map (λ q. record { from = q.from; through = q.through ++ (r.through ++ kinds) }) v ≡ Some o → ⊥
    by_value None f g = cc
    by_value (Some q) f g =
        let same : record { from = q.from; through = q.through ++ (r.through ++ kinds) } ≡ o = cc in
        let found : IsReadFrom t r (record { from = q.from; through = q.through ++ r.through }) = (k, ap (option_map (λ p. record { from = p.from; through = p.through ++ r.through })) f) in
        h (record { from = q.from; through = q.through ++ r.through }) found (subst (λ p. IsKnown t p.from) (sym same) known)

module _ (t : Tree) where
  module _ (way : Way) (f : Frame) (o : Opens t way f) where
    unfoldable pub inner : Body
    inner = group_body o.outer.scope.groups (o.part.1).0 (group_in f.group.now)

    pub opened_part : part_at t way f.number ≡ Some (a_group inner (node_reads o.outer.scope way f.node.now))
    unfolding inner
    opened_part = part_there t way f.number o.outer f.node.now o.leads o.node ∙ ap Some (group_part o.outer.scope way f.number f.node.now inner o.part.0 (o.part.1).2)

    pub opened_body : body_at t (into way (plain_step f.number)) ≡ Some inner
    unfolding inner
    opened_body =
        ap (option_and_then (λ b. option_and_then (body_of b.scope) (node_at b.scope.nodes f.number))) o.leads
        ∙ (ap (option_and_then (body_of o.outer.scope)) o.node ∙ (body_seen o.outer.scope f.node.now ∙ (o.part.1).2))

    pub goes_in : (s : ℕ) (origin : Origins t) → next_origin t origin (at_output way f.number s) ≡ read_origin t origin (out_of t (into way (plain_step f.number)) s)
    goes_in s origin = ap (output_origin t origin way f.number s) opened_part

    pub goes_out : (i : ℕ) (origin : Origins t) → next_origin t origin (at_input (into way (plain_step f.number)) i) ≡ read_origin t origin (read_at (node_reads o.outer.scope way f.node.now) i)
    goes_out i origin = ap (input_origin t origin way (plain_step f.number) i) opened_part

  pub leads_to : (fs : Frames) (b : Body) → AreOpen t fs → body_at t (way_of fs) ≡ Some b → LeadsTo t (way_of fs) b
  leads_to [] b ways e = let same : tree_body t ≡ b = cc in subst (LeadsTo t the_tree) same to_the_tree
  leads_to (f ∷ fs) b ways e =
      let same : Some (inner (way_of fs) f ways.0) ≡ Some b = sym (opened_body (way_of fs) f ways.0) ∙ e in
      subst (LeadsTo t (into (way_of fs) (plain_step f.number))) (let is : inner (way_of fs) f ways.0 ≡ b = cc in is)
      (into_group f.number (node_reads ways.0.outer.scope (way_of fs) f.node.now) (leads_to fs ways.0.outer ways.1 ways.0.leads) (opened_part (way_of fs) f ways.0))

  module _ (keeps : KeepsRules t) (form : HasForm t) (fs : Frames) (ways : AreOpen t fs) (f : Frame) (o : Opens t (way_of fs) f) where
    -- an output of the group node is what the group gives out
    pub out_read : (s : ℕ) (x : Socket) → slice_get (group_in f.group.now).outputs s ≡ Some x
        → out_of t (into (way_of fs) (plain_step f.number)) s ≡ named_read (inner (way_of fs) f o).scope (into (way_of fs) (plain_step f.number)) (group_in f.group.now).output x.name x.kind (zero_at x.kind)
    unfolding inner
    out_read s x e =
        let b = inner (way_of fs) f o in
        let holds = (at_way t keeps form (leads_to (f ∷ fs) b (o, ways) (opened_body (way_of fs) f o))).1 in
        let g = group_in f.group.now in
        ap (λ there. option_map_or (λ c. read_at (given_out c (into (way_of fs) (plain_step f.number))) s) there (plain_read nowhere)) (opened_body (way_of fs) f o)
        ∙ read_of_socket t keeps b.scope (into (way_of fs) (plain_step f.number)) (map one_of g.outputs) g.output holds.out (singles g.outputs) (map one_of g.outputs) [] s (one_of x) (singles g.outputs) (one_at g.outputs s x e)

    -- an input of the group is what the group node reads
    pub in_read : (i : ℕ) (x : Socket) → slice_get (group_in f.group.now).inputs i ≡ Some x
        → read_at (node_reads o.outer.scope (way_of fs) f.node.now) i ≡ named_read o.outer.scope (way_of fs) (inputs_in f.node.now) x.name x.kind (zero_at x.kind)
    in_read i x e =
        let sc = o.outer.scope in
        let g = group_in f.group.now in
        let declared : inputs_of sc.groups f.node.now ≡ map one_of g.inputs = inputs_seen sc.groups f.node.now g.inputs o.part.0 ((o.part.1).3 (λ h. h.inputs)) in
        let holds = (at_way t keeps form (leads_to fs o.outer ways o.leads)).1 in
        let there : InputsReached t sc (map one_of g.inputs) (inputs_in f.node.now) = subst (λ ds. InputsReached t sc ds (inputs_in f.node.now)) declared (node_inputs t sc f.number f.node.now (holds.nodes f.number f.node.now o.node)) in
        ap (λ reads. read_at reads i) (reads_seen sc (way_of fs) f.node.now g.inputs o.part.0 declared)
        ∙ read_of_socket t keeps sc (way_of fs) (map one_of g.inputs) (inputs_in f.node.now) there (singles g.inputs) (map one_of g.inputs) [] i (one_of x) (singles g.inputs) (one_at g.inputs i x e)
