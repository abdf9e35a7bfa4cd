-- One step of a walk, and where walks end.
use Rattle.std.proofs.Common.{◌≡◌, ◌++◌, ℕ, List, Option, Some, None, codes, refl, ◌∙◌, ap}
use Rattle.std.specs.Prelude.{Bool, true, false}
use Rattle.gn_tree.specs.Trees.{Node, node, Tree}
use Rattle.gn_rules.specs.Sockets.{is_zone}
use Rattle.gn_rules.specs.Scopes.{Scope}
use Rattle.gn_tree.specs.Nodes.{settings_in, inputs_in}
use Rattle.gn_tree.specs.Nodes as code
use Rattle.gn_meaning.specs.Sites as sites
use Rattle.gn_meaning.specs.Sites.{Way, into, plain_step, path_of, at_output, at_input, at_constant, zero_at, Read, plain_read}
use Rattle.gn_meaning.specs.Bodies.{body_in, kind_in}
use Rattle.gn_meaning.specs.Reads.{a_node, node_reads, part_in, part_at}
use Rattle.gn_meaning.specs.Origins.{Origins, read_origin, next_origin}
use Rattle.gn_origin.specs.declared.read.Read.{Read as CodeRead}
use Rattle.gn_origin.specs.Constants.{kinds_of}
use Rattle.gn_origin.specs.Frames.{Frames, way_of, site_of, IsMove, IsThere}
use Rattle.gn_origin.specs.Reading.{IsElsewhere, IsRead}
use Rattle.gn_origin.specs.Walking.{Leads}
use Rattle.gn_origin.proofs.Back.{leads_same, elsewhere_too}
use Rattle.gn_origin.proofs.Reading.{part_there}
use Rattle.gn_origin.proofs.Ways.{elsewhere_after}

pub name_of_kind : (s : Scope) (x : Node) → (kind_in s x).name ≡ code.kind_in x
name_of_kind s (node id kind set inputs) = by (is_zone set) refl
  where
    by : (b : Bool) → is_zone set ≡ b → (kind_in s (node id kind set inputs)).name ≡ kind
    by true e = rw e refl
    by false e = rw e refl

pub run_part : (s : Scope) (way : Way) (n : ℕ) (x : Node) → body_in s (code.kind_in x) (settings_in x) ≡ None → part_in s way n x ≡ a_node (record { path = path_of way n; kind = kind_in s x; reads = node_reads s way x })
run_part s way n (node id kind set inputs) e = rw e refl

module _ (t : Tree) where
  -- what a read of what a site gives on makes of a walk
  abbrev pub GivenOn : sites.Site → List ℕ → Frames → Option CodeRead → Type 0
  GivenOn from kinds fs None = IsElsewhere t (record { from = from; through = kinds })
  GivenOn from kinds fs (Some c) = Leads t (record { from = from; through = kinds }) (record { from = site_of (way_of fs) c.site; through = kinds_of c.conversion ++ kinds }) × IsThere t fs c.site

  pub given_on : (from : sites.Site) (kinds : List ℕ) (r : Read) (fs : Frames) (read : Option CodeRead) → ((origin : Origins t) → next_origin t origin from ≡ read_origin t origin r) → IsRead t fs read r → GivenOn from kinds fs read
  given_on from kinds r fs None goes is =
      elsewhere_too t (record { from = from; through = kinds }) (record { from = r.from; through = r.through ++ kinds })
      (leads_same t (record { from = from; through = kinds }) (record { from = r.from; through = r.through ++ kinds }) (r, goes, refl)) (elsewhere_after t r kinds is)
  given_on from kinds r fs (Some c) goes is = ((r, goes, ap (λ q. record { from = q.from; through = q.through ++ kinds }) is.0), is.1)

  pub move_part : (way : Way) (n : ℕ) (x : Node) (m : IsMove t way n x) → part_at t way n ≡ Some (a_node (record { path = path_of way n; kind = kind_in m.outer.scope x; reads = node_reads m.outer.scope way x }))
  move_part way n x m = part_there t way n m.outer x m.leads m.node ∙ ap Some (run_part m.outer.scope way n x (m.part.1).0)

  pub move_name : (way : Way) (n : ℕ) (x : Node) (m : IsMove t way n x) → (kind_in m.outer.scope x).name ≡ codes "set_position"
  move_name way n x m = name_of_kind m.outer.scope x ∙ m.part.0
