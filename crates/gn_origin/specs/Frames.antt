-- The group nodes on the way to a list of nodes, the innermost first.
use Rattle.std.specs.Prelude.{◌≡◌, ℕ, List, [], ◌∷◌, Some, slice_get}
use Rattle.gn_tree.specs.Trees.{Socket, Node, Tree}
use Rattle.gn_rules.specs.Sockets.{node_at}
use Rattle.gn_meaning.specs.Sites as sites
use Rattle.gn_meaning.specs.Sites.{Way, the_tree, into, plain_step}
use Rattle.gn_meaning.specs.Bodies.{Body, body_at}
use Rattle.gn_origin.specs.declared.walk.Frame.{Frame}
use Rattle.gn_origin.specs.declared.read.Site.{Site}
use Rattle.gn_origin.specs.declared.read.Site.TheVariants as site
use Rattle.gn_origin.specs.Constants.{constant_of}
use Rattle.gn_origin.specs.Looking.{own_sockets}
use Rattle.gn_origin.specs.Nodes.{group_in, IsPart}
use Rattle.gn_origin.specs.declared.list.Part.TheVariants as part
use Rattle.gn_tree.specs.Seen.{socket_of}

abbrev pub Frames : Type 0
Frames = List Frame

abbrev pub way_of : Frames → Way
way_of [] = the_tree
way_of (f ∷ fs) = into (way_of fs) (plain_step f.number)

-- what links from `input` may name there
abbrev pub entries_of : Frames → List Socket
entries_of [] = own_sockets
entries_of (f ∷ fs) = (group_in f.group.now).inputs

-- where the code's site stands
abbrev pub site_of : Way → Site → sites.Site
site_of way (site.Group f o s) = sites.at_output way f.number o
site_of way (site.Moved n x) = sites.at_output way n 0
site_of way (site.Entry i s) = sites.at_input way i
site_of way (site.Constant c) = sites.at_constant (constant_of c)

module _ (t : Tree) where
  -- a group node of that group
  pub record Opens (way : Way) (f : Frame) : Type 0 where
    pub outer : Body
    pub leads : body_at t way ≡ Some outer
    pub node : node_at outer.scope.nodes f.number ≡ Some f.node.now
    pub same_groups : outer.scope.groups ≡ t.groups
    pub part : IsPart outer.scope f.node.now (part.Group f.group)

  -- a Set Position that is run
  pub record IsMove (way : Way) (n : ℕ) (x : Node) : Type 0 where
    pub outer : Body
    pub leads : body_at t way ≡ Some outer
    pub node : node_at outer.scope.nodes n ≡ Some x
    pub same_groups : outer.scope.groups ≡ t.groups
    pub part : IsPart outer.scope x part.SetPosition

  abbrev pub AreOpen : Frames → Type 0
  AreOpen [] = Unit {0}
  AreOpen (f ∷ fs) = Opens (way_of fs) f × AreOpen fs

  -- what the code knows of a site
  abbrev pub IsThere : Frames → Site → Type 0
  IsThere fs (site.Group f o s) = Opens (way_of fs) f × (slice_get (group_in f.group.now).outputs o ≡ Some (socket_of s.now))
  IsThere fs (site.Moved n x) = IsMove (way_of fs) n x.now
  IsThere fs (site.Entry i s) = slice_get (entries_of fs) i ≡ Some (socket_of s.now)
  IsThere fs (site.Constant c) = Unit {0}
