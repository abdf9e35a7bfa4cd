-- What the output of a tree reads, and where a walk from a read ends.
use Rattle.std.proofs.Common.{◌≡◌, [], map, Option, Some, None, codes, refl, sym, ◌∙◌, ap, subst}
use Rattle.gn_kinds.specs.declared.row.SocketKind.TheVariants.{Geometry}
use Rattle.gn_tree.specs.Trees.{Tree, Input}
use Rattle.gn_tree.specs.Seen.{tree_of}
use Rattle.gn_rules.specs.Sockets.{one, one_of}
use Rattle.gn_rules.specs.Rules.{KeepsRules}
use Rattle.gn_meaning.specs.Sites.{the_tree, zero_at, Read, plain_read, at_constant, at_input, at_output, no_geometry}
use Rattle.gn_meaning.specs.Bodies.{Body, tree_body, output_of, body_at}
use Rattle.gn_meaning.specs.Demand.{output_read}
use Rattle.gn_meaning.specs.Forms.{HasForm}
use Rattle.gn_meaning.specs.There.{to_the_tree}
use Rattle.gn_meaning.proofs.Parts.{singles}
use Rattle.gn_meaning.proofs.Opened.{at_way}
use Rattle.gn_origin.specs.declared.walk.Walk.{Walk}
use Rattle.gn_origin.specs.declared.list.List.{List as CodeList}
use Rattle.gn_origin.specs.declared.read.Read.{Read as CodeRead}
use Rattle.gn_origin.specs.Reading as reading
use Rattle.gn_origin.specs.Reading.{IsAt, IsRead, IsElsewhere, one_read, named_read}
use Rattle.gn_origin.specs.Walking.{tree_by, read_by, AreSame, IsOrigin, Ends}
use Rattle.gn_origin.specs.Moves.{EndsAt}
use Rattle.gn_plans.specs.Plans.{HasNoPlan, gives_nothing, gives_input, gives_moved}
use Rattle.gn_origin.proofs.Singles.{read_of_socket}

module _ (t : Tree) (keeps : KeepsRules t) (form : HasForm t) where
  output_named : output_read t ≡ named_read (tree_body t).scope the_tree (output_of t.output) (codes "geometry") Geometry (zero_at Geometry)
  output_named =
      let b = tree_body t in
      let holds = (at_way t keeps form to_the_tree).1 in
      read_of_socket t keeps b.scope the_tree (map one_of b.sockets) b.output holds.out (singles b.sockets) (map one_of b.sockets) [] 0 (one (codes "geometry") Geometry) (singles b.sockets) refl

  output_one : (x : Input) → t.output ≡ Some x → output_read t ≡ one_read (tree_body t).scope the_tree Geometry x
  output_one x e = output_named ∙ ap (λ o. named_read (tree_body t).scope the_tree (output_of o) (codes "geometry") Geometry (zero_at Geometry)) e

  same_body : (a b : Body) → Some a ≡ Some b → a ≡ b
  same_body a b e = cc

  pub output_is : (l : CodeList) → reading.tree_by l ≡ t → (at : IsAt l []) → (x : Input) → t.output ≡ Some x → (read : Option CodeRead) → IsRead (reading.tree_by l) [] read (one_read at.body.scope the_tree Geometry x) → IsRead t [] read (output_read t)
  output_is l lists at x e read is =
      let leads : body_at t the_tree ≡ Some at.body = subst (λ u. body_at u the_tree ≡ Some at.body) lists at.leads in
      let first = subst (λ u. IsRead u [] read (one_read at.body.scope the_tree Geometry x)) lists is in
      let second = subst (λ b. IsRead t [] read (one_read b.scope the_tree Geometry x)) (sym (same_body (tree_body t) at.body leads)) first in
      subst (IsRead t [] read) (sym (output_one x e)) second

pub ends_at : (t : Tree) (r : Read) (start : Walk) → tree_by start ≡ t → read_by start ≡ r → (end : Option Walk) → Ends start end → EndsAt t r end
ends_at t r start lists reads None e = subst (λ u. IsElsewhere u r) lists (subst (IsElsewhere (tree_by start)) reads e)
ends_at t r start lists reads (Some w) e = (
  ap (λ l. tree_of l.now.tree.now) e.0 ∙ lists,
  subst (λ u. AreSame u r (read_by w)) lists (subst (λ q. AreSame (tree_by start) q (read_by w)) reads e.1),
  subst (λ u. IsOrigin u (read_by w).from) lists e.2,
  e.3,
)

-- a tree whose output comes from elsewhere has no plan
pub no_plan : (t : Tree) → IsElsewhere t (output_read t) → HasNoPlan t
no_plan t h plan (gives_nothing from) = h (plain_read (at_constant no_geometry)) from tt
no_plan t h plan (gives_input from) = h (plain_read (at_input the_tree 0)) from tt
no_plan t h plan (gives_moved way n run selected to by from at moves) = h (plain_read (at_output way n 0)) from (run, at, moves.kind)
