use Rattle.std.proofs.Common.{◌∙◌, ◌++◌, ◌∷◌, [], map, refl, ap}
use Rattle.gn_tree.specs.Seen.{group_of}
use Rattle.gn_lower.specs.Carried.{came_of}
use Rattle.gn_lower.proofs.Beginning.{begins_new}
use Rattle.gn_lower.proofs.unfold.Unfolding.new.Goals as goal

pub returns : goal.returns
returns c = (
  refl,
  begins_new _ c.requires.rules.0 c.requires.rules.1 c.requires.tables
      (ap (λ v. map group_of v.items) c.in_ok-groups.ensures.ok ∙ (c.in_ok-copy_groups.ensures ∙ ap (map group_of) c.deref.ensures.value))
      (map came_of c.push.new.self.items)
      (ap (map came_of) (c.in_ok-push.ensures.items ∙ ap (λ xs. xs ++ c.plain.result ∷ []) c.in_ok-entries.ensures.items) ∙ ap (λ x. x ∷ []) c.plain.ensures)
      c.in_ok-visit.ensures
      c.new-3.ensures.items
      c.new-4.ensures.items
      c.new-5.ensures.items,
)
