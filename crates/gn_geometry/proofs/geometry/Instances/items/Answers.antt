use Rattle.std.proofs.Common.{◌≡◌, ℕ, ◌<◌, List, length, ap, sym, subst, ◌∙◌}
use Rattle.std.specs.List.{All}
use Rattle.gn_geometry.specs.declared.geometry.Transform.{Transform}
use Rattle.gn_geometry.specs.Geometries.{InstancesView, list_of_parts, parts_in}
use Rattle.gn_geometry.proofs.geometry.Instances.items.Goals as goal

pub returns-clause-named : goal.returns-clause-named
returns-clause-named c =
    let parts = c.self.inside.parts.items in
    let many : length parts ≡ length (parts_in c.args.self.now) = ap length (sym (list_of_parts parts)) ∙ ap (λ (is : InstancesView). length (parts_in is)) c.self.view_is in
    let Named : ℕ → List (Transform × ℕ) → Type 0 = λ n items. All (λ (i : Transform × ℕ). i.1 < n) items in
    subst (λ (n : ℕ). Named n c.as_slice.result.now) many (subst (Named (length parts)) (sym c.as_slice.ensures.value) c.self.invariant.named)
