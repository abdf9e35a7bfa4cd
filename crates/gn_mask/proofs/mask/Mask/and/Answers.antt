use Rattle.std.proofs.Common.{◌≡◌, ◌∙◌, ◌&&◌, ℕ, ap}
use Rattle.gn_mask.specs.Segments.{covers}
use Rattle.gn_mask.proofs.Steps.{common_is}
use Rattle.gn_mask.proofs.mask.Mask.and.Goals as goal

pub returns : goal.returns
returns c =
    let ss = c.self.inside.segments.items in
    let ts = c.other.inside.segments.items in
    let new = c.in_ok-segments.segments.items in
    let same : (n : ℕ) → covers new n ≡ (covers ss n && covers ts n) =
    λ n. c.in_ok-segments.ensures.covers n ∙ ap (λ xs. covers xs n && covers c.deref-2.result.now n) c.deref.ensures.value ∙ ap (λ xs. covers ss n && covers xs n) c.deref-2.ensures.value in
    rw (← c.self.view_is, ← c.other.view_is) (common_is ss ts new c.self.invariant c.in_ok-segments.ensures.rises same)
