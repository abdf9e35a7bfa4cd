-- Front parts of lists.
use Rattle.std.specs.Prelude.{◌≡◌, ℕ, ◌<◌, ◌≤◌, min, List, length, take}
use Rattle.std.proofs.Common.{arith, ◌∙◌, ap}
use Rattle.std.proofs.lemmas.List.{take_all, length-take}

-- a front part that is shorter than was asked for is the whole list
pub short_front : (most : ℕ) (list front : List ℕ) → front ≡ take most list → length front < most → front ≡ list
short_front most list front is_front short =
    let count : length front ≡ min most (length list) = ap length is_front ∙ length-take most list in
    is_front ∙ take_all most list (omega (arith, count, short))
