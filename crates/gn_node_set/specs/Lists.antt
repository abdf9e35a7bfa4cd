-- Lists of values that may be missing.
use Rattle.std.specs.Prelude.{List, [], ◌∷◌, Option, Some, option_map, option_and_then}

-- the values of all, where each has one
abbrev pub all_of : {A : Type 0} → List (Option A) → Option (List A)
all_of [] = Some []
all_of (x ∷ xs) = option_and_then (λ v. option_map (λ vs. v ∷ vs) (all_of xs)) x
