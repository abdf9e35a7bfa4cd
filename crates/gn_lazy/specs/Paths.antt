-- The text of a path.
use Rattle.std.specs.Prelude.{ℕ, zero, suc, List, [], ◌∷◌, ◌++◌, Option, None, Some, codes, decimal}
use Rattle.gn_lazy.specs.declared.path.PathStep.{PathStep}

-- the number of a zone's turn
abbrev pub turn_text : Option ℕ → List ℕ
turn_text None = []
turn_text (Some turn) = codes "#" ++ decimal turn

-- the id of a step's node, and its turn
abbrev pub step_text : List ℕ → PathStep → List ℕ
step_text id step = id ++ turn_text step.turn

-- a stroke, but not before the first step
abbrev pub stroke : ℕ → List ℕ
stroke zero = []
stroke (suc at) = codes "/"

-- the text of the steps from a number on
abbrev pub text_from : ℕ → List (List ℕ) → List PathStep → List ℕ
text_from at (id ∷ ids) (step ∷ steps) = (stroke at ++ step_text id step) ++ text_from (suc at) ids steps
text_from at _ _ = []

-- the steps from the left, joined by strokes
abbrev pub path_text : List (List ℕ) → List PathStep → List ℕ
path_text ids steps = text_from 0 ids steps
