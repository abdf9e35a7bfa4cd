-- What the steps of a run do.
use Rattle.std.specs.Prelude.{◌≡◌, ◌<◌, List, [], ◌∷◌, length, Option, Some, None, Result, Ok, Err, option_map}
use Rattle.std.specs.Borrow.{Bor}
use Rattle.gn_kinds.specs.Row.{Text}
use Rattle.gn_app.specs.declared.request.Request.{Request}
use Rattle.gn_app.specs.declared.request.Request.TheVariants.{Eval, Check}
use Rattle.gn_app.specs.Command.{Spells, SpellsNone, Misfits}
use Rattle.gn_app.specs.Seen.{command_of}

-- the command that words spell, or why there is none
abbrev pub Reads : List Text → Result Request (Option (Bor Text)) → Type 0
Reads words (Ok r) = Spells words (command_of r)
Reads words (Err word) = SpellsNone words × Misfits words (option_map (λ w. w.now) word)

-- the words behind `eval` are a tree and an input, or have a third word, or too few
abbrev pub ReadsOperands : List Text → Result Request (Option (Bor Text)) → Type 0
ReadsOperands words (Ok (Eval tree input)) = words ≡ tree.now ∷ input.now ∷ []
ReadsOperands words (Ok _) = ⊥
ReadsOperands words (Err None) = length words < 2
ReadsOperands words (Err (Some word)) = (tree input : Text) × (rest : List Text) × (words ≡ tree ∷ input ∷ word.now ∷ rest)

-- the word behind `check` is a tree, or there is a second word, or none
abbrev pub ReadsOperand : List Text → Result Request (Option (Bor Text)) → Type 0
ReadsOperand words (Ok (Check tree)) = words ≡ tree.now ∷ []
ReadsOperand words (Ok _) = ⊥
ReadsOperand words (Err None) = words ≡ []
ReadsOperand words (Err (Some word)) = (tree : Text) × (rest : List Text) × (words ≡ tree ∷ word.now ∷ rest)

-- no word stands behind one, or the first of those that do
abbrev pub ReadsAlone : Request → List Text → Result Request (Option (Bor Text)) → Type 0
ReadsAlone request words (Ok r) = (words ≡ []) × (r ≡ request)
ReadsAlone request words (Err None) = ⊥
ReadsAlone request words (Err (Some word)) = (rest : List Text) × (words ≡ word.now ∷ rest)
