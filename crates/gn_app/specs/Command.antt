-- The commands, as the words that spell them.
use Rattle.std.specs.Prelude.{◌≡◌, ◌⊎◌, List, [], ◌∷◌, ◌++◌, Option, Some, None, bytes_eq, codes, if◌then◌else◌}
use Rattle.gn_kinds.specs.Row.{Text}
use Rattle.gn_io.specs.Outside.{Names}

-- `eval TREE OBJ`, with the file of a tree and the file of its input, `check TREE`, `--help` and `--version`
pub data Command : Type 0 where
  eval : Text → Text → Command
  check : Text → Command
  help : Command
  version : Command

-- the words spell the command
abbrev pub Spells : List Text → Command → Type 0
Spells words (eval tree obj) = words ≡ codes "eval" ∷ tree ∷ obj ∷ []
Spells words (check tree) = words ≡ codes "check" ∷ tree ∷ []
Spells words help = words ≡ codes "--help" ∷ []
Spells words version = words ≡ codes "--version" ∷ []

-- the words spell no command
abbrev pub SpellsNone : List Text → Type 0
SpellsNone words = (c : Command) → ¬ Spells words c

-- some command begins with these words
pub record Begins (words : List Text) : Type 0 where
  pub command : Command
  pub more : List Text
  pub spelled : Spells (words ++ more) command

-- the first word such that no command begins with the words up to it
pub record IsMisfit (words : List Text) (word : Text) : Type 0 where
  pub front : List Text
  pub back : List Text
  pub parts : words ≡ front ++ word ∷ back
  pub fits : Begins front
  pub unfit : ¬ Begins (front ++ word ∷ [])

-- why words spell no command: by their misfit, or because more are expected
abbrev pub Misfits : List Text → Option Text → Type 0
Misfits words (Some word) = IsMisfit words word
Misfits words None = Begins words

-- the first word that fits no command, where a word that is no text, and so fits none, stands behind these words
abbrev pub StrayMisfit : List Text → Text → Text → Type 0
StrayMisfit words stray word = IsMisfit words word ⊎ (Begins words × (word ≡ stray))

-- the files of a command in order: the tree and then the input, unless they are one
abbrev pub files_of : Command → Names
files_of (eval tree obj) = if bytes_eq tree obj then tree ∷ [] else tree ∷ obj ∷ []
files_of (check tree) = tree ∷ []
files_of _ = []
