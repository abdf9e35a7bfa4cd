-- The JSON Pointer to a pointer.
use Rattle.std.specs.Prelude.{ℕ, List, [], ◌∷◌, ◌++◌, ◌==◌, codes, decimal, if◌then◌else◌}
use Rattle.gn_pointers.specs.Pointers.{Step, index, key, Pointer}

-- `~0` for `~`, and `~1` for `/`
abbrev pub escaped_byte : ℕ → List ℕ
escaped_byte b = if b == 126 then codes "~0" else (if b == 47 then codes "~1" else b ∷ [])

abbrev pub escaped : List ℕ → List ℕ
escaped [] = []
escaped (b ∷ bs) = escaped_byte b ++ escaped bs

abbrev pub step_text : Step → List ℕ
step_text (index i) = codes "/" ++ decimal i
step_text (key k) = codes "/" ++ escaped k

abbrev pub steps_text : Pointer → List ℕ
steps_text [] = []
steps_text (s ∷ p) = step_text s ++ steps_text p

-- the text of a pointer; the top is one slash
abbrev pub pointer_text : Pointer → List ℕ
pointer_text [] = codes "/"
pointer_text (s ∷ p) = steps_text (s ∷ p)
