-- The entries of the map from names to answers, and what is kept by them.
use Rattle.std.proofs.Common.{◌≡◌, ℕ, Bool, true, false, cond, List, [], ◌∷◌, ◌++◌, map, Option, Some, None, option_map, IsSomeAnd, bytes_eq, string_bytes, String, refl, ap, sym, subst, ◌∙◌}
use Rattle.std.specs.Map.{lookup, set_value}
use Rattle.std.specs.String.{string_eq}
use Rattle.indexmap.specs.IndexMap.{insert_entry}
use Rattle.gn_io.specs.Files.{FileAnswer}
use Rattle.gn_kept.specs.Answers.{kept_for}
use Rattle.gn_kept.specs.Stored.{stored, entry_of}
use Rattle.gn_kept.specs.declared.kept.Answer.{Answer}

module _ {A : Type 0} where
  -- whether a text is that of a key
  abbrev pub names : List ℕ → String A → Bool
  names name key = bytes_eq name (string_bytes key)

  found_at : (e : String A × Answer) (rest : Option Answer) (there : Option FileAnswer) (b : Bool) → option_map stored rest ≡ there
      → option_map stored (cond b (Some e.1) rest) ≡ cond b (Some (stored e.1)) there
  found_at e rest there true h = refl
  found_at e rest there false h = h

  -- what the map has under a name is what is kept for it
  pub kept_is : (name : List ℕ) (es : List (String A × Answer)) → option_map stored (lookup (names name) es) ≡ kept_for (map entry_of es) name
  kept_is name [] = refl
  kept_is name (e ∷ es) = found_at e _ _ (names name e.0) (kept_is name es)

  put_at : (key : String A) (answer : Answer) (e : String A × Answer) (es : List (String A × Answer)) (b : Bool) → cond b (Some (stored e.1)) (kept_for (map entry_of es) (string_bytes key)) ≡ None
      → (kept_for (map entry_of es) (string_bytes key) ≡ None → map entry_of (insert_entry string_eq es key answer) ≡ map entry_of es ++ (string_bytes key, stored answer) ∷ [])
      → map entry_of (cond b ((e.0, answer) ∷ es) (e ∷ insert_entry string_eq es key answer)) ≡ entry_of e ∷ map entry_of es ++ (string_bytes key, stored answer) ∷ []
  put_at key answer e es true h rest = cc
  put_at key answer e es false h rest = ap (λ fs. entry_of e ∷ fs) (rest h)

  -- an answer under a new name goes last
  pub put_is : (key : String A) (answer : Answer) (es : List (String A × Answer)) → kept_for (map entry_of es) (string_bytes key) ≡ None
      → map entry_of (insert_entry string_eq es key answer) ≡ map entry_of es ++ (string_bytes key, stored answer) ∷ []
  put_is key answer [] h = refl
  put_is key answer (e ∷ es) h = put_at key answer e es (string_eq key e.0) h (put_is key answer es)

  written_at : (name : List ℕ) (m w : Answer) (e : String A × Answer) (es : List (String A × Answer)) (b : Bool) → stored w ≡ stored m → cond b (Some e.1) (lookup (names name) es) ≡ Some m
      → (lookup (names name) es ≡ Some m → map entry_of (set_value (names name) es w) ≡ map entry_of es)
      → map entry_of (cond b ((e.0, w) ∷ es) (e ∷ set_value (names name) es w)) ≡ entry_of e ∷ map entry_of es
  written_at name m w e es true same h rest =
      let member : e.1 ≡ m = cc in
      ap (λ f. (string_bytes e.0, f) ∷ map entry_of es) (same ∙ ap stored (sym member))
  written_at name m w e es false same h rest = ap (λ fs. entry_of e ∷ fs) (rest h)

  -- what is kept stays where an answer is written over by one that says the same
  pub written_is : (name : List ℕ) (m w : Answer) (es : List (String A × Answer)) → stored w ≡ stored m → lookup (names name) es ≡ Some m → map entry_of (set_value (names name) es w) ≡ map entry_of es
  written_is name m w [] same h = refl
  written_is name m w (e ∷ es) same h = written_at name m w e es (names name e.0) same h (written_is name m w es same)

pub some_and : {B : Type 0} (P : B → Type 0) (o : Option B) (x : B) → Some x ≡ o → P x → IsSomeAnd o P
some_and P o x h p = subst (λ o. IsSomeAnd o P) h p
