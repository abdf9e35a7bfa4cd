-- Writing a line piece by piece.
use Rattle.std.proofs.Common.{◌≡◌, inl, inr, arith, ℕ, ◌+◌, ◌<◌, ◌≤◌, List, ◌++◌, length, take, drop, get_or, Option, Some, None, [], refl, sym, ap, ◌∙◌, subst, append_assoc, append-nil, codes}
use Rattle.std.specs.Fmt.{decimal}
use Rattle.std.specs.List.{flat_map}
use Rattle.std.proofs.Math.Seq.{take-append-add}
use Rattle.std.proofs.lemmas.List.{take-append-le, at_drop_more}
use Rattle.gn_io.specs.Outside.{Rose, with_bytes}
use Rattle.gn_io.specs.Sink.{Takes, OnFailedPut}
use Rattle.gn_io.specs.declared.sink.Put.{Put}
use Rattle.gn_io.specs.declared.sink.Put.TheVariants.{All, Failed}
use Rattle.gn_app.specs.Ending.{unwritable, misformed, bad_line, overlong, said_of, line_of}
use Rattle.gn_app.specs.Outcome.{Taken, Says}
use Rattle.gn_app.specs.Run.{Tells}

with_bytes_both : (held : Option (List ℕ)) (a b : List ℕ) → with_bytes (with_bytes held a) b ≡ with_bytes held (a ++ b)
with_bytes_both None a b = refl
with_bytes_both (Some h) a b = ap Some (append_assoc h a b)

-- what stands behind the pieces that are written
rest_of : {X : Type 0} (f : X → List ℕ) (xs : List X) (i : ℕ) (d : X) (done : List ℕ) → i < length xs → done ++ flat_map f (drop i xs) ≡ flat_map f xs → done ++ (f (get_or xs i d) ++ flat_map f (drop (i + 1) xs)) ≡ flat_map f xs
rest_of f xs i d done here e = ap (λ l. done ++ l) (sym (at_drop_more (flat_map f) xs i d here)) ∙ e

-- a piece more is written
pub more_said : {X : Type 0} (f : X → List ℕ) (xs : List X) (i : ℕ) (d : X) (done piece : List ℕ) (h h' h'' : Option (List ℕ)) → i < length xs → done ++ flat_map f (drop i xs) ≡ flat_map f xs → piece ≡ f (get_or xs i d) → h' ≡ with_bytes h done → h'' ≡ with_bytes h' piece → (more : List ℕ) × (h'' ≡ with_bytes h more) × (more ++ flat_map f (drop (i + 1) xs) ≡ flat_map f xs)
more_said f xs i d done piece h h' h'' here e same before now = (
  done ++ piece,
  now ∙ ap (λ x. with_bytes x piece) before ∙ with_bytes_both h done piece,
  ap (λ p. (done ++ p) ++ flat_map f (drop (i + 1) xs)) same ∙ append_assoc done (f (get_or xs i d)) (flat_map f (drop (i + 1) xs)) ∙ rest_of f xs i d done here e,
)

-- a part of a piece is written
pub part_said : {X : Type 0} (f : X → List ℕ) (xs : List X) (i : ℕ) (d : X) (done piece : List ℕ) (n : ℕ) (h h' h'' : Option (List ℕ)) → i < length xs → done ++ flat_map f (drop i xs) ≡ flat_map f xs → piece ≡ f (get_or xs i d) → n ≤ length piece → h' ≡ with_bytes h done → h'' ≡ with_bytes h' (take n piece) → (k : ℕ) × (h'' ≡ with_bytes h (take k (flat_map f xs)))
part_said f xs i d done piece n h h' h'' here e same fits before now =
    let rest = flat_map f (drop (i + 1) xs) in
    let whole : done ++ (piece ++ rest) ≡ flat_map f xs = ap (λ p. done ++ (p ++ rest)) same ∙ rest_of f xs i d done here e in
    let part : done ++ take n piece ≡ take (length done + n) (flat_map f xs) =
    ap (λ l. done ++ l) (sym (take-append-le n piece rest fits)) ∙ sym (take-append-add done (piece ++ rest) n) ∙ ap (take (length done + n)) whole in
    (length done + n, now ∙ ap (λ x. with_bytes x (take n piece)) before ∙ with_bytes_both h done (take n piece) ∙ ap (with_bytes h) part)

-- the line of a fault of writing, in its pieces
pub tells_fault : (n : ℕ) (text : List ℕ) (before now : Taken) → text ≡ decimal n → Says (codes "geonodes: write fault after " ++ (text ++ (codes " bytes\n" ++ []))) before.held now.held (Rose before.faults now.faults) → Tells (said_of (unwritable n)) before now
tells_fault n text before now e h =
    let P : List ℕ → Type 0 = λ l. Says (codes "geonodes: write fault after " ++ l) before.held now.held (Rose before.faults now.faults) in
    subst P (ap (λ t. t ++ codes " bytes\n") e ∙ sym (append_assoc (decimal n) (codes " bytes") (codes "\n"))) h

-- the line of a file that is too long, in its pieces
pub tells_length : (name : List ℕ) (n : ℕ) (text : List ℕ) (before now : Taken) → text ≡ decimal n → Says (codes "geonodes: too long: " ++ (name ++ (codes ": " ++ (text ++ (codes "\n" ++ []))))) before.held now.held (Rose before.faults now.faults) → Tells (said_of (overlong name n)) before now
tells_length name n text before now e h =
    let P : List ℕ → Type 0 = λ l. Says (codes "geonodes: too long: " ++ l) before.held now.held (Rose before.faults now.faults) in
    subst P (ap (λ t. name ++ (codes ": " ++ (t ++ codes "\n"))) e ∙ sym (append_assoc (name ++ codes ": ") (decimal n) (codes "\n") ∙ append_assoc name (codes ": ") (decimal n ++ codes "\n"))) h

-- the line of a rule that a tree breaks, in its pieces
pub tells_misform : (r : ℕ) (rule place : List ℕ) (before now : Taken) → rule ≡ decimal r → Says (codes "geonodes: tree form: F" ++ (rule ++ (codes " at " ++ (place ++ (codes "\n" ++ []))))) before.held now.held (Rose before.faults now.faults) → Tells (said_of (misformed r place)) before now
tells_misform r rule place before now e h =
    let P : List ℕ → Type 0 = λ l. Says (codes "geonodes: tree form: F" ++ l) before.held now.held (Rose before.faults now.faults) in
    let words : rule ++ (codes " at " ++ (place ++ codes "\n")) ≡ decimal r ++ (codes " at " ++ (place ++ codes "\n")) = ap (λ t. t ++ (codes " at " ++ (place ++ codes "\n"))) e in
    let joined : (decimal r ++ codes " at " ++ place) ++ codes "\n" ≡ decimal r ++ (codes " at " ++ (place ++ codes "\n")) = append_assoc (decimal r ++ codes " at ") place (codes "\n") ∙ append_assoc (decimal r) (codes " at ") (place ++ codes "\n") in
    subst P (words ∙ sym joined) h

-- the line of a bad line, in its pieces
pub tells_bad_line : (n r : ℕ) (line rule : List ℕ) (before now : Taken) → line ≡ decimal n → rule ≡ decimal r → Says (codes "geonodes: obj text: line " ++ (line ++ (codes ": O" ++ (rule ++ (codes "\n" ++ []))))) before.held now.held (Rose before.faults now.faults) → Tells (said_of (bad_line n r)) before now
tells_bad_line n r line rule before now e f h =
    let P : List ℕ → Type 0 = λ l. Says (codes "geonodes: obj text: line " ++ l) before.held now.held (Rose before.faults now.faults) in
    let words : line ++ (codes ": O" ++ (rule ++ codes "\n")) ≡ decimal n ++ (codes ": O" ++ (decimal r ++ codes "\n")) = rw (e, f) refl in
    let joined : (decimal n ++ codes ": O" ++ decimal r) ++ codes "\n" ≡ decimal n ++ (codes ": O" ++ (decimal r ++ codes "\n")) = append_assoc (decimal n ++ codes ": O") (decimal r) (codes "\n") ∙ append_assoc (decimal n) (codes ": O") (decimal r ++ codes "\n") in
    subst P (words ∙ sym joined) h

-- nothing is written
no_bytes : (h : Option (List ℕ)) → h ≡ with_bytes h []
no_bytes None = refl
no_bytes (Some h) = ap Some (sym (append-nil h))

-- a part of a piece is written behind what was written, and no more of the line
cut_short : (done piece rest : List ℕ) (n : ℕ) (h a b : Option (List ℕ)) → n ≤ length piece → a ≡ with_bytes h done → b ≡ with_bytes a (take n piece) → (k : ℕ) × (b ≡ with_bytes h (take k (done ++ (piece ++ rest))))
cut_short done piece rest n h a b fits before now =
    let part : done ++ take n piece ≡ take (length done + n) (done ++ (piece ++ rest)) = ap (λ l. done ++ l) (sym (take-append-le n piece rest fits)) ∙ sym (take-append-add done (piece ++ rest) n) in
    (length done + n, now ∙ ap (λ x. with_bytes x (take n piece)) before ∙ with_bytes_both h done (take n piece) ∙ ap (with_bytes h) part)

-- the line of a word that is no text, piece by piece
module _ (word : List ℕ) (h : Option (List ℕ)) where
  abbrev pub HasHead : Option (List ℕ) → Type 0
  HasHead a = a ≡ with_bytes h (codes "geonodes: usage: unexpected ")

  abbrev pub HasPart : Option (List ℕ) → Type 0
  HasPart a = (k : ℕ) × (a ≡ with_bytes h (take k (line_of (codes "usage: unexpected " ++ word))))

  head_cut : (n : ℕ) (a : Option (List ℕ)) → n ≤ length (codes "geonodes: usage: unexpected ") → a ≡ with_bytes h (take n (codes "geonodes: usage: unexpected ")) → HasPart a
  head_cut n a fits now = cut_short [] (codes "geonodes: usage: unexpected ") (word ++ codes "\n") n h h a fits (no_bytes h) now

  pub stray_head : (piece : List ℕ) (n : ℕ) (a : Option (List ℕ)) → piece ≡ codes "geonodes: usage: unexpected " → n ≤ length piece → a ≡ with_bytes h (take n piece) → HasPart a
  stray_head piece n a e = subst (λ p. n ≤ length p → a ≡ with_bytes h (take n p) → HasPart a) (sym e) (head_cut n a)

  pub stray_word : (n : ℕ) (a b : Option (List ℕ)) → HasHead a → n ≤ length word → b ≡ with_bytes a (take n word) → HasPart b
  stray_word n a b before fits now = cut_short (codes "geonodes: usage: unexpected ") word (codes "\n") n h a b fits before now

  named : (a b : Option (List ℕ)) → HasHead a → b ≡ with_bytes a word → b ≡ with_bytes h (codes "geonodes: usage: unexpected " ++ word)
  named a b before now = now ∙ ap (λ x. with_bytes x word) before ∙ with_bytes_both h (codes "geonodes: usage: unexpected ") word

  joined : codes "geonodes: usage: unexpected " ++ word ++ codes "\n" ≡ (codes "geonodes: usage: unexpected " ++ word) ++ codes "\n"
  joined = sym (append_assoc (codes "geonodes: usage: unexpected ") word (codes "\n"))

  end_cut : (n : ℕ) (a b c : Option (List ℕ)) → HasHead a → b ≡ with_bytes a word → n ≤ length (codes "\n") → c ≡ with_bytes b (take n (codes "\n")) → HasPart c
  end_cut n a b c before middle fits now =
      let cut = cut_short (codes "geonodes: usage: unexpected " ++ word) (codes "\n") [] n h b c fits (named a b before middle) now in
      (cut.0, cut.1 ∙ ap (λ l. with_bytes h (take cut.0 l)) (sym joined))

  whole_line : (a b c : Option (List ℕ)) → HasHead a → b ≡ with_bytes a word → c ≡ with_bytes b (codes "\n") → c ≡ with_bytes h (line_of (codes "usage: unexpected " ++ word))
  whole_line a b c before middle now =
      now ∙ ap (λ x. with_bytes x (codes "\n")) (named a b before middle) ∙ with_bytes_both h (codes "geonodes: usage: unexpected " ++ word) (codes "\n") ∙ ap (with_bytes h) (sym joined)

  abbrev Ended : List ℕ → Put → Option (List ℕ) → Option (List ℕ) → Type 0 → Type 0
  Ended piece put b c rose = Takes piece put b c → OnFailedPut put rose → Says (line_of (codes "usage: unexpected " ++ word)) h c rose

  ended : (put : Put) (a b c : Option (List ℕ)) (rose : Type 0) → HasHead a → b ≡ with_bytes a word → Ended (codes "\n") put b c rose
  ended All a b c rose before middle now r = inl (whole_line a b c before middle now)
  ended (Failed n) a b c rose before middle now r = inr (end_cut n a b c before middle now.0 now.1, r)

  -- the end of the line is put
  pub stray_end : (piece : List ℕ) (put : Put) (a b c : Option (List ℕ)) (rose : Type 0) → piece ≡ codes "\n" → HasHead a → b ≡ with_bytes a word → Ended piece put b c rose
  stray_end piece put a b c rose e before middle = subst (λ p. Ended p put b c rose) (sym e) (ended put a b c rose before middle)

-- a count that rose since then rose since before, where a put failed
pub failed_since : (put : Put) (before middle now : ℕ) → before ≤ middle → OnFailedPut put (Rose middle now) → OnFailedPut put (Rose before now)
failed_since All before middle now h r = tt
failed_since (Failed n) before middle now h r = omega (arith, h, r)
