-- Escaping goes character by character: no byte of a character beyond ASCII is `~` or `/`.
use Rattle.std.proofs.Common.{◌≡◌, ◌≢◌, ℕ, ◌+◌, ◌/◌, ◌≤◌, Bool, true, false, cond, List, [], ◌∷◌, ◌++◌, refl, sym, arith}
use Rattle.std.proofs.lemmas.Bool.Decides.{nat_tests}
use Rattle.std.proofs.lemmas.List.{append_assoc, append-nil}
use lib.Dec.{ltb}
use lib.Utf8.{encode as encode_utf8, encodes as encode_utf8_all, next}
use Rattle.gn_pointers.specs.Texts.{escaped, escaped_byte}

kept : (b : ℕ) → b ≢ 126 → b ≢ 47 → escaped_byte b ≡ b ∷ []
kept b h k = grind (arith, nat_tests)

abbrev Stays : List ℕ → Type 0
Stays bs = escaped bs ≡ bs

high : (b : ℕ) (bs : List ℕ) → 128 ≤ b → Stays bs → Stays (b ∷ bs)
high b bs h more = rw (kept b (λ (e : b ≡ 126). omega (arith, h, e)) (λ (e : b ≡ 47). omega (arith, h, e)), more)

either : (P : List ℕ → Type 0) (b : Bool) (xs ys : List ℕ) → P xs → P ys → P (cond b xs ys)
either P true xs ys h k = h
either P false xs ys h k = k

-- the bytes of any other character stay
pub escaped_other : (c : ℕ) → c ≢ 126 → c ≢ 47 → escaped (encode_utf8 c) ≡ encode_utf8 c
unfolding encode_utf8
escaped_other c h k =
    let one = next c ∷ [] in
    let two = next (c / 64) ∷ one in
    let three = next (c / 4096) ∷ two in
    let ends : Stays one = high (next c) [] (omega arith) refl in
    let ends_2 : Stays two = high (next (c / 64)) one (omega arith) ends in
    let ends_3 : Stays three = high (next (c / 4096)) two (omega arith) ends_2 in
    let longest = (240 + c / 262144) ∷ three in
    let longer = cond (ltb c 65536) ((224 + c / 4096) ∷ two) longest in
    either Stays (ltb c 128) (c ∷ []) (cond (ltb c 2048) ((192 + c / 64) ∷ one) longer) (rw (kept c h k))
    (either Stays (ltb c 2048) ((192 + c / 64) ∷ one) longer (high (192 + c / 64) one (omega arith) ends)
    (either Stays (ltb c 65536) ((224 + c / 4096) ∷ two) longest (high (224 + c / 4096) two (omega arith) ends_2) (high (240 + c / 262144) three (omega arith) ends_3)))

pub escaped_append : (xs ys : List ℕ) → escaped (xs ++ ys) ≡ escaped xs ++ escaped ys
escaped_append [] ys = refl
escaped_append (x ∷ xs) ys = rw (escaped_append xs ys) (sym (append_assoc (escaped_byte x) (escaped xs) (escaped ys)))

-- one character more
pub escaped_pushed : (cs : List ℕ) (c : ℕ) → escaped (encode_utf8_all (cs ++ c ∷ [])) ≡ escaped (encode_utf8_all cs) ++ escaped (encode_utf8 c)
escaped_pushed [] c = rw (append-nil (encode_utf8 c)) refl
escaped_pushed (x ∷ cs) c = rw (escaped_append (encode_utf8 x) (encode_utf8_all (cs ++ c ∷ [])), escaped_append (encode_utf8 x) (encode_utf8_all cs), escaped_pushed cs c) (sym (append_assoc (escaped (encode_utf8 x)) (escaped (encode_utf8_all cs)) (escaped (encode_utf8 c))))
