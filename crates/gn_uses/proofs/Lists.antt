-- Members of the lists that the sets keep.
use Rattle.std.proofs.Common.{◌≡◌, ◌≢◌, ◌⊎◌, inl, inr, ℕ, Bool, true, false, ◌&&◌, ◌||◌, ◌==◌, List, [], ◌∷◌, ◌++◌, IsTrue, refl, sym, ap, ◌∙◌, subst, true≢false, arith}
use Rattle.std.proofs.lemmas.Bool.Decides.{Decides-eqb}
use Rattle.gn_node_set.specs.Meanings.{Has}
use Rattle.gn_uses.specs.declared.outputs.Out.{Out}
use Rattle.gn_uses.specs.Sets.{has, same_out, has_out}

or_false : (b : Bool) → (b || false) ≡ b
or_false true = refl
or_false false = refl

or_joined : (a b c : Bool) → (a || (b || c)) ≡ ((a || b) || c)
or_joined true b c = refl
or_joined false b c = refl

pub or_left : (a b : Bool) → IsTrue a → IsTrue (a || b)
or_left true b h = refl
or_left false b h = absurd (cc)

pub or_right : (a b : Bool) → IsTrue b → IsTrue (a || b)
or_right true b h = refl
or_right false b h = h

pub or_tells : (a b : Bool) → IsTrue (a || b) → IsTrue a ⊎ IsTrue b
or_tells true b h = inl refl
or_tells false b h = inr h

pub and_left : (a b : Bool) → IsTrue (a && b) → IsTrue a
and_left true b h = refl
and_left false b h = absurd (cc)

pub and_right : (a b : Bool) → IsTrue (a && b) → IsTrue b
and_right true b h = h
and_right false b h = absurd (cc)

pub same_number : (i j : ℕ) → (i ≡ j) ⊎ (i ≢ j)
same_number i j = grind arith

pub true_or_false : (b : Bool) → (b ≡ true) ⊎ (b ≡ false)
true_or_false true = inl refl
true_or_false false = inr refl

-- ---- numbers

pub has_pushed : (ns : List ℕ) (n k : ℕ) → has (ns ++ n ∷ []) k ≡ (has ns k || n == k)
has_pushed [] n k = or_false (n == k)
has_pushed (m ∷ ns) n k = ap (λ b. m == k || b) (has_pushed ns n k) ∙ or_joined (m == k) (has ns k) (n == k)

pub is_member : (ns : List ℕ) (n : ℕ) → Has ns n → IsTrue (has ns n)
is_member [] n h = absurd h
is_member (m ∷ ns) n (inl e) = or_left (m == n) (has ns n) ((Decides-eqb m n).1 (sym e))
is_member (m ∷ ns) n (inr h) = or_right (m == n) (has ns n) (is_member ns n h)

pub member_is : (ns : List ℕ) (n : ℕ) → IsTrue (has ns n) → Has ns n
member_is [] n h = absurd (cc)
member_is (m ∷ ns) n h = elim (or_tells (m == n) (has ns n) h) [
  | inl e ↦ inl (sym ((Decides-eqb m n).0 e))
  | inr g ↦ inr (member_is ns n g)
]

-- ---- outputs

pub same_is : (x y : Out) → IsTrue (same_out x y) → x ≡ y
same_is x y h =
    let n : x.node ≡ y.node = (Decides-eqb x.node y.node).0 (and_left (x.node == y.node) (x.output == y.output) h) in
    let s : x.output ≡ y.output = (Decides-eqb x.output y.output).0 (and_right (x.node == y.node) (x.output == y.output) h) in
    λ i. record { node = n i; output = s i }

pub is_same : (x : Out) → IsTrue (same_out x x)
is_same x = ap (λ b. b && x.output == x.output) ((Decides-eqb x.node x.node).1 refl) ∙ (Decides-eqb x.output x.output).1 refl

pub has_out_pushed : (xs : List Out) (x y : Out) → has_out (xs ++ x ∷ []) y ≡ (has_out xs y || same_out x y)
has_out_pushed [] x y = or_false (same_out x y)
has_out_pushed (z ∷ xs) x y = ap (λ b. same_out z y || b) (has_out_pushed xs x y) ∙ or_joined (same_out z y) (has_out xs y) (same_out x y)

pub is_out : (xs : List Out) (x : Out) → Has xs x → IsTrue (has_out xs x)
is_out [] x h = absurd h
is_out (y ∷ xs) x (inl e) = or_left (same_out y x) (has_out xs x) (subst (λ z. IsTrue (same_out y z)) (sym e) (is_same y))
is_out (y ∷ xs) x (inr h) = or_right (same_out y x) (has_out xs x) (is_out xs x h)

pub out_is : (xs : List Out) (x : Out) → IsTrue (has_out xs x) → Has xs x
out_is [] x h = absurd (cc)
out_is (y ∷ xs) x h = elim (or_tells (same_out y x) (has_out xs x) h) [
  | inl e ↦ inl (sym (same_is y x e))
  | inr g ↦ inr (out_is xs x g)
]
