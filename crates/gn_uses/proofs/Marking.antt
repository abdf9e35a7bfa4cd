-- What is in a list after outputs or numbers are put behind it.
use Rattle.std.proofs.Common.{◌≡◌, ◌⊎◌, inl, inr, ℕ, Bool, true, false, List, [], ◌∷◌, ◌++◌, length, Option, Some, None, IsTrue, refl, sym, ap, ◌∙◌, subst, true≢false, if◌then◌else◌}
use Rattle.gn_node_set.specs.Meanings.{Has, AllDiffer}
use Rattle.gn_node_set.proofs.Lists.{append_nil, append_assoc, has_first, has_second, has_either, differ_joined, some_same}
use Rattle.gn_uses.specs.declared.outputs.Out.{Out}
use Rattle.gn_uses.specs.Sets.{has, with_number, has_out, with_out}
use Rattle.gn_uses.specs.Marks.{with_input, with_inputs}
use Rattle.gn_uses.specs.Progress.{GoesOn}
use Rattle.gn_uses.proofs.Lists.{true_or_false, is_member, member_is, out_is, is_out}

pub same_goes_on : {A : Type 0} (xs : List A) → GoesOn xs xs
same_goes_on xs = ([], sym (append_nil xs))

pub goes_further : {A : Type 0} (xs ys zs : List A) → GoesOn xs ys → GoesOn ys zs → GoesOn xs zs
goes_further xs ys zs a b = (a.0 ++ b.0, b.1 ∙ (ap (λ us. us ++ b.0) a.1 ∙ append_assoc xs a.0 b.0))

pub stays_in : {A : Type 0} (xs ys : List A) → GoesOn xs ys → (x : A) → Has xs x → Has ys x
stays_in xs ys g x h = subst (λ us. Has us x) (sym g.1) (has_first xs g.0 x h)

-- ---- numbers

pub number_stays : (ns : List ℕ) (n : ℕ) → GoesOn ns (with_number ns n)
number_stays ns n = elim (true_or_false (has ns n)) [
  | inl e ↦ subst (λ b. GoesOn ns (if b then ns else ns ++ n ∷ [])) (sym e) (same_goes_on ns)
  | inr e ↦ subst (λ b. GoesOn ns (if b then ns else ns ++ n ∷ [])) (sym e) (n ∷ [], refl)
]

pub number_in : (ns : List ℕ) (n : ℕ) → Has (with_number ns n) n
number_in ns n = elim (true_or_false (has ns n)) [
  | inl e ↦ subst (λ b. Has (if b then ns else ns ++ n ∷ []) n) (sym e) (member_is ns n e)
  | inr e ↦ subst (λ b. Has (if b then ns else ns ++ n ∷ []) n) (sym e) (has_second ns (n ∷ []) n (inl refl))
]

pub last_one : {A : Type 0} (xs : List A) (x y : A) → Has (xs ++ x ∷ []) y → Has xs y ⊎ (y ≡ x)
last_one xs x y h = elim (has_either xs (x ∷ []) y h) [
  | inl a ↦ inl a
  | inr b ↦ elim b [ inl e ↦ inr e | inr f ↦ absurd f ]
]

pub number_from : (ns : List ℕ) (n k : ℕ) → Has (with_number ns n) k → Has ns k ⊎ (k ≡ n)
number_from ns n k h = elim (true_or_false (has ns n)) [
  | inl e ↦ inl (subst (λ b. Has (if b then ns else ns ++ n ∷ []) k) e h)
  | inr e ↦ last_one ns n k (subst (λ b. Has (if b then ns else ns ++ n ∷ []) k) e h)
]

not_in : (ns : List ℕ) (n : ℕ) → has ns n ≡ false → ¬ Has ns n
not_in ns n e h = true≢false (sym (is_member ns n h) ∙ e)

pub pushed_differ : (ns : List ℕ) (n : ℕ) → has ns n ≡ false → AllDiffer ns → AllDiffer (ns ++ n ∷ [])
pushed_differ ns n e d = differ_joined ns (n ∷ []) d (λ f. f, tt) (λ x a b. elim b [ inl s ↦ not_in ns n e (subst (Has ns) s a) | inr f ↦ f ])

pub numbers_differ : (ns : List ℕ) (n : ℕ) → AllDiffer ns → AllDiffer (with_number ns n)
numbers_differ ns n d = elim (true_or_false (has ns n)) [
  | inl e ↦ subst (λ b. AllDiffer (if b then ns else ns ++ n ∷ [])) (sym e) d
  | inr e ↦ subst (λ b. AllDiffer (if b then ns else ns ++ n ∷ [])) (sym e) (pushed_differ ns n e d)
]

-- ---- outputs

pub out_stays : (xs : List Out) (x : Out) → GoesOn xs (with_out xs x)
out_stays xs x = elim (true_or_false (has_out xs x)) [
  | inl e ↦ subst (λ b. GoesOn xs (if b then xs else xs ++ x ∷ [])) (sym e) (same_goes_on xs)
  | inr e ↦ subst (λ b. GoesOn xs (if b then xs else xs ++ x ∷ [])) (sym e) (x ∷ [], refl)
]

pub out_in : (xs : List Out) (x : Out) → Has (with_out xs x) x
out_in xs x = elim (true_or_false (has_out xs x)) [
  | inl e ↦ subst (λ b. Has (if b then xs else xs ++ x ∷ []) x) (sym e) (out_is xs x e)
  | inr e ↦ subst (λ b. Has (if b then xs else xs ++ x ∷ []) x) (sym e) (has_second xs (x ∷ []) x (inl refl))
]

pub out_from : (xs : List Out) (x y : Out) → Has (with_out xs x) y → Has xs y ⊎ (y ≡ x)
out_from xs x y h = elim (true_or_false (has_out xs x)) [
  | inl e ↦ inl (subst (λ b. Has (if b then xs else xs ++ x ∷ []) y) e h)
  | inr e ↦ last_one xs x y (subst (λ b. Has (if b then xs else xs ++ x ∷ []) y) e h)
]

pub input_stays : (xs : List Out) (input : Option Out) → GoesOn xs (with_input xs input)
input_stays xs None = same_goes_on xs
input_stays xs (Some x) = out_stays xs x

pub input_in : (xs : List Out) (input : Option Out) (x : Out) → input ≡ Some x → Has (with_input xs input) x
input_in xs None x e = cc
input_in xs (Some y) x e = subst (Has (with_out xs y)) (some_same e) (out_in xs y)

pub input_from : (xs : List Out) (input : Option Out) (y : Out) → Has (with_input xs input) y → Has xs y ⊎ (input ≡ Some y)
input_from xs None y h = inl h
input_from xs (Some x) y h = elim (out_from xs x y h) [ inl a ↦ inl a | inr e ↦ inr (ap Some (sym e)) ]

pub inputs_stay : (inputs : List (Option Out)) (xs : List Out) → GoesOn xs (with_inputs xs inputs)
inputs_stay [] xs = same_goes_on xs
inputs_stay (input ∷ inputs) xs = goes_further xs (with_input xs input) (with_inputs (with_input xs input) inputs) (input_stays xs input) (inputs_stay inputs (with_input xs input))

pub inputs_in : (inputs : List (Option Out)) (xs : List Out) (x : Out) → Has inputs (Some x) → Has (with_inputs xs inputs) x
inputs_in [] xs x h = absurd h
inputs_in (input ∷ inputs) xs x (inl e) = stays_in (with_input xs input) (with_inputs (with_input xs input) inputs) (inputs_stay inputs (with_input xs input)) x (input_in xs input x (sym e))
inputs_in (input ∷ inputs) xs x (inr h) = inputs_in inputs (with_input xs input) x h

pub inputs_from : (inputs : List (Option Out)) (xs : List Out) (y : Out) → Has (with_inputs xs inputs) y → Has xs y ⊎ Has inputs (Some y)
inputs_from [] xs y h = inl h
inputs_from (input ∷ inputs) xs y h = elim (inputs_from inputs (with_input xs input) y h) [
  | inr b ↦ inr (inr b)
  | inl a ↦ elim (input_from xs input y a) [ inl c ↦ inl c | inr e ↦ inr (inl (sym e)) ]
]
