-- What is read off the steps of a field.
use Rattle.std.proofs.Common.{◌≡◌, inl, inr, ℕ, zero, suc, ◌+◌, ◌-◌, ◌<◌, List, [], ◌∷◌, ◌++◌, length, map, Bool, true, false, ◌||◌, get_or, refl, ap, sym, ◌∙◌, arith}
use Rattle.std.specs.List.{list_any}
use Rattle.std.proofs.lemmas.List.{length-append}
use Rattle.gn_value.specs.declared.value.ValueKind.{ValueKind}
use Rattle.gn_value.specs.Values.{zero_of}
use Rattle.gn_value.specs.declared.value.ValueKind.TheVariants.{Truth}
use Rattle.gn_node_set.specs.Meanings.{Has}
use Rattle.gn_plain.specs.Fields.{Expr, constant, input, apply, elsewhere, sampled, Exprs, none, and_one, Sources, varies, any_varies, kind_of_field}
use Rattle.gn_plain.specs.Subtrees.{subtrees, subtrees_in}
use Rattle.gn_field.specs.declared.step.FieldStep.{FieldStep}
use Rattle.gn_field.specs.declared.step.FieldStep.TheVariants.{Constant, Input as Read, Apply, Elsewhere, Sampled}
use Rattle.gn_field.specs.Steps.{exprs_of, named, last_of, made, built_on, built, key_of, keys, reads, kind_at}
use Rattle.gn_field.specs.Trees.{Tree, bare, bares, formed, grown, trees, SameMembers}
use Rattle.gn_field.specs.Kinds.{kinds_in}
use Rattle.gn_field.specs.Merged.{IsField}
use Rattle.gn_field.proofs.Grown.{get_last, get_before}
use Rattle.gn_field.proofs.Joining.{same_subtrees}

-- ---- whether a field reads its context

abbrev tree_reads : Tree → Bool
tree_reads (input x) = true
tree_reads (elsewhere x es) = true
tree_reads _ = false

any_append : (ts us : List Tree) → list_any tree_reads (ts ++ us) ≡ (list_any tree_reads ts || list_any tree_reads us)
any_append [] us = refl
any_append (t ∷ ts) us = by_first (tree_reads t) (any_append ts us)
  where
    by_first : (b : Bool) → list_any tree_reads (ts ++ us) ≡ (list_any tree_reads ts || list_any tree_reads us) → (b || list_any tree_reads (ts ++ us)) ≡ ((b || list_any tree_reads ts) || list_any tree_reads us)
    by_first true rest = refl
    by_first false rest = rest

or_false : (b : Bool) → (b || false) ≡ b
or_false true = refl
or_false false = refl

or_true : (b : Bool) → (b || true) ≡ true
or_true true = refl
or_true false = refl

mutual
  varies_is : (t : Tree) → varies t ≡ list_any tree_reads (subtrees t)
  varies_is (constant v) = refl
  varies_is (input x) = refl
  varies_is (apply op es) = any_varies_is es ∙ (sym (or_false (list_any tree_reads (subtrees_in es))) ∙ sym (any_append (subtrees_in es) (apply op es ∷ [])))
  varies_is (elsewhere x es) = sym (or_true (list_any tree_reads (subtrees_in es))) ∙ sym (any_append (subtrees_in es) (elsewhere x es ∷ []))
  varies_is (sampled p s e) = varies_is e ∙ (sym (or_false (list_any tree_reads (subtrees e))) ∙ sym (any_append (subtrees e) (sampled p s e ∷ [])))

  any_varies_is : (es : Exprs (Unit {0})) → any_varies es ≡ list_any tree_reads (subtrees_in es)
  any_varies_is none = refl
  any_varies_is (and_one e es) = let p = varies_is e in let q = any_varies_is es in (λ i. p i || q i) ∙ sym (any_append (subtrees e) (subtrees_in es))

any_of : (ts : List Tree) (t : Tree) → Has ts t → tree_reads t ≡ true → list_any tree_reads ts ≡ true
any_of [] t h e = absurd h
any_of (u ∷ ts) t (inl q) e = ap (λ b. b || list_any tree_reads ts) (ap tree_reads (sym q) ∙ e)
any_of (u ∷ ts) t (inr h) e = ap (λ b. tree_reads u || b) (any_of ts t h e) ∙ or_true (tree_reads u)

of_any : (ts : List Tree) → list_any tree_reads ts ≡ true → (t : Tree) × Has ts t × (tree_reads t ≡ true)
of_any [] e = cc
of_any (u ∷ ts) e = by_first (tree_reads u) refl e (of_any ts)
  where
    by_first : (b : Bool) → tree_reads u ≡ b → (b || list_any tree_reads ts) ≡ true → (list_any tree_reads ts ≡ true → (t : Tree) × Has ts t × (tree_reads t ≡ true)) → (t : Tree) × Has (u ∷ ts) t × (tree_reads t ≡ true)
    by_first true q k rest = (u, inl refl, q)
    by_first false q k rest = let r = rest k in (r.0, inr r.1, r.2)

any_same : (ts us : List Tree) → SameMembers ts us → list_any tree_reads ts ≡ list_any tree_reads us
any_same ts us same = by_both (list_any tree_reads ts) (list_any tree_reads us) refl refl
  where
    by_both : (a b : Bool) → list_any tree_reads ts ≡ a → list_any tree_reads us ≡ b → a ≡ b
    by_both true true p q = refl
    by_both false false p q = refl
    by_both true false p q = let r = of_any ts p in let s : list_any tree_reads us ≡ true = any_of us r.0 ((same r.0).0 r.1) r.2 in cc
    by_both false true p q = let r = of_any us q in let s : list_any tree_reads ts ≡ true = any_of ts r.0 ((same r.0).1 r.1) r.2 in cc

module _ {S : Type 0} where
  mutual
    varies_bare : (e : Expr S) → varies (bare e) ≡ varies e
    varies_bare (constant v) = refl
    varies_bare (input x) = refl
    varies_bare (apply op es) = any_varies_bare es
    varies_bare (elsewhere x es) = refl
    varies_bare (sampled p s e) = varies_bare e

    any_varies_bare : (es : Exprs S) → any_varies (bares es) ≡ any_varies es
    any_varies_bare none = refl
    any_varies_bare (and_one e es) = let p = varies_bare e in let q = any_varies_bare es in λ i. p i || q i

  formed_reads : (ts : List Tree) (x : FieldStep S) → tree_reads (formed ts (key_of x)) ≡ reads x
  formed_reads ts (Constant v) = refl
  formed_reads ts (Read x) = refl
  formed_reads ts (Apply op args) = refl
  formed_reads ts (Elsewhere x args) = refl
  formed_reads ts (Sampled tag source arg) = refl

  any_grown : (ts : List Tree) (xs : List (FieldStep S)) → list_any tree_reads (grown ts (keys xs)) ≡ (list_any tree_reads ts || list_any reads xs)
  any_grown ts [] = sym (or_false (list_any tree_reads ts))
  any_grown ts (x ∷ xs) =
      any_grown (ts ++ formed ts (key_of x) ∷ []) xs
      ∙ (ap (λ b. b || list_any reads xs) (any_append ts (formed ts (key_of x) ∷ []) ∙ ap (λ b. list_any tree_reads ts || b) (or_false (tree_reads (formed ts (key_of x))) ∙ formed_reads ts x))
      ∙ regroup (list_any tree_reads ts) (reads x) (list_any reads xs))
    where
      regroup : (a b c : Bool) → ((a || b) || c) ≡ (a || (b || c))
      regroup true b c = refl
      regroup false b c = refl

module _ {S : Type 0} (sources : Sources S) (taken : S → ValueKind) (xs : List (FieldStep S)) (f : IsField sources taken xs) where
  pub reads_is : list_any reads xs ≡ varies (last_of (built xs))
  reads_is =
      let e = last_of (built xs) in
      sym (any_grown [] xs) ∙ (any_same (trees (keys xs)) (subtrees (bare e)) (same_subtrees sources taken xs f) ∙ (sym (varies_is (bare e)) ∙ varies_bare e))

-- ---- the kind of a field

module _ {S : Type 0} where
  pub built_before : (es : List (Expr S)) (xs : List (FieldStep S)) (k : ℕ) → k < length es → named (built_on es xs) k ≡ named es k
  built_before es [] k h = refl
  built_before es (x ∷ xs) k h = built_before (es ++ made es x ∷ []) xs k (omega (arith, length-append es (made es x ∷ []))) ∙ get_before es (made es x) k (constant (zero_of Truth)) h

module _ {S : Type 0} (sources : Sources S) where
  pub made_kind : (es : List (Expr S)) (x : FieldStep S) → kind_of_field sources (made es x) ≡ kind_at sources x
  made_kind es (Constant v) = refl
  made_kind es (Read x) = refl
  made_kind es (Apply op args) = refl
  made_kind es (Elsewhere x args) = refl
  made_kind es (Sampled tag source arg) = refl

  kind_in : (es : List (Expr S)) (xs : List (FieldStep S)) (i at : ℕ) (d : FieldStep S) → at ≡ length es + i → i < length xs → kind_of_field sources (named (built_on es xs) at) ≡ kind_at sources (get_or xs i d)
  kind_in es [] i at d e h = absurd (omega arith)
  kind_in es (x ∷ xs) zero at d e h =
      let here : at ≡ length es = omega arith in
      ap (kind_of_field sources) (built_before (es ++ made es x ∷ []) xs at (omega (arith, length-append es (made es x ∷ []))) ∙ (ap (named (es ++ made es x ∷ [])) here ∙ get_last es (made es x) (constant (zero_of Truth)))) ∙ made_kind es x
  kind_in es (x ∷ xs) (suc i) at d e h = kind_in (es ++ made es x ∷ []) xs i at d (omega (arith, length-append es (made es x ∷ []))) (omega arith)

  length_built : (es : List (Expr S)) (xs : List (FieldStep S)) → length (built_on es xs) ≡ length es + length xs
  length_built es [] = omega arith
  length_built es (x ∷ xs) = omega (arith, length_built (es ++ made es x ∷ []) xs, length-append es (made es x ∷ []))

  pub last_kind : (xs : List (FieldStep S)) (d : FieldStep S) → 0 < length xs → kind_of_field sources (last_of (built xs)) ≡ kind_at sources (get_or xs (length xs - 1) d)
  last_kind xs d some = kind_in [] xs (length xs - 1) (length (built xs) - 1) d (omega (arith, length_built [] xs)) (omega arith)

  pub kinds_are : (es : List (Expr S)) → kinds_in sources (exprs_of es) ≡ map (kind_of_field sources) es
  kinds_are [] = refl
  kinds_are (e ∷ es) = ap (λ ks. kind_of_field sources e ∷ ks) (kinds_are es)
