-- The files lead a command to one job or one end.
use Rattle.std.proofs.Common.{◌≡◌, ◌⊎◌, inl, inr, ℕ, ◌<◌, ◌≤◌, false, List, [], ◌∷◌, Option, Some, None, Result, Ok, Err, refl, sym, ap, ◌∙◌, subst, arith}
use Rattle.std.specs.declared.cmp.Ordering.{Ordering}
use Rattle.std.specs.declared.cmp.Ordering.TheVariants.{Less, Equal, Greater}
use Rattle.std.specs.Ordering.{is_eq, is_gt, ordering_reverse, ordering_then, nat_cmp}
use Rattle.std.specs.Prelude.{◌==◌, if◌then◌else◌}
use Rattle.std.specs.Cmp.Lexicographic.{lists_total}
use Rattle.std.specs.Cmp.{nat_cmp_is}
use Rattle.std.proofs.lemmas.Bool.{cases_lt}
use Rattle.std.proofs.lemmas.Map.Text.{is_eq-slice_cmp}
use Rattle.std.proofs.lemmas.Slice.Eq.{bytes_eq-Decides}
use Rattle.serde_json.specs.Data.{Data}
use Rattle.gn_io.specs.Files.{FileAnswer, whole, absent, too_long}
use Rattle.gn_kinds.specs.Row.{Text}
use Rattle.gn_pointers.specs.Pointers.{Step, index, key, Pointer, step_cmp, pointer_cmp, IsFirst}
use Rattle.gn_pointers.specs.Texts.{pointer_text}
use Rattle.gn_pointers.proofs.Order.{step_total}
use Rattle.gn_tree.specs.Trees.{Tree}
use Rattle.gn_form.specs.Form.{BreaksForm}
use Rattle.gn_rules.specs.declared.rule.Rule.{Rule}
use Rattle.gn_rules.specs.declared.rule.Rule.TheVariants.{Names, Links, Kinds, Order, Height, Count}
use Rattle.gn_rules.specs.Number.{number_of}
use Rattle.gn_rules.specs.Rules.{IsNamed, IsBrokenAt}
use Rattle.gn_json.specs.Answers.{json, FirstMisfit}
use Rattle.gn_json.specs.Exact.{tree_from}
use Rattle.gn_plans.specs.Plans.{Plan, IsPlan, HasNoPlan}
use Rattle.gn_app.specs.Command.{Command, eval, check, help, version}
use Rattle.gn_app.specs.Ending.{Ending, done, misused, no_file, unreadable, unwritable, no_json, misformed, bad_line, overlong, not_built, no_memory}
use Rattle.gn_app.specs.Job.{Job, NeedsNoInput, TreeDecides, IsTree, BreaksRule, TextGives, TreeGiven, TreeLeads, checked, mesh_given, Giving, Leads, tree_limit, input_limit}

-- ---- the first pointer is one

not_less : (i j : ℕ) → nat_cmp i j ≡ Equal → ¬ (i < j)
not_less i j e h = let less : Less ≡ nat_cmp i j = nat_cmp_is i j Less h in cc

not_greater : (i j : ℕ) → nat_cmp i j ≡ Equal → ¬ (j < i)
not_greater i j e h = let greater : Greater ≡ nat_cmp i j = nat_cmp_is i j Greater h in cc

neither_less : (i j : ℕ) → ¬ (i < j) → ¬ (j < i) → i ≡ j
neither_less i j f g = by (cases_lt i j) (cases_lt j i)
  where
    by : ((i < j) ⊎ (j ≤ i)) → ((j < i) ⊎ (i ≤ j)) → i ≡ j
    by (inl h) k = absurd (f h)
    by (inr h) (inl k) = absurd (g k)
    by (inr h) (inr k) = omega (arith, h, k)

step_same : (s t : Step) → step_cmp s t ≡ Equal → s ≡ t
step_same (index i) (index j) e = ap index (neither_less i j (not_less i j e) (not_greater i j e))
step_same (key k) (key l) e = ap key ((bytes_eq-Decides k l).0 (sym (is_eq-slice_cmp k l) ∙ ap is_eq e))
step_same (index i) (key l) e = cc
step_same (key k) (index j) e = cc

more_same : (s t : Step) (p q : Pointer) (o : Ordering) → (pointer_cmp p q ≡ Equal → p ≡ q) → step_cmp s t ≡ o → ordering_then o (pointer_cmp p q) ≡ Equal → s ∷ p ≡ t ∷ q
more_same s t p q Less rest f e = cc
more_same s t p q Greater rest f e = cc
more_same s t p q Equal rest f e = rw (step_same s t f, rest e) refl

place_same : (p q : Pointer) → pointer_cmp p q ≡ Equal → p ≡ q
place_same [] [] e = refl
place_same [] (t ∷ q) e = cc
place_same (s ∷ p) [] e = cc
place_same (s ∷ p) (t ∷ q) e = more_same s t p q (step_cmp s t) (place_same p q) refl e

neither : (o : Ordering) → is_gt o ≡ false → is_gt (ordering_reverse o) ≡ false → o ≡ Equal
neither Less e f = cc
neither Equal e f = refl
neither Greater e f = cc

first_is_one : (P : Pointer → Type 0) (p q : Pointer) → IsFirst P (Some p) → IsFirst P (Some q) → p ≡ q
first_is_one P p q h k =
    let back : pointer_cmp q p ≡ ordering_reverse (pointer_cmp p q) = (lists_total step_total).antisymm q p in
    place_same p q (neither (pointer_cmp p q) (h.1 q k.0) (ap is_gt (sym back) ∙ k.1 p h.0))

-- ---- a text gives one tree or one reason

some_same : {X : Type 0} {a b : X} (o : Option X) → o ≡ Some a → o ≡ Some b → a ≡ b
some_same o e f = cc

one_value : (bytes : List ℕ) (d d' : Data) → json bytes ≡ Some d → json bytes ≡ Some d' → d ≡ d'
one_value bytes d d' e f = some_same (json bytes) e f

one_tree : (bytes : List ℕ) (t t' : Tree) → IsTree bytes t → IsTree bytes t' → t ≡ t'
one_tree bytes t t' h h' =
    let same = one_value bytes h.0 h'.0 h.1.0 h'.1.0 in
    some_same (tree_from h'.0) (ap tree_from (sym same) ∙ h.2) h'.2

-- a value of the form has no misfit
fits_or_not : (bytes : List ℕ) (d d' : Data) (p : Pointer) → FirstMisfit bytes d None → FirstMisfit bytes d' (Some p) → ⊥
fits_or_not bytes d d' p h k = h.1 p (subst (λ x. BreaksForm x p) (sym (one_value bytes d d' h.0 k.0)) k.1.0)

keeps_or_breaks : (bytes : List ℕ) (t : Tree) (rule : ℕ) (text : Text) → IsTree bytes t → BreaksRule bytes rule text → ⊥
keeps_or_breaks bytes t rule text h (pointer, e, inl (d, misfit, n)) = fits_or_not bytes h.0 d pointer h.1 misfit
keeps_or_breaks bytes t rule text h (pointer, e, inr (d, t', r, fit, from, n, named)) =
    let same : t' ≡ t = some_same (tree_from d) from (ap tree_from (one_value bytes d h.0 fit.0 h.1.0) ∙ h.2) in
    h.3 r pointer (subst (λ x. IsBrokenAt x r pointer) same named.first.0)

abbrev rule_numbered : ℕ → Rule
rule_numbered n = if n == 2 then Names else (if n == 3 then Links else (if n == 4 then Kinds else (if n == 5 then Order else (if n == 6 then Height else Count))))

numbered : (r : Rule) → rule_numbered (number_of r) ≡ r
numbered Names = refl
numbered Links = refl
numbered Kinds = refl
numbered Order = refl
numbered Height = refl
numbered Count = refl

not_lesser : (t : Tree) (r q : Rule) (p p' : Pointer) → IsNamed t r p → IsNamed t q p' → ¬ (number_of q < number_of r)
not_lesser t r q p p' h k less = h.least q less p' k.first.0

one_rule : (t : Tree) (r q : Rule) (p p' : Pointer) → IsNamed t r p → IsNamed t q p' → r ≡ q
one_rule t r q p p' h k =
    let same : number_of r ≡ number_of q = neither_less (number_of r) (number_of q) (not_lesser t q r p' p k h) (not_lesser t r q p p' h k) in
    sym (numbered r) ∙ ap rule_numbered same ∙ numbered q

one_place : (bytes : List ℕ) (rule rule' : ℕ) (text text' : Text) → BreaksRule bytes rule text → BreaksRule bytes rule' text' → (rule ≡ rule') × (text ≡ text')
one_place bytes rule rule' text text' (p, e, inl (d, misfit, n)) (p', e', inl (d', misfit', n')) =
    let same = one_value bytes d' d misfit'.0 misfit.0 in
    let pointer : p ≡ p' = first_is_one (BreaksForm d) p p' misfit.1 (subst (λ x. IsFirst (BreaksForm x) (Some p')) same misfit'.1) in
    (n ∙ sym n', e ∙ ap pointer_text pointer ∙ sym e')
one_place bytes rule rule' text text' (p, e, inl (d, misfit, n)) (p', e', inr (d', t', r', fit, from', number', named')) = absurd (fits_or_not bytes d' d p fit misfit)
one_place bytes rule rule' text text' (p, e, inr (d, t, r, fit, from, number, named)) (p', e', inl (d', misfit, n')) = absurd (fits_or_not bytes d d' p' fit misfit)
one_place bytes rule rule' text text' (p, e, inr (d, t, r, fit, from, n, named)) (p', e', inr (d', t', r', fit', from', n', named')) =
    let same : t' ≡ t = some_same (tree_from d) (ap tree_from (one_value bytes d d' fit.0 fit'.0) ∙ from') from in
    let also : IsNamed t r' p' = subst (λ x. IsNamed x r' p') same named' in
    let one : r ≡ r' = one_rule t r r' p p' named also in
    let pointer : p ≡ p' = first_is_one (IsBrokenAt t r) p p' named.first (subst (λ x. IsFirst (IsBrokenAt t x) (Some p')) (sym one) also.first) in
    (n ∙ ap number_of one ∙ sym n', e ∙ ap pointer_text pointer ∙ sym e')

-- why a text is no tree
abbrev WhyNot : List ℕ → Ending → Type 0
WhyNot bytes e = ((e ≡ no_json) × (json bytes ≡ None)) ⊎ ((rule : ℕ) × (text : Text) × (e ≡ misformed rule text) × BreaksRule bytes rule text)

why_not : (bytes : List ℕ) (e : Ending) → TextGives bytes (Err e) → WhyNot bytes e
why_not bytes no_json h = inl (refl, h)
why_not bytes (misformed rule text) h = inr (rule, text, refl, h)
why_not bytes done h = absurd h
why_not bytes (misused word) h = absurd h
why_not bytes (no_file name) h = absurd h
why_not bytes (unreadable name) h = absurd h
why_not bytes (unwritable taken) h = absurd h
why_not bytes (bad_line line rule) h = absurd h
why_not bytes (overlong name size) h = absurd h
why_not bytes not_built h = absurd h
why_not bytes no_memory h = absurd h

no_value : (bytes : List ℕ) (d : Data) → json bytes ≡ None → json bytes ≡ Some d → ⊥
no_value bytes d e f = cc

no_value_breaks : (bytes : List ℕ) (rule : ℕ) (text : Text) → json bytes ≡ None → BreaksRule bytes rule text → ⊥
no_value_breaks bytes rule text e (p, f, inl (d, misfit, n)) = no_value bytes d e misfit.0
no_value_breaks bytes rule text e (p, f, inr (d, t, r, fit, from, n, named)) = no_value bytes d e fit.0

no_tree : (bytes : List ℕ) (t : Tree) (e : Ending) → IsTree bytes t → WhyNot bytes e → ⊥
no_tree bytes t e h (inl k) = no_value bytes h.0 k.1 h.1.0
no_tree bytes t e h (inr (rule, text, same, k)) = keeps_or_breaks bytes t rule text h k

one_reason : (bytes : List ℕ) (e e' : Ending) → WhyNot bytes e → WhyNot bytes e' → e ≡ e'
one_reason bytes e e' (inl h) (inl k) = h.0 ∙ sym k.0
one_reason bytes e e' (inl h) (inr (rule, text, same, k)) = absurd (no_value_breaks bytes rule text h.1 k)
one_reason bytes e e' (inr (rule, text, same, h)) (inl k) = absurd (no_value_breaks bytes rule text k.1 h)
one_reason bytes e e' (inr (rule, text, same, h)) (inr (rule', text', same', k)) =
    let one = one_place bytes rule rule' text text' h k in
    same ∙ ap (λ n. misformed n text) one.0 ∙ ap (misformed rule') one.1 ∙ sym same'

one_text : (bytes : List ℕ) (r r' : Result Tree Ending) → TextGives bytes r → TextGives bytes r' → r ≡ r'
one_text bytes (Ok t) (Ok t') h k = ap (λ x. Ok x) (one_tree bytes t t' h k)
one_text bytes (Ok t) (Err e) h k = absurd (no_tree bytes t e h (why_not bytes e k))
one_text bytes (Err e) (Ok t) h k = absurd (no_tree bytes t e k (why_not bytes e h))
one_text bytes (Err e) (Err e') h k = ap (λ x. Err x) (one_reason bytes e e' (why_not bytes e h) (why_not bytes e' k))

-- ---- the files lead to one thing

one_given : (name : Text) (a : FileAnswer) (r r' : Result Tree Ending) → TreeGiven name a r → TreeGiven name a r' → r ≡ r'
one_given name absent r r' h k = h ∙ sym k
one_given name (too_long size) r r' h k = h ∙ sym k
one_given name (whole bytes) r r' h k = one_text bytes r r' h k

not_both : (t : Tree) (plan : Plan) → HasNoPlan t → IsPlan t plan → ⊥
not_both t plan none one = none plan one

one_way : (given : Result Tree Ending) (input : Result _ Ending) (r r' : Result Job Ending) → TreeLeads given input r → TreeLeads given input r' → r ≡ r'
one_way (Err e) input r r' h k = h ∙ sym k
one_way (Ok t) input r r' (inl h) (inl k) = h.1 ∙ sym k.1
one_way (Ok t) input r r' (inl h) (inr k) = absurd (not_both t k.0.0 h.0 k.0.1)
one_way (Ok t) input r r' (inr h) (inl k) = absurd (not_both t h.0.0 k.0 h.0.1)
one_way (Ok t) input r r' (inr h) (inr k) = h.1 ∙ sym k.1

pub leads_to_one : (files : Giving) (c : Command) (r r' : Result Job Ending) → Leads files c r → Leads files c r' → r ≡ r'
leads_to_one files (eval t o) r r' (given, h, k) (given', h', k') =
    let same = one_given t (files tree_limit t) given' given h' h in
    one_way given (mesh_given o (files input_limit o)) r r' k (subst (λ g. TreeLeads g (mesh_given o (files input_limit o)) r') same k')
leads_to_one files (check t) r r' (given, h, k) (given', h', k') =
    k ∙ ap checked (one_given t (files tree_limit t) given given' h h') ∙ sym k'
leads_to_one files help r r' h k = h ∙ sym k
leads_to_one files version r r' h k = h ∙ sym k

-- ---- what the tree decides

unneeded : (given : Result Tree Ending) (input : Result _ Ending) (work : Job) → NeedsNoInput given → TreeLeads given input (Ok work) → ⊥
unneeded (Err e) input work none h = let bad : Ok work ≡ Err e = h in cc
unneeded (Ok t) input work none (inl h) = let bad : Ok work ≡ Err not_built = h.1 in cc
unneeded (Ok t) input work none (inr h) = not_both t h.0.0 none h.0.1

-- where the tree decides, there is no job
pub no_job : (files : Giving) (c : Command) (work : Job) → Leads files c (Ok work) → TreeDecides files c → ⊥
no_job files (eval t o) work (given, h, leads) (given', h', none) =
    let same = one_given t (files tree_limit t) given given' h h' in
    unneeded given' (mesh_given o (files input_limit o)) work none (subst (λ g. TreeLeads g (mesh_given o (files input_limit o)) (Ok work)) same leads)
no_job files (check t) work h none = absurd none
no_job files help work h none = absurd none
no_job files version work h none = absurd none

-- a tree that has a plan doesn't decide
pub not_decided : (files : Giving) (t o : Text) (bytes : List ℕ) (tree : Tree) (plan : Plan) → files tree_limit t ≡ whole bytes → IsTree bytes tree → IsPlan tree plan → TreeDecides files (eval t o) → ⊥
not_decided files t o bytes tree plan e is planned (given, h, none) =
    let same : given ≡ Ok tree = one_given t (whole bytes) given (Ok tree) (subst (λ x. TreeGiven t x given) e h) is in
    not_both tree plan (subst NeedsNoInput same none) planned
