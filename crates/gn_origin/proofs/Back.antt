-- Going back from what is read to where its value comes from.
use Rattle.std.proofs.Common.{◌≡◌, ◌≤◌, ◌<◌, ◌+◌, ◌++◌, ℕ, zero, suc, List, Option, Some, None, refl, sym, ◌∙◌, ap, subst, append_assoc, arith}
use Rattle.std.specs.Prelude.{option_map, is_some, Bool, true, false, if◌then◌else◌}
use Rattle.gn_tree.specs.Trees.{Tree}
use Rattle.gn_meaning.specs.Sites.{Site, Read}
use Rattle.gn_meaning.specs.Origins.{read_origin, origin_within, IsReadFrom}
use Rattle.gn_origin.specs.Walking.{Leads, IsOrigin, AreSame}
use Rattle.gn_origin.specs.Reading.{IsElsewhere}

-- with further conversions behind
abbrev after : List ℕ → Read → Read
after kinds o = record { from = o.from; through = o.through ++ kinds }

after_both : (o : Option Read) (xs ys : List ℕ) → option_map (after ys) (option_map (after xs) o) ≡ option_map (after (xs ++ ys)) o
after_both None xs ys = refl
after_both (Some o) xs ys = ap (λ kinds. Some (record { from = o.from; through = kinds })) (append_assoc o.through xs ys)

module _ (t : Tree) where
  leads_at : (r q : Read) → Leads t r q → (k : ℕ) → read_origin t (origin_within t (suc k)) r ≡ read_origin t (origin_within t k) q
  leads_at r q (x, e, same) k = ap (option_map (after r.through)) (e (origin_within t k)) ∙ (after_both (origin_within t k x.from) x.through r.through ∙ ap (read_origin t (origin_within t k)) (sym same))

  pub leads_same : (r q : Read) → Leads t r q → AreSame t r q
  leads_same r q leads o = ((λ found. there found.0 found.1), (λ found. (suc found.0, leads_at r q leads found.0 ∙ found.1)))
    where
      there : (k : ℕ) → read_origin t (origin_within t k) r ≡ Some o → IsReadFrom t q o
      there zero e = cc
      there (suc k) e = (k, sym (leads_at r q leads k) ∙ e)

  pub same_then : (r q p : Read) → AreSame t r q → AreSame t q p → AreSame t r p
  same_then r q p e f o = ((λ h. (f o).0 ((e o).0 h)), (λ h. (e o).1 ((f o).1 h)))

  pub elsewhere_too : (r q : Read) → AreSame t r q → IsElsewhere t q → IsElsewhere t r
  elsewhere_too r q e h o from = h o ((e o).0 from)

  -- an origin is read from itself, and from nothing else
  at_origin : (r : Read) → IsOrigin t r.from → (k : ℕ) → read_origin t (origin_within t (suc k)) r ≡ Some r
  at_origin r e k = ap (option_map (after r.through)) (e (origin_within t k))

  pub from_itself : (r : Read) → IsOrigin t r.from → IsReadFrom t r r
  from_itself r e = (1, at_origin r e 0)

  pub only_itself : (r o : Read) → IsOrigin t r.from → IsReadFrom t r o → o ≡ r
  only_itself r o e (k, h) = at k h
    where
      at : (k : ℕ) → read_origin t (origin_within t k) r ≡ Some o → o ≡ r
      at zero f = cc
      at (suc k) f = let both : Some r ≡ Some o = sym (at_origin r e k) ∙ f in cc

  -- ---- how many steps are left

  -- an origin is found within some steps
  abbrev pub IsFoundIn : ℕ → Site → Type 0
  IsFoundIn k site = is_some (origin_within t k site) ≡ true

  -- how many more steps than k it takes, counted up to some number
  abbrev pub left_from : ℕ → ℕ → Site → ℕ
  left_from zero k site = 0
  left_from (suc n) k site = if is_some (origin_within t k site) then 0 else suc (left_from n (suc k) site)

  abbrev pub steps_left : ℕ → Site → ℕ
  steps_left n site = left_from n 0 site

  settled : (n k d : ℕ) (site : Site) → d ≤ n → IsFoundIn (k + d) site → left_from (suc n) k site ≡ left_from n k site
  settled zero k d site h e =
      let here : IsFoundIn k site = subst (λ i. IsFoundIn i site) (let same : k + d ≡ k = omega arith in same) e in
      ap (λ b. if b then 0 else suc (left_from 0 (suc k) site)) here
  settled (suc n) k d site h e = by_test (is_some (origin_within t k site)) refl d h e (λ f less there. settled n (suc k) f site less there)
    where
      by_test : (b : Bool) → is_some (origin_within t k site) ≡ b → (d : ℕ) → d ≤ suc n → IsFoundIn (k + d) site
          → ((f : ℕ) → f ≤ n → IsFoundIn (suc k + f) site → left_from (suc n) (suc k) site ≡ left_from n (suc k) site)
          → (if b then 0 else suc (left_from (suc n) (suc k) site)) ≡ (if b then 0 else suc (left_from n (suc k) site))
      by_test true f d h e rest = refl
      by_test false f zero h e rest = let here : IsFoundIn k site = subst (λ i. IsFoundIn i site) (let same : k + 0 ≡ k = omega arith in same) e in cc
      by_test false f (suc d) h e rest = ap suc (rest d (omega arith) (subst (λ i. IsFoundIn i site) (let same : k + suc d ≡ suc k + d = omega arith in same) e))

  module _ (r q : Read) (leads : Leads t r q) where
    found_next : (k : ℕ) → is_some (origin_within t (suc k) r.from) ≡ is_some (origin_within t k q.from)
    found_next k = by_leads leads
      where
        kept : (kinds : List ℕ) (o : Option Read) → is_some (option_map (after kinds) o) ≡ is_some o
        kept kinds None = refl
        kept kinds (Some o) = refl

        by_leads : Leads t r q → is_some (origin_within t (suc k) r.from) ≡ is_some (origin_within t k q.from)
        by_leads (x, e, same) = ap is_some (e (origin_within t k)) ∙ (kept x.through (origin_within t k x.from) ∙ ap (λ p. is_some (origin_within t k p.from)) (sym same))

    shifted : (n k : ℕ) → left_from n (suc k) r.from ≡ left_from n k q.from
    shifted zero k = refl
    shifted (suc n) k = ap (λ b. if b then 0 else suc (left_from n (suc (suc k)) r.from)) (found_next k) ∙ ap (λ m. if is_some (origin_within t k q.from) then 0 else suc m) (shifted n (suc k))

    pub found_sooner : (k : ℕ) → IsFoundIn k r.from → (j : ℕ) × (k ≡ suc j) × IsFoundIn j q.from
    found_sooner zero h = cc
    found_sooner (suc j) h = (j, refl, sym (found_next j) ∙ h)

    pub fewer_left : (n k : ℕ) → k ≤ n → IsFoundIn k r.from → steps_left n q.from < steps_left n r.from
    fewer_left zero zero h e = cc
    fewer_left zero (suc k) h e = absurd (omega arith)
    fewer_left (suc n) zero h e = cc
    fewer_left (suc n) (suc k) h e =
        let one_less : left_from (suc n) 0 q.from ≡ left_from n 0 q.from = settled n 0 k q.from (omega arith) (subst (λ i. IsFoundIn i q.from) (let same : k ≡ 0 + k = omega arith in same) (sym (found_next k) ∙ e)) in
        let one_more : left_from (suc n) 0 r.from ≡ suc (left_from n 0 q.from) = ap suc (shifted n 0) in
        omega arith
