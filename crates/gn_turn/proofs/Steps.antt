-- Each step on a turn's table keeps the rule.
use Rattle.std.proofs.Common.{◌≡◌, ◌≢◌, ℕ, zero, suc, ◌+◌, ◌%◌, ◌^◌, ◌<◌, ◌≤◌, ◌==◌, Bool, true, false, List, [], ◌∷◌, ◌++◌, length, set, sum_by, slice_index, Option, Some, None, refl, sym, ap, subst, ◌∙◌, inl, inr, ⊎_elim, arith, length-append}
use Rattle.std.proofs.lemmas.List.Sums.{sum_by_push}
use mathlib.Core.List.{IsPrefix}
use mathlib.Core.Option as maybe
use mathlib.Core.Option.{none, some, some-injective, some-ne-none}
use lib.ListN.{get_elem?}
use prog.Atomic.{either}
use Rattle.atomic_table.specs.Table.{State, Act, Valid, carried_after, keeps, takes, gives, put_back, rest, stepped, Allows, Splits, Joins, opening}
use Rattle.atomic_table.proofs.Lists.{at_set, at_snoc, set_again, set_else}
use Rattle.gn_turn.specs.declared.view.View.{View}
use Rattle.gn_turn.specs.Views.{bit, view, opened, spent, gave_part, got_part, joined, parts_of, own_of, turn_of}
use Rattle.gn_turn.specs.Rule.{IsLive, Fits, SlotIs, Kept}
use Rattle.gn_turn.specs.Steps.{Seated, Gains, claimed, counted, added, released}
use Rattle.gn_turn.specs.Holds.{OneMore}
use Rattle.gn_turn.proofs.Totals.{total_set, part_of_total, two_of_total, sole}
use Rattle.gn_turn.proofs.Prefixes.{prefix_self, prefix_more, prefix_longer}

module _ {J E : Type 0} where
  live_of : (j : J) (log : List E) (v : View J E) → Fits j log v → 0 < v.parts → IsLive j log v
  live_of j log v fits lives = ⊎_elim (λ e. let none : v.parts ≡ 0 = ap parts_of e in absurd (omega arith)) (λ live. live) fits

  -- where one view changes, and the others fit the log after, all do
  each_set : (j : J) (log : List E) (l : List (View J E)) (id : ℕ) (w : View J E) → Fits j log w → ((k : ℕ) (u : View J E) → k ≢ id → get_elem? l k ≡ some u → Fits j log u)
      → (k : ℕ) (u : View J E) → get_elem? (set l id w) k ≡ some u → Fits j log u
  each_set j log l id w own others k u e = ⊎_elim (λ t. subst (Fits j log) t.1 own) (λ t. others k u t.0 t.1) (at_set l id k w u e)

  free_bit : (v : View J E) → v.holds ≡ false → turn_of v ≡ 0
  free_bit v free = ap bit free

  -- what the view v is after an event was counted, where it was w
  pub record Counts (v w : View J E) (now : List E) : Type 0 where
    pub parts : v.parts ≡ w.parts
    pub job : v.job ≡ w.job
    pub known : v.known ≡ now
    pub holds : v.holds ≡ true

  pub after_count : {X : Type 0} (v w : View J E) (m : View J E × X) (c : X) (known now : List E) (own : ℕ) → v ≡ view m.0.job known m.0.parts own true → m ≡ (w, c) → known ≡ now → Counts v w now
  after_count v w m c known now own seen put is = record { parts = ap parts_of seen ∙ ap (λ x. x.0.parts) put; job = ap (λ x. x.job) seen ∙ ap (λ x. x.0.job) put; known = ap (λ x. x.known) seen ∙ is; holds = ap (λ x. x.holds) seen }

  first_fits : (j : J) (k : ℕ) (u : View J E) → get_elem? (opened j ∷ []) k ≡ some u → Fits j [] u
  first_fits j zero u e = subst (Fits j []) (some-injective (opened j) u e) (inr (record { has_parts = omega arith; same_job = refl; begins = prefix_self []; holder_knows = λ _. refl }))
  first_fits j (suc k) u e = absurd (some-ne-none u (sym e))

-- a slot that stands alone is the front of the list that it is in
pub with_rest : {S : Type 0} (c : List (ℕ × S)) (k : ℕ) (x : S) → c ≡ (k, x) ∷ [] → c ≡ (k, x) ∷ rest c
with_rest c k x e = e ∙ ap (λ r. (k, x) ∷ r) (sym (ap rest e))

pub alone : {S X : Type 0} (m : X × List (ℕ × S)) (w : X) (d : List (ℕ × S)) (k : ℕ) (x y : S) → m ≡ (w, (k, x) ∷ rest d) → d ≡ (k, y) ∷ [] → m.1 ≡ (k, x) ∷ []
alone m w d k x y put e = ap (λ n. n.1) put ∙ ap (λ r. (k, x) ∷ r) (ap rest e)

module _ {S J E : Type 0} (job : S → J) (journal : S → List E) (good : S → Type 0) (j : J) where
  abbrev St : Type 0
  St = State (Option S) (View J E)

  abbrev Me : Type 0
  Me = Seated S J E

  abbrev Rule : St → Type 0
  Rule = Kept job journal good j

  -- a step that changes neither a word nor a view keeps the rule
  unmoved : (s : St) (words : List ℕ) (id : ℕ) (v : View J E) → Rule s → words ≡ s.words → get_elem? s.views id ≡ some v
      → Rule (record { words = words; homes = s.homes; views = set s.views id v })
  unmoved s words id v kept same at = subst Rule (λ i. record { words = sym same i; homes = s.homes; views = sym (set_again s.views id v at) i }) kept

  -- what a compare-exchange makes of the words
  abbrev tried : List ℕ → List ℕ
  tried w = set w 0 (either (slice_index w 0 == 0) 1 (slice_index w 0))

  wins : (s : St) (id : ℕ) (m : Me) (kept : Rule s) → kept.held ≡ false → get_elem? s.views id ≡ some m.0 → 0 < m.0.parts → m.0.holds ≡ false → m.1 ≡ [] → SlotIs job journal good j kept.log s.homes false
      → (x : S) × (get_elem? s.homes 0 ≡ some (some (Some x))) × Rule (record { words = tried s.words; homes = set s.homes 0 none; views = set s.views id (view m.0.job (journal x) m.0.parts m.0.own true) })
      × Gains job journal good m (view m.0.job (journal x) m.0.parts m.0.own true, (0, Some x) ∷ m.1)
  wins s id m kept free at lives out empty lies =
      let x : S = lies.0 in
      let is = lies.2 in
      let v : View J E = m.0 in
      let w : View J E = view v.job (journal x) v.parts v.own true in
      let live = live_of j kept.log v (kept.each id v at) lives in
      let words : s.words ≡ 0 ∷ length kept.log ∷ [] = kept.words ∙ ap (λ b. bit b ∷ length kept.log ∷ []) free in
      let none_held : sum_by turn_of s.views ≡ 0 = kept.one_turn ∙ ap bit free in
      let before : turn_of v ≡ 0 = ap bit out in
      let long : length (journal x) ≡ length kept.log = ap length is.journal_is in
      let begins : IsPrefix v.known (journal x) = subst (IsPrefix v.known) (sym is.journal_is) live.begins in (
        x,
        ap (λ (h : List (maybe.Option (Option S))). get_elem? h 0) lies.1,
        record {
          log = kept.log;
          held = true;
          words = ap tried words;
          slot = ap (λ (h : List (maybe.Option (Option S))). set h 0 none) lies.1;
          all_parts = let t = total_set parts_of s.views id v w at in omega (arith, t, kept.all_parts);
          all_own = let t = total_set own_of s.views id v w at in omega (arith, t, kept.all_own);
          one_turn = let t = total_set turn_of s.views id v w at in omega (arith, t, none_held, before);
          each = each_set j kept.log s.views id w (inr (record { has_parts = lives; same_job = live.same_job; begins = subst (λ l. IsPrefix l kept.log) (sym is.journal_is) (prefix_self kept.log); holder_knows = λ _. is.journal_is })) (λ k u _. kept.each k u);
          short = kept.short;
        },
        record {
          state = x;
          is_good = is.is_good;
          same_job = ap Some is.same_job ∙ sym live.same_job;
          begins = begins;
          view_is = refl;
          out = ap (λ c. (0, Some x) ∷ c) empty;
          whole = λ all. sym (sole j kept.log s.views id v kept.each at (kept.all_parts ∙ sym all)) ∙ (kept.all_own ∙ sym long);
          short = omega (arith, kept.short, long);
        },
      )

  claims_if : (b : Bool) (id : ℕ) (m : Me) → 0 < m.0.parts → m.0.holds ≡ false → m.1 ≡ [] → (s : St) (kept : Rule s) → kept.held ≡ b → get_elem? s.views id ≡ some m.0
      → (w : View J E) × (a : Act (Option S)) × Valid s.homes m.1 a × Rule (stepped s 0 (either (slice_index s.words 0 == 0) 1 (slice_index s.words 0)) id m.1 w a) × claimed job journal good m (slice_index s.words 0) (w, carried_after m.1 a)
  claims_if true id m lives out empty s kept is at =
      let words : s.words ≡ 1 ∷ length kept.log ∷ [] = kept.words ∙ ap (λ b. bit b ∷ length kept.log ∷ []) is in
      let one : slice_index s.words 0 ≡ 1 = ap (λ w. slice_index w 0) words in
      (m.0, keeps, tt, unmoved s (tried s.words) id m.0 kept (ap tried words ∙ sym words) at, (λ none. absurd (omega arith), λ _. refl))
  claims_if false id m lives out empty s kept is at =
      let words : s.words ≡ 0 ∷ length kept.log ∷ [] = kept.words ∙ ap (λ b. bit b ∷ length kept.log ∷ []) is in
      let zero_found : slice_index s.words 0 ≡ 0 = ap (λ w. slice_index w 0) words in
      let t = wins s id m kept is at lives out empty (subst (SlotIs job journal good j kept.log s.homes) is kept.slot) in
      (view m.0.job (journal t.0) m.0.parts m.0.own true, takes 0 (Some t.0), t.1, t.2, (λ _. t.3, λ some_found. absurd (some_found zero_found)))

  pub claims : (slots id : ℕ) (m : Me) → 0 < m.0.parts → m.0.holds ≡ false → m.1 ≡ [] → Allows Rule slots id m 0 (λ n. either (n == 0) 1 n) (claimed job journal good m)
  claims slots id m lives out empty s kept len at small = claims_if kept.held id m lives out empty s kept refl at

  -- the holder's view stands for the whole log, and the slot is empty
  bit_held : (b : Bool) → 1 ≤ bit b → b ≡ true
  bit_held true h = refl
  bit_held false h = absurd (omega arith)

  held_by : (s : St) (id : ℕ) (v : View J E) (kept : Rule s) → get_elem? s.views id ≡ some v → v.holds ≡ true → kept.held ≡ true
  held_by s id v kept at holds = let one : turn_of v ≡ 1 = ap bit holds in bit_held kept.held (omega (arith, part_of_total turn_of s.views id v at, kept.one_turn, one))

  -- no other pass holds the turn
  other_free : (s : St) (id k : ℕ) (v u : View J E) (kept : Rule s) → get_elem? s.views id ≡ some v → v.holds ≡ true → k ≢ id → get_elem? s.views k ≡ some u → u.holds ≡ true → ⊥
  other_free s id k v u kept at holds other at_k held =
      let one : turn_of v ≡ 1 = ap bit holds in
      let two : turn_of u ≡ 1 = ap bit held in
      let most : bit kept.held ≡ 1 = ap bit (held_by s id v kept at holds) in
      let both = two_of_total turn_of s.views k id u v other at_k at in omega (arith, both, kept.one_turn, one, two, most)

  holder : (s : St) (id : ℕ) (v : View J E) (kept : Rule s) → get_elem? s.views id ≡ some v → 0 < v.parts → v.holds ≡ true → (s.words ≡ 1 ∷ length kept.log ∷ []) × (v.known ≡ kept.log) × (s.homes ≡ none ∷ [])
  holder s id v kept at lives holds = let is = held_by s id v kept at holds in (
    kept.words ∙ ap (λ b. bit b ∷ length kept.log ∷ []) is,
    (live_of j kept.log v (kept.each id v at) lives).holder_knows holds,
    subst (SlotIs job journal good j kept.log s.homes) is kept.slot,
  )

  pub counts : (slots id : ℕ) (m : Me) → 0 < m.0.parts → m.0.holds ≡ true → Allows Rule slots id m 1 (λ n. n) (counted m)
  counts slots id m lives holds s kept len at small = let h = holder s id m.0 kept at lives holds in (
    m.0,
    keeps,
    tt,
    unmoved s (set s.words 1 (slice_index s.words 1)) id m.0 kept (ap (λ w. set w 1 (slice_index w 1)) h.0 ∙ sym h.0) at,
    (refl, ap (λ w. slice_index w 1) h.0 ∙ sym (ap length h.1)),
  )

  -- the state that is out with a pass
  abbrev front : List (ℕ × Option S) → Option S
  front [] = None
  front (x ∷ xs) = x.1

  same_out : (c : List (ℕ × Option S)) (x y : S) → c ≡ (0, Some x) ∷ [] → c ≡ (0, Some y) ∷ [] → x ≡ y
  same_out c x y e f = let same : Some x ≡ Some y = sym (ap front e) ∙ ap front f in cc

  pub adds : (slots id : ℕ) (m : Me) (x : S) (e : E) → 0 < m.0.parts → m.0.holds ≡ true → m.1 ≡ (0, Some x) ∷ [] → journal x ≡ m.0.known ++ e ∷ [] → length (journal x) < 2 ^ 62
      → Allows Rule slots id m 1 (λ n. (n + 1) % 2 ^ 64) (added journal m)
  adds slots id m x e lives holds out more short s kept len at small =
      let v : View J E = m.0 in
      let h = holder s id v kept at lives holds in
      let live = live_of j kept.log v (kept.each id v at) lives in
      let w : View J E = view v.job (journal x) v.parts (v.own + 1) v.holds in
      let now : journal x ≡ kept.log ++ e ∷ [] = more ∙ ap (λ l. l ++ e ∷ []) h.1 in
      let long : length (journal x) ≡ length kept.log + 1 = ap length now ∙ length-append kept.log (e ∷ []) in
      let next : (length kept.log + 1) % 2 ^ 64 ≡ length (journal x) = omega arith in
      let begins : (l : List E) → IsPrefix l kept.log → IsPrefix l (journal x) = λ l p. subst (IsPrefix l) (sym now) (prefix_more l kept.log e p) in (
        w,
        keeps,
        tt,
        record {
          log = journal x;
          held = true;
          words = ap (λ (l : List ℕ). set l 1 ((slice_index l 1 + 1) % 2 ^ 64)) h.0 ∙ ap (λ (n : ℕ). 1 ∷ n ∷ []) next;
          slot = h.2;
          all_parts = let t = total_set parts_of s.views id v w at in omega (arith, t, kept.all_parts);
          all_own = let t = total_set own_of s.views id v w at in omega (arith, t, kept.all_own, long);
          one_turn = let t = total_set turn_of s.views id v w at in let b : bit kept.held ≡ 1 = ap bit (held_by s id v kept at holds) in omega (arith, t, kept.one_turn, b);
          each = each_set j (journal x) s.views id w (inr (record { has_parts = lives; same_job = live.same_job; begins = prefix_self (journal x); holder_knows = λ _. refl }))
              (λ k u other at_k. ⊎_elim (λ e. inl e)
              (λ (l : IsLive j kept.log u). inr (record { has_parts = l.has_parts; same_job = l.same_job; begins = begins u.known l.begins; holder_knows = λ held. absurd (other_free s id k v u kept at holds other at_k held) }))
              (kept.each k u at_k));
          short = short;
        },
        λ y out_y. ap (λ (z : S). (view v.job (journal z) v.parts (v.own + 1) v.holds, m.1)) (same_out m.1 x y out out_y),
      )

  -- the same where the journals tell that there is an event more
  pub adds_if : (slots id : ℕ) (m : Me) (x : S) → 0 < m.0.parts → m.0.holds ≡ true → m.1 ≡ (0, Some x) ∷ [] → OneMore m.0.known (journal x) → length (journal x) ≢ length m.0.known → length (journal x) < 2 ^ 62
      → Allows Rule slots id m 1 (λ n. (n + 1) % 2 ^ 64) (added journal m)
  adds_if slots id m x lives holds out may differ short = ⊎_elim (λ same. absurd (differ (ap length same))) (λ (t : (e : E) × (journal x ≡ m.0.known ++ e ∷ [])). adds slots id m x t.0 lives holds out t.1 short) may

  pub releases : (slots id : ℕ) (m : Me) (x : S) → 0 < m.0.parts → m.0.holds ≡ true → m.1 ≡ (0, Some x) ∷ [] → good x → Some (job x) ≡ m.0.job → journal x ≡ m.0.known
      → Allows Rule slots id m 0 (λ _. 0) (released m)
  releases slots id m x lives holds out right same_job known s kept len at small =
      let v : View J E = m.0 in
      let h = holder s id v kept at lives holds in
      let live = live_of j kept.log v (kept.each id v at) lives in
      let w : View J E = view v.job v.known v.parts v.own false in
      let same : Some (job x) ≡ Some j = same_job ∙ live.same_job in
      let of_job : job x ≡ j = cc in (
        w,
        gives,
        tt,
        record {
          log = kept.log;
          held = false;
          words = ap (λ (l : List ℕ). set l 0 0) h.0;
          slot = (x, λ i. put_back (h.2 i) (out i), record { is_good = right; same_job = of_job; journal_is = known ∙ h.1 });
          all_parts = let t = total_set parts_of s.views id v w at in omega (arith, t, kept.all_parts);
          all_own = let t = total_set own_of s.views id v w at in omega (arith, t, kept.all_own);
          one_turn = let t = total_set turn_of s.views id v w at in let b : bit kept.held ≡ 1 = ap bit (held_by s id v kept at holds) in let one : turn_of v ≡ 1 = ap bit holds in omega (arith, t, kept.one_turn, b, one);
          each = each_set j kept.log s.views id w (inr (record { has_parts = lives; same_job = live.same_job; begins = live.begins; holder_knows = λ _. h.1 })) (λ k u _. kept.each k u);
          short = kept.short;
        },
        ap (λ c. (w, rest c)) out,
      )

  pub splits : (id : ℕ) (v : View J E) → 1 < v.parts → v.holds ≡ false → Splits Rule id v (gave_part v) (got_part v)
  splits id v two free s kept at =
      let live = live_of j kept.log v (kept.each id v at) (omega arith) in
      let l : View J E = gave_part v in
      let r : View J E = got_part v in
      let sums : (f : View J E → ℕ) → sum_by f (set s.views id l ++ r ∷ []) + f v ≡ sum_by f s.views + f l + f r = λ f. let t = total_set f s.views id v l at in let p = sum_by_push f (set s.views id l) r in omega arith in
      let fits_l : Fits j kept.log l = inr (record { has_parts = omega arith; same_job = live.same_job; begins = live.begins; holder_knows = live.holder_knows }) in
      let fits_r : Fits j kept.log r = inr (record { has_parts = omega arith; same_job = live.same_job; begins = live.begins; holder_knows = λ (e : false ≡ true). absurd cc }) in
      record {
        log = kept.log;
        held = kept.held;
        words = kept.words;
        slot = kept.slot;
        all_parts = let t = sums parts_of in omega (arith, t, kept.all_parts, two);
        all_own = let t = sums own_of in omega (arith, t, kept.all_own);
        one_turn = let t = sums turn_of in omega (arith, t, kept.one_turn);
        each = λ k u e. ⊎_elim (λ there. each_set j kept.log s.views id l fits_l (λ k u _. kept.each k u) k u there) (λ same. subst (Fits j kept.log) same fits_r) (at_snoc (set s.views id l) r u k e);
        short = kept.short;
      }

  pub joins : (id : ℕ) (v : View J E) (other : ℕ) (w : View J E) → 0 < v.parts → 0 < w.parts → v.holds ≡ false → w.holds ≡ false → Joins Rule id v other w (joined v w) spent
  joins id v other w lives lives_w free free_w s kept at apart at_w =
      let b : View J E = joined v w in
      let there : get_elem? s.views other ≡ some w = sym (set_else s.views id other b apart) ∙ at_w in
      let live = live_of j kept.log v (kept.each id v at) lives in
      let live_w = live_of j kept.log w (kept.each other w there) lives_w in
      let sums : (f : View J E → ℕ) → sum_by f (set (set s.views id b) other spent) + f w + f v ≡ sum_by f s.views + f b + f spent = λ f. let t = total_set f s.views id v b at in let u = total_set f (set s.views id b) other w spent at_w in omega arith in
      let fits_b : Fits j kept.log b = inr (record { has_parts = omega arith; same_job = live.same_job; begins = prefix_longer v.known w.known kept.log live.begins live_w.begins; holder_knows = λ held. absurd (let e : true ≡ false = sym held ∙ free in cc) }) in
      let after : (k : ℕ) (u : View J E) → get_elem? (set s.views id b) k ≡ some u → Fits j kept.log u = each_set j kept.log s.views id b fits_b (λ k u _. kept.each k u) in
      record {
        log = kept.log;
        held = kept.held;
        words = kept.words;
        slot = kept.slot;
        all_parts = let t = sums parts_of in omega (arith, t, kept.all_parts);
        all_own = let t = sums own_of in omega (arith, t, kept.all_own);
        one_turn = let t = sums turn_of in let f = free_bit w free_w in omega (arith, t, kept.one_turn, f);
        each = each_set j kept.log (set s.views id b) other spent (inl refl) (λ k u _. after k u);
        short = kept.short;
      }

  pub starts : (x : S) → good x → job x ≡ j → journal x ≡ [] → Rule (opening (0 ∷ 0 ∷ []) (Some x ∷ []) (opened j))
  starts x right of_job fresh =
      record {
        log = [];
        held = false;
        words = refl;
        slot = (x, refl, record { is_good = right; same_job = of_job; journal_is = fresh });
        all_parts = refl;
        all_own = refl;
        one_turn = refl;
        each = first_fits j;
        short = omega arith;
      }
