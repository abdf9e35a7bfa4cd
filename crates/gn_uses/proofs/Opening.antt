-- A zone is opened.
use Rattle.std.proofs.Common.{◌≡◌, ◌≢◌, ◌⊎◌, inl, inr, ℕ, zero, suc, ◌+◌, ◌<◌, ◌≤◌, Bool, true, false, List, [], ◌∷◌, ◌++◌, length, get_or, set, Option, Some, None, IsTrue, refl, sym, ap, ◌∙◌, subst, arith, if◌then◌else◌}
use Rattle.std.proofs.lemmas.List.{get_or-set_same, get_or-set_other, get_or_past, length-set}
use Rattle.gn_node_set.specs.Meanings.{Has}
use Rattle.gn_uses.specs.declared.outputs.Out.{Out}
use Rattle.gn_uses.specs.Sets.{has_out, IsIn}
use Rattle.gn_uses.specs.Nodes.{Nodes, needs, is_full, result_at, results, Wanted, a_root, an_input, a_result, HasRoom, with_results}
use Rattle.gn_uses.specs.Marks.{Marks, with_input, with_results_of, AreRight, AreWhole}
use Rattle.gn_uses.specs.Progress.{GoesOn}
use Rattle.gn_uses.specs.Uses.{HasNoResults}
use Rattle.gn_uses.proofs.Lists.{true_or_false, same_number, is_out, out_is as is_there}
use Rattle.gn_uses.proofs.Reading.{has_index}
use Rattle.gn_uses.proofs.Flags.{below_or_past}
use Rattle.gn_uses.proofs.Marking.{same_goes_on, goes_further, stays_in, input_stays, input_in, input_from}
use Rattle.gn_uses.proofs.Changing.{Grows, still_wanted}

abbrev out_of : ℕ → ℕ → Out
out_of zone s = record { node = zone; output = s }

abbrev asked : Bool → Option Out → List Out → List Out
asked b result xs = if b then with_input xs result else xs

asked_stays : (b : Bool) (result : Option Out) (xs : List Out) → GoesOn xs (asked b result xs)
asked_stays true result xs = input_stays xs result
asked_stays false result xs = same_goes_on xs

pub results_stay : (zone s : ℕ) (rs : List (Option Out)) (xs : List Out) → GoesOn xs (with_results_of zone s rs xs)
results_stay zone s [] xs = same_goes_on xs
results_stay zone s (result ∷ rs) xs =
    let next = asked (has_out xs (out_of zone s)) result xs in
    goes_further xs next (with_results_of zone (s + 1) rs next) (asked_stays (has_out xs (out_of zone s)) result xs) (results_stay zone (s + 1) rs next)

asked_in : (b : Bool) (result : Option Out) (xs : List Out) (y : Out) → IsTrue b → result ≡ Some y → Has (asked b result xs) y
asked_in true result xs y h e = input_in xs result y e
asked_in false result xs y h e = absurd (cc)

pub results_in : (zone s : ℕ) (rs : List (Option Out)) (xs : List Out) (k : ℕ) (y : Out) → Has xs (out_of zone (s + k)) → get_or rs k None ≡ Some y → Has (with_results_of zone s rs xs) y
results_in zone s [] xs k y h e = absurd (cc)
results_in zone s (result ∷ rs) xs zero y h e =
    let next = asked (has_out xs (out_of zone s)) result xs in
    let here : s + 0 ≡ s = omega arith in
    stays_in next (with_results_of zone (s + 1) rs next) (results_stay zone (s + 1) rs next) y
    (asked_in (has_out xs (out_of zone s)) result xs y (is_out xs (out_of zone s) (subst (λ t. Has xs (out_of zone t)) here h)) e)
results_in zone s (result ∷ rs) xs (suc k) y h e =
    let next = asked (has_out xs (out_of zone s)) result xs in
    let further : s + suc k ≡ (s + 1) + k = omega arith in
    results_in zone (s + 1) rs next k y
    (stays_in xs next (asked_stays (has_out xs (out_of zone s)) result xs) (out_of zone ((s + 1) + k)) (subst (λ t. Has xs (out_of zone t)) further h)) e

module _ (P : Out → Type 0) where
  asked_from : (b : Bool) (result : Option Out) (xs : List Out) → ((y : Out) → Has xs y → P y) → ((y : Out) → IsTrue b → result ≡ Some y → P y) → (y : Out) → Has (asked b result xs) y → P y
  asked_from true result xs old new y h = elim (input_from xs result y h) [ inl a ↦ old y a | inr e ↦ new y refl e ]
  asked_from false result xs old new y h = old y h

  pub results_from : (zone s : ℕ) (rs : List (Option Out)) (xs : List Out) → ((y : Out) → Has xs y → P y) → ((k : ℕ) (y : Out) → P (out_of zone (s + k)) → get_or rs k None ≡ Some y → P y) → (y : Out) → Has (with_results_of zone s rs xs) y → P y
  results_from zone s [] xs old closed y h = old y h
  results_from zone s (result ∷ rs) xs old closed y h =
      let b = has_out xs (out_of zone s) in
      let here : s + 0 ≡ s = omega arith in
      results_from zone (s + 1) rs (asked b result xs)
      (asked_from b result xs old (λ z t e. closed 0 z (subst (λ n. P (out_of zone n)) (sym here) (old (out_of zone s) (is_there xs (out_of zone s) t))) e))
      (λ k z p e. let further : (s + 1) + k ≡ s + suc k = omega arith in closed (suc k) z (subst (λ n. P (out_of zone n)) further p) e)
      y h

module _ (g : Nodes) (zone : ℕ) (rs : List (Option Out)) (w : AreWhole g) (none : HasNoResults g zone) (room : HasRoom g.sizes rs) where
  abbrev opened : Nodes
  opened = with_results g zone rs

  pub results_here : results opened zone ≡ rs
  results_here = get_or-set_same g.results zone rs [] (omega (arith, w.results, none.there))

  results_elsewhere : (n : ℕ) → n ≢ zone → results opened n ≡ results g n
  results_elsewhere n d = get_or-set_other g.results zone n rs [] d

  no_result : (x : Out) → x.node ≡ zone → (y : Out) → result_at g x ≡ Some y → ⊥
  no_result x e y r =
      let empty : results g x.node ≡ [] = ap (λ n. results g n) e ∙ none.shut in
      let nothing : None ≡ Some y = sym (ap (λ os. get_or os x.output None) empty) ∙ r in
      cc

  result_grows : (x : Out) → (x.node ≡ zone) ⊎ (x.node ≢ zone) → (y : Out) → result_at g x ≡ Some y → result_at opened x ≡ Some y
  result_grows x (inl e) y r = absurd (no_result x e y r)
  result_grows x (inr d) y r = ap (λ os. get_or os x.output None) (results_elsewhere x.node d) ∙ r

  pub opened_grows : Grows g opened
  opened_grows = record {
    roots = λ x h. h;
    needs = λ x i y h. h;
    results = λ x i y r. result_grows x (same_number x.node zone) y r;
  }

  is_result : (os : List (Option Out)) (k : ℕ) (y : Out) → (k < length os) ⊎ (length os ≤ k) → get_or os k None ≡ Some y → Has os (Some y)
  is_result os k y (inl h) e = subst (Has os) e (has_index os k None h)
  is_result os k y (inr h) e = absurd (let past : None ≡ Some y = sym (get_or_past os k None h) ∙ e in cc)

  result_in : (x : Out) → (x.node ≡ zone) ⊎ (x.node ≢ zone) → (y : Out) → result_at opened x ≡ Some y → IsIn g.sizes y
  result_in x (inl e) y r =
      let there : get_or rs x.output None ≡ Some y = sym (ap (λ os. get_or os x.output None) (ap (λ n. results opened n) e ∙ results_here)) ∙ r in
      room y (is_result rs x.output y (below_or_past x.output (length rs)) there)
  result_in x (inr d) y r = w.results_in x y (sym (ap (λ os. get_or os x.output None) (results_elsewhere x.node d)) ∙ r)

  pub opened_whole : AreWhole opened
  opened_whole = record {
    roles = w.roles;
    inputs = w.inputs;
    choices = w.choices;
    results = length-set g.results zone rs ∙ w.results;
    filled = w.filled;
    answered = w.answered;
    inputs_in = w.inputs_in;
    results_in = λ x y r. result_in x (same_number x.node zone) y r;
    roots_in = w.roots_in;
  }

  module _ (m : Marks) (r : AreRight g m m.wanted) where
    abbrev more : List Out
    more = with_results_of zone 0 rs m.wanted

    abbrev IsRightOut : Out → Type 0
    IsRightOut y = Wanted opened y × IsIn g.sizes y

    right_out : (y : Out) → Has more y → IsRightOut y
    right_out = results_from IsRightOut zone 0 rs m.wanted
        (λ y h. (still_wanted g opened w opened_grows (r.sound y h), r.inside y h))
        (λ k y p e.
        let same : 0 + k ≡ k = omega arith in
        let x : Out = out_of zone k in
        let is : result_at opened x ≡ Some y = ap (λ os. get_or os k None) results_here ∙ e in
        (a_result x y (subst (λ n. Wanted opened (out_of zone n)) same p.0) is, opened_whole.results_in x y is))

    keeps : (y : Out) → Has m.wanted y → Has more y
    keeps y h = stays_in m.wanted more (results_stay zone 0 rs m.wanted) y h

    now_led : (x : Out) → (x.node ≡ zone) ⊎ (x.node ≢ zone) → Has m.wanted x → (y : Out) → result_at opened x ≡ Some y → Has more y
    now_led x (inl e) h y q =
        let there : get_or rs x.output None ≡ Some y = sym (ap (λ os. get_or os x.output None) (ap (λ n. results opened n) e ∙ results_here)) ∙ q in
        let same : x.output ≡ 0 + x.output = omega arith in
        let is : x ≡ out_of zone (0 + x.output) = λ i. record { node = e i; output = same i } in
        results_in zone 0 rs m.wanted x.output y (subst (Has m.wanted) is h) there
    now_led x (inr d) h y q = keeps y (r.led x h y (sym (ap (λ os. get_or os x.output None) (results_elsewhere x.node d)) ∙ q))

    pub opened_right : AreRight opened (record m { wanted = more }) m.wanted
    opened_right = record {
      sound = λ y h. (right_out y h).0;
      roots = λ y h. keeps y (r.roots y h);
      inside = λ y h. (right_out y h).1;
      used = λ n h. let u = r.used n h in (u.0, keeps (record { node = n; output = u.0 }) u.1);
      fed = λ n h y k. keeps y (r.fed n h y k);
      entered = r.entered;
      led = λ x h y q. now_led x (same_number x.node zone) h y q;
      in_line = r.in_line;
      all_in_line = r.all_in_line;
      used_differ = r.used_differ;
      line_differ = r.line_differ;
    }
