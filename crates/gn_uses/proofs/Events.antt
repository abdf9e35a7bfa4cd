-- What each change of the nodes does to the marks.
use Rattle.std.proofs.Common.{◌≡◌, ◌≢◌, ◌⊎◌, inl, inr, ℕ, zero, suc, ◌+◌, ◌<◌, ◌≤◌, Bool, true, false, ◌&&◌, List, [], ◌∷◌, ◌++◌, length, get_or, set, map, Option, Some, None, IsTrue, refl, sym, ap, ◌∙◌, subst, true≢false, arith, if◌then◌else◌}
use Rattle.std.specs.Prelude.{is_none, is_some}
use Rattle.std.proofs.lemmas.List.{get_or-set_same, get_or-set_other, get_or_append_left, get_or_past, get_or_push, length-set, length_push}
use Rattle.gn_node_set.specs.Meanings.{Has, AllDiffer, Role as MeantRole, Choice as MeantChoice, one_case, all_cases, no_case, selected, member, chosen, head_of}
use Rattle.gn_node_set.specs.Meanings as meant
use Rattle.gn_node_set.proofs.Lists.{has_first, has_second, some_same}
use Rattle.gn_uses.specs.declared.outputs.Out.{Out}
use Rattle.gn_uses.specs.declared.nodes.Role.{Role}
use Rattle.gn_uses.specs.declared.nodes.Role.TheVariants.{Plain, Switch, File, Zone}
use Rattle.gn_uses.specs.declared.nodes.Choice.{Choice}
use Rattle.gn_uses.specs.Sets.{has, with_number, with_out, IsIn}
use Rattle.gn_uses.specs.Nodes.{Nodes, needs, is_full, result_at, Wanted, a_root, an_input, a_result, HasRoom, with_node, with_root, with_choice, with_results, with_value, with_answer, all_set, role, choice, inputs, results, filled, answered, role_of, choice_of, is_set_up, IsUndecided}
use Rattle.gn_uses.specs.Marks.{Marks, with_input, with_inputs, lined, looked_at, fed, AreRight, AreWhole}
use Rattle.gn_uses.specs.Uses.{IsUnchosen, HasNoResults, HasInput}
use Rattle.gn_uses.proofs.Lists.{true_or_false, member_is, is_member, same_number, and_left, and_right}
use Rattle.gn_uses.proofs.Flags.{below_or_past}
use Rattle.gn_uses.proofs.Reading.{is_input}
use Rattle.gn_uses.proofs.Marking.{same_goes_on, stays_in, out_stays, out_in, out_from, last_one, inputs_stay, inputs_in, inputs_from}
use Rattle.gn_uses.proofs.Following.{wanted_in, AreRightBut, lined_right}
use Rattle.gn_uses.proofs.Changing.{Grows, still_wanted, Same, same_right, SameBut, but_right, there, used_below}

-- ---- one node gets fuller, and needs no more

pub record Raised (g g' : Nodes) (n : ℕ) : Type 0 where
  pub grows : Grows g g'
  pub roots : (x : Out) → Has g'.roots x → Has g.roots x
  pub inside : (x : Out) → IsIn g.sizes x → IsIn g'.sizes x
  pub needs : (k : ℕ) → needs g' k ≡ needs g k
  pub led : (x : Out) → result_at g' x ≡ result_at g x
  pub full : (k : ℕ) → k ≢ n → is_full g' k ≡ is_full g k
  pub more : IsTrue (is_full g n) → IsTrue (is_full g' n)

not_member : (ns : List ℕ) (n k : ℕ) → has ns n ≡ false → Has ns k → k ≢ n
not_member ns n k e h s = true≢false (sym (is_member ns n (subst (Has ns) s h)) ∙ e)

pub looked_right : (g g' : Nodes) (n : ℕ) (m : Marks) (done : List Out) → AreWhole g → AreRight g m done → Raised g g' n → AreRight g' (looked_at g' m n) done
looked_right g g' n m done w r s = elim (true_or_false (has m.used n)) [
  | inl e ↦ subst (λ b. AreRight g' (if b then lined g' m n else m) done) (sym e) (but_right g g' n m m done w r (record {
    grows = s.grows;
    roots = s.roots;
    inside = s.inside;
    keeps = λ x h. h;
    brings = λ x h. inl h;
    used = refl;
    line = refl;
    here = member_is m.used n e;
    needs = λ k h y q. r.fed k h y (subst (λ xs. Has xs (Some y)) (s.needs k) q);
    led = λ x h y q. sym (s.led x) ∙ q;
    full = s.full;
    more = s.more;
  }))
  | inr e ↦ subst (λ b. AreRight g' (if b then lined g' m n else m) done) (sym e) (same_right g g' m done w r (record {
    grows = s.grows;
    roots = s.roots;
    inside = s.inside;
    needs = λ k h y q. subst (λ xs. Has xs (Some y)) (s.needs k) q;
    led = λ x h y q. sym (s.led x) ∙ q;
    full = λ k h. s.full k (not_member m.used n k e h);
  }))
]

-- ---- an input has its value

-- the lists are as long, and where the first has a flag, the second has it
abbrev Covers : List Bool → List Bool → Type 0
Covers [] [] = Unit {0}
Covers [] (y ∷ ys) = ⊥
Covers (x ∷ xs) [] = ⊥
Covers (x ∷ xs) (y ∷ ys) = (IsTrue x → IsTrue y) × Covers xs ys

covers_itself : (xs : List Bool) → Covers xs xs
covers_itself [] = tt
covers_itself (x ∷ xs) = (λ h. h, covers_itself xs)

covers_set : (xs : List Bool) (i : ℕ) → Covers xs (set xs i true)
covers_set [] i = tt
covers_set (x ∷ xs) zero = (λ h. refl, covers_itself xs)
covers_set (x ∷ xs) (suc i) = (λ h. h, covers_set xs i)

covers_member : (xs ys : List Bool) (n : ℕ) → Covers xs ys → Covers (member xs n) (member ys n)
covers_member [] [] n c = tt
covers_member [] (y ∷ ys) n c = absurd c
covers_member (x ∷ xs) [] n c = absurd c
covers_member (x ∷ xs) (y ∷ ys) zero c = (c.0, tt)
covers_member (x ∷ xs) (y ∷ ys) (suc n) c = covers_member xs ys n c.1

covers_chosen : (c : MeantChoice) (xs ys : List Bool) → Covers xs ys → Covers (chosen c xs) (chosen c ys)
covers_chosen (one_case n) xs ys h = covers_member xs ys n h
covers_chosen all_cases xs ys h = h
covers_chosen no_case xs ys h = tt

covers_head : (xs ys : List Bool) → Covers xs ys → Covers (head_of xs) (head_of ys)
covers_head [] [] c = tt
covers_head [] (y ∷ ys) c = absurd c
covers_head (x ∷ xs) [] c = absurd c
covers_head (x ∷ xs) (y ∷ ys) c = (c.0, tt)

covers_selected : (r : MeantRole) (c : MeantChoice) (xs ys : List Bool) → Covers xs ys → Covers (selected r c xs) (selected r c ys)
covers_selected meant.Plain c xs ys h = h
covers_selected meant.File c xs ys h = h
covers_selected meant.Zone c xs ys h = covers_head xs ys h
covers_selected meant.Switch c [] [] h = tt
covers_selected meant.Switch c [] (y ∷ ys) h = absurd h
covers_selected meant.Switch c (x ∷ xs) [] h = absurd h
covers_selected meant.Switch c (x ∷ xs) (y ∷ ys) h = (h.0, covers_chosen c xs ys h.1)

both : (a b : Bool) → IsTrue a → IsTrue b → IsTrue (a && b)
both true b h k = k
both false b h k = absurd (cc)

covers_all : (xs ys : List Bool) → Covers xs ys → IsTrue (all_set xs) → IsTrue (all_set ys)
covers_all [] [] c h = refl
covers_all [] (y ∷ ys) c h = absurd c
covers_all (x ∷ xs) [] c h = absurd c
covers_all (x ∷ xs) (y ∷ ys) c h = both y (all_set ys) (c.0 (and_left x (all_set xs) h)) (covers_all xs ys c.1 (and_right x (all_set xs) h))

same_grows : (g g' : Nodes) → ((x : Out) → Has g.roots x → Has g'.roots x) → ((k : ℕ) → needs g' k ≡ needs g k) → ((x : Out) → result_at g' x ≡ result_at g x) → Grows g g'
same_grows g g' roots needs results = record {
  roots = roots;
  needs = λ x i y h. subst (λ xs. Has xs (Some y)) (sym (needs x.node)) h;
  results = λ x i y e. results x ∙ e;
}

full_by : (r : Role) (c : Option Choice) (a : Bool) → List Bool → Bool
full_by r c a fs = all_set (selected (role_of r) (choice_of c) fs) && is_set_up r c a

module _ (g : Nodes) (n i : ℕ) (there : n < length g.filled) where
  abbrev valued : Nodes
  valued = with_value g n i

  value_elsewhere : (k : ℕ) → k ≢ n → is_full valued k ≡ is_full g k
  value_elsewhere k d = ap (λ fs. all_set (selected (role_of (role g k)) (choice_of (choice g k)) fs) && is_set_up (role g k) (choice g k) (answered g k)) (get_or-set_other g.filled n k (set (filled g n) i true) [] d)

  value_here : IsTrue (is_full g n) → IsTrue (is_full valued n)
  value_here h =
      let now : filled valued n ≡ set (filled g n) i true = get_or-set_same g.filled n (set (filled g n) i true) [] there in
      let r = role_of (role g n) in
      let c = choice_of (choice g n) in
      let rest = is_set_up (role g n) (choice g n) (answered g n) in
      let all = and_left (all_set (selected r c (filled g n))) rest h in
      let more = covers_all (selected r c (filled g n)) (selected r c (set (filled g n) i true)) (covers_selected r c (filled g n) (set (filled g n) i true) (covers_set (filled g n) i)) all in
      both (all_set (selected r c (filled valued n))) rest (subst (λ fs. IsTrue (all_set (selected r c fs))) (sym now) more) (and_right (all_set (selected r c (filled g n))) rest h)

  pub value_raises : Raised g valued n
  value_raises = record {
    grows = same_grows g valued (λ x h. h) (λ k. refl) (λ x. refl);
    roots = λ x h. h;
    inside = λ x h. h;
    needs = λ k. refl;
    led = λ x. refl;
    full = value_elsewhere;
    more = value_here;
  }

pub value_whole : (g : Nodes) (n i : ℕ) → AreWhole g → AreWhole (with_value g n i)
value_whole g n i w = record {
  roles = w.roles;
  inputs = w.inputs;
  choices = w.choices;
  results = w.results;
  filled = length-set g.filled n (set (filled g n) i true) ∙ w.filled;
  answered = w.answered;
  inputs_in = w.inputs_in;
  results_in = w.results_in;
  roots_in = w.roots_in;
}

-- ---- an import has its answer

set_up_told : (r : Role) (c : Option Choice) (a : Bool) → IsTrue (is_set_up r c a) → IsTrue (is_set_up r c true)
set_up_told Plain c a h = h
set_up_told Switch c a h = h
set_up_told File c a h = refl
set_up_told Zone c a h = h

module _ (g : Nodes) (n : ℕ) (there : n < length g.answered) where
  abbrev reported : Nodes
  reported = with_answer g n

  reported_elsewhere : (k : ℕ) → k ≢ n → is_full reported k ≡ is_full g k
  reported_elsewhere k d = ap (λ a. all_set (selected (role_of (role g k)) (choice_of (choice g k)) (filled g k)) && is_set_up (role g k) (choice g k) a) (get_or-set_other g.answered n k true false d)

  reported_here : IsTrue (is_full g n) → IsTrue (is_full reported n)
  reported_here h =
      let now : answered reported n ≡ true = get_or-set_same g.answered n true false there in
      let all = all_set (selected (role_of (role g n)) (choice_of (choice g n)) (filled g n)) in
      let rest = is_set_up (role g n) (choice g n) (answered g n) in
      both all (is_set_up (role g n) (choice g n) (answered reported n)) (and_left all rest h)
      (subst (λ a. IsTrue (is_set_up (role g n) (choice g n) a)) (sym now) (set_up_told (role g n) (choice g n) (answered g n) (and_right all rest h)))

  pub answer_raises : Raised g reported n
  answer_raises = record {
    grows = same_grows g reported (λ x h. h) (λ k. refl) (λ x. refl);
    roots = λ x h. h;
    inside = λ x h. h;
    needs = λ k. refl;
    led = λ x. refl;
    full = reported_elsewhere;
    more = reported_here;
  }

pub answer_whole : (g : Nodes) (n : ℕ) → AreWhole g → AreWhole (with_answer g n)
answer_whole g n w = record {
  roles = w.roles;
  inputs = w.inputs;
  choices = w.choices;
  results = w.results;
  filled = w.filled;
  answered = length-set g.answered n true ∙ w.answered;
  inputs_in = w.inputs_in;
  results_in = w.results_in;
  roots_in = w.roots_in;
}

-- ---- a switch has chosen

undecided : (r : Role) (c : Option Choice) → IsUndecided r c → (r ≡ Switch) × (c ≡ None)
undecided Switch None h = (refl, refl)
undecided Switch (Some c) h = absurd h
undecided Plain c h = absurd h
undecided File c h = absurd h
undecided Zone c h = absurd h

module _ (g : Nodes) (n : ℕ) (c : Choice) (w : AreWhole g) (is : IsUnchosen g n) where
  abbrev chose : Nodes
  chose = with_choice g n c

  in_choices : n < length g.choices
  in_choices = omega (arith, w.choices, is.there)

  is_switch : role g n ≡ Switch
  is_switch = (undecided (role g n) (choice g n) is.undecided).0

  has_none : choice g n ≡ None
  has_none = (undecided (role g n) (choice g n) is.undecided).1

  chose_elsewhere : (k : ℕ) → k ≢ n → choice chose k ≡ choice g k
  chose_elsewhere k d = get_or-set_other g.choices n k (Some c) None d

  needs_elsewhere : (k : ℕ) → k ≢ n → needs chose k ≡ needs g k
  needs_elsewhere k d = ap (λ o. selected (role_of (role g k)) (choice_of o) (inputs g k)) (chose_elsewhere k d)

  full_elsewhere : (k : ℕ) → k ≢ n → is_full chose k ≡ is_full g k
  full_elsewhere k d = ap (λ o. all_set (selected (role_of (role g k)) (choice_of o) (filled g k)) && is_set_up (role g k) o (answered g k)) (chose_elsewhere k d)

  not_full : IsTrue (is_full g n) → ⊥
  not_full h =
      let shut : is_set_up (role g n) (choice g n) (answered g n) ≡ false = λ i. is_set_up (is_switch i) (has_none i) (answered g n) in
      true≢false (sym (and_right (all_set (selected (role_of (role g n)) (choice_of (choice g n)) (filled g n))) (is_set_up (role g n) (choice g n) (answered g n)) h) ∙ shut)

  -- a switch needs its condition whatever it chooses
  first_needed : (xs : List (Option Out)) (d : MeantChoice) (y : Option Out) → Has (selected meant.Switch no_case xs) y → Has (selected meant.Switch d xs) y
  first_needed [] d y h = absurd h
  first_needed (x ∷ xs) d y (inl e) = inl e
  first_needed (x ∷ xs) d y (inr h) = absurd h

  needs_before : needs g n ≡ selected meant.Switch no_case (inputs g n)
  needs_before = λ i. selected (role_of (is_switch i)) (choice_of (has_none i)) (inputs g n)

  needs_after : needs chose n ≡ selected meant.Switch (choice_of (choice chose n)) (inputs g n)
  needs_after = λ i. selected (role_of (is_switch i)) (choice_of (choice chose n)) (inputs g n)

  needs_more : (k : ℕ) → (k ≡ n) ⊎ (k ≢ n) → (y : Out) → Has (needs g k) (Some y) → Has (needs chose k) (Some y)
  needs_more k (inl e) y h =
      subst (λ j. Has (needs chose j) (Some y)) (sym e)
      (subst (λ xs. Has xs (Some y)) (sym needs_after)
      (first_needed (inputs g n) (choice_of (choice chose n)) (Some y)
      (subst (λ xs. Has xs (Some y)) needs_before (subst (λ j. Has (needs g j) (Some y)) e h))))
  needs_more k (inr d) y h = subst (λ xs. Has xs (Some y)) (sym (needs_elsewhere k d)) h

  pub chose_grows : Grows g chose
  chose_grows = record {
    roots = λ x h. h;
    needs = λ x i y h. needs_more x.node (same_number x.node n) y h;
    results = λ x i y e. e;
  }

  pub chose_whole : AreWhole chose
  chose_whole = record {
    roles = w.roles;
    inputs = w.inputs;
    choices = length-set g.choices n (Some c) ∙ w.choices;
    results = w.results;
    filled = w.filled;
    answered = w.answered;
    inputs_in = w.inputs_in;
    results_in = w.results_in;
    roots_in = w.roots_in;
  }

  module _ (m : Marks) (done : List Out) (r : AreRight g m done) where
    needed_now : Has m.used n → (k : ℕ) → (k ≡ n) ⊎ (k ≢ n) → Has m.used k → (y : Out) → Has (needs chose k) (Some y) → Has (with_inputs m.wanted (needs chose n)) y
    needed_now u k (inl e) h y q = inputs_in (needs chose n) m.wanted y (subst (λ j. Has (needs chose j) (Some y)) e q)
    needed_now u k (inr d) h y q =
        stays_in m.wanted (with_inputs m.wanted (needs chose n)) (inputs_stay (needs chose n) m.wanted) y
        (r.fed k h y (subst (λ xs. Has xs (Some y)) (needs_elsewhere k d) q))

    brought : Has m.used n → (y : Out) → Has (needs chose n) (Some y) → Wanted chose y × IsIn g.sizes y
    brought u y q =
        let s = r.used n u in
        let x : Out = record { node = n; output = s.0 } in
        (an_input x y (still_wanted g chose w chose_grows (r.sound x s.1)) q, chose_whole.inputs_in n y (is_input chose n (Some y) q))

    pub chose_used : Has m.used n → AreRight chose (lined chose (fed chose m n) n) done
    chose_used u = but_right g chose n m (fed chose m n) done w r (record {
      grows = chose_grows;
      roots = λ x h. h;
      inside = λ x h. h;
      keeps = λ x h. stays_in m.wanted (with_inputs m.wanted (needs chose n)) (inputs_stay (needs chose n) m.wanted) x h;
      brings = λ x h. elim (inputs_from (needs chose n) m.wanted x h) [ inl a ↦ inl a | inr q ↦ inr (brought u x q) ];
      used = refl;
      line = refl;
      here = u;
      needs = λ k h y q. needed_now u k (same_number k n) h y q;
      led = λ x h y e. e;
      full = full_elsewhere;
      more = λ h. absurd (not_full h);
    })

    pub chose_unused : has m.used n ≡ false → AreRight chose m done
    chose_unused e = same_right g chose m done w r (record {
      grows = chose_grows;
      roots = λ x h. h;
      inside = λ x h. h;
      needs = λ k h y q. subst (λ xs. Has xs (Some y)) (needs_elsewhere k (not_member m.used n k e h)) q;
      led = λ x h y q. q;
      full = λ k h. full_elsewhere k (not_member m.used n k e h);
    })

-- ---- a root

pub root_whole : (g : Nodes) (x : Out) → AreWhole g → IsIn g.sizes x → AreWhole (with_root g x)
root_whole g x w h = record {
  roles = w.roles;
  inputs = w.inputs;
  choices = w.choices;
  results = w.results;
  filled = w.filled;
  answered = w.answered;
  inputs_in = w.inputs_in;
  results_in = w.results_in;
  roots_in = λ y k. elim (last_one g.roots x y k) [ inl a ↦ w.roots_in y a | inr e ↦ subst (IsIn g.sizes) (sym e) h ];
}

pub root_grows : (g : Nodes) (x : Out) → Grows g (with_root g x)
root_grows g x = record {
  roots = λ y h. has_first g.roots (x ∷ []) y h;
  needs = λ y i z h. h;
  results = λ y i z e. e;
}

pub root_right : (g : Nodes) (x : Out) (m : Marks) (done : List Out) → AreWhole g → IsIn g.sizes x → AreRight g m done → AreRight (with_root g x) (record m { wanted = with_out m.wanted x }) done
root_right g x m done w i r =
    let keeps = λ (y : Out) (h : Has m.wanted y). stays_in m.wanted (with_out m.wanted x) (out_stays m.wanted x) y h in
    record {
      sound = λ y h. elim (out_from m.wanted x y h) [
        | inl a ↦ still_wanted g (with_root g x) w (root_grows g x) (r.sound y a)
        | inr e ↦ subst (Wanted (with_root g x)) (sym e) (a_root x (has_second g.roots (x ∷ []) x (inl refl)))
      ];
      roots = λ y h. elim (last_one g.roots x y h) [ inl a ↦ keeps y (r.roots y a) | inr e ↦ subst (Has (with_out m.wanted x)) (sym e) (out_in m.wanted x) ];
      inside = λ y h. elim (out_from m.wanted x y h) [ inl a ↦ r.inside y a | inr e ↦ subst (IsIn g.sizes) (sym e) i ];
      used = λ n h. let u = r.used n h in (u.0, keeps (record { node = n; output = u.0 }) u.1);
      fed = λ n h y k. keeps y (r.fed n h y k);
      entered = r.entered;
      led = λ y h z e. keeps z (r.led y h z e);
      in_line = r.in_line;
      all_in_line = r.all_in_line;
      used_differ = r.used_differ;
      line_differ = r.line_differ;
    }
