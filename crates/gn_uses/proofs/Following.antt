-- Following a wanted output keeps the marks right.
use Rattle.std.proofs.Common.{◌≡◌, ◌⊎◌, inl, inr, ℕ, ◌+◌, ◌<◌, ◌≤◌, Bool, true, false, List, [], ◌∷◌, ◌++◌, length, Option, Some, None, IsTrue, refl, sym, ap, ◌∙◌, subst, true≢false, if◌then◌else◌}
use Rattle.gn_node_set.specs.Meanings.{Has, AllDiffer, selected}
use Rattle.gn_node_set.proofs.Lists.{has_first, has_second}
use Rattle.gn_uses.specs.declared.outputs.Out.{Out}
use Rattle.gn_uses.specs.Sets.{has, with_number, IsIn}
use Rattle.gn_uses.specs.Nodes.{Nodes, needs, is_full, result_at, Wanted, a_root, an_input, a_result}
use Rattle.gn_uses.specs.Nodes as nodes
use Rattle.gn_uses.specs.Marks.{Marks, with_input, with_inputs, lined, fed, entered, followed, AreRight, AreWhole}
use Rattle.gn_uses.specs.Progress.{GoesOn}
use Rattle.gn_uses.proofs.Lists.{true_or_false, member_is}
use Rattle.gn_uses.proofs.Reading.{is_input}
use Rattle.gn_uses.proofs.Marking.{same_goes_on, goes_further, stays_in, number_stays, number_in, number_from, last_one, pushed_differ, numbers_differ, input_stays, input_in, input_from, inputs_stay, inputs_in, inputs_from}

module _ (g : Nodes) where
  -- ---- what is wanted is there

  pub wanted_in : AreWhole g → {x : Out} → Wanted g x → IsIn g.sizes x
  wanted_in w (a_root x h) = w.roots_in x h
  wanted_in w (an_input x y q h) = w.inputs_in x.node y (is_input g x.node (Some y) h)
  wanted_in w (a_result x y q e) = w.results_in x y e

  -- ---- where all was followed, all that is wanted is marked

  pub complete : (m : Marks) → AreRight g m m.wanted → {x : Out} → Wanted g x → Has m.wanted x
  complete m r (a_root x h) = r.roots x h
  complete m r (an_input x y q h) = r.fed x.node (r.entered x (complete m r q)) y h
  complete m r (a_result x y q e) = r.led x (complete m r q) y e

  -- ---- the line

  lined_if : (m : Marks) (n : ℕ) (b : Bool) → Marks
  lined_if m n b = record m { line = if b then with_number m.line n else m.line }

  -- the marks are right, but that the node may not be in line yet
  pub record AreRightBut (n : ℕ) (m : Marks) (done : List Out) : Type 0 where
    pub sound : (x : Out) → Has m.wanted x → Wanted g x
    pub roots : (x : Out) → Has g.roots x → Has m.wanted x
    pub inside : (x : Out) → Has m.wanted x → IsIn g.sizes x
    pub used : (n : ℕ) → Has m.used n → (s : ℕ) × Has m.wanted (record { node = n; output = s })
    pub fed : (n : ℕ) → Has m.used n → (y : Out) → Has (needs g n) (Some y) → Has m.wanted y
    pub entered : (x : Out) → Has done x → Has m.used x.node
    pub led : (x : Out) → Has done x → (y : Out) → result_at g x ≡ Some y → Has m.wanted y
    pub in_line : (k : ℕ) → Has m.line k → Has m.used k × IsTrue (is_full g k)
    pub all_in_line : (k : ℕ) → Has m.used k → IsTrue (is_full g k) → Has m.line k ⊎ (k ≡ n)
    pub used_differ : AllDiffer m.used
    pub line_differ : AllDiffer m.line
    pub here : Has m.used n

  pub lined_right : (n : ℕ) (m : Marks) (done : List Out) → AreRightBut n m done → AreRight g (lined g m n) done
  lined_right n m done r = elim (true_or_false (is_full g n)) [
    | inl e ↦ subst (λ b. AreRight g (record m { line = if b then with_number m.line n else m.line }) done) (sym e) (record {
      sound = r.sound;
      roots = r.roots;
      inside = r.inside;
      used = r.used;
      fed = r.fed;
      entered = r.entered;
      led = r.led;
      in_line = λ k h. elim (number_from m.line n k h) [
        | inl a ↦ r.in_line k a
        | inr s ↦ (subst (Has m.used) (sym s) r.here, subst (λ j. IsTrue (is_full g j)) (sym s) e)
      ];
      all_in_line = λ k u f. elim (r.all_in_line k u f) [
        | inl a ↦ stays_in m.line (with_number m.line n) (number_stays m.line n) k a
        | inr s ↦ subst (Has (with_number m.line n)) (sym s) (number_in m.line n)
      ];
      used_differ = r.used_differ;
      line_differ = numbers_differ m.line n r.line_differ;
    })
    | inr e ↦ subst (λ b. AreRight g (record m { line = if b then with_number m.line n else m.line }) done) (sym e) (record {
      sound = r.sound;
      roots = r.roots;
      inside = r.inside;
      used = r.used;
      fed = r.fed;
      entered = r.entered;
      led = r.led;
      in_line = r.in_line;
      all_in_line = λ k u f. elim (r.all_in_line k u f) [
        | inl a ↦ a
        | inr s ↦ absurd (true≢false (sym (subst (λ j. IsTrue (is_full g j)) s f) ∙ e))
      ];
      used_differ = r.used_differ;
      line_differ = r.line_differ;
    })
  ]

  -- ---- a node becomes used

  module _ (whole : AreWhole g) (m : Marks) (done : List Out) (r : AreRight g m done) (x : Out) (x_in : Has m.wanted x) where
    abbrev inner : Marks
    inner = record { wanted = with_inputs m.wanted (needs g x.node); used = m.used ++ x.node ∷ []; line = m.line }

    keeps : (y : Out) → Has m.wanted y → Has inner.wanted y
    keeps y h = stays_in m.wanted inner.wanted (inputs_stay (needs g x.node) m.wanted) y h

    from_used : (n : ℕ) → Has m.used n ⊎ (n ≡ x.node) → (s : ℕ) × Has inner.wanted (record { node = n; output = s })
    from_used n (inl h) = let u = r.used n h in (u.0, keeps (record { node = n; output = u.0 }) u.1)
    from_used n (inr e) = (x.output, subst (λ k. Has inner.wanted (record { node = k; output = x.output })) (sym e) (keeps x x_in))

    now_fed : (n : ℕ) → Has m.used n ⊎ (n ≡ x.node) → (y : Out) → Has (needs g n) (Some y) → Has inner.wanted y
    now_fed n (inl h) y k = keeps y (r.fed n h y k)
    now_fed n (inr e) y k = inputs_in (needs g x.node) m.wanted y (subst (λ j. Has (needs g j) (Some y)) e k)

    in_line_or : (k : ℕ) → Has m.used k ⊎ (k ≡ x.node) → IsTrue (is_full g k) → Has m.line k ⊎ (k ≡ x.node)
    in_line_or k (inl h) f = inl (r.all_in_line k h f)
    in_line_or k (inr e) f = inr e

    entering : has m.used x.node ≡ false → AreRightBut x.node inner done
    entering e = record {
      sound = λ y h. elim (inputs_from (needs g x.node) m.wanted y h) [ inl a ↦ r.sound y a | inr b ↦ an_input x y (r.sound x x_in) b ];
      roots = λ y h. keeps y (r.roots y h);
      inside = λ y h. elim (inputs_from (needs g x.node) m.wanted y h) [ inl a ↦ r.inside y a | inr b ↦ whole.inputs_in x.node y (is_input g x.node (Some y) b) ];
      used = λ n h. from_used n (last_one m.used x.node n h);
      fed = λ n h y k. now_fed n (last_one m.used x.node n h) y k;
      entered = λ y h. has_first m.used (x.node ∷ []) y.node (r.entered y h);
      led = λ y h z s. keeps z (r.led y h z s);
      in_line = λ k h. let t = r.in_line k h in (has_first m.used (x.node ∷ []) k t.0, t.1);
      all_in_line = λ k h f. in_line_or k (last_one m.used x.node k h) f;
      used_differ = pushed_differ m.used x.node e r.used_differ;
      line_differ = r.line_differ;
      here = has_second m.used (x.node ∷ []) x.node (inl refl);
    }

    -- its node is used
    record HasEntered (e : Marks) : Type 0 where
      right : AreRight g e done
      wanted : GoesOn m.wanted e.wanted
      used : GoesOn m.used e.used
      line : GoesOn m.line e.line
      here : Has e.used x.node

    line_goes_on : (b : Bool) → GoesOn m.line (if b then with_number m.line x.node else m.line)
    line_goes_on true = number_stays m.line x.node
    line_goes_on false = same_goes_on m.line

    has_entered : HasEntered (entered g m x.node)
    has_entered = elim (true_or_false (has m.used x.node)) [
      | inl e ↦ subst (λ b. HasEntered (if b then m else lined g inner x.node)) (sym e)
          (record { right = r; wanted = same_goes_on m.wanted; used = same_goes_on m.used; line = same_goes_on m.line; here = member_is m.used x.node e })
      | inr e ↦ subst (λ b. HasEntered (if b then m else lined g inner x.node)) (sym e)
          (record {
            right = lined_right x.node inner done (entering e);
            wanted = inputs_stay (needs g x.node) m.wanted;
            used = (x.node ∷ [], refl);
            line = line_goes_on (is_full g x.node);
            here = has_second m.used (x.node ∷ []) x.node (inl refl);
          })
    ]

    -- ---- and where the output comes from is wanted

    module _ (e : Marks) (h : HasEntered e) where
      abbrev last : List Out
      last = with_input e.wanted (result_at g x)

      kept : (y : Out) → Has e.wanted y → Has last y
      kept y k = stays_in e.wanted last (input_stays e.wanted (result_at g x)) y k

      entered_or : (y : Out) → Has done y ⊎ (y ≡ x) → Has e.used y.node
      entered_or y (inl k) = h.right.entered y k
      entered_or y (inr s) = subst (λ z. Has e.used z.node) (sym s) h.here

      led_or : (y : Out) → Has done y ⊎ (y ≡ x) → (z : Out) → result_at g y ≡ Some z → Has last z
      led_or y (inl k) z q = kept z (h.right.led y k z q)
      led_or y (inr s) z q = input_in e.wanted (result_at g x) z (subst (λ u. result_at g u ≡ Some z) s q)

      follows : AreRight g (record e { wanted = last }) (done ++ x ∷ [])
      follows = record {
        sound = λ y k. elim (input_from e.wanted (result_at g x) y k) [ inl a ↦ h.right.sound y a | inr q ↦ a_result x y (r.sound x x_in) q ];
        roots = λ y k. kept y (h.right.roots y k);
        inside = λ y k. elim (input_from e.wanted (result_at g x) y k) [ inl a ↦ h.right.inside y a | inr q ↦ whole.results_in x y q ];
        used = λ n k. let u = h.right.used n k in (u.0, kept (record { node = n; output = u.0 }) u.1);
        fed = λ n k y j. kept y (h.right.fed n k y j);
        entered = λ y k. entered_or y (last_one done x y k);
        led = λ y k z q. led_or y (last_one done x y k) z q;
        in_line = h.right.in_line;
        all_in_line = h.right.all_in_line;
        used_differ = h.right.used_differ;
        line_differ = h.right.line_differ;
      }

    pub record HasFollowed (f : Marks) : Type 0 where
      pub right : AreRight g f (done ++ x ∷ [])
      pub wanted : GoesOn m.wanted f.wanted
      pub used : GoesOn m.used f.used
      pub line : GoesOn m.line f.line

    pub has_followed : HasFollowed (followed g m x)
    has_followed =
        let h = has_entered in
        record {
          right = follows (entered g m x.node) h;
          wanted = goes_further m.wanted (entered g m x.node).wanted (with_input (entered g m x.node).wanted (result_at g x)) h.wanted (input_stays (entered g m x.node).wanted (result_at g x));
          used = h.used;
          line = h.line;
        }
