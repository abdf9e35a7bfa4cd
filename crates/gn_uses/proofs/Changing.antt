-- Marks stay right where more is known of the nodes.
use Rattle.std.proofs.Common.{◌≡◌, ◌≢◌, ◌⊎◌, inl, inr, ℕ, ◌+◌, ◌<◌, ◌≤◌, Bool, true, false, List, [], ◌∷◌, ◌++◌, length, get_or, set, map, Option, Some, None, IsTrue, refl, sym, ap, ◌∙◌, subst, true≢false, arith, if◌then◌else◌}
use Rattle.std.specs.Prelude.{is_none}
use Rattle.std.proofs.lemmas.List.{get_or-set_same, get_or-set_other, get_or_append_left, get_or_past, get_or_push, length-set, length_push}
use Rattle.gn_node_set.specs.Meanings.{Has, AllDiffer, selected}
use Rattle.gn_node_set.proofs.Lists.{has_first, has_second, some_same}
use Rattle.gn_uses.specs.declared.outputs.Out.{Out}
use Rattle.gn_uses.specs.declared.nodes.Role.{Role}
use Rattle.gn_uses.specs.declared.nodes.Role.TheVariants.{Plain, Switch, File, Zone}
use Rattle.gn_uses.specs.declared.nodes.Choice.{Choice}
use Rattle.gn_uses.specs.Sets.{has, with_number, with_out, IsIn}
use Rattle.gn_uses.specs.Nodes.{Nodes, needs, is_full, result_at, Wanted, a_root, an_input, a_result, HasRoom, with_node, with_root, with_choice, with_results, with_value, with_answer, all_set, role, choice, inputs, results, filled, answered, role_of, choice_of, is_set_up}
use Rattle.gn_uses.specs.Marks.{Marks, with_input, with_inputs, lined, looked_at, fed, AreRight, AreWhole}
use Rattle.gn_uses.specs.Uses.{IsUnchosen, HasNoResults, HasInput}
use Rattle.gn_uses.proofs.Lists.{true_or_false, member_is, is_member, same_number, and_left, and_right}
use Rattle.gn_uses.proofs.Flags.{below_or_past}
use Rattle.gn_uses.proofs.Marking.{same_goes_on, stays_in, out_stays, out_in, out_from, last_one, inputs_stay, inputs_in, inputs_from}
use Rattle.gn_uses.proofs.Following.{wanted_in, AreRightBut, lined_right}

-- what is wanted by the first is wanted by the second
pub record Grows (g g' : Nodes) : Type 0 where
  pub roots : (x : Out) → Has g.roots x → Has g'.roots x
  pub needs : (x : Out) → IsIn g.sizes x → (y : Out) → Has (needs g x.node) (Some y) → Has (needs g' x.node) (Some y)
  pub results : (x : Out) → IsIn g.sizes x → (y : Out) → result_at g x ≡ Some y → result_at g' x ≡ Some y

pub still_wanted : (g g' : Nodes) → AreWhole g → Grows g g' → {x : Out} → Wanted g x → Wanted g' x
still_wanted g g' w h (a_root x r) = a_root x (h.roots x r)
still_wanted g g' w h (an_input x y q n) = an_input x y (still_wanted g g' w h q) (h.needs x (wanted_in g w q) y n)
still_wanted g g' w h (a_result x y q e) = a_result x y (still_wanted g g' w h q) (h.results x (wanted_in g w q) y e)

-- where the used nodes need no more and are as full, and the followed outputs lead nowhere else
pub record Same (g g' : Nodes) (m : Marks) (done : List Out) : Type 0 where
  pub grows : Grows g g'
  pub roots : (x : Out) → Has g'.roots x → Has g.roots x
  pub inside : (x : Out) → IsIn g.sizes x → IsIn g'.sizes x
  pub needs : (n : ℕ) → Has m.used n → (y : Out) → Has (needs g' n) (Some y) → Has (needs g n) (Some y)
  pub led : (x : Out) → Has done x → (y : Out) → result_at g' x ≡ Some y → result_at g x ≡ Some y
  pub full : (n : ℕ) → Has m.used n → is_full g' n ≡ is_full g n

pub same_right : (g g' : Nodes) (m : Marks) (done : List Out) → AreWhole g → AreRight g m done → Same g g' m done → AreRight g' m done
same_right g g' m done w r s = record {
  sound = λ x h. still_wanted g g' w s.grows (r.sound x h);
  roots = λ x h. r.roots x (s.roots x h);
  inside = λ x h. s.inside x (r.inside x h);
  used = r.used;
  fed = λ n h y k. r.fed n h y (s.needs n h y k);
  entered = r.entered;
  led = λ x h y e. r.led x h y (s.led x h y e);
  in_line = λ n h. let t = r.in_line n h in (t.0, s.full n t.0 ∙ t.1);
  all_in_line = λ n h f. r.all_in_line n h (sym (s.full n h) ∙ f);
  used_differ = r.used_differ;
  line_differ = r.line_differ;
}

-- the same where one used node has changed, for which the marks grow
pub record SameBut (g g' : Nodes) (n : ℕ) (m m' : Marks) (done : List Out) : Type 0 where
  pub grows : Grows g g'
  pub roots : (x : Out) → Has g'.roots x → Has g.roots x
  pub inside : (x : Out) → IsIn g.sizes x → IsIn g'.sizes x
  pub keeps : (x : Out) → Has m.wanted x → Has m'.wanted x
  pub brings : (x : Out) → Has m'.wanted x → Has m.wanted x ⊎ (Wanted g' x × IsIn g'.sizes x)
  pub used : m'.used ≡ m.used
  pub line : m'.line ≡ m.line
  pub here : Has m.used n
  pub needs : (k : ℕ) → Has m.used k → (y : Out) → Has (needs g' k) (Some y) → Has m'.wanted y
  pub led : (x : Out) → Has done x → (y : Out) → result_at g' x ≡ Some y → result_at g x ≡ Some y
  pub full : (k : ℕ) → k ≢ n → is_full g' k ≡ is_full g k
  pub more : IsTrue (is_full g n) → IsTrue (is_full g' n)

still_full : (g g' : Nodes) (n : ℕ) → ((k : ℕ) → k ≢ n → is_full g' k ≡ is_full g k) → (IsTrue (is_full g n) → IsTrue (is_full g' n)) → (k : ℕ) → (k ≡ n) ⊎ (k ≢ n) → IsTrue (is_full g k) → IsTrue (is_full g' k)
still_full g g' n f more k (inl e) h = subst (λ j. IsTrue (is_full g' j)) (sym e) (more (subst (λ j. IsTrue (is_full g j)) e h))
still_full g g' n f more k (inr d) h = f k d ∙ h

same_but : (g g' : Nodes) (n : ℕ) (m m' : Marks) (done : List Out) → AreWhole g → AreRight g m done → SameBut g g' n m m' done → AreRightBut g' n (record m { wanted = m'.wanted }) done
same_but g g' n m m' done w r s = record {
  sound = λ x h. elim (s.brings x h) [ inl a ↦ still_wanted g g' w s.grows (r.sound x a) | inr b ↦ b.0 ];
  roots = λ x h. s.keeps x (r.roots x (s.roots x h));
  inside = λ x h. elim (s.brings x h) [ inl a ↦ s.inside x (r.inside x a) | inr b ↦ b.1 ];
  used = λ k h. let u = r.used k h in (u.0, s.keeps (record { node = k; output = u.0 }) u.1);
  fed = s.needs;
  entered = r.entered;
  led = λ x h y e. s.keeps y (r.led x h y (s.led x h y e));
  in_line = λ k h. let t = r.in_line k h in (t.0, still_full g g' n s.full s.more k (same_number k n) t.1);
  all_in_line = λ k h f. elim (same_number k n) [ inl e ↦ inr e | inr d ↦ inl (r.all_in_line k h (sym (s.full k d) ∙ f)) ];
  used_differ = r.used_differ;
  line_differ = r.line_differ;
  here = s.here;
}

pub but_right : (g g' : Nodes) (n : ℕ) (m m' : Marks) (done : List Out) → AreWhole g → AreRight g m done → SameBut g g' n m m' done → AreRight g' (lined g' (record m { wanted = m'.wanted }) n) done
but_right g g' n m m' done w r s = lined_right g' n (record m { wanted = m'.wanted }) done (same_but g g' n m m' done w r s)

-- ---- a used node isn't past the end

there_at : (sizes : List ℕ) (n s : ℕ) → (n < length sizes) ⊎ (length sizes ≤ n) → s < get_or sizes n 0 → n < length sizes
there_at sizes n s (inl h) l = h
there_at sizes n s (inr h) l = absurd (let e : get_or sizes n 0 ≡ 0 = get_or_past sizes n 0 h in omega (arith, e, l))

pub there : (sizes : List ℕ) (n s : ℕ) → s < get_or sizes n 0 → n < length sizes
there sizes n s l = there_at sizes n s (below_or_past n (length sizes)) l

pub used_below : (g : Nodes) (m : Marks) (done : List Out) → AreRight g m done → (n : ℕ) → Has m.used n → n < length g.sizes
used_below g m done r n h =
    let u = r.used n h in
    there g.sizes n u.0 (r.inside (record { node = n; output = u.0 }) u.1)
