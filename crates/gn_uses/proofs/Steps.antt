-- The marks that come next in each event.
use Rattle.std.proofs.Common.{◌≡◌, ◌≢◌, ◌⊎◌, inl, inr, ℕ, zero, suc, ◌<◌, ◌≤◌, Bool, true, false, List, [], ◌∷◌, ◌++◌, length, get_or, set, take, Option, Some, None, IsTrue, refl, sym, ap, ◌∙◌, subst, arith, if◌then◌else◌}
use Rattle.std.proofs.lemmas.List.{get_or-set_same, get_or-set_other}
use Rattle.gn_node_set.specs.Meanings.{Has}
use Rattle.gn_uses.specs.declared.outputs.Out.{Out}
use Rattle.gn_uses.specs.declared.nodes.Role.{Role}
use Rattle.gn_uses.specs.declared.nodes.Choice.{Choice}
use Rattle.gn_uses.specs.Sets.{has, with_number, IsIn}
use Rattle.gn_uses.specs.Nodes.{Nodes, needs, is_full, results, filled, all_set, HasRoom, with_root, with_choice, with_results, with_value, with_answer}
use Rattle.gn_uses.specs.Parts.{ArePassed}
use Rattle.gn_uses.specs.Marks.{Marks, with_inputs, with_results_of, lined, looked_at, fed, fed_again, rooted, opened, AreRight, AreWhole}
use Rattle.gn_uses.specs.Progress.{GoesOn}
use Rattle.gn_uses.specs.Uses.{IsUnchosen, HasNoResults}
use Rattle.gn_uses.proofs.Lists.{true_or_false, same_number, member_is, and_left, and_right}
use Rattle.gn_uses.proofs.Flags.{below_or_past}
use Rattle.gn_uses.proofs.Marking.{same_goes_on, number_stays, out_stays, inputs_stay}
use Rattle.gn_uses.proofs.Events.{Raised, looked_right, root_right, chose_used, chose_unused}
use Rattle.gn_uses.proofs.Opening.{results_stay, results_here, opened_right}
use Rattle.gn_uses.proofs.Keeping.{Next}

pub root_next : (g : Nodes) (x : Out) (m : Marks) → AreWhole g → IsIn g.sizes x → AreRight g m m.wanted → Next (with_root g x) m (rooted m x)
root_next g x m w i r = record {
  right = root_right g x m m.wanted w i r;
  wanted = out_stays m.wanted x;
  used = same_goes_on m.used;
  line = same_goes_on m.line;
}

-- ---- looking at a node

line_stays : (line : List ℕ) (n : ℕ) (b : Bool) → GoesOn line (if b then with_number line n else line)
line_stays line n true = number_stays line n
line_stays line n false = same_goes_on line

record Looked (m m' : Marks) : Type 0 where
  wanted : m'.wanted ≡ m.wanted
  used : m'.used ≡ m.used
  line : GoesOn m.line m'.line

looked : (g : Nodes) (m : Marks) (n : ℕ) (b : Bool) → Looked m (if b then lined g m n else m)
looked g m n true = record { wanted = refl; used = refl; line = line_stays m.line n (is_full g n) }
looked g m n false = record { wanted = refl; used = refl; line = same_goes_on m.line }

pub looked_wanted : (g : Nodes) (m : Marks) (n : ℕ) → (looked_at g m n).wanted ≡ m.wanted
looked_wanted g m n = (looked g m n (has m.used n)).wanted

goes_on_to : (xs ys : List ℕ) → ys ≡ xs → GoesOn xs ys
goes_on_to xs ys e = subst (GoesOn xs) (sym e) (same_goes_on xs)

wants_on_to : (xs ys : List Out) → ys ≡ xs → GoesOn xs ys
wants_on_to xs ys e = subst (GoesOn xs) (sym e) (same_goes_on xs)

pub looked_next : (g g' : Nodes) (n : ℕ) (m : Marks) → AreWhole g → AreRight g m m.wanted → Raised g g' n → Next g' m (looked_at g' m n)
looked_next g g' n m w r s =
    let l = looked g' m n (has m.used n) in
    record {
      right = looked_right g g' n m m.wanted w r s;
      wanted = wants_on_to m.wanted (looked_at g' m n).wanted l.wanted;
      used = goes_on_to m.used (looked_at g' m n).used l.used;
      line = l.line;
    }

-- ---- a choice

fed_next : (g : Nodes) (m : Marks) (n : ℕ) (b : Bool) → AreRight g (if b then lined g (fed g m n) n else m) m.wanted → Next g m (if b then lined g (fed g m n) n else m)
fed_next g m n true r = record { right = r; wanted = inputs_stay (needs g n) m.wanted; used = same_goes_on m.used; line = line_stays m.line n (is_full g n) }
fed_next g m n false r = record { right = r; wanted = same_goes_on m.wanted; used = same_goes_on m.used; line = same_goes_on m.line }

pub chose_next : (g : Nodes) (n : ℕ) (c : Choice) (m : Marks) → AreWhole g → IsUnchosen g n → AreRight g m m.wanted → Next (with_choice g n c) m (fed_again (with_choice g n c) m n)
chose_next g n c m w is r =
    let g' = with_choice g n c in
    let right : AreRight g' (fed_again g' m n) m.wanted = elim (true_or_false (has m.used n)) [
      | inl e ↦ subst (λ b. AreRight g' (if b then lined g' (fed g' m n) n else m) m.wanted) (sym e) (chose_used g n c w is m m.wanted r (member_is m.used n e))
      | inr e ↦ subst (λ b. AreRight g' (if b then lined g' (fed g' m n) n else m) m.wanted) (sym e) (chose_unused g n c w is m m.wanted r e)
    ] in
    fed_next g' m n (has m.used n) right

-- ---- results

pub opened_next : (g : Nodes) (zone : ℕ) (rs : List (Option Out)) (m : Marks) → AreWhole g → HasNoResults g zone → HasRoom g.sizes rs → AreRight g m m.wanted → Next (with_results g zone rs) m (opened (with_results g zone rs) m zone)
opened_next g zone rs m w none room r =
    subst (λ os. Next (with_results g zone rs) m (record m { wanted = with_results_of zone 0 os m.wanted })) (sym (results_here g zone rs w none room)) (record {
      right = opened_right g zone rs w none room m r;
      wanted = results_stay zone 0 rs m.wanted;
      used = same_goes_on m.used;
      line = same_goes_on m.line;
    })

-- ---- cursors

set_less : (xs : List Bool) (k i : ℕ) → IsTrue (all_set (take k xs)) → IsTrue (all_set (take k (set xs i true)))
set_less xs zero i h = h
set_less [] (suc k) i h = h
set_less (x ∷ xs) (suc k) zero h = and_right x (all_set (take k xs)) h
set_less (true ∷ xs) (suc k) (suc i) h = set_less xs k i h
set_less (false ∷ xs) (suc k) (suc i) h = absurd (cc)

passed_at : (g : Nodes) (n i : ℕ) (cursors : List ℕ) → n < length g.filled → ArePassed g cursors → (k : ℕ) → (k ≡ n) ⊎ (k ≢ n) → IsTrue (all_set (take (get_or cursors k 0) (filled (with_value g n i) k)))
passed_at g n i cursors h p k (inl e) =
    subst (λ j. IsTrue (all_set (take (get_or cursors j 0) (filled (with_value g n i) j)))) (sym e)
    (subst (λ fs. IsTrue (all_set (take (get_or cursors n 0) fs))) (sym (get_or-set_same g.filled n (set (filled g n) i true) [] h))
    (set_less (filled g n) (get_or cursors n 0) i (p n)))
passed_at g n i cursors h p k (inr d) =
    subst (λ fs. IsTrue (all_set (take (get_or cursors k 0) fs))) (sym (get_or-set_other g.filled n k (set (filled g n) i true) [] d)) (p k)

pub value_passed : (g : Nodes) (n i : ℕ) (cursors : List ℕ) → n < length g.filled → ArePassed g cursors → ArePassed (with_value g n i) cursors
value_passed g n i cursors h p k = passed_at g n i cursors h p k (same_number k n)

grown_at : (g g' : Nodes) (size : ℕ) (cursors cursors' : List ℕ) → ((k : ℕ) → k < size → get_or cursors' k 0 ≡ get_or cursors k 0) → ((k : ℕ) → size ≤ k → get_or cursors' k 0 ≡ 0) → ((k : ℕ) → k < size → filled g' k ≡ filled g k) → ArePassed g cursors → (k : ℕ) → (k < size) ⊎ (size ≤ k) → IsTrue (all_set (take (get_or cursors' k 0) (filled g' k)))
grown_at g g' size cursors cursors' old new same p k (inl h) =
    subst (λ j. IsTrue (all_set (take j (filled g' k)))) (sym (old k h)) (subst (λ fs. IsTrue (all_set (take (get_or cursors k 0) fs))) (sym (same k h)) (p k))
grown_at g g' size cursors cursors' old new same p k (inr h) = subst (λ j. IsTrue (all_set (take j (filled g' k)))) (sym (new k h)) refl

-- a node that is new is passed from its first input on
pub grown_passed : (g g' : Nodes) (size : ℕ) (cursors cursors' : List ℕ) → ((k : ℕ) → k < size → get_or cursors' k 0 ≡ get_or cursors k 0) → ((k : ℕ) → size ≤ k → get_or cursors' k 0 ≡ 0) → ((k : ℕ) → k < size → filled g' k ≡ filled g k) → ArePassed g cursors → ArePassed g' cursors'
grown_passed g g' size cursors cursors' old new same p k = grown_at g g' size cursors cursors' old new same p k (below_or_past k size)
