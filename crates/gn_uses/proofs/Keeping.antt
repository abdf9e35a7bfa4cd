-- What callers see after a change, and what they learn of it.
use Rattle.std.proofs.Common.{◌≡◌, ◌⊎◌, ◌↔◌, inl, inr, ℕ, ◌+◌, ◌<◌, ◌≤◌, Bool, true, false, List, [], ◌∷◌, ◌++◌, length, get_or, take, drop, IsTrue, refl, sym, ap, ◌∙◌, subst, arith}
use Rattle.std.proofs.lemmas.List.{take-append-le, drop-append-le, take_at, length-append, take-append-drop}
use Rattle.gn_node_set.specs.Meanings.{Has, AllDiffer}
use Rattle.gn_node_set.proofs.Lists.{has_first, has_second, has_either}
use Rattle.gn_uses.specs.declared.outputs.Out.{Out}
use Rattle.gn_uses.specs.declared.nodes.Parts.{Parts}
use Rattle.gn_uses.specs.declared.progress.Progress.{Progress}
use Rattle.gn_uses.specs.Nodes.{Nodes, Wanted, Used, is_full}
use Rattle.gn_uses.specs.Parts.{nodes_of, ArePassed}
use Rattle.gn_uses.specs.Marks.{Marks, AreRight, AreWhole}
use Rattle.gn_uses.specs.Progress.{marks_of, CanGoOn, Becomes, AreRightSoFar, HasSettled, GoesOn}
use Rattle.gn_uses.specs.Uses.{Uses, Ready, IsExact, Changes}
use Rattle.gn_uses.specs.Inside.{seen, IsRight}
use Rattle.gn_uses.proofs.Following.{complete}
use Rattle.gn_uses.proofs.Marking.{goes_further}

pub seen_changes : (before parts : Parts) (p p' : Progress) (taken : ℕ) (g : Nodes) → taken ≤ length p.line.items → nodes_of parts p'.wanted.sizes ≡ g → GoesOn p.line.items p'.line.items → GoesOn p.used.items p'.used.items → Changes (seen before p taken) g (seen parts p' taken)
seen_changes before parts p p' taken g within nodes line used = record {
  nodes = nodes;
  taken = ap (λ xs. take taken xs) line.1 ∙ take-append-le taken p.line.items line.0 within;
  ready = (line.0, ap (λ xs. drop taken xs) line.1 ∙ drop-append-le taken p.line.items line.0 within);
  used = used;
}

pub longer_line : (xs ys : List ℕ) (taken : ℕ) → taken ≤ length xs → GoesOn xs ys → taken ≤ length ys
longer_line xs ys taken h g = let e = ap (λ zs. length zs) g.1 in omega (arith, h, e, length-append xs g.0)

pub settled_right : (parts : Parts) (p p' : Progress) (taken : ℕ) → HasSettled parts p p' → taken ≤ length p.line.items → IsRight parts p' taken
settled_right parts p p' taken h within = record {
  can = h.can;
  right = h.right;
  all = h.all;
  within = longer_line p.line.items p'.line.items taken within h.line;
}

-- ---- what the lists have

apart : (xs ys : List ℕ) (n : ℕ) → AllDiffer (xs ++ ys) → Has xs n → Has ys n → ⊥
apart [] ys n d h k = absurd h
apart (x ∷ xs) ys n d (inl e) k = d.0 (subst (Has (xs ++ ys)) e (has_second xs ys n k))
apart (x ∷ xs) ys n d (inr h) k = apart xs ys n d.1 h k

module _ (parts : Parts) (p : Progress) (taken : ℕ) (r : IsRight parts p taken) where
  abbrev g : Nodes
  g = nodes_of parts p.wanted.sizes

  abbrev m : Marks
  m = marks_of p

  used_is : (n : ℕ) → Has m.used n → Used g n
  used_is n h = let u = r.right.used n h in (u.0, r.right.sound (record { node = n; output = u.0 }) u.1)

  is_used : (n : ℕ) → Used g n → Has m.used n
  is_used n u = r.right.entered (record { node = n; output = u.0 }) (complete g m r.right u.1)

  whole : take taken p.line.items ++ drop taken p.line.items ≡ p.line.items
  whole = take-append-drop taken p.line.items

  differ : AllDiffer (take taken p.line.items ++ drop taken p.line.items)
  differ = subst AllDiffer (sym whole) r.right.line_differ

  ready_is : (n : ℕ) → Has (drop taken p.line.items) n → Ready (seen parts p taken) n
  ready_is n h =
      let line = r.right.in_line n (subst (λ xs. Has xs n) whole (has_second (take taken p.line.items) (drop taken p.line.items) n h)) in
      record { used = used_is n line.0; full = line.1; fresh = λ k. apart (take taken p.line.items) (drop taken p.line.items) n differ k h }

  is_ready_at : (n : ℕ) → (¬ Has (take taken p.line.items) n) → Has (take taken p.line.items) n ⊎ Has (drop taken p.line.items) n → Has (drop taken p.line.items) n
  is_ready_at n f (inl h) = absurd (f h)
  is_ready_at n f (inr h) = h

  is_ready : (n : ℕ) → Ready (seen parts p taken) n → Has (drop taken p.line.items) n
  is_ready n h =
      is_ready_at n h.fresh (has_either (take taken p.line.items) (drop taken p.line.items) n
      (subst (λ xs. Has xs n) (sym whole) (r.right.all_in_line n (is_used n h.used) h.full)))

  pub exact : IsExact (seen parts p taken)
  exact = record {
    ready = λ n. (λ h. ready_is n h, λ h. is_ready n h);
    used = λ n. (λ h. used_is n h, λ h. is_used n h);
    taken_differ = differ;
    used_differ = r.right.used_differ;
  }

-- ---- an event: the nodes change, then the marks, and then all is followed

-- the marks that come next are right for the nodes as they are then, with what was wanted before followed
pub record Next (g' : Nodes) (m m' : Marks) : Type 0 where
  pub right : AreRight g' m' m.wanted
  pub wanted : GoesOn m.wanted m'.wanted
  pub used : GoesOn m.used m'.used
  pub line : GoesOn m.line m'.line

module _ (parts parts' : Parts) (p : Progress) (taken : ℕ) (r : IsRight parts p taken) (whole' : AreWhole (nodes_of parts' p.wanted.sizes)) (passed' : ArePassed (nodes_of parts' []) p.cursors.items) where
  pub can_then : CanGoOn parts' p
  can_then = record { whole = whole'; for_used = r.can.for_used; for_line = r.can.for_line; passed = passed' }

  module _ (m' : Marks) (next : Next (nodes_of parts' p.wanted.sizes) (marks_of p) m') (p' : Progress) (b : Becomes parts' p m' p') where
    now_done : take p'.followed p'.wanted.items ≡ p.wanted.items
    now_done =
        ap (λ n. take n p'.wanted.items) (b.followed ∙ r.all)
        ∙ (ap (λ m. take (length p.wanted.items) m.wanted) b.marks
        ∙ (ap (λ xs. take (length p.wanted.items) xs) next.wanted.1
        ∙ take_at p.wanted.items next.wanted.0 (length p.wanted.items) refl))

    pub can_later : CanGoOn parts' p'
    can_later = record {
      whole = subst (λ ss. AreWhole (nodes_of parts' ss)) (sym b.sizes) whole';
      for_used = let e = ap (λ ss. length ss) b.sizes in omega (arith, e, b.used_bound, r.can.for_used);
      for_line = let e = ap (λ ss. length ss) b.sizes in omega (arith, e, b.line_bound, r.can.for_line);
      passed = b.passed;
    }

    right_later : AreRight (nodes_of parts' p'.wanted.sizes) (marks_of p') (take p'.followed p'.wanted.items)
    right_later =
        subst (λ ss. AreRight (nodes_of parts' ss) (marks_of p') (take p'.followed p'.wanted.items)) (sym b.sizes)
        (subst (λ m. AreRight (nodes_of parts' p.wanted.sizes) m (take p'.followed p'.wanted.items)) (sym b.marks)
        (subst (λ d. AreRight (nodes_of parts' p.wanted.sizes) m' d) (sym now_done) next.right))

    longer : length p.wanted.items ≤ length p'.wanted.items
    longer =
        let e = ap (λ m. length m.wanted) b.marks in
        let f = ap (λ xs. length xs) next.wanted.1 in
        omega (arith, e, f, length-append p.wanted.items next.wanted.0)

    pub so_far_later : AreRightSoFar parts' p'
    so_far_later = record { right = right_later; within = omega (arith, b.followed, r.all, longer) }

    pub line_later : GoesOn p.line.items p'.line.items
    line_later = subst (λ m. GoesOn p.line.items m.line) (sym b.marks) next.line

    pub used_later : GoesOn p.used.items p'.used.items
    used_later = subst (λ m. GoesOn p.used.items m.used) (sym b.marks) next.used

    -- where no more is wanted, all is followed already
    pub at_rest : m'.wanted ≡ p.wanted.items → IsRight parts' p' taken
    at_rest none =
        let e : p'.wanted.items ≡ p.wanted.items = ap (λ m. m.wanted) b.marks ∙ none in
        let all : p'.followed ≡ length p'.wanted.items = b.followed ∙ (r.all ∙ ap (λ xs. length xs) (sym e)) in
        record {
          can = can_later;
          right = subst (λ d. AreRight (nodes_of parts' p'.wanted.sizes) (marks_of p') d) (now_done ∙ sym e) right_later;
          all = all;
          within = longer_line p.line.items p'.line.items taken r.within line_later;
        }

    pub rest_changes : (g : Nodes) → nodes_of parts' p.wanted.sizes ≡ g → Changes (seen parts p taken) g (seen parts' p' taken)
    rest_changes g e = seen_changes parts parts' p p' taken g r.within (ap (λ ss. nodes_of parts' ss) b.sizes ∙ e) line_later used_later

    module _ (p'' : Progress) (h : HasSettled parts' p' p'') where
      pub settled : IsRight parts' p'' taken
      settled = settled_right parts' p' p'' taken h (longer_line p.line.items p'.line.items taken r.within line_later)

      pub settled_changes : (g : Nodes) → nodes_of parts' p.wanted.sizes ≡ g → Changes (seen parts p taken) g (seen parts' p'' taken)
      settled_changes g e = seen_changes parts parts' p p'' taken g r.within (ap (λ ss. nodes_of parts' ss) (h.sizes ∙ b.sizes) ∙ e)
          (goes_further p.line.items p'.line.items p''.line.items line_later h.line)
          (goes_further p.used.items p'.used.items p''.used.items used_later h.used)
