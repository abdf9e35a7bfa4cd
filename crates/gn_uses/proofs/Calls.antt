-- What each call does to the lists that are kept.
use Rattle.std.proofs.Common.{◌≡◌, ℕ, ◌+◌, ◌<◌, ◌≤◌, Bool, true, false, List, [], ◌∷◌, ◌++◌, length, map, Option, Some, None, refl, sym, ap, ◌∙◌, subst, arith}
use Rattle.std.proofs.lemmas.List.{length_push, get_or_append_left}
use Rattle.gn_node_set.specs.Meanings.{Has}
use Rattle.gn_uses.specs.declared.outputs.Out.{Out}
use Rattle.gn_uses.specs.declared.nodes.Parts.{Parts}
use Rattle.gn_uses.specs.declared.nodes.Role.{Role}
use Rattle.gn_uses.specs.declared.nodes.Choice.{Choice}
use Rattle.gn_uses.specs.declared.progress.Progress.{Progress}
use Rattle.gn_uses.specs.Sets.{IsIn}
use Rattle.gn_uses.specs.Nodes.{Nodes, filled, HasRoom, with_node, with_root, with_choice, with_results, with_value, with_answer}
use Rattle.gn_uses.specs.Parts.{nodes_of, ArePassed}
use Rattle.gn_uses.specs.Marks.{Marks, looked_at, fed_again, rooted, opened, AreRight, AreWhole}
use Rattle.gn_uses.specs.Progress.{marks_of, CanGoOn, HasGrown}
use Rattle.gn_uses.specs.Uses.{IsUnchosen, HasNoResults}
use Rattle.gn_uses.specs.Inside.{IsRight}
use Rattle.gn_uses.proofs.Events.{value_raises, value_whole, answer_raises, answer_whole, chose_whole, root_whole}
use Rattle.gn_uses.proofs.Opening.{opened_whole}
use Rattle.gn_uses.proofs.Adding.{added_whole, added_right, old_filled}
use Rattle.gn_uses.proofs.Keeping.{Next}
use Rattle.gn_uses.proofs.Steps.{root_next, looked_next, chose_next, opened_next, value_passed, grown_passed}

-- the nodes become these, and the marks that come next are right
pub record IsEvent (parts' : Parts) (p : Progress) (g' : Nodes) (m' : Marks) : Type 0 where
  pub nodes : nodes_of parts' p.wanted.sizes ≡ g'
  pub whole : AreWhole (nodes_of parts' p.wanted.sizes)
  pub passed : ArePassed (nodes_of parts' []) p.cursors.items
  pub next : Next (nodes_of parts' p.wanted.sizes) (marks_of p) m'

module _ (parts parts' : Parts) (p : Progress) (taken : ℕ) (r : IsRight parts p taken) where
  abbrev g : Nodes
  g = nodes_of parts p.wanted.sizes

  abbrev m : Marks
  m = marks_of p

  sized : (g' : Nodes) → nodes_of parts' [] ≡ g' → nodes_of parts' p.wanted.sizes ≡ record g' { sizes = p.wanted.sizes }
  sized g' e = let with_sizes = λ (x : Nodes). record x { sizes = p.wanted.sizes } in ap with_sizes e

  same_passed : (g' : Nodes) → nodes_of parts' [] ≡ g' → ArePassed g' p.cursors.items → ArePassed (nodes_of parts' []) p.cursors.items
  same_passed g' e h = subst (λ x. ArePassed x p.cursors.items) (sym e) h

  pub value_event : (n i : ℕ) → n < length p.wanted.sizes → nodes_of parts' [] ≡ with_value (nodes_of parts []) n i → IsEvent parts' p (with_value g n i) (looked_at (nodes_of parts' []) m n)
  value_event n i h e =
      let there : n < length g.filled = omega (arith, r.can.whole.filled, h) in
      let nodes : nodes_of parts' p.wanted.sizes ≡ with_value g n i = sized (with_value (nodes_of parts []) n i) e in
      record {
        nodes = nodes;
        whole = subst AreWhole (sym nodes) (value_whole g n i r.can.whole);
        passed = same_passed (with_value (nodes_of parts []) n i) e (value_passed (nodes_of parts []) n i p.cursors.items there r.can.passed);
        next = subst (λ x. Next x m (looked_at x m n)) (sym nodes) (looked_next g (with_value g n i) n m r.can.whole r.right (value_raises g n i there));
      }

  pub answer_event : (n : ℕ) → n < length p.wanted.sizes → nodes_of parts' [] ≡ with_answer (nodes_of parts []) n → IsEvent parts' p (with_answer g n) (looked_at (nodes_of parts' []) m n)
  answer_event n h e =
      let there : n < length g.answered = omega (arith, r.can.whole.answered, h) in
      let nodes : nodes_of parts' p.wanted.sizes ≡ with_answer g n = sized (with_answer (nodes_of parts []) n) e in
      record {
        nodes = nodes;
        whole = subst AreWhole (sym nodes) (answer_whole g n r.can.whole);
        passed = same_passed (with_answer (nodes_of parts []) n) e r.can.passed;
        next = subst (λ x. Next x m (looked_at x m n)) (sym nodes) (looked_next g (with_answer g n) n m r.can.whole r.right (answer_raises g n there));
      }

  pub choice_event : (n : ℕ) (c : Choice) → IsUnchosen g n → nodes_of parts' [] ≡ with_choice (nodes_of parts []) n c → IsEvent parts' p (with_choice g n c) (fed_again (nodes_of parts' []) m n)
  choice_event n c is e =
      let nodes : nodes_of parts' p.wanted.sizes ≡ with_choice g n c = sized (with_choice (nodes_of parts []) n c) e in
      record {
        nodes = nodes;
        whole = subst AreWhole (sym nodes) (chose_whole g n c r.can.whole is);
        passed = same_passed (with_choice (nodes_of parts []) n c) e r.can.passed;
        next = subst (λ x. Next x m (fed_again x m n)) (sym nodes) (chose_next g n c m r.can.whole is r.right);
      }

  pub results_event : (zone : ℕ) (rs : List (Option Out)) → HasNoResults g zone → HasRoom p.wanted.sizes rs → nodes_of parts' [] ≡ with_results (nodes_of parts []) zone rs → IsEvent parts' p (with_results g zone rs) (opened (nodes_of parts' []) m zone)
  results_event zone rs none room e =
      let nodes : nodes_of parts' p.wanted.sizes ≡ with_results g zone rs = sized (with_results (nodes_of parts []) zone rs) e in
      record {
        nodes = nodes;
        whole = subst AreWhole (sym nodes) (opened_whole g zone rs r.can.whole none room);
        passed = same_passed (with_results (nodes_of parts []) zone rs) e r.can.passed;
        next = subst (λ x. Next x m (opened x m zone)) (sym nodes) (opened_next g zone rs m r.can.whole none room r.right);
      }

  pub root_event : (x : Out) → IsIn p.wanted.sizes x → nodes_of parts' [] ≡ with_root (nodes_of parts []) x → IsEvent parts' p (with_root g x) (rooted m x)
  root_event x i e =
      let nodes : nodes_of parts' p.wanted.sizes ≡ with_root g x = sized (with_root (nodes_of parts []) x) e in
      record {
        nodes = nodes;
        whole = subst AreWhole (sym nodes) (root_whole g x r.can.whole i);
        passed = same_passed (with_root (nodes_of parts []) x) e r.can.passed;
        next = subst (λ y. Next y m (rooted m x)) (sym nodes) (root_next g x m r.can.whole i r.right);
      }

  -- ---- one more node

  module _ (role : Role) (ins : List (Option Out)) (size : ℕ) (room : HasRoom p.wanted.sizes ins) (e : nodes_of parts' [] ≡ record (with_node (nodes_of parts []) role ins 0) { sizes = [] }) (p' : Progress) (h : HasGrown p size true p') where
    nodes_are : nodes_of parts' p'.wanted.sizes ≡ with_node g role ins size
    nodes_are = let with_sizes = λ (x : Nodes). record x { sizes = p'.wanted.sizes } in ap with_sizes e ∙ ap (λ ss. record (with_node g role ins size) { sizes = ss }) h.sizes

    pub node_added : IsRight parts' p' taken
    node_added =
        let w = added_whole g role ins size r.can.whole room in
        let wanted : p'.wanted.items ≡ p.wanted.items = ap (λ x. x.wanted) h.marks in
        let line : p'.line.items ≡ p.line.items = ap (λ x. x.line) h.marks in
        let sizes = ap (λ ss. length ss) h.sizes in
        record {
          can = record {
            whole = subst AreWhole (sym nodes_are) w;
            for_used = omega (arith, sizes, length_push p.wanted.sizes size, h.used_bound, r.can.for_used);
            for_line = omega (arith, sizes, length_push p.wanted.sizes size, h.line_bound, r.can.for_line);
            passed = subst (λ x. ArePassed x p'.cursors.items) (sym e)
                (grown_passed (nodes_of parts []) (record (with_node (nodes_of parts []) role ins 0) { sizes = [] }) (length p.wanted.sizes) p.cursors.items p'.cursors.items h.cursors h.fresh
                (λ k l. old_filled g role ins size r.can.whole room k l) r.can.passed);
          };
          right = subst (λ x. AreRight x (marks_of p') p'.wanted.items) (sym nodes_are)
              (subst (λ y. AreRight (with_node g role ins size) (marks_of p') y) (sym wanted)
              (subst (λ y. AreRight (with_node g role ins size) y p.wanted.items) (sym h.marks) (added_right g role ins size r.can.whole room m r.right)));
          all = h.followed ∙ (r.all ∙ ap (λ xs. length xs) (sym wanted));
          within = let l = ap (λ xs. length xs) line in omega (arith, l, r.within);
        }
