-- One more wanted output is followed.
use Rattle.std.proofs.Common.{◌≡◌, ℕ, ◌+◌, ◌<◌, ◌≤◌, List, [], ◌∷◌, ◌++◌, length, get_or, take, refl, sym, ap, ◌∙◌, subst, arith}
use Rattle.std.proofs.lemmas.List.{take_more, take-append-le, length-append}
use Rattle.gn_node_set.specs.Meanings.{Has}
use Rattle.gn_uses.specs.declared.outputs.Out.{Out}
use Rattle.gn_uses.specs.declared.nodes.Parts.{Parts}
use Rattle.gn_uses.specs.declared.progress.Progress.{Progress}
use Rattle.gn_uses.specs.Nodes.{Nodes}
use Rattle.gn_uses.specs.Parts.{nodes_of}
use Rattle.gn_uses.specs.Marks as marks
use Rattle.gn_uses.specs.Marks.{Marks, AreRight, AreWhole}
use Rattle.gn_uses.specs.Progress.{marks_of, CanGoOn, Becomes, GoesOn, AreRightSoFar}
use Rattle.gn_uses.proofs.Reading.{has_index}
use Rattle.gn_uses.proofs.Changing.{there}
use Rattle.gn_uses.proofs.Following as following

abbrev pub no_out : Out
no_out = record { node = 0; output = 0 }

module _ (parts : Parts) (p : Progress) (able : CanGoOn parts p) (so_far : AreRightSoFar parts p) (more : p.followed < length p.wanted.items) where
  abbrev out : Out
  out = get_or p.wanted.items p.followed no_out

  abbrev g : Nodes
  g = nodes_of parts p.wanted.sizes

  out_in : Has p.wanted.items out
  out_in = has_index p.wanted.items p.followed no_out more

  pub out_there : out.node < length p.wanted.sizes
  out_there = there p.wanted.sizes out.node out.output (so_far.right.inside out out_in)

  abbrev done : List Out
  done = take p.followed p.wanted.items

  abbrev f : Marks
  f = marks.followed g (marks_of p) out

  has_followed : following.HasFollowed g (able.whole) (marks_of p) done so_far.right out out_in f
  has_followed = following.has_followed g able.whole (marks_of p) done so_far.right out out_in

  pub record OneMore (p' : Progress) : Type 0 where
    pub can : CanGoOn parts p'
    pub right : AreRightSoFar parts p'
    pub sizes : p'.wanted.sizes ≡ p.wanted.sizes
    pub used : GoesOn p.used.items p'.used.items
    pub line : GoesOn p.line.items p'.line.items

  module _ (p' before : Progress) (x : Out) (is_out : x ≡ out) (becomes : Becomes parts before (marks.followed g (marks_of p) x) p') (sizes : before.wanted.sizes ≡ p.wanted.sizes) (used : before.used.bound ≡ p.used.bound) (line : before.line.bound ≡ p.line.bound) (one : before.followed ≡ p.followed + 1) where
    b : Becomes parts before f p'
    b = subst (λ y. Becomes parts before (marks.followed g (marks_of p) y) p') is_out becomes

    same_sizes : p'.wanted.sizes ≡ p.wanted.sizes
    same_sizes = b.sizes ∙ sizes

    wanted_is : p'.wanted.items ≡ f.wanted
    wanted_is = ap (λ m. m.wanted) b.marks

    longer : p'.wanted.items ≡ p.wanted.items ++ has_followed.wanted.0
    longer = wanted_is ∙ has_followed.wanted.1

    now_followed : p'.followed ≡ p.followed + 1
    now_followed = b.followed ∙ one

    within : p.followed + 1 ≤ length p.wanted.items
    within = omega (arith, more)

    now_done : take p'.followed p'.wanted.items ≡ done ++ out ∷ []
    now_done =
        ap (λ n. take n p'.wanted.items) now_followed
        ∙ (ap (λ xs. take (p.followed + 1) xs) longer
        ∙ (take-append-le (p.followed + 1) p.wanted.items has_followed.wanted.0 within
        ∙ take_more p.wanted.items p.followed no_out more))

    now_right : AreRight (nodes_of parts p'.wanted.sizes) (marks_of p') (take p'.followed p'.wanted.items)
    now_right =
        subst (λ ss. AreRight (nodes_of parts ss) (marks_of p') (take p'.followed p'.wanted.items)) (sym same_sizes)
        (subst (λ m. AreRight g m (take p'.followed p'.wanted.items)) (sym b.marks)
        (subst (λ d. AreRight g f d) (sym now_done) has_followed.right))

    pub one_more : OneMore p'
    one_more = record {
      can = record {
        whole = subst (λ ss. AreWhole (nodes_of parts ss)) (sym same_sizes) able.whole;
        for_used = let e = ap (λ ss. length ss) same_sizes in omega (arith, e, b.used_bound, used, able.for_used);
        for_line = let e = ap (λ ss. length ss) same_sizes in omega (arith, e, b.line_bound, line, able.for_line);
        passed = b.passed;
      };
      right = record {
        right = now_right;
        within = let e = ap (λ xs. length xs) longer in omega (arith, e, now_followed, within, length-append p.wanted.items has_followed.wanted.0);
      };
      sizes = same_sizes;
      used = subst (λ m. GoesOn p.used.items m.used) (sym b.marks) has_followed.used;
      line = subst (λ m. GoesOn p.line.items m.line) (sym b.marks) has_followed.line;
    }
