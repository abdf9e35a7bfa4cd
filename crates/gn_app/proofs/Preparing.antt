-- What reading the files of a command comes to.
use Rattle.std.proofs.Common.{◌≡◌, ◌⊎◌, inl, inr, ℕ, ◌≤◌, Bool, true, false, cond, List, [], ◌∷◌, length, take, Option, Some, None, Result, Ok, Err, refl, sym, ap, subst, ◌∙◌, arith, append_assoc, append-nil}
use Rattle.std.specs.Prelude.{bytes_eq}
use Rattle.gn_io.specs.Outside.{Files, Names, with_name, Rose}
use Rattle.gn_io.specs.Files.{FileAnswer, whole, absent, too_long}
use Rattle.gn_kinds.specs.Row.{Text}
use Rattle.gn_tree.specs.Trees.{Tree}
use Rattle.gn_json.proofs.Formed.{is_of_form}
use Rattle.gn_meaning.proofs.Formed.{has_form}
use Rattle.gn_plain.specs.Geometry as plain
use Rattle.gn_geom.specs.Meshes.{MeshArrays, plain_of}
use Rattle.gn_plans.specs.Plans.{Plan, IsPlan}
use Rattle.gn_plans.specs.Answers.{plan_of}
use Rattle.gn_elements.specs.Read.{Bad, mesh}
use Rattle.gn_rows.proofs.Imports.{spelled_small}
use Rattle.gn_app.specs.declared.load.PlannedTree.{PlannedTree}
use Rattle.gn_app.specs.declared.load.Prepared.{Prepared}
use Rattle.gn_app.specs.declared.ending.Ending as rust
use Rattle.gn_app.specs.Seen.{ending_of}
use Rattle.gn_app.specs.Command.{Command, eval, check, files_of}
use Rattle.gn_app.specs.Ending.{Ending, done, misused, no_file, unreadable, unwritable, no_json, misformed, bad_line, overlong, not_built, no_memory}
use Rattle.gn_app.specs.Job.{writing, ok_text, IsTree, TreeGiven, with_mesh, mesh_given, mesh_or_bad, Giving, Leads, TreeDecides, tree_limit, input_limit}
use Rattle.gn_app.specs.Outcome.{Seen, with_names, the_tree, the_input, files_until, name_of, IsLastAsked, StopsAtTree}
use Rattle.gn_app.specs.Run.{WhereTold, Told}
use Rattle.gn_app.specs.Load.{Goes, IsWhole, IsLong, Had, TreeFails, PlanFails, IsPlanned, InputFails, OwnFails, OwnPrepared, LeadsAway, Unprepared, IsPrepared, Prepares}
use Rattle.gn_app.proofs.Leading.{not_decided}
use Rattle.gn_app.proofs.Telling.{same_bytes, where_both, where_told, Gives, given_whole, given_long, given_absent, given_beside}

-- ---- names

pub one_name : (names : Option Names) (t : Text) → with_name names t ≡ with_names names (t ∷ [])
one_name None t = refl
one_name (Some names) t = refl

two_names : (names : Option Names) (t o : Text) → with_name (with_name names t) o ≡ with_names names (t ∷ o ∷ [])
two_names None t o = refl
two_names (Some names) t o = ap Some (append_assoc names (t ∷ []) (o ∷ []))

pub no_names : (names : Option Names) → names ≡ with_names names []
no_names None = refl
no_names (Some names) = ap Some (sym (append-nil names))

files_same : (t o : Text) → bytes_eq t o ≡ true → files_of (eval t o) ≡ t ∷ []
files_same t o e = rw e refl

files_two : (t o : Text) → bytes_eq t o ≡ false → files_of (eval t o) ≡ t ∷ o ∷ []
files_two t o e = rw e refl

first_of_files : (t o : Text) (b : Bool) → take 1 (cond b (t ∷ []) (t ∷ o ∷ [])) ≡ t ∷ []
first_of_files t o true = refl
first_of_files t o false = refl

-- a count that rose since then rose since before
pub rose_since : (before middle now : ℕ) → before ≤ middle → Rose middle now → Rose before now
rose_since before middle now h r = omega arith

-- ---- the tree

-- a fact of each answer
wherever : (holds : Option Files) (before after : Option Names) (P : Giving → Type 0) → ((files : Giving) → P files) → WhereTold holds before after P
wherever None before after P h = tt
wherever (Some files) None after P h = tt
wherever (Some files) (Some before) None P h = tt
wherever (Some files) (Some before) (Some after) P h = h _

anywhere : (holds : Option Files) (before after : Option Names) → WhereTold holds before after (λ files. Unit {0})
anywhere holds before after = wherever holds before after (λ files. Unit {0}) (λ files. tt)

-- a command whose tree is the file t
module _ (c : Command) (t : Text) (before now : Seen) (named : name_of the_tree c ≡ Some t) (until : files_until the_tree c ≡ t ∷ []) (first : take 1 (files_of c) ≡ t ∷ []) (tell : (P : Giving → Type 0) → WhereTold before.holds before.missed now.missed P → Told c before now P) (lead : (files : Giving) (e : Ending) → TreeGiven t (files tree_limit t) (Err e) → Leads files c (Err e)) where
  asked_until : now.asked ≡ with_name before.asked t → now.asked ≡ with_names before.asked (files_until the_tree c)
  asked_until e = e ∙ one_name before.asked t ∙ ap (with_names before.asked) (sym until)

  last_tree : now.asked ≡ with_name before.asked t → IsLastAsked c t before.asked now.asked
  last_tree e = record { subject = the_tree; named = named; asked = asked_until e }

  cut_at_tree : ((now.asked ≡ with_name before.asked t) ⊎ (now.asked ≡ before.asked)) → (k : ℕ) × (now.asked ≡ with_names before.asked (take k (files_of c)))
  cut_at_tree (inl e) = (1, e ∙ one_name before.asked t ∙ ap (with_names before.asked) (sym first))
  cut_at_tree (inr e) = (0, e ∙ no_names before.asked)

  -- no other file was asked for
  only_tree : now.asked ≡ with_name before.asked t → (k : ℕ) × (now.asked ≡ with_names before.asked (take k (files_until the_tree c)))
  only_tree e = (1, e ∙ one_name before.asked t ∙ ap (λ names. with_names before.asked (take 1 names)) (sym until))

  at_most_tree : ((now.asked ≡ with_name before.asked t) ⊎ (now.asked ≡ before.asked)) → (k : ℕ) × (now.asked ≡ with_names before.asked (take k (files_until the_tree c)))
  at_most_tree (inl e) = only_tree e
  at_most_tree (inr e) = (0, e ∙ no_names before.asked)

  stopped_there : (e : Ending) → StopsAtTree c e before.asked now.asked → Told c before now (λ files. TreeDecides files c → StopsAtTree c e before.asked now.asked)
  stopped_there e h =
      let P : Giving → Type 0 = λ files. TreeDecides files c → StopsAtTree c e before.asked now.asked in
      tell P (wherever before.holds before.missed now.missed P (λ files d. h))

  -- the tree's file decides the command
  told_tree : (a : FileAnswer) (e : Ending) → TreeGiven t a (Err e) → Gives before.holds before.missed now.missed t tree_limit a → Told c before now (λ files. Leads files c (Err e))
  told_tree a e h gives =
      tell (λ files. Leads files c (Err e)) (where_told before.holds before.missed now.missed (λ files. files tree_limit t ≡ a) (λ files. Leads files c (Err e)) (λ files same. lead files e (subst (λ x. TreeGiven t x (Err e)) (sym same) h)) gives)

  had_whole : (bytes : List ℕ) → Had t tree_limit before now bytes → Gives before.holds before.missed now.missed t tree_limit (whole bytes)
  had_whole bytes had = given_whole before.holds before.missed now.missed t tree_limit bytes had.asked.missed had.whole

  pub refused_tree : (e : Ending) → TreeFails t before now e → Unprepared c before now e
  refused_tree done h = absurd h
  refused_tree (misused word) h = absurd h
  refused_tree (unwritable taken) h = absurd h
  refused_tree (bad_line line rule) h = absurd h
  refused_tree not_built h = absurd h
  refused_tree (no_file name) h = rw h.0 (record {
    early = tt;
    asked = last_tree h.1.asked;
    missed = h.1.missed;
    order = stopped_there (no_file t) (only_tree h.1.asked);
    cause = h.1.rose;
    told = told_tree absent (no_file t) refl (given_absent before.holds before.missed now.missed t tree_limit h.1.missed);
  })
  refused_tree (overlong name size) h = rw h.0 (record {
    early = tt;
    asked = last_tree h.1.asked;
    missed = h.1.missed;
    order = stopped_there (overlong t size) (only_tree h.1.asked);
    cause = record { subject = the_tree; named = named; over = h.2.over; held = h.2.held };
    told = told_tree (too_long size) (overlong t size) refl (given_long before.holds before.missed now.missed t tree_limit size h.1.missed h.2);
  })
  refused_tree no_json (bytes, had, e) = record {
    early = tt;
    asked = asked_until had.asked.asked;
    missed = had.asked.missed;
    order = stopped_there no_json (only_tree had.asked.asked);
    cause = tt;
    told = told_tree (whole bytes) no_json e (had_whole bytes had);
  }
  refused_tree (misformed rule place) (bytes, had, broken) = record {
    early = tt;
    asked = asked_until had.asked.asked;
    missed = had.asked.missed;
    order = stopped_there (misformed rule place) (only_tree had.asked.asked);
    cause = tt;
    told = told_tree (whole bytes) (misformed rule place) broken (had_whole bytes had);
  }
  refused_tree (unreadable name) h = rw h.0 (record {
    early = tt;
    asked = last_tree h.1.asked;
    missed = h.1.missed;
    order = stopped_there (unreadable t) (named, asked_until h.1.asked);
    cause = h.2;
    told = tell (λ files. LeadsAway files c (unreadable t)) (anywhere before.holds before.missed now.missed);
  })
  refused_tree no_memory h = record {
    early = tt;
    asked = cut_at_tree h.asked;
    missed = h.missed;
    order = stopped_there no_memory (at_most_tree h.asked);
    cause = tt;
    told = tell (λ files. LeadsAway files c no_memory) (anywhere before.holds before.missed now.missed);
  }

-- ---- `check`

lead_check : (t : Text) (files : Giving) (e : Ending) → TreeGiven t (files tree_limit t) (Err e) → Leads files (check t) (Err e)
lead_check t files e h = (Err e, h, refl)

pub refused_check : (t : Text) (before now : Seen) (e : Ending) → TreeFails t before now e → Unprepared (check t) before now e
refused_check t before now = refused_tree (check t) t before now refl refl refl (λ P h. h) (lead_check t)

pub told_checked : (t : Text) (before now : Seen) (bytes : List ℕ) (tree : Tree) → Had t tree_limit before now bytes → IsTree bytes tree → Told (check t) before now (λ files. Leads files (check t) (Ok (writing ok_text)))
told_checked t before now bytes tree had h =
    where_told before.holds before.missed now.missed (λ files. files tree_limit t ≡ whole bytes) (λ files. Leads files (check t) (Ok (writing ok_text))) (λ files same. (Ok tree, subst (λ x. TreeGiven t x (Ok tree)) (sym same) h, refl)) (given_whole before.holds before.missed now.missed t tree_limit bytes had.asked.missed had.whole)

-- ---- `eval`

lead_eval : (t o : Text) (files : Giving) (e : Ending) → TreeGiven t (files tree_limit t) (Err e) → Leads files (eval t o) (Err e)
lead_eval t o files e h = (Err e, h, refl)

first_file : (t o : Text) → take 1 (files_of (eval t o)) ≡ t ∷ []
first_file t o = first_of_files t o (bytes_eq t o)

refused_eval : (t o : Text) (before now : Seen) (e : Ending) → TreeFails t before now e → Unprepared (eval t o) before now e
refused_eval t o before now = refused_tree (eval t o) t before now refl refl (first_file t o) (λ P h. h) (lead_eval t o)

-- the tree alone was asked for
only_asked : (t o : Text) (before now : Seen) (e : Ending) → StopsAtTree (eval t o) e before.asked now.asked → Told (eval t o) before now (λ files. TreeDecides files (eval t o) → StopsAtTree (eval t o) e before.asked now.asked)
only_asked t o before now e h =
    wherever before.holds before.missed now.missed (λ files. TreeDecides files (eval t o) → StopsAtTree (eval t o) e before.asked now.asked) (λ files d. h)

unplanned : (t o : Text) (before now : Seen) → PlanFails t before now not_built → Unprepared (eval t o) before now not_built
unplanned t o before now (bytes, had, (tree, is, none)) = record {
  early = tt;
  asked = had.asked.asked ∙ one_name before.asked t;
  missed = had.asked.missed;
  order = only_asked t o before now not_built (1, had.asked.asked ∙ one_name before.asked t);
  cause = tt;
  told = where_told before.holds before.missed now.missed (λ files. files tree_limit t ≡ whole bytes) (λ files. Leads files (eval t o) (Err not_built)) (λ files same. (Ok tree, subst (λ x. TreeGiven t x (Ok tree)) (sym same) is, inl (none, refl))) (given_whole before.holds before.missed now.missed t tree_limit bytes had.asked.missed had.whole);
}

pub refused_plan : (t o : Text) (before now : Seen) (e : Ending) → PlanFails t before now e → Unprepared (eval t o) before now e
refused_plan t o before now not_built h = unplanned t o before now h
refused_plan t o before now done h = refused_eval t o before now done h
refused_plan t o before now (misused word) h = refused_eval t o before now (misused word) h
refused_plan t o before now (no_file name) h = refused_eval t o before now (no_file name) h
refused_plan t o before now (unreadable name) h = refused_eval t o before now (unreadable name) h
refused_plan t o before now (unwritable taken) h = refused_eval t o before now (unwritable taken) h
refused_plan t o before now no_json h = refused_eval t o before now no_json h
refused_plan t o before now (misformed rule place) h = refused_eval t o before now (misformed rule place) h
refused_plan t o before now (bad_line line rule) h = refused_eval t o before now (bad_line line rule) h
refused_plan t o before now (overlong name size) h = refused_eval t o before now (overlong name size) h
refused_plan t o before now no_memory h = refused_eval t o before now no_memory h

-- both files decide the command
module _ (t o : Text) (before now : Seen) (bytes : List ℕ) (tree : Tree) (plan : Plan) (is : IsTree bytes tree) (planned : IsPlan tree plan) (gives : Gives before.holds before.missed now.missed t tree_limit (whole bytes)) where
  told_both : (a : FileAnswer) → Gives before.holds before.missed now.missed o input_limit a → Told (eval t o) before now (λ files. Leads files (eval t o) (with_mesh tree (mesh_given o a)))
  told_both a h =
      where_both before.holds before.missed now.missed (λ files. files tree_limit t ≡ whole bytes) (λ files. files input_limit o ≡ a) (λ files. Leads files (eval t o) (with_mesh tree (mesh_given o a))) (λ files e f. (
        Ok tree,
        subst (λ x. TreeGiven t x (Ok tree)) (sym e) is,
        inr ((plan, planned), ap (λ x. with_mesh tree (mesh_given o x)) (sym f)),
      )) gives h

  told_mesh : (text : List ℕ) (r : Result plain.Shape Bad) → mesh text ≡ r → Gives before.holds before.missed now.missed o input_limit (whole text) → Told (eval t o) before now (λ files. Leads files (eval t o) (with_mesh tree (mesh_or_bad r)))
  told_mesh text r e h = subst (λ x. Told (eval t o) before now (λ files. Leads files (eval t o) (with_mesh tree (mesh_or_bad x)))) e (told_both (whole text) h)

-- the input is the tree's own file
module _ (t : Text) (before now : Seen) (planned : PlannedTree) (read : IsPlanned t before now planned) where
  own_asked : now.asked ≡ with_names before.asked (files_of (eval t t))
  own_asked = read.had.asked.asked ∙ one_name before.asked t ∙ ap (with_names before.asked) (sym (files_same t t (same_bytes t)))

  own_told : (r : Result plain.Shape Bad) → mesh planned.bytes.items ≡ r → Told (eval t t) before now (λ files. Leads files (eval t t) (with_mesh read.tree (mesh_or_bad r)))
  own_told r e =
      let fits : length planned.bytes.items ≤ input_limit = omega (arith, read.had.whole.fits) in
      let missed = read.had.asked.missed in
      told_mesh t t before now planned.bytes.items read.tree (plan_of planned.plan) read.is read.plan (given_whole before.holds before.missed now.missed t tree_limit planned.bytes.items missed read.had.whole) planned.bytes.items r e (given_whole before.holds before.missed now.missed t input_limit planned.bytes.items missed (record { fits = fits; held = read.had.whole.held }))

  own_fails : (e : Ending) → OwnFails planned.bytes.items e → Unprepared (eval t t) before now e
  own_fails (bad_line line rule) h = record {
    early = tt;
    asked = own_asked;
    missed = read.had.asked.missed;
    order = only_asked t t before now (bad_line line rule) (1, read.had.asked.asked ∙ one_name before.asked t);
    cause = tt;
    told = own_told (Err (record { line = line; rule = rule })) h;
  }
  own_fails no_memory h = refused_eval t t before now no_memory (record { asked = inl read.had.asked.asked; missed = read.had.asked.missed })
  own_fails done h = absurd h
  own_fails (misused word) h = absurd h
  own_fails (no_file name) h = absurd h
  own_fails (unreadable name) h = absurd h
  own_fails (unwritable taken) h = absurd h
  own_fails no_json h = absurd h
  own_fails (misformed rule place) h = absurd h
  own_fails (overlong name size) h = absurd h
  own_fails not_built h = absurd h

  own_read : (p : Prepared) → p.plan ≡ planned.plan → mesh planned.bytes.items ≡ Ok (plain_of p.mesh) → IsPrepared (eval t t) before now p
  own_read p same h = record {
    asked = own_asked;
    missed = read.had.asked.missed;
    tree = read.tree;
    keeps = read.is.3;
    form = has_form read.tree (is_of_form planned.bytes.items read.is.0 read.tree read.is.1 read.is.2);
    small = spelled_small planned.bytes.items (plain_of p.mesh) h;
    plan = subst (λ plan. IsPlan read.tree (plan_of plan)) (sym same) read.plan;
    told = own_told (Ok (plain_of p.mesh)) h;
  }

own_here : (t : Text) (before now : Seen) (planned : PlannedTree) (r : Result Prepared rust.Ending) → IsPlanned t before now planned → OwnPrepared planned r → Prepares (eval t t) before now r
own_here t before now planned (Ok p) read h = own_read t before now planned read p h.0 h.1
own_here t before now planned (Err e) read h = own_fails t before now planned read (ending_of e) h

pub own_input : (t o : Text) (before now : Seen) (planned : PlannedTree) (r : Result Prepared rust.Ending) → t ≡ o → IsPlanned t before now planned → OwnPrepared planned r → Prepares (eval t o) before now r
own_input t o before now planned r same read h =
    subst (λ name. Prepares (eval t name) before now r) same (own_here t before now planned r read h)

-- two files
module _ (t o : Text) (before middle now : Seen) (planned : PlannedTree) (e : bytes_eq t o ≡ false) (read : IsPlanned t before middle planned) (goes : Goes before middle) where
  asked_both : now.asked ≡ with_name middle.asked o → now.asked ≡ with_names before.asked (files_of (eval t o))
  asked_both h =
      h ∙ ap (λ names. with_name names o) read.had.asked.asked ∙ two_names before.asked t o ∙ ap (with_names before.asked) (sym (files_two t o e))

  -- the input is the last file that was asked for
  last_input : now.asked ≡ with_name middle.asked o → IsLastAsked (eval t o) o before.asked now.asked
  last_input h = record { subject = the_input; named = refl; asked = asked_both h }

  same_missed : now.missed ≡ middle.missed → now.missed ≡ before.missed
  same_missed h = h ∙ read.had.asked.missed

  both : (a : FileAnswer) → Gives before.holds before.missed now.missed t tree_limit (whole planned.bytes.items) → Gives before.holds before.missed now.missed o input_limit a → Told (eval t o) before now (λ files. Leads files (eval t o) (with_mesh read.tree (mesh_given o a)))
  both a gives h = told_both t o before now planned.bytes.items read.tree (plan_of planned.plan) read.is read.plan gives a h

  tree_kept : now.missed ≡ before.missed → Gives before.holds before.missed now.missed t tree_limit (whole planned.bytes.items)
  tree_kept h = given_whole before.holds before.missed now.missed t tree_limit planned.bytes.items h read.had.whole

  -- the tree is held where the input was missed
  tree_beside : now.missed ≡ with_name middle.missed o → Gives before.holds before.missed now.missed t tree_limit (whole planned.bytes.items)
  tree_beside h =
      given_beside before.holds before.missed now.missed t tree_limit o planned.bytes.items e (h ∙ ap (λ names. with_name names o) read.had.asked.missed) read.had.whole

  -- the tree has a plan, so that it doesn't decide
  undecided : (x : Ending) → Gives before.holds before.missed now.missed t tree_limit (whole planned.bytes.items) → Told (eval t o) before now (λ files. TreeDecides files (eval t o) → StopsAtTree (eval t o) x before.asked now.asked)
  undecided x h =
      where_told before.holds before.missed now.missed (λ files. files tree_limit t ≡ whole planned.bytes.items) (λ files. TreeDecides files (eval t o) → StopsAtTree (eval t o) x before.asked now.asked) (λ files same d. absurd (not_decided files t o planned.bytes.items read.tree (plan_of planned.plan) same read.is read.plan d)) h

  -- the input's bytes
  input_told : (bytes : List ℕ) (r : Result plain.Shape Bad) → Had o input_limit middle now bytes → mesh bytes ≡ r → Told (eval t o) before now (λ files. Leads files (eval t o) (with_mesh read.tree (mesh_or_bad r)))
  input_told bytes r had h =
      let missed = same_missed had.asked.missed in
      let held : IsWhole before.holds o input_limit bytes = subst (λ holds. IsWhole holds o input_limit bytes) goes.holds had.whole in
      told_mesh t o before now planned.bytes.items read.tree (plan_of planned.plan) read.is read.plan (tree_kept missed) bytes r h (given_whole before.holds before.missed now.missed o input_limit bytes missed held)

  cut_at_input : ((now.asked ≡ with_name middle.asked o) ⊎ (now.asked ≡ middle.asked)) → (k : ℕ) × (now.asked ≡ with_names before.asked (take k (files_of (eval t o))))
  cut_at_input (inl h) = (2, asked_both h ∙ ap (with_names before.asked) (files_two t o e ∙ ap (take 2) (sym (files_two t o e))))
  cut_at_input (inr h) = (1, h ∙ read.had.asked.asked ∙ one_name before.asked t ∙ ap (with_names before.asked) (sym (first_file t o)))

  pub refused_input : (x : Ending) → InputFails o middle now x → Unprepared (eval t o) before now x
  refused_input done h = absurd h
  refused_input (misused word) h = absurd h
  refused_input (unwritable taken) h = absurd h
  refused_input no_json h = absurd h
  refused_input (misformed rule place) h = absurd h
  refused_input not_built h = absurd h
  refused_input (no_file name) h = rw h.0 (record {
    early = tt;
    asked = last_input h.1.asked;
    missed = h.1.missed ∙ ap (λ names. with_name names o) read.had.asked.missed;
    order = undecided (no_file o) (tree_beside h.1.missed);
    cause = rose_since _ _ _ goes.misses h.1.rose;
    told =
        let missed = h.1.missed ∙ ap (λ names. with_name names o) read.had.asked.missed in
        both absent (tree_beside h.1.missed) (given_absent before.holds before.missed now.missed o input_limit missed);
  })
  refused_input (overlong name size) h =
      let long : IsLong before.holds o input_limit size = subst (λ holds. IsLong holds o input_limit size) goes.holds h.2 in
      rw h.0 (record {
        early = tt;
        asked = last_input h.1.asked;
        missed = same_missed h.1.missed;
        order = undecided (overlong o size) (tree_kept (same_missed h.1.missed));
        cause = record { subject = the_input; named = refl; over = long.over; held = long.held };
        told = both (too_long size) (tree_kept (same_missed h.1.missed)) (given_long before.holds before.missed now.missed o input_limit size (same_missed h.1.missed) long);
      })
  refused_input (bad_line line rule) (bytes, had, h) = record {
    early = tt;
    asked = asked_both had.asked.asked;
    missed = same_missed had.asked.missed;
    order = undecided (bad_line line rule) (tree_kept (same_missed had.asked.missed));
    cause = tt;
    told = input_told bytes (Err (record { line = line; rule = rule })) had h;
  }
  refused_input (unreadable name) h = rw h.0 (record {
    early = tt;
    asked = last_input h.1.asked;
    missed = same_missed h.1.missed;
    order = undecided (unreadable o) (tree_kept (same_missed h.1.missed));
    cause = rose_since _ _ _ goes.faults h.2;
    told = anywhere before.holds before.missed now.missed;
  })
  refused_input no_memory h = record {
    early = tt;
    asked = cut_at_input h.asked;
    missed = same_missed h.missed;
    order = undecided no_memory (tree_kept (same_missed h.missed));
    cause = tt;
    told = anywhere before.holds before.missed now.missed;
  }

  pub both_prepared : (m : MeshArrays) (bytes : List ℕ) → Had o input_limit middle now bytes → mesh bytes ≡ Ok (plain_of m) → IsPrepared (eval t o) before now (record { mesh = m; plan = planned.plan })
  both_prepared m bytes had h = record {
    asked = asked_both had.asked.asked;
    missed = same_missed had.asked.missed;
    tree = read.tree;
    keeps = read.is.3;
    form = has_form read.tree (is_of_form planned.bytes.items read.is.0 read.tree read.is.1 read.is.2);
    small = spelled_small bytes (plain_of m) h;
    plan = read.plan;
    told = input_told bytes (Ok (plain_of m)) had h;
  }
