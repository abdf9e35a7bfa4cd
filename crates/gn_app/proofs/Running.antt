-- What a run of a command comes to.
use Rattle.std.proofs.Common.{◌≡◌, ℕ, ◌+◌, List, [], length, take, Result, Ok, Err, refl, sym, ap, ◌∙◌, arith}
use Rattle.std.proofs.Math.Seq.{take-length}
use Rattle.std.proofs.lemmas.List.{length-take-le}
use Rattle.gn_io.specs.Outside.{stopped, Rose, with_bytes}
use Rattle.gn_io.specs.Sink.{OnFailedPut}
use Rattle.gn_io.specs.declared.sink.Put.{Put}
use Rattle.gn_io.specs.declared.sink.Put.TheVariants.{All, Failed}
use Rattle.gn_kinds.specs.Row.{Text}
use Rattle.gn_tree.specs.Trees.{Tree}
use Rattle.gn_geom.specs.Meshes.{plain_of}
use Rattle.gn_geom.specs.Geometries.{GeometryArrays, plain_geometry}
use Rattle.gn_plans.specs.Answers.{plan_of}
use Rattle.gn_obj.specs.Pages.{TakesText}
use Rattle.gn_obj.specs.Written.{obj_text}
use Rattle.gn_app.specs.declared.load.Prepared.{Prepared}
use Rattle.gn_app.specs.Seen.{put_ending}
use Rattle.gn_app.specs.Command.{Command, check, help, version, files_of}
use Rattle.gn_app.specs.Ending.{Ending, done, misused, no_file, unreadable, unwritable, no_json, misformed, bad_line, overlong, not_built, no_memory}
use Rattle.gn_app.specs.Job.{Job, evaluation, writing, Giving, Leads, TreeDecides, ok_text, help_text, version_text, IsTree, tree_limit}
use Rattle.gn_plan_laws.specs.Made.{made, runs_of}
use Rattle.gn_app.specs.Meaning.{ComesTo, TakesRuns, answers}
use Rattle.gn_app.specs.Outcome.{Outside, with_names, HasCause, EndsAs, WritesLate, RunsLate, WritesPart, Does, Ends, StopsAtTree}
use Rattle.gn_app.specs.Run.{Told, IsRunOf, ending_for}
use Rattle.gn_app.specs.Load.{Goes, Had, LeadsAway, ComesEarly, Unprepared, IsPrepared}
use Rattle.gn_app.proofs.Telling.{told_map}
use Rattle.gn_app.proofs.Leading.{leads_to_one, no_job}
use Rattle.gn_app.proofs.Preparing.{one_name, no_names, told_checked}
use Rattle.gn_plan_laws.proofs.Planned.{plan_stands, plan_demands}

module _ (c : Command) (before now : Outside) where
  -- what a run that ends before its output leaves
  pub record Stays : Type 0 where
    pub output : now.output ≡ before.output
    pub runs : now.runs ≡ before.runs
    pub copies : now.copies ≡ before.copies

  abbrev EndsAt : Ending → Ending → Type 0
  EndsAt wanted e = EndsAs wanted (Rose before.shelf.faults now.shelf.faults) (Rose before.output.faults now.output.faults) e

  abbrev Fixed : Giving → Ending → Type 0
  Fixed files e = (r : Result Job Ending) → Leads files c r → EndsAt (ending_for r) e

  same_end : (files : Giving) (r r' : Result Job Ending) → Leads files c r → Leads files c r' → ending_for r ≡ ending_for r'
  same_end files r r' h k = ap ending_for (leads_to_one files c r r' h k)

  -- ---- an end before the output

  early_ends : (files : Giving) (e : Ending) → LeadsAway files c e → Ends files c before now e
  early_ends files done h = absurd h
  early_ends files (unwritable taken) h = absurd h
  early_ends files (misused word) h = absurd h
  early_ends files (unreadable name) h = tt
  early_ends files no_memory h = tt
  early_ends files (no_file name) h = h
  early_ends files no_json h = h
  early_ends files (misformed rule place) h = h
  early_ends files (bad_line line rule) h = h
  early_ends files (overlong name size) h = h
  early_ends files not_built h = h

  early_fixed : (files : Giving) (e : Ending) → HasCause c before.shelf now.shelf e → LeadsAway files c e → Fixed files e
  early_fixed files done cause h r k = absurd h
  early_fixed files (unwritable taken) cause h r k = absurd h
  early_fixed files (misused word) cause h r k = absurd h
  early_fixed files (unreadable name) cause h r k = cause
  early_fixed files no_memory cause h r k = tt
  early_fixed files (no_file name) cause h r k = same_end files (Err (no_file name)) r h k
  early_fixed files no_json cause h r k = same_end files (Err no_json) r h k
  early_fixed files (misformed rule place) cause h r k = same_end files (Err (misformed rule place)) r h k
  early_fixed files (bad_line line rule) cause h r k = same_end files (Err (bad_line line rule)) r h k
  early_fixed files (overlong name size) cause h r k = same_end files (Err (overlong name size)) r h k
  early_fixed files not_built cause h r k = same_end files (Err not_built) r h k

  early_late : (e : Ending) → ComesEarly e → Stays → WritesLate e before.output now.output × RunsLate e before.runs now.runs
  early_late done h stays = absurd h
  early_late (unwritable taken) h stays = absurd h
  early_late (misused word) h stays = absurd h
  early_late (unreadable name) h stays = (stays.output, stays.runs)
  early_late no_memory h stays = (stays.output, stays.runs)
  early_late (no_file name) h stays = (stays.output, stays.runs)
  early_late no_json h stays = (stays.output, stays.runs)
  early_late (misformed rule place) h stays = (stays.output, stays.runs)
  early_late (bad_line line rule) h stays = (stays.output, stays.runs)
  early_late (overlong name size) h stays = (stays.output, stays.runs)
  early_late not_built h stays = (stays.output, stays.runs)

  pub cut_short : Goes before.shelf now.shelf → Stays → (e : Ending) → Unprepared c before.shelf now.shelf e → IsRunOf c e before now
  cut_short goes stays e h = record {
    ends = told_map c before.shelf now.shelf (λ files. LeadsAway files c e) (λ files. Ends files c before now e) (λ files. early_ends files e) h.told;
    exact = told_map c before.shelf now.shelf (λ files. LeadsAway files c e) (λ files. Fixed files e) (λ files. early_fixed files e h.cause) h.told;
    cause = h.cause;
    asked = h.asked;
    missed = h.missed;
    order = h.order;
    writes_late = (early_late e h.early stays).0;
    runs_late = (early_late e h.early stays).1;
    copies = stays.copies;
    holds = goes.holds;
  }

  -- ---- an end at the output

  -- where there is a job, the tree doesn't decide
  beyond_tree : (e : Ending) (work : Job) → Told c before.shelf now.shelf (λ files. Leads files c (Ok work)) → Told c before.shelf now.shelf (λ files. TreeDecides files c → StopsAtTree c e before.shelf.asked now.shelf.asked)
  beyond_tree e work =
      told_map c before.shelf now.shelf (λ files. Leads files c (Ok work)) (λ files. TreeDecides files c → StopsAtTree c e before.shelf.asked now.shelf.asked) (λ files leads d. absurd (no_job files c work leads d))

  -- all is known but how the text of the job went in
  pub record Reaches (text : Text) : Type 0 where
    pub asked : now.shelf.asked ≡ with_names before.shelf.asked (files_of c)
    pub missed : now.shelf.missed ≡ before.shelf.missed
    pub holds : now.shelf.holds ≡ before.shelf.holds
    pub work : Job
    pub told : Told c before.shelf now.shelf (λ files. Leads files c (Ok work))
    pub comes : (files : Giving) → ComesTo files work text
    pub demanded : ℕ
    pub takes : (files : Giving) → TakesRuns files work demanded
    pub runs : now.runs ≡ before.runs + demanded
    pub copies : now.copies ≡ before.copies

  does : (text : Text) (h : Reaches text) (Writes : Text → Type 0) → Writes text → (files : Giving) → Leads files c (Ok h.work) → Does files c before now Writes
  does text h Writes w files leads = record {
    job = h.work;
    leads = leads;
    text = text;
    comes = h.comes files;
    writes = w;
    demanded = h.demanded;
    takes = h.takes files;
    runs = h.runs;
  }

  pub written : (text : Text) → Reaches text → (put : Put) → TakesText text put before.output.held now.output.held → OnFailedPut put (Rose before.output.faults now.output.faults) → IsRunOf c (put_ending put) before now
  written text h All e rose = record {
    ends = told_map c before.shelf now.shelf (λ files. Leads files c (Ok h.work)) (λ files. Ends files c before now done) (does text h (λ x. now.output.held ≡ with_bytes before.output.held x) e) h.told;
    exact = told_map c before.shelf now.shelf (λ files. Leads files c (Ok h.work)) (λ files. Fixed files done) (λ files l r k. same_end files (Ok h.work) r l k) h.told;
    cause = tt;
    asked = h.asked;
    missed = h.missed;
    order = beyond_tree done h.work h.told;
    writes_late = (text, e);
    runs_late = omega (arith, h.runs);
    copies = h.copies;
    holds = h.holds;
  }
  written text h (Failed taken) e rose = record {
    ends = told_map c before.shelf now.shelf (λ files. Leads files c (Ok h.work)) (λ files. Ends files c before now (unwritable taken)) (does text h (WritesPart taken before.output.held now.output.held) e) h.told;
    exact = told_map c before.shelf now.shelf (λ files. Leads files c (Ok h.work)) (λ files. Fixed files (unwritable taken)) (λ files l r k. (rose, sym (same_end files (Ok h.work) r l k))) h.told;
    cause = tt;
    asked = h.asked;
    missed = h.missed;
    order = beyond_tree (unwritable taken) h.work h.told;
    writes_late = record { piece = take e.0 text; output = e.2; length_is = e.3 ∙ ap stopped (sym (length-take-le e.0 text e.1)); rose = rose };
    runs_late = omega (arith, h.runs);
    copies = h.copies;
    holds = h.holds;
  }

  -- there is no memory for what the tree gives out
  pub not_made : Goes before.shelf now.shelf → Stays → (p : Prepared) → IsPrepared c before.shelf now.shelf p → IsRunOf c no_memory before now
  not_made goes stays p h =
      let all : files_of c ≡ take (length (files_of c)) (files_of c) = sym (take-length (files_of c)) in
      cut_short goes stays no_memory (record {
        early = tt;
        asked = (length (files_of c), h.asked ∙ ap (with_names before.shelf.asked) all);
        missed = h.missed;
        order = beyond_tree no_memory (evaluation h.tree (plain_of p.mesh)) h.told;
        cause = tt;
        told = told_map c before.shelf now.shelf (λ files. Leads files c (Ok (evaluation h.tree (plain_of p.mesh)))) (λ files. LeadsAway files c no_memory) (λ files l. tt) h.told;
      })

  -- a tree is evaluated
  pub evaluated : Goes before.shelf now.shelf → (p : Prepared) → IsPrepared c before.shelf now.shelf p → now.runs ≡ before.runs + runs_of (plan_of p.plan) → now.copies ≡ before.copies → (g : GeometryArrays) → plain_geometry g ≡ made (plan_of p.plan) (plain_of p.mesh) → (put : Put) → TakesText (obj_text (plain_geometry g)) put before.output.held now.output.held → OnFailedPut put (Rose before.output.faults now.output.faults) → IsRunOf c (put_ending put) before now
  evaluated goes p h runs copies g is put e rose = written (obj_text (plain_geometry g)) (record {
    asked = h.asked;
    missed = h.missed;
    holds = goes.holds;
    work = evaluation h.tree (plain_of p.mesh);
    told = h.told;
    comes = λ files. record {
      geometry = made (plan_of p.plan) (plain_of p.mesh);
      denotes = plan_stands (answers files) h.tree (plain_of p.mesh) (plan_of p.plan) h.keeps h.form h.small h.plan;
      is = ap obj_text is;
    };
    demanded = runs_of (plan_of p.plan);
    takes = λ files. plan_demands (answers files) h.tree (plain_of p.mesh) (plan_of p.plan) h.keeps h.form h.small h.plan;
    runs = runs;
    copies = copies;
  }) put e rose

-- a tree is checked
pub was_checked : (t : Text) (before now : Outside) (bytes : List ℕ) (tree : Tree) → Goes before.shelf now.shelf → Had t tree_limit before.shelf now.shelf bytes → IsTree bytes tree → now.runs ≡ before.runs → now.copies ≡ before.copies → (put : Put) → TakesText ok_text put before.output.held now.output.held → OnFailedPut put (Rose before.output.faults now.output.faults) → IsRunOf (check t) (put_ending put) before now
was_checked t before now bytes tree goes had is runs copies put e rose = written (check t) before now ok_text (record {
  asked = had.asked.asked ∙ one_name before.shelf.asked t;
  missed = had.asked.missed;
  holds = goes.holds;
  work = writing ok_text;
  told = told_checked t before.shelf now.shelf bytes tree had is;
  comes = λ files. refl;
  demanded = 0;
  takes = λ files. refl;
  runs = omega (arith, runs);
  copies = copies;
}) put e rose

-- a text that is at hand is written, and no file is asked for
module _ (before now : Outside) (shelf : now.shelf ≡ before.shelf) (runs : now.runs ≡ before.runs) (copies : now.copies ≡ before.copies) where
  at_hand : (c : Command) (text : Text) → files_of c ≡ [] → Told c before.shelf now.shelf (λ files. Leads files c (Ok (writing text))) → (put : Put) → TakesText text put before.output.held now.output.held → OnFailedPut put (Rose before.output.faults now.output.faults) → IsRunOf c (put_ending put) before now
  at_hand c text none told put e rose = written c before now text (record {
    asked = ap (λ s. s.asked) shelf ∙ no_names before.shelf.asked ∙ ap (with_names before.shelf.asked) (sym none);
    missed = ap (λ s. s.missed) shelf;
    holds = ap (λ s. s.holds) shelf;
    work = writing text;
    told = told;
    comes = λ files. refl;
    demanded = 0;
    takes = λ files. refl;
    runs = omega (arith, runs);
    copies = copies;
  }) put e rose

  pub helped : (put : Put) → TakesText help_text put before.output.held now.output.held → OnFailedPut put (Rose before.output.faults now.output.faults) → IsRunOf help (put_ending put) before now
  helped = at_hand help help_text refl (λ files. refl)

  pub versioned : (put : Put) → TakesText version_text put before.output.held now.output.held → OnFailedPut put (Rose before.output.faults now.output.faults) → IsRunOf version (put_ending put) before now
  versioned = at_hand version version_text refl (λ files. refl)
