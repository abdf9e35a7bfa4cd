-- Commands, ends and what files lead to, by computation.
use Rattle.std.proofs.Common.{◌≡◌, List, [], ◌∷◌, ◌++◌, Some, None, Ok, Err, codes, refl, ap, option_map, inl, arith}
use Rattle.gn_io.specs.Files.{absent, too_long}
use Rattle.gn_app.specs.declared.status.Status.TheVariants.{TreeForm}
use Rattle.gn_app.specs.Status.{code_of}
use Rattle.gn_kinds.specs.Row.{Text}
use Rattle.gn_app.specs.Command.{Command, eval, check, help, version, Spells, Misfits, StrayMisfit, files_of}
use Rattle.gn_app.specs.Ending.{done, misused, no_file, unreadable, unwritable, no_json, overlong, not_built, said_of, line_of}
use Rattle.gn_app.specs.Job.{Leads, writing, help_text}
use Rattle.gn_app.specs.Outcome.{Taken, AsksFor, IsLastAsked, the_tree, StopsAtTree, EndsAs, WritesLate, RunsLate}

words_of_eval : Spells (codes "eval" ∷ codes "t.json" ∷ codes "in.obj" ∷ []) (eval (codes "t.json") (codes "in.obj"))
words_of_eval = refl

two_files : files_of (eval (codes "t.json") (codes "in.obj")) ≡ codes "t.json" ∷ codes "in.obj" ∷ []
two_files = refl

one_file : files_of (eval (codes "t.json") (codes "t.json")) ≡ codes "t.json" ∷ []
one_file = refl

no_tree : Leads (λ limit name. absent) (eval (codes "t.json") (codes "in.obj")) (Err (no_file (codes "t.json")))
no_tree = (Err (no_file (codes "t.json")), refl, refl)

-- a tree of one byte more than four mebibytes
long_tree : Leads (λ limit name. too_long 4194305) (check (codes "t.json")) (Err (overlong (codes "t.json") 4194305))
long_tree = (Err (overlong (codes "t.json") 4194305), refl, refl)

help_needs_no_file : Leads (λ limit name. absent) help (Ok (writing help_text))
help_needs_no_file = refl

checked_tree_is_asked_for : IsLastAsked (check (codes "t.json")) (codes "t.json") (Some []) (Some (codes "t.json" ∷ []))
checked_tree_is_asked_for = record { subject = the_tree; named = refl; asked = refl }

asks_for_both : AsksFor (eval (codes "t") (codes "o")) done (Some []) (Some (codes "t" ∷ codes "o" ∷ []))
asks_for_both = refl

line_of_a_word : option_map line_of (said_of (misused (Some (codes "65")))) ≡ Some (codes "geonodes: usage: unexpected 65\n")
line_of_a_word = refl

line_of_no_json : option_map line_of (said_of no_json) ≡ Some (codes "geonodes: tree text\n")
line_of_no_json = refl

nothing_is_said : said_of done ≡ None
nothing_is_said = refl

-- the operand of `eval` is missing
more_expected : Misfits (codes "eval" ∷ codes "t.json" ∷ []) None
more_expected = record { command = eval (codes "t.json") (codes "o"); more = codes "o" ∷ []; spelled = refl }

code_of_a_form : code_of TreeForm ≡ 7
code_of_a_form = refl

-- `--help` takes no operand
behind_help : (c : Command) (more : List Text) → Spells ((codes "--help" ∷ codes "me" ∷ []) ++ more) c → ⊥
behind_help (eval t o) more h = cc
behind_help (check t) more h = cc
behind_help help more h = cc
behind_help version more h = cc

one_word_too_many : Misfits (codes "--help" ∷ codes "me" ∷ codes "now" ∷ []) (Some (codes "me"))
one_word_too_many = record {
  front = codes "--help" ∷ [];
  back = codes "now" ∷ [];
  parts = refl;
  fits = record { command = help; more = []; spelled = refl };
  unfit = λ b. behind_help b.command b.more b.spelled;
}

-- the misfit before a word that is no text is the one that is named
a_misfit_before_a_stray : StrayMisfit (codes "--help" ∷ codes "me" ∷ codes "now" ∷ []) (255 ∷ []) (codes "me")
a_misfit_before_a_stray = inl one_word_too_many

-- ---- how a run may end that the files lead to an absent tree

ends_as_it_must : EndsAs (no_file (codes "t")) ⊥ ⊥ (no_file (codes "t"))
ends_as_it_must = refl

not_as_another : ¬ EndsAs (no_file (codes "t")) (Unit {0}) (Unit {0}) not_built
not_as_another h = cc

no_fault_without_a_cause : ¬ EndsAs (no_file (codes "t")) ⊥ ⊥ (unreadable (codes "t"))
no_fault_without_a_cause h = h

nothing_to_write : ¬ EndsAs (no_file (codes "t")) (Unit {0}) (Unit {0}) (unwritable 0)
nothing_to_write h = let bad = h.1 in cc

-- ---- where the tree decides, the input isn't asked for

the_tree_is_unreadable : StopsAtTree (eval (codes "t") (codes "o")) (unreadable (codes "t")) (Some []) (Some (codes "t" ∷ []))
the_tree_is_unreadable = (refl, refl)

not_the_input : ¬ StopsAtTree (eval (codes "t") (codes "o")) (unreadable (codes "o")) (Some []) (Some (codes "t" ∷ codes "o" ∷ []))
not_the_input h = let bad = h.1 in cc

-- ---- the output and the node runs

abbrev taken : Text → Taken
taken text = record { held = Some text; faults = 0 }

the_end_is_written : WritesLate done (taken (codes "v")) (taken (codes "v 0"))
the_end_is_written = (codes " 0", refl)

no_byte_before_a_refusal : ¬ WritesLate no_json (taken []) (taken (codes "v"))
no_byte_before_a_refusal h = let bad : Some (codes "v") ≡ Some [] = ap (λ t. t.held) h in cc

no_run_before_a_refusal : ¬ RunsLate no_json 0 1
no_run_before_a_refusal h = absurd (omega (arith, h))

runs_of_what_is_done : RunsLate done 0 1
runs_of_what_is_done = omega arith
