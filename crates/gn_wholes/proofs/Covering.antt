-- What plans need is there.
use Rattle.std.proofs.Common.{◌≡◌, ℕ, ◌<◌, ◌≤◌, Bool, true, false, List, [], ◌∷◌, map, Some, refl, subst, arith}
use Rattle.std.specs.Prelude.{slice_get, ◌&&◌, nat_lt}
use Rattle.std.specs.Global.{Vec}
use Rattle.std.proofs.lemmas.Bool.Decides.{Decides-ltb}
use Rattle.gn_value.specs.declared.value.Place.{Place}
use Rattle.gn_value.specs.declared.value.ValueKind.{ValueKind}
use Rattle.gn_node_set.proofs.Lists.{at_image}
use Rattle.gn_plain.specs.Contexts.{Context}
use Rattle.gn_plain.specs.Fields.{Sources, Step, accumulate, at_index, on_domain}
use Rattle.gn_field.specs.Contexts.{place_of}
use Rattle.gn_field.specs.Kinds.{HasKinds, kinds_in, step_takes}
use Rattle.gn_field.specs.declared.input.Step as code
use Rattle.gn_field.specs.declared.step.FieldStep.{FieldStep}
use Rattle.gn_field.specs.declared.step.FieldStep.TheVariants.{Elsewhere}
use Rattle.gn_field.proofs.Grown.{back_at}
use Rattle.gn_field.proofs.Together.{built_at}
use Rattle.gn_field.specs.Steps.{Key, of_constant, of_input, of_apply, of_elsewhere, of_sampled, AreBelow, LeadBack, key_of, keys, named, built, made, exprs_of, step_of}
use Rattle.gn_schedule.specs.declared.places.Places.{Places}
use Rattle.gn_schedule.specs.Plans.{operands, AllAre, IsClosed}
use Rattle.gn_schedule.specs.Asked.{asked, Asks, AsksElsewhere, AreAsked, IsAsking}
use Rattle.gn_schedule.proofs.Reading.{operands_before}
use Rattle.gn_slots.specs.declared.whole.Whole.{Whole}
use Rattle.gn_wholes.specs.Contexts.{moved}
use Rattle.gn_wholes.specs.Covers.{Reaches, AreThere, AreRunnable, CoversRoots, CoversArguments}
use Rattle.gn_wholes.proofs.Places.{reaches_here, covers_here, has_reaches}

both : (a b : Bool) → a ≡ true → b ≡ true → (a && b) ≡ true
both true b e f = f
both false b e f = e

first_of : (a b : Bool) → (a && b) ≡ true → a ≡ true
first_of true b e = refl
first_of false b e = e

second_of : (a b : Bool) → (a && b) ≡ true → b ≡ true
second_of true b e = e
second_of false b e = cc

all_both : (is others : ℕ → Bool) (ks : List ℕ) → AllAre is ks → AllAre others ks → AllAre (λ k. is k && others k) ks
all_both is others [] h i = tt
all_both is others (k ∷ ks) h i = (both (is k) (others k) h.0 i.0, all_both is others ks h.1 i.1)

all_before : (k n : ℕ) (ks : List ℕ) → k ≤ n → AreBelow k ks → AllAre (λ j. nat_lt j n) ks
all_before k n [] le h = tt
all_before k n (j ∷ ks) le h = ((Decides-ltb j n).1 (omega (arith, le, h.0)), all_before k n ks le h.1)

-- the operands of a step are asked for where it is
operand_asks : (table : List Places) (p : Place) (key : Key) → Asks table p key → AllAre (asked table p) (operands key)
operand_asks table p (of_constant v) h = h
operand_asks table p (of_input x) h = h
operand_asks table p (of_apply op args) h = h
operand_asks table p (of_elsewhere x args) h = tt
operand_asks table p (of_sampled path arg) h = h

module _ {S : Type 0} where
  pub all_asked : (xs : List (FieldStep S)) (roots : List ℕ) (place : Place) (table : List Places) → IsAsking xs roots place 0 table → AreAsked xs table
  all_asked xs roots place table m j x p here is = m.each j x p (omega arith) here is

module _ {S : Type 0} (c : Context) (table : List Places) (xs : List (FieldStep S)) (ws : List Whole) (n : ℕ) (back : LeadBack (keys xs)) (asks : AreAsked xs table) (there : AreThere c table xs ws n) where
  -- steps before one that are asked for on a place
  abbrev early : Place → ℕ → Bool
  early q j = asked table q j && nat_lt j n

  early_closed : (q : Place) → IsClosed xs (early q)
  early_closed q j x here is =
      let before : j < n = (Decides-ltb j n).0 (second_of (asked table q j) (nat_lt j n) is) in
      all_both (asked table q) (λ i. nat_lt i n) (operands (key_of x)) (operand_asks table q (key_of x) (asks j x q here (first_of (asked table q j) (nat_lt j n) is))) (all_before j n (operands (key_of x)) (omega (arith, before)) (operands_before xs j x back here))

  -- what plans of some roots on a place need
  pub covers : (q : Place) (roots : List ℕ) → Reaches c q → AreBelow n roots → AllAre (asked table q) roots → CoversRoots (moved c q) xs roots ws
  covers q roots reaches below all is only i x does at here =
      let needed : early q x.step ≡ true = only (early q) (all_both (asked table q) (λ j. nat_lt j n) roots all (all_before n n roots (omega arith) below)) (early_closed q) i x at in
      there x.step does q ((Decides-ltb x.step n).0 (second_of (asked table q x.step) (nat_lt x.step n) needed)) here (first_of (asked table q x.step) (nat_lt x.step n) needed) reaches

  -- what plans of the arguments of a step need that is asked for on the context's place
  pub covers_arguments : (p : Place) (x : Step) (args : List ℕ) → place_of c ≡ Some p → AreBelow n args → AsksElsewhere table p x args → CoversArguments c xs x args ws
  covers_arguments p (accumulate kind q part) args here below all = λ has. covers q args (has_reaches c q has) below all
  covers_arguments p (on_domain kind q) args here below all = λ has. covers q args (has_reaches c q has) below all
  covers_arguments p (at_index kind q) [] here below all = λ has. (covers q [] (has_reaches c q has) tt tt, covers_here c p xs [] ws here (covers p [] (reaches_here c p here) tt tt))
  covers_arguments p (at_index kind q) (value ∷ index) here below all =
      λ has. (covers q (value ∷ []) (has_reaches c q has) (below.0, tt) (all.0, tt), covers_here c p xs index ws here (covers p index (reaches_here c p here) below.1 all.1))

-- ---- a step that reads elsewhere

module _ {S : Type 0} (sources : Sources S) (taken : S → ValueKind) (xs : List (FieldStep S)) (runnable : AreRunnable sources taken xs) (k : ℕ) (step : code.Step) (args : Vec ℕ) (here : slice_get xs k ≡ Some (Elsewhere step args)) where
  pub field_is : named (built xs) k ≡ made (built xs) (Elsewhere step args)
  field_is = built_at xs k (Elsewhere step args) runnable.back here

  pub arguments_before : AreBelow k args.items
  arguments_before = back_at 0 k (keys xs) k (of_elsewhere (step_of step) args.items) (omega arith) runnable.back (at_image key_of xs k (Elsewhere step args) here)

  pub arguments_taken : kinds_in sources (exprs_of (map (named (built xs)) args.items)) ≡ step_takes (step_of step)
  arguments_taken = (subst (HasKinds sources taken) field_is (runnable.kinds k)).0

  pub arguments_covered : (c : Context) (p : Place) (table : List Places) (ws : List Whole) → place_of c ≡ Some p → AreAsked xs table → asked table p k ≡ true → AreThere c table xs ws k → CoversArguments c xs (step_of step) args.items ws
  arguments_covered c p table ws at asks is there =
      covers_arguments c table xs ws k runnable.back asks there p (step_of step) args.items at arguments_before (asks k (Elsewhere step args) p here is)
