-- What registers hold while a plan is run.
use Rattle.std.proofs.Common.{◌≡◌, ◌≢◌, inl, inr, ℕ, zero, suc, ◌+◌, ◌<◌, List, [], ◌∷◌, ◌++◌, length, map, take, Option, Some, None, get_or, set, refl, ap, sym, ◌∙◌, subst, arith}
use Rattle.std.specs.Prelude.{slice_get, All, option_to_list}
use Rattle.std.proofs.lemmas.List.{length-set, take_more}
use Rattle.std.proofs.lemmas.List.Elements.{All-nil, All-cons}
use Rattle.std.proofs.lemmas.Option.{slice_get_within, slice_get_read, get_or_from_slice_get}
use Rattle.gn_node_set.specs.Meanings.{Has}
use Rattle.gn_value.specs.declared.op.Op.{Op}
use Rattle.gn_value.specs.declared.op.Register.{Register}
use Rattle.gn_value.specs.declared.value.ValueKind.{ValueKind}
use Rattle.gn_value.specs.Registers.{register_kind, register_len, register_value, registers_named}
use Rattle.gn_value.specs.Rows.{row}
use Rattle.gn_plain.specs.Contexts.{Context, nowhere, on}
use Rattle.gn_plain.specs.Fields.{Expr, Sources, Reading, at, readings, kind_of_field, kind_of_step}
use Rattle.std.specs.Global.{Vec}
use Rattle.gn_value.specs.Operations.{Takes}
use Rattle.gn_value.specs.Values.{zero_of}
use Rattle.gn_lazy.specs.declared.path.Path.{Path}
use Rattle.gn_field.specs.declared.input.Step.{Step}
use Rattle.gn_field.specs.declared.step.FieldStep.{FieldStep}
use Rattle.gn_field.specs.declared.step.FieldStep.TheVariants.{Apply, Elsewhere, Sampled}
use Rattle.gn_field.specs.Kinds.{HasKinds}
use Rattle.gn_field.specs.Steps.{exprs_of, named, built, made, key_of, kind_at, step_of}
use Rattle.gn_field.proofs.Facts.{made_kind, kinds_are}
use Rattle.gn_field.proofs.Together.{built_at}
use Rattle.gn_schedule.specs.declared.plan.Instruction.{Instruction}
use Rattle.gn_slots.specs.declared.whole.Whole.{Whole}
use Rattle.gn_schedule.specs.Plans.{operands, with_step, held, Hold, IsInstruction}
use Rattle.gn_slots.specs.Registers.{Gives, AllGive, AreSlots, Fits, IsRun, IsReady, CanExecute, IsCovered, IsThereOn}
use Rattle.gn_schedule.proofs.Reading.{one_of}
use Rattle.gn_schedule.proofs.Planning.{set_here, set_others, with_here, with_other, held_on}

-- ---- registers that have the values of fields

module _ {S : Type 0} (sources : Sources S) (c : Context) (ns : List ℕ) where
  pub all_kinds : (es : List (Expr S)) (rs : List Register) → AllGive sources c ns es rs → map register_kind rs ≡ map (kind_of_field sources) es
  all_kinds [] [] h = refl
  all_kinds (e ∷ es) (r ∷ rs) h = let a = h.0.kind in let b = all_kinds es rs h.1 in cc
  all_kinds [] (r ∷ rs) h = absurd h
  all_kinds (e ∷ es) [] h = absurd h

  pub all_long : (es : List (Expr S)) (rs : List Register) → AllGive sources c ns es rs → All (λ r. register_len r ≡ length ns) rs
  all_long [] [] h = All-nil (λ r. register_len r ≡ length ns)
  all_long (e ∷ es) (r ∷ rs) h = All-cons (λ r. register_len r ≡ length ns) r rs h.0.len (all_long es rs h.1)
  all_long [] (r ∷ rs) h = absurd h
  all_long (e ∷ es) [] h = absurd h

  pub all_values : (k : ℕ) → k < length ns → (es : List (Expr S)) (rs : List Register) → AllGive sources c ns es rs → map (register_value k) rs ≡ map (λ (value : Reading). value c (get_or ns k 0)) (readings sources (exprs_of es))
  all_values k within [] [] h = refl
  all_values k within (e ∷ es) (r ∷ rs) h = let a = h.0.values k within in let b = all_values k within es rs h.1 in λ i. a i ∷ b i
  all_values k within [] (r ∷ rs) h = absurd h
  all_values k within (e ∷ es) [] h = absurd h

-- ---- registers of slots

get_named : (registers : List Register) (s : ℕ) (slots : List ℕ) (r : Register) → slice_get registers s ≡ Some r → registers_named registers (s ∷ slots) ≡ r ∷ registers_named registers slots
get_named registers s slots r e = ap (λ o. option_to_list o ++ registers_named registers slots) e

module _ {S : Type 0} (sources : Sources S) (c : Context) (ns : List ℕ) (es : List (Expr S)) (kinds : List ValueKind) (holder : ℕ → Option ℕ) (rs : List Register) (r : IsRun sources es c ns kinds holder rs) (at : ℕ) (v : Register) where
  -- another slot stays while one is taken out
  stays : (s : ℕ) → s ≢ at → slice_get (set rs at v) s ≡ slice_get rs s
  stays s n = set_others rs at s v n

  pub operand_registers : (slots steps : List ℕ) → Hold holder slots steps → ¬ Has slots at → AllGive sources c ns (map (named es) steps) (registers_named (set rs at v) slots)
  operand_registers [] [] h n = tt
  operand_registers (s ∷ slots) (k ∷ steps) h n =
      let w = r.hold s k h.0 in
      let here : slice_get (set rs at v) s ≡ Some w.register = stays s (λ e. n (inl (sym e))) ∙ w.is in
      subst (AllGive sources c ns (named es k ∷ map (named es) steps)) (sym (get_named (set rs at v) s slots w.register here)) (w.gives, operand_registers slots steps h.1 (λ i. n (inr i)))
  operand_registers [] (k ∷ steps) h n = absurd h
  operand_registers (s ∷ slots) [] h n = absurd h

  pub operands_within : (slots steps : List ℕ) → Hold holder slots steps → All (λ s. s < length (set rs at v)) slots
  operands_within [] [] h = All-nil (λ s. s < length (set rs at v))
  operands_within (s ∷ slots) (k ∷ steps) h =
      let w = r.hold s k h.0 in
      All-cons (λ s. s < length (set rs at v)) s slots (omega (arith, slice_get_within rs s w.register w.is, length-set rs at v)) (operands_within slots steps h.1)
  operands_within [] (k ∷ steps) h = absurd h
  operands_within (s ∷ slots) [] h = absurd h

  -- the values of a step are put back
  pub ran : (x : Instruction) (kind : ValueKind) (w : Register) → at ≡ x.into → slice_get kinds x.into ≡ Some kind → kind_of_field sources (named es x.step) ≡ kind → Gives sources c ns (named es x.step) w → IsRun sources es c ns kinds (with_step holder x) (set (set rs at v) at w)
  ran x kind w is slot of_kind gives =
      let old = r.fit x.into kind slot in
      let within : at < length (set rs at v) = omega (arith, is, slice_get_within rs x.into old.register old.is, length-set rs at v) in
      let there : slice_get (set (set rs at v) at w) at ≡ Some w = set_here (set rs at v) at w within in
      let others : (s : ℕ) → s ≢ at → slice_get (set (set rs at v) at w) s ≡ slice_get rs s = λ s n. set_others (set rs at v) at s w n ∙ stays s n in
      record {
        fit = λ s other e. elim (one_of s at) [
          | inl q ↦ record {
            register = w;
            is = ap (slice_get (set (set rs at v) at w)) q ∙ there;
            of_kind = gives.kind ∙ (of_kind ∙ (let f : Some kind ≡ Some other = sym slot ∙ (ap (slice_get kinds) (sym (q ∙ is)) ∙ e) in cc));
            len = gives.len;
          }
          | inr n ↦ (let f = r.fit s other e in record { register = f.register; is = others s n ∙ f.is; of_kind = f.of_kind; len = f.len })
        ];
        hold = λ s k e. elim (one_of s at) [
          | inl q ↦ (let f : Some x.step ≡ Some k = sym (with_here holder x s (q ∙ is)) ∙ e in let g : x.step ≡ k = cc in
              record { register = w; is = ap (slice_get (set (set rs at v) at w)) q ∙ there; gives = subst (λ j. Gives sources c ns (named es j) w) g gives })
          | inr n ↦ (let f = r.hold s k (sym (with_other holder x s (λ q. n (q ∙ sym is))) ∙ e) in record { register = f.register; is = others s n ∙ f.is; gives = f.gives })
        ];
      }

-- ---- what a step gives

module _ {S : Type 0} (sources : Sources S) (taken : S → ValueKind) (xs : List (FieldStep S)) (c : Context) (ns : List ℕ) (ws : List Whole) (ready : IsReady sources taken xs c ns ws) where
  -- the field of a step is what it makes of all
  pub made_at : (k : ℕ) (x : FieldStep S) → slice_get xs k ≡ Some x → named (built xs) k ≡ made (built xs) x
  made_at k x here = built_at xs k x ready.back here

  pub kind_made : (k : ℕ) (x : FieldStep S) → slice_get xs k ≡ Some x → kind_of_field sources (named (built xs) k) ≡ kind_at sources x
  kind_made k x here = ap (kind_of_field sources) (made_at k x here) ∙ made_kind sources (built xs) x

-- ---- registers of kinds

pub slots_more : (n : ℕ) (kinds : List ValueKind) (rs : List Register) (kind : ValueKind) (r : Register) → AreSlots n kinds rs → register_kind r ≡ kind → register_len r ≡ n → AreSlots n (kinds ++ kind ∷ []) (rs ++ r ∷ [])
slots_more n [] [] kind r h of_kind len = ((of_kind, len), tt)
slots_more n (k ∷ kinds) (q ∷ rs) kind r h of_kind len = (h.0, slots_more n kinds rs kind r h.1 of_kind len)
slots_more n [] (q ∷ rs) kind r h of_kind len = absurd h
slots_more n (k ∷ kinds) [] kind r h of_kind len = absurd h

slots_fit : (n : ℕ) (kinds : List ValueKind) (rs : List Register) → AreSlots n kinds rs → (s : ℕ) (kind : ValueKind) → slice_get kinds s ≡ Some kind → Fits rs n s kind
slots_fit n [] [] h s kind e = cc
slots_fit n (k ∷ kinds) (r ∷ rs) h zero kind e = let same : k ≡ kind = cc in record { register = r; is = refl; of_kind = h.0.0 ∙ same; len = h.0.1 }
slots_fit n (k ∷ kinds) (r ∷ rs) h (suc s) kind e = let f = slots_fit n kinds rs h.1 s kind e in record { register = f.register; is = f.is; of_kind = f.of_kind; len = f.len }
slots_fit n [] (r ∷ rs) h s kind e = absurd h
slots_fit n (k ∷ kinds) [] h s kind e = absurd h

-- ---- one instruction more

module _ {S : Type 0} (sources : Sources S) (es : List (Expr S)) (c : Context) (ns : List ℕ) (kinds : List ValueKind) where
  -- nothing is held yet
  pub none_run : (rs : List Register) → AreSlots (length ns) kinds rs → IsRun sources es c ns kinds (held []) rs
  none_run rs slots = record { fit = slots_fit (length ns) kinds rs slots; hold = λ s k e. cc }

  alike : (holder other : ℕ → Option ℕ) (rs : List Register) → ((s : ℕ) → other s ≡ holder s) → IsRun sources es c ns kinds holder rs → IsRun sources es c ns kinds other rs
  alike holder other rs same r = record { fit = r.fit; hold = λ s k e. r.hold s k (sym (same s) ∙ e) }

  pub held_more : (is : List Instruction) (i : ℕ) (x : Instruction) (rs : List Register) → i < length is → slice_get is i ≡ Some x → IsRun sources es c ns kinds (with_step (held (take i is)) x) rs → IsRun sources es c ns kinds (held (take (i + 1) is)) rs
  held_more is i x rs within here r =
      let more : take (i + 1) is ≡ take i is ++ x ∷ [] = take_more is i x within ∙ ap (λ y. take i is ++ y ∷ []) (get_or_from_slice_get is i x x here) in
      subst (λ ys. IsRun sources es c ns kinds (held ys) rs) (sym more) (alike (with_step (held (take i is)) x) (held (take i is ++ x ∷ [])) rs (held_on (λ s. None) (take i is) x) r)

-- ---- one register among few

one_named : (registers : List Register) (slots : List ℕ) (r : Register) → length slots ≡ 1 → slice_get registers (get_or slots 0 0) ≡ Some r → registers_named registers slots ≡ r ∷ []
one_named registers [] r long there = absurd (omega (arith, long))
one_named registers (s ∷ []) r long there = get_named registers s [] r there
one_named registers (s ∷ t ∷ slots) r long there = absurd (omega (arith, long))

covered_there : (S : Type 0) (c : Context) (ws : List Whole) (k : ℕ) (step : Step) (args : Vec ℕ) → IsCovered {S = S} c ws k (Elsewhere step args) → IsThereOn c ws k
covered_there S nowhere ws k step args h = tt
covered_there S (on c p) ws k step args h = h

pub hold_long : (holder : ℕ → Option ℕ) (slots steps : List ℕ) → Hold holder slots steps → length slots ≡ length steps
hold_long holder [] [] h = refl
hold_long holder (s ∷ slots) (k ∷ steps) h = ap suc (hold_long holder slots steps h.1)
hold_long holder [] (k ∷ steps) h = absurd h
hold_long holder (s ∷ slots) [] h = absurd h

-- ---- one instruction of a plan

module _ {S : Type 0} (sources : Sources S) (taken : S → ValueKind) (xs : List (FieldStep S)) (c : Context) (ns : List ℕ) (ws : List Whole) (ready : IsReady sources taken xs c ns ws) (kinds : List ValueKind) (holder : ℕ → Option ℕ) (rs : List Register) (r : IsRun sources (built xs) c ns kinds holder rs) (x : Instruction) (i : IsInstruction sources xs kinds holder x) where
  pub slot_within : x.into < length rs
  slot_within = let old = r.fit x.into (kind_at sources i.does) i.kind in slice_get_within rs x.into old.register old.is

  -- another register is in the slot while the instruction runs
  pub can_execute : (v into : Register) → slice_get rs x.into ≡ Some into → IsCovered c ws x.step i.does → CanExecute sources xs c ns ws x (set rs x.into v) into
  can_execute v into out covered =
      let old = r.fit x.into (kind_at sources i.does) i.kind in
      let e : Some old.register ≡ Some into = sym old.is ∙ out in
      let same : old.register ≡ into = cc in
      record {
        does = i.does;
        step = i.step;
        within = operands_within sources c ns (built xs) kinds holder rs r x.into v x.args.items (operands (key_of i.does)) i.args;
        count = hold_long holder x.args.items (operands (key_of i.does)) i.args;
        args = operand_registers sources c ns (built xs) kinds holder rs r x.into v x.args.items (operands (key_of i.does)) i.args i.apart;
        covered = covered;
        kind = ap register_kind (sym same) ∙ old.of_kind;
        len = ap register_len (sym same) ∙ old.len;
      }

  pub ran_one : (v w : Register) → Gives sources c ns (named (built xs) x.step) w → IsRun sources (built xs) c ns kinds (with_step holder x) (set (set rs x.into v) x.into w)
  ran_one v w gives = ran sources c ns (built xs) kinds holder rs r x.into v x (kind_at sources i.does) w refl i.kind (kind_made sources taken xs c ns ws ready x.step i.does i.step) gives

-- ---- what an instruction does

-- a step that was read from a list is there
pub here_is : {S : Type 0} (xs : List (FieldStep S)) (k : ℕ) (x y : FieldStep S) → k < length xs → x ≡ get_or xs k x → x ≡ y → slice_get xs k ≡ Some y
here_is xs k x y within is same = slice_get_read xs (length xs) k x refl within is ∙ ap Some same

module _ {S : Type 0} (sources : Sources S) (taken : S → ValueKind) (xs : List (FieldStep S)) (c : Context) (ns : List ℕ) (ws : List Whole) (ready : IsReady sources taken xs c ns ws) (x : Instruction) (registers : List Register) (into : Register) (can : CanExecute sources xs c ns ws x registers into) where
  same_does : (does : FieldStep S) → slice_get xs x.step ≡ Some does → can.does ≡ does
  same_does does here = let e : Some can.does ≡ Some does = sym can.step ∙ here in cc

  pub kind_here : (does : FieldStep S) → slice_get xs x.step ≡ Some does → register_kind into ≡ kind_at sources does
  kind_here does here = can.kind ∙ ap (kind_at sources) (same_does does here)

  pub args_here : (does : FieldStep S) → slice_get xs x.step ≡ Some does → AllGive sources c ns (map (named (built xs)) (operands (key_of does))) (registers_named registers x.args.items)
  args_here does here = subst (λ d. AllGive sources c ns (map (named (built xs)) (operands (key_of d))) (registers_named registers x.args.items)) (same_does does here) can.args

  pub covered_here : (does : FieldStep S) → slice_get xs x.step ≡ Some does → IsCovered c ws x.step does
  covered_here does here = subst (IsCovered c ws x.step) (same_does does here) can.covered

  kinds_here : (does : FieldStep S) → slice_get xs x.step ≡ Some does → HasKinds sources taken (made (built xs) does)
  kinds_here does here = subst (HasKinds sources taken) (made_at sources taken xs c ns ws ready x.step does here) (ready.kinds x.step)

  -- a register of what a step makes has the values of its field
  pub gives_at : (does : FieldStep S) → slice_get xs x.step ≡ Some does → (r : Register) → register_kind r ≡ register_kind into → register_len r ≡ register_len into → ((i : ℕ) → i < register_len into → register_value i r ≡ at sources (made (built xs) does) c (get_or ns i 0)) → Gives sources c ns (named (built xs) x.step) r
  gives_at does here r kind len values = record {
    kind = kind ∙ (kind_here does here ∙ sym (kind_made sources taken xs c ns ws ready x.step does here));
    len = len ∙ can.len;
    values = λ i h. values i (subst (λ n. i < n) (sym can.len) h) ∙ ap (λ e. at sources e c (get_or ns i 0)) (sym (made_at sources taken xs c ns ws ready x.step does here));
  }

  -- ---- an operation

  module _ (op : Op) (args : Vec ℕ) (here : slice_get xs x.step ≡ Some (Apply op args)) where
    abbrev fields : List (Expr S)
    fields = map (named (built xs)) args.items

    pub operands_long : All (λ r. register_len r ≡ register_len into) (registers_named registers x.args.items)
    operands_long = subst (λ n. All (λ r. register_len r ≡ n) (registers_named registers x.args.items)) (sym can.len) (all_long sources c ns fields (registers_named registers x.args.items) (args_here (Apply op args) here))

    pub operands_taken : Takes op (map register_kind (registers_named registers x.args.items))
    operands_taken = subst (Takes op) (kinds_are sources fields ∙ sym (all_kinds sources c ns fields (registers_named registers x.args.items) (args_here (Apply op args) here))) (kinds_here (Apply op args) here).0

    pub rows : (i : ℕ) → i < register_len into → row op (map (register_value i) (registers_named registers x.args.items)) ≡ at sources (made (built xs) (Apply op args)) c (get_or ns i 0)
    rows i h = ap (row op) (all_values sources c ns i (subst (λ n. i < n) can.len h) fields (registers_named registers x.args.items) (args_here (Apply op args) here))

  -- ---- a sample

  module _ (tag : Path) (source : S) (arg : ℕ) (here : slice_get xs x.step ≡ Some (Sampled tag source arg)) where
    pub one_operand : length x.args.items ≡ 1
    one_operand = can.count ∙ ap (λ d. length (operands (key_of d))) (same_does (Sampled tag source arg) here)

    pub operand_gives : (r : Register) → slice_get registers (get_or x.args.items 0 0) ≡ Some r → Gives sources c ns (named (built xs) arg) r
    operand_gives r there =
        (subst (AllGive sources c ns (named (built xs) arg ∷ [])) (one_named registers x.args.items r one_operand there) (args_here (Sampled tag source arg) here)).0

    pub operand_taken : (r : Register) → slice_get registers (get_or x.args.items 0 0) ≡ Some r → register_kind r ≡ taken source
    operand_taken r there = (operand_gives r there).kind ∙ (kinds_here (Sampled tag source arg) here).0

    pub samples : (r : Register) → slice_get registers (get_or x.args.items 0 0) ≡ Some r → (i : ℕ) → i < register_len into → sources.value source (register_value i r) ≡ at sources (made (built xs) (Sampled tag source arg)) c (get_or ns i 0)
    samples r there i h = ap (sources.value source) ((operand_gives r there).values i (subst (λ n. i < n) can.len h))

  -- ---- a step that reads elsewhere

  module _ (step : Step) (args : Vec ℕ) (here : slice_get xs x.step ≡ Some (Elsewhere step args)) where
    pub zero_nowhere : (i : ℕ) → at sources (named (built xs) x.step) nowhere i ≡ zero_of (kind_of_step (step_of step))
    zero_nowhere i = ap (λ e. at sources e nowhere i) (made_at sources taken xs c ns ws ready x.step (Elsewhere step args) here)

    pub there_here : IsThereOn c ws x.step
    there_here = covered_there S c ws x.step step args (covered_here (Elsewhere step args) here)
