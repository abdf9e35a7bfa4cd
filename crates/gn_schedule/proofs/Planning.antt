-- Slots, and the steps whose values they hold.
use Rattle.std.proofs.Common.{◌≡◌, ◌≢◌, ◌⊎◌, inl, inr, ℕ, zero, suc, ◌+◌, ◌<◌, ◌≤◌, ◌==◌, Bool, true, false, List, [], ◌∷◌, ◌++◌, length, map, take, Option, Some, None, get_or, set, refl, ap, sym, ◌∙◌, subst, arith}
use Rattle.std.specs.Prelude.{slice_get}
use Rattle.std.proofs.lemmas.Bool.Decides.{Decides-eqb}
use Rattle.std.proofs.lemmas.List.{length-append, length-set}
use Rattle.std.proofs.lemmas.Option.{slice_get_within, get_or_from_slice_get}
use Rattle.gn_node_set.specs.Meanings.{Has}
use Rattle.gn_value.specs.declared.value.ValueKind.{ValueKind}
use Rattle.gn_plain.specs.Fields.{Sources}
use Rattle.gn_field.specs.declared.step.FieldStep.{FieldStep}
use Rattle.gn_field.specs.Steps.{AreBelow, LeadBack, key_of, keys, kind_at}
use Rattle.gn_field.proofs.Grown.{get_before, get_last}
use Rattle.gn_schedule.specs.declared.plan.Instruction.{Instruction}
use Rattle.gn_schedule.specs.declared.plan.Planning.{Planning}
use Rattle.gn_schedule.specs.Plans.{operands, AllReadBy, AreReaders, with_step, held_after, held, Hold, IsInstruction, AreInstructions, IsFree, IsTaken, IsPlanning}
use Rattle.gn_schedule.proofs.Reading.{one_of, operands_before}

-- ---- members of lists

module _ {A : Type 0} where
  pub get_first : (xs : List A) (y x : A) (j : ℕ) → slice_get xs j ≡ Some x → slice_get (xs ++ y ∷ []) j ≡ Some x
  get_first [] y x j e = cc
  get_first (z ∷ xs) y x zero e = e
  get_first (z ∷ xs) y x (suc j) e = get_first xs y x j e

  pub get_end : (xs : List A) (y : A) → slice_get (xs ++ y ∷ []) (length xs) ≡ Some y
  get_end [] y = refl
  get_end (z ∷ xs) y = get_end xs y

  get_others : (xs : List A) (y : A) (j : ℕ) → j ≢ length xs → slice_get (xs ++ y ∷ []) j ≡ slice_get xs j
  get_others [] y zero n = absurd (n refl)
  get_others [] y (suc j) n = refl
  get_others (z ∷ xs) y zero n = refl
  get_others (z ∷ xs) y (suc j) n = get_others xs y j (λ e. n (ap suc e))

  pub set_here : (xs : List A) (s : ℕ) (v : A) → s < length xs → slice_get (set xs s v) s ≡ Some v
  set_here [] s v h = absurd (omega arith)
  set_here (z ∷ xs) zero v h = refl
  set_here (z ∷ xs) (suc s) v h = set_here xs s v (omega arith)

  pub set_others : (xs : List A) (s j : ℕ) (v : A) → j ≢ s → slice_get (set xs s v) j ≡ slice_get xs j
  set_others [] s j v n = refl
  set_others (z ∷ xs) zero zero v n = absurd (n refl)
  set_others (z ∷ xs) zero (suc j) v n = refl
  set_others (z ∷ xs) (suc s) zero v n = refl
  set_others (z ∷ xs) (suc s) (suc j) v n = set_others xs s j v (λ e. n (ap suc e))

  -- a member of a list with one more is a member before, or the last
  pub pushed : (xs : List A) (y x : A) (j : ℕ) → slice_get (xs ++ y ∷ []) j ≡ Some x → ((slice_get xs j ≡ Some x) × (take j (xs ++ y ∷ []) ≡ take j xs)) ⊎ ((y ≡ x) × (take j (xs ++ y ∷ []) ≡ xs))
  pushed [] y x zero e = inr (cc, refl)
  pushed [] y x (suc j) e = cc
  pushed (z ∷ xs) y x zero e = inl (e, refl)
  pushed (z ∷ xs) y x (suc j) e = elim (pushed xs y x j e) [
    | inl t ↦ inl (t.0, ap (λ ys. z ∷ ys) t.1)
    | inr t ↦ inr (t.0, ap (λ ys. z ∷ ys) t.1)
  ]

-- ---- what a slot holds

not_true : (b : Bool) → ¬ (b ≡ true) → b ≡ false
not_true true n = absurd (n refl)
not_true false n = refl

pub with_here : (h : ℕ → Option ℕ) (x : Instruction) (s : ℕ) → s ≡ x.into → with_step h x s ≡ Some x.step
with_here h x s e = let t : (s == x.into) ≡ true = (Decides-eqb s x.into).1 e in rw t refl

pub with_other : (h : ℕ → Option ℕ) (x : Instruction) (s : ℕ) → s ≢ x.into → with_step h x s ≡ h s
with_other h x s n = let t : (s == x.into) ≡ false = not_true (s == x.into) (λ q. n ((Decides-eqb s x.into).0 q)) in rw t refl

pub held_on : (h : ℕ → Option ℕ) (xs : List Instruction) (x : Instruction) (s : ℕ) → held_after h (xs ++ x ∷ []) s ≡ with_step (held_after h xs) x s
held_on h [] x s = refl
held_on h (y ∷ xs) x s = held_on (with_step h y) xs x s

-- ---- a slot is taken

pub takes_free : (readers : List ℕ) (kind : ValueKind) (k s : ℕ) (kinds : List ValueKind) (holds : List ℕ) → length kinds ≡ length holds → IsFree kinds holds readers kind k s → IsTaken readers kind k s kinds kinds holds (set holds s k)
takes_free readers kind k s kinds holds long f = record {
  long = long ∙ sym (length-set holds s k);
  of_kind = f.of_kind;
  holder = set_here holds s k f.within;
  stays = λ j x h. h;
  others = λ j n. set_others holds s j k n;
  past = λ j h. let q : get_or holds s 0 ≡ j = get_or_from_slice_get holds s j 0 h in omega (arith, f.past, ap (λ n. get_or readers n 0) q);
  few = omega (arith, length-set holds s k);
}

pub takes_new : (readers : List ℕ) (kind : ValueKind) (k s : ℕ) (kinds : List ValueKind) (holds : List ℕ) → length kinds ≡ length holds → s ≡ length holds → IsTaken readers kind k s kinds (kinds ++ kind ∷ []) holds (holds ++ k ∷ [])
takes_new readers kind k s kinds holds long at = record {
  long = omega (arith, long, length-append kinds (kind ∷ []), length-append holds (k ∷ []));
  of_kind = subst (λ n. slice_get (kinds ++ kind ∷ []) n ≡ Some kind) (long ∙ sym at) (get_end kinds kind);
  holder = subst (λ n. slice_get (holds ++ k ∷ []) n ≡ Some k) (sym at) (get_end holds k);
  stays = λ j x h. get_first kinds kind x j h;
  others = λ j n. get_others holds k j (λ e. n (e ∙ sym at));
  past = λ j h. absurd (omega (arith, at, slice_get_within holds s j h));
  few = omega (arith, length-append holds (k ∷ []));
}

-- ---- one step more

module _ {S : Type 0} (sources : Sources S) (xs : List (FieldStep S)) (readers : List ℕ) where
  pub none_planned : (p : Planning) → p.instructions.items ≡ [] → p.kinds.items ≡ [] → p.holds.items ≡ [] → p.slots.items ≡ [] → IsPlanning sources xs readers 0 p
  none_planned p a b c d = record {
    done = ap length d;
    long = ap length b ∙ sym (ap length c);
    same = λ s. ap (λ is. held is s) a ∙ sym (ap (λ hs. slice_get hs s) c);
    few = omega (arith, ap length c);
    early = λ s j h. let e : slice_get p.holds.items s ≡ None = ap (λ hs. slice_get hs s) c in cc;
    live = λ a h r. absurd (omega arith);
    each = λ i x h. let e : slice_get p.instructions.items i ≡ None = ap (λ is. slice_get is i) a in cc;
    read = λ i x h. let e : slice_get p.instructions.items i ≡ None = ap (λ is. slice_get is i) a in cc;
  }

  -- the slots of steps that are read later hold them
  pub held_slots : (k : ℕ) (p : Planning) → IsPlanning sources xs readers k p → (ks : List ℕ) → AreBelow k ks → AllReadBy (k + 1) readers ks → Hold (held p.instructions.items) (map (λ a. get_or p.slots.items a 0) ks) ks
  held_slots k p m [] below read = tt
  held_slots k p m (a ∷ ks) below read = (m.same (get_or p.slots.items a 0) ∙ m.live a below.0 (omega (arith, read.0)), held_slots k p m ks below.1 read.1)

  module _ (k : ℕ) (p q : Planning) (m : IsPlanning sources xs readers k p) where
    -- a step that none reads
    pub unread : get_or readers k 0 ≡ 0 → q.instructions.items ≡ p.instructions.items → q.kinds.items ≡ p.kinds.items → q.holds.items ≡ p.holds.items → q.slots.items ≡ p.slots.items ++ 0 ∷ [] → IsPlanning sources xs readers (k + 1) q
    unread none is ks hs ss = record {
      done = omega (arith, m.done, ap length ss, length-append p.slots.items (0 ∷ []));
      long = ap length ks ∙ (m.long ∙ sym (ap length hs));
      same = λ s. ap (λ ys. held ys s) is ∙ (m.same s ∙ sym (ap (λ ys. slice_get ys s) hs));
      few = omega (arith, m.few, ap length hs);
      early = λ s j h. omega (arith, m.early s j (ap (λ ys. slice_get ys s) (sym hs) ∙ h));
      live = λ a below read. elim (one_of a k) [
        | inl e ↦ absurd (let z : get_or readers a 0 ≡ 0 = ap (λ n. get_or readers n 0) e ∙ none in omega arith)
        | inr n ↦ (let before : a < k = omega arith in
            let slot : get_or q.slots.items a 0 ≡ get_or p.slots.items a 0 = ap (λ ys. get_or ys a 0) ss ∙ get_before p.slots.items 0 a 0 (omega (arith, m.done, before)) in
            ap (λ ys. slice_get ys (get_or q.slots.items a 0)) hs ∙ (ap (slice_get p.holds.items) slot ∙ m.live a before (omega arith)))
      ];
      each = subst (AreInstructions sources xs q.kinds.items) (sym is) (subst (λ ys. AreInstructions sources xs ys p.instructions.items) (sym ks) m.each);
      read = λ i x h. m.read i x (sym (ap (λ ys. slice_get ys i) is) ∙ h);
    }

    module _ (x : FieldStep S) (i : Instruction) (back : LeadBack (keys xs)) (r : AreReaders xs readers) (here : slice_get xs k ≡ Some x) (read : 0 < get_or readers k 0) (t : IsTaken readers (kind_at sources x) k i.into p.kinds.items q.kinds.items p.holds.items q.holds.items) where
      below : AreBelow k (operands (key_of x))
      below = operands_before xs k x back here

      are_read : AllReadBy (k + 1) readers (operands (key_of x))
      are_read = r.operands k x here read

      not_into : (ks : List ℕ) → AreBelow k ks → AllReadBy (k + 1) readers ks → ¬ Has (map (λ a. get_or p.slots.items a 0) ks) i.into
      not_into [] b rs h = h
      not_into (a ∷ ks) b rs (inl e) = let past : get_or readers a 0 ≤ k = t.past a (ap (slice_get p.holds.items) e ∙ m.live a b.0 (omega (arith, rs.0))) in absurd (omega (arith, rs.0, past))
      not_into (a ∷ ks) b rs (inr h) = not_into ks b.1 rs.1 h

      is_next : i.step ≡ k → i.args.items ≡ map (λ a. get_or p.slots.items a 0) (operands (key_of x)) → IsInstruction sources xs q.kinds.items (held p.instructions.items) i
      is_next step args = record {
        does = x;
        step = ap (slice_get xs) step ∙ here;
        args = subst (λ ys. Hold (held p.instructions.items) ys (operands (key_of x))) (sym args) (held_slots k p m (operands (key_of x)) below are_read);
        apart = λ h. not_into (operands (key_of x)) below are_read (subst (λ ys. Has ys i.into) args h);
        kind = t.of_kind;
      }

      kept : (h : ℕ → Option ℕ) (y : Instruction) → IsInstruction sources xs p.kinds.items h y → IsInstruction sources xs q.kinds.items h y
      kept h y w = record { does = w.does; step = w.step; args = w.args; apart = w.apart; kind = t.stays y.into (kind_at sources w.does) w.kind }

      all_next : i.step ≡ k → i.args.items ≡ map (λ a. get_or p.slots.items a 0) (operands (key_of x)) → AreInstructions sources xs q.kinds.items (p.instructions.items ++ i ∷ [])
      all_next step args j y h = elim (pushed p.instructions.items i y j h) [
        | inl w ↦ subst (λ ys. IsInstruction sources xs q.kinds.items (held ys) y) (sym w.1) (kept (held (take j p.instructions.items)) y (m.each j y w.0))
        | inr w ↦ subst (λ ys. IsInstruction sources xs q.kinds.items (held ys) y) (sym w.1) (subst (IsInstruction sources xs q.kinds.items (held p.instructions.items)) w.0 (is_next step args))
      ]

      held_now : i.step ≡ k → (s : ℕ) → held (p.instructions.items ++ i ∷ []) s ≡ slice_get q.holds.items s
      held_now step s = held_on (λ s. None) p.instructions.items i s ∙ elim (one_of s i.into) [
        | inl e ↦ with_here (held p.instructions.items) i s e ∙ (ap Some step ∙ sym (ap (slice_get q.holds.items) e ∙ t.holder))
        | inr n ↦ with_other (held p.instructions.items) i s n ∙ (m.same s ∙ sym (t.others s n))
      ]

      -- a step that is read
      pub planned : i.step ≡ k → i.args.items ≡ map (λ a. get_or p.slots.items a 0) (operands (key_of x)) → q.instructions.items ≡ p.instructions.items ++ i ∷ [] → q.slots.items ≡ p.slots.items ++ i.into ∷ [] → IsPlanning sources xs readers (k + 1) q
      planned step args is ss = record {
        done = omega (arith, m.done, ap length ss, length-append p.slots.items (i.into ∷ []));
        long = t.long;
        same = λ s. ap (λ ys. held ys s) is ∙ held_now step s;
        few = omega (arith, m.few, t.few);
        early = λ s j h. elim (one_of s i.into) [
          | inl e ↦ (let w : Some j ≡ Some k = sym h ∙ (ap (slice_get q.holds.items) e ∙ t.holder) in let v : j ≡ k = cc in omega arith)
          | inr n ↦ omega (arith, m.early s j (sym (t.others s n) ∙ h))
        ];
        live = λ a before later. elim (one_of a k) [
          | inl e ↦ (let slot : get_or q.slots.items a 0 ≡ i.into = ap (λ ys. get_or ys a 0) ss ∙ (ap (λ n. get_or (p.slots.items ++ i.into ∷ []) n 0) (e ∙ sym m.done) ∙ get_last p.slots.items i.into 0) in
              ap (slice_get q.holds.items) slot ∙ (t.holder ∙ ap Some (sym e)))
          | inr n ↦ (let first : a < k = omega arith in
              let slot : get_or q.slots.items a 0 ≡ get_or p.slots.items a 0 = ap (λ ys. get_or ys a 0) ss ∙ get_before p.slots.items i.into a 0 (omega (arith, m.done, first)) in
              let old : slice_get p.holds.items (get_or p.slots.items a 0) ≡ Some a = m.live a first (omega arith) in
              let other : get_or p.slots.items a 0 ≢ i.into = λ e. (let past : get_or readers a 0 ≤ k = t.past a (ap (slice_get p.holds.items) (sym e) ∙ old) in omega arith) in
              ap (slice_get q.holds.items) slot ∙ (t.others (get_or p.slots.items a 0) other ∙ old))
        ];
        each = subst (AreInstructions sources xs q.kinds.items) (sym is) (all_next step args);
        read = λ j y h. elim (pushed p.instructions.items i y j (sym (ap (λ ys. slice_get ys j) is) ∙ h)) [
          | inl w ↦ m.read j y w.0
          | inr w ↦ subst (λ z. 0 < get_or readers z.step 0) w.0 (subst (λ n. 0 < get_or readers n 0) (sym step) read)
        ];
      }
