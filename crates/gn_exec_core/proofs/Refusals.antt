-- Workers that refuse.
use Rattle.std.proofs.Common.{◌≡◌, ◌≢◌, ◌⊎◌, inl, inr, ℕ, zero, suc, ◌+◌, ◌<◌, Bool, true, false, ◌||◌, ◌==◌, List, [], ◌∷◌, ◌++◌, length, get_or, set, map, reverse, IsTrue, refl, sym, ap, ◌∙◌, subst, true≢false, arith, if◌then◌else◌}
use Rattle.std.specs.List.{list_any}
use Rattle.std.proofs.lemmas.List.{get_or-set_same, get_or-set_other, length-set, length-reverse, length-map, reverse-append, map_push}
use Rattle.std.proofs.lemmas.List.Sums.{sum_by-set}
use Rattle.std.proofs.lemmas.Bool.Decides.{Decides-eqb}
use Rattle.gn_lazy.specs.Graphs.{Nodes}
use Rattle.gn_node_set.specs.Meanings.{Has, Meanings}
use Rattle.gn_exec_laws.specs.Machine.{Event, Take, Finish, Serve, Refuse, IsRun}
use Rattle.gn_exec_core.specs.declared.state.Happened.{Happened}
use Rattle.gn_exec_core.specs.declared.state.Happened.TheVariants as happened
use Rattle.gn_exec_core.specs.States.{event_of, events_of, outputs_in, handed_of, refuses, any_refuses, seen, refused_by, unset, HasFlags, job, IsReached}

-- ---- the journal

pub events_push : {V : Type 0} (journal : List (Happened V)) (last : Happened V) → events_of (journal ++ last ∷ []) ≡ event_of last ∷ events_of journal
events_push journal last = ap reverse (map_push event_of journal last) ∙ reverse-append (map event_of journal) (event_of last ∷ [])

pub events_counted : {V : Type 0} (journal : List (Happened V)) → length (events_of journal) ≡ length journal
events_counted journal = length-reverse (map event_of journal) ∙ length-map journal event_of

refusal_hands_nothing : {V : Type 0} (journal : List (Happened V)) (worker : ℕ) → outputs_in (journal ++ happened.Refuse worker ∷ []) ≡ outputs_in journal
refusal_hands_nothing [] worker = refl
refusal_hands_nothing (happened.Take w n ∷ journal) worker = refusal_hands_nothing journal worker
refusal_hands_nothing (happened.Finish w n outputs ∷ journal) worker = ap (λ xs. outputs.value.items ∷ xs) (refusal_hands_nothing journal worker)
refusal_hands_nothing (happened.Serve n answer ∷ journal) worker = refusal_hands_nothing journal worker
refusal_hands_nothing (happened.Refuse w ∷ journal) worker = refusal_hands_nothing journal worker

pub same_handed : {V : Type 0} (journal : List (Happened V)) (worker : ℕ) → handed_of (journal ++ happened.Refuse worker ∷ []) ≡ handed_of journal
same_handed journal worker = ap reverse (refusal_hands_nothing journal worker)

-- ---- flags

same_number : (i j : ℕ) → (i ≡ j) ⊎ (i ≢ j)
same_number i j = grind arith

or_left : (a b : Bool) → IsTrue a → IsTrue (a || b)
or_left true b h = refl
or_left false b h = absurd (cc)

or_right : (a b : Bool) → IsTrue b → IsTrue (a || b)
or_right true b h = refl
or_right false b h = h

not_first : (a b : Bool) → (IsTrue a → ⊥) → (a || b) ≡ b
not_first true b h = absurd (h refl)
not_first false b h = refl

flagged_at : (flags : List Bool) (es : List Event) (w : ℕ) → ((k : ℕ) → get_or flags k false ≡ refuses es k) → w < length flags → (k : ℕ) → (k ≡ w) ⊎ (k ≢ w) → get_or (set flags w true) k false ≡ refuses (Refuse w ∷ es) k
flagged_at flags es w f h k (inl e) =
    subst (λ j. get_or (set flags w true) j false ≡ refuses (Refuse w ∷ es) j) (sym e)
    (get_or-set_same flags w true false h ∙ sym (or_left (w == w) (refuses es w) ((Decides-eqb w w).1 refl)))
flagged_at flags es w f h k (inr d) =
    get_or-set_other flags w k true false d ∙ (f k ∙ sym (not_first (w == k) (refuses es k) (λ e. d (sym ((Decides-eqb w k).0 e)))))

abbrev left : Bool → ℕ
left flag = if flag then 0 else 1

one_fewer : (flags : List Bool) (w : ℕ) → w < length flags → get_or flags w false ≡ false → unset (set flags w true) + 1 ≡ unset flags
one_fewer flags w h e =
    let sum = sum_by-set left flags w true false h in
    let was : left (get_or flags w false) ≡ 1 = ap left e in
    omega (arith, sum, was)

pub has_room : (flags : List Bool) (es : List Event) (room w : ℕ) → HasFlags flags es room → w < 64 → get_or flags w false ≡ false → length es < room
has_room flags es room w f h e = omega (arith, f.fits, one_fewer flags w (omega (arith, f.workers, h)) e)

pub refusal_flagged : (flags : List Bool) (es : List Event) (room w : ℕ) → HasFlags flags es room → w < 64 → get_or flags w false ≡ false → HasFlags (set flags w true) (Refuse w ∷ es) room
refusal_flagged flags es room w f h e =
    let there : w < length flags = omega (arith, f.workers, h) in
    record {
      flagged = λ k. flagged_at flags es w f.flagged there k (same_number k w);
      workers = length-set flags w true ∙ f.workers;
      fits = omega (arith, f.fits, one_fewer flags w there e);
    }

-- ---- the machine

refusal_found : (es : List Event) (w : ℕ) → Has es (Refuse w) → refuses es w ≡ true
refusal_found [] w h = absurd h
refusal_found (Refuse v ∷ es) w (inl e) = let same : w ≡ v = cc in or_left (v == w) (refuses es w) ((Decides-eqb v w).1 (sym same))
refusal_found (Refuse v ∷ es) w (inr h) = or_right (v == w) (refuses es w) (refusal_found es w h)
refusal_found (Take v n ∷ es) w (inl e) = absurd (cc)
refusal_found (Take v n ∷ es) w (inr h) = refusal_found es w h
refusal_found (Finish v n ∷ es) w (inl e) = absurd (cc)
refusal_found (Finish v n ∷ es) w (inr h) = refusal_found es w h
refusal_found (Serve n a ∷ es) w (inl e) = absurd (cc)
refusal_found (Serve n a ∷ es) w (inr h) = refusal_found es w h

pub not_refused : (es : List Event) (w : ℕ) → refuses es w ≡ false → ¬ Has es (Refuse w)
not_refused es w e h = true≢false (sym (refusal_found es w h) ∙ e)

-- a state with one refusal more, by its journal
module _ {G H : Type 0} (graph : Nodes G) (given : List H) (journal journal' : List (Happened H)) (w : ℕ) (last : journal' ≡ journal ++ happened.Refuse w ∷ []) (new : refuses (events_of journal) w ≡ false) where
  pub refusal_last : events_of journal' ≡ Refuse w ∷ events_of journal
  refusal_last = ap events_of last ∙ events_push journal (happened.Refuse w)

  pub refusal_events : seen graph given journal' ≡ record (seen graph given journal) { events = Refuse w ∷ events_of journal }
  refusal_events = λ i. record { graph = graph; given = given; events = refusal_last i; handed = (ap handed_of last ∙ same_handed journal w) i }

  pub refusal_seen : seen graph given journal' ≡ refused_by (seen graph given journal) w
  refusal_seen =
      let handed : handed_of journal' ≡ handed_of journal = ap handed_of last ∙ same_handed journal w in
      let more : seen graph given journal' ≡ record (seen graph given journal) { events = Refuse w ∷ events_of journal } =
      λ i. record { graph = graph; given = given; events = refusal_last i; handed = handed i } in
      more ∙ sym (ap (λ b. if b then seen graph given journal else record (seen graph given journal) { events = Refuse w ∷ events_of journal }) new)

  pub refusal_reached : {K V S T : Type 0} (m : Meanings K V S T) (kind_of : G → K) (content : H → V) → w < 64 → IsReached m kind_of content (seen graph given journal) → IsReached m kind_of content (seen graph given journal')
  refusal_reached m kind_of content h r = record {
    start = r.start;
    run = subst (λ es. IsRun m (job m kind_of content (seen graph given journal)) es) (sym refusal_last) ((h, not_refused (events_of journal) w new), r.run);
  }

-- ---- whether any worker has refused

any_found : (es : List Event) (w : ℕ) → refuses es w ≡ true → any_refuses es ≡ true
any_found [] w e = cc
any_found (Refuse v ∷ es) w e = refl
any_found (Take v n ∷ es) w e = any_found es w e
any_found (Finish v n ∷ es) w e = any_found es w e
any_found (Serve n a ∷ es) w e = any_found es w e

found_any : (es : List Event) → any_refuses es ≡ true → (w : ℕ) × (refuses es w ≡ true)
found_any [] e = cc
found_any (Refuse v ∷ es) e = (v, or_left (v == v) (refuses es v) ((Decides-eqb v v).1 refl))
found_any (Take v n ∷ es) e = found_any es e
found_any (Finish v n ∷ es) e = found_any es e
found_any (Serve n a ∷ es) e = found_any es e

flag_found : (flags : List Bool) (w : ℕ) → get_or flags w false ≡ true → list_any (λ flag. flag) flags ≡ true
flag_found [] w e = absurd (cc)
flag_found (flag ∷ flags) zero e = or_left flag (list_any (λ f. f) flags) e
flag_found (flag ∷ flags) (suc w) e = or_right flag (list_any (λ f. f) flags) (flag_found flags w e)

found_flag : (flags : List Bool) → list_any (λ flag. flag) flags ≡ true → (w : ℕ) × (get_or flags w false ≡ true)
found_flag [] e = cc
found_flag (true ∷ flags) e = (0, refl)
found_flag (false ∷ flags) e = let t = found_flag flags e in (suc t.0, t.1)

same_truth : (a b : Bool) → (a ≡ true → b ≡ true) → (b ≡ true → a ≡ true) → a ≡ b
same_truth true b f g = sym (f refl)
same_truth false true f g = g refl
same_truth false false f g = refl

pub any_flagged : (flags : List Bool) (es : List Event) (room : ℕ) → HasFlags flags es room → list_any (λ flag. flag) flags ≡ any_refuses es
any_flagged flags es room h =
    same_truth (list_any (λ flag. flag) flags) (any_refuses es)
    (λ e. let t = found_flag flags e in any_found es t.0 (sym (h.flagged t.0) ∙ t.1))
    (λ e. let t = found_any es e in flag_found flags t.0 (h.flagged t.0 ∙ t.1))

pub read_unset : (flags : List Bool) (n : ℕ) (b : Bool) → b ≡ get_or flags n b → b ≡ false → get_or flags n false ≡ false
read_unset flags n b e f = subst (λ c. get_or flags n c ≡ c) f (sym e)

pub read_set : (flags : List Bool) (n : ℕ) (b : Bool) → b ≡ get_or flags n b → b ≡ true → n < length flags → get_or flags n false ≡ true
read_set [] n b e f below = absurd (omega (arith, below))
read_set (x ∷ xs) zero b e f below = sym e ∙ f
read_set (x ∷ xs) (suc n) b e f below = read_set xs n b e f (omega (arith, below))
