-- The laws of the sharing machine, over every list of events.
use Rattle.std.proofs.Common.{◌≡◌, ◌≢◌, ◌≤◌, ◌<◌, ◌⊎◌, inl, inr, ℕ, ◌-◌, ◌==◌, length, List, [], ◌∷◌, ◌++◌, Bool, true, false, not, set, IsTrue, IsFalse, refl, sym, ◌∙◌, ap, arith, length-set}
use Rattle.std.proofs.lemmas.Bool.Decides.{eqb_tells}
use Rattle.std.proofs.lemmas.List.{get_or-set_other, length_push}
use Rattle.std.proofs.lemmas.List.Sums.{passes_at_first}
use Rattle.gn_shared.specs.Machine.{Event, Make, Add, Go, Look, Change, World, no_block, no_handle, block_at, place_of, IsLive, handle_of, block_of, live_handles, with_items, one_more, one_fewer, Allows, after, world, IsRun}
use Rattle.gn_shared.specs.Sharing.{handle_at, IsCounted, ChangesItsOwn, EndsAtItsLastGo, NeverComesBack}
use Rattle.gn_shared.proofs.Lists.{by_cases, same_or_not, at_set, at_push, never_true}
use Rattle.gn_shared.proofs.Kept.{marked_apart, has_users, reached}

-- the handle that stands for a holder is the holder's
own_handle : (w : World) (holder : ℕ) → IsLive w holder → (handle_of w holder).holder ≡ holder
own_handle w holder live = pick (eqb_tells (handle_of w holder).holder holder)
  where
    passes : ((handle_of w holder).holder == holder) ≡ true
    passes = passes_at_first (λ h. h.holder == holder) w.handles no_handle live

    pick : (((handle_of w holder).holder == holder) ≡ true) × ((handle_of w holder).holder ≡ holder) ⊎ (((handle_of w holder).holder == holder) ≡ false) × ((handle_of w holder).holder ≢ holder) → (handle_of w holder).holder ≡ holder
    pick (inl t) = t.1
    pick (inr t) = never_true (sym t.0 ∙ passes)

places_apart : (w : World) (a b : ℕ) → IsLive w a → IsLive w b → a ≢ b → place_of w a ≢ place_of w b
places_apart w a b live_a live_b apart same = apart (sym (own_handle w a live_a) ∙ ap (λ k. (handle_at w k).holder) same ∙ own_handle w b live_b)

pub changes_its_own : ChangesItsOwn
changes_its_own es holder at value other run live apart =
    let w = world es in
    let b = block_of w holder in
    let away = marked_apart w other (place_of w holder) (reached es run.0) live run.1.0 (places_apart w holder other run.1.0 live (λ e. apart (sym e))) run.1.1 in
    ap (λ x. x.items) (get_or-set_other w.blocks (handle_of w holder).block (handle_of w other).block (with_items b (set b.items at value)) no_block (λ e. away (sym e)))

not_both : {Q : Type 0} {b : Bool} → IsTrue b → IsFalse b → Q
not_both t f = never_true (sym f ∙ t)

-- after a fetch-sub that ended a block its word is 0
none_left : (n : ℕ) → IsFalse (not (n == 0)) → n ≡ 0
none_left n e = by_cases (λ z. IsFalse (not z) → n ≡ 0) n 0 (λ same _. same) (λ _ no. never_true (sym no)) e

pub ends_at_its_last_go : EndsAtItsLastGo
ends_at_its_last_go es e b run alive ended = at_event e run.1 ended
  where
    w : World
    w = world es

    good : IsCounted w
    good = reached es run.0

    Found : Event → Type 0
    Found e = (holder : ℕ) × (e ≡ Go holder) × IsLive w holder × ((handle_of w holder).block ≡ b) × (live_handles w b ≡ 1)

    at_event : (e : Event) → Allows w e → IsFalse (block_at (after w e) b).alive → Found e
    at_event (Make holder items) allowed = at_push (λ x. IsFalse x.alive → Found (Make holder items)) w.blocks b (record { items = items; users = 1; alive = true }) no_block (λ _ f. never_true (sym f)) (λ _ f. not_both alive f)
    at_event (Add holder from) allowed = at_set (λ x. IsFalse x.alive → Found (Add holder from)) w.blocks (handle_of w from).block b (one_more (block_of w from)) no_block (good.placed (place_of w from) allowed.1)
        (λ same f. not_both (ap (λ c. (block_at w c).alive) (sym same) ∙ alive) f) (λ _ f. not_both alive f)
    at_event (Go holder) allowed = at_set (λ x. IsFalse x.alive → Found (Go holder)) w.blocks (handle_of w holder).block b (one_fewer (block_of w holder)) no_block (good.placed (place_of w holder) allowed)
        (λ same f. let zero_left = none_left ((block_of w holder).users - 1) f in let some = has_users w holder good allowed in let c = good.counted b in let here : (block_at w b).users ≡ (block_of w holder).users = ap (λ c. (block_at w c).users) same in
        (holder, refl, allowed, sym same, omega (arith, zero_left, some, c, here))) (λ _ f. not_both alive f)
    at_event (Look holder) allowed = λ f. not_both alive f
    at_event (Change holder at value) allowed = at_set (λ x. IsFalse x.alive → Found (Change holder at value)) w.blocks (handle_of w holder).block b (with_items (block_of w holder) (set (block_of w holder).items at value)) no_block (good.placed (place_of w holder) allowed.0)
        (λ same f. not_both (ap (λ c. (block_at w c).alive) (sym same) ∙ alive) f) (λ _ f. not_both alive f)

-- the blocks that were made stay
more_blocks : (w : World) (e : Event) → length w.blocks ≤ length (after w e).blocks
more_blocks w (Make holder items) = let n = length_push w.blocks (record { items = items; users = 1; alive = true }) in omega (arith, n)
more_blocks w (Add holder from) = let n = length-set w.blocks (handle_of w from).block (one_more (block_of w from)) in omega (arith, n)
more_blocks w (Go holder) = let n = length-set w.blocks (handle_of w holder).block (one_fewer (block_of w holder)) in omega (arith, n)
more_blocks w (Look holder) = omega arith
more_blocks w (Change holder at value) = let b = block_of w holder in let n = length-set w.blocks (handle_of w holder).block (with_items b (set b.items at value)) in omega (arith, n)

stays_ended : (w : World) (e : Event) (b : ℕ) → IsCounted w → Allows w e → b < length w.blocks → IsFalse (block_at w b).alive → IsFalse (block_at (after w e) b).alive
stays_ended w (Make holder items) b good allowed made ended = at_push (λ x. IsFalse x.alive) w.blocks b (record { items = items; users = 1; alive = true }) no_block (λ e. absurd (omega (arith, e, made))) (λ _. ended)
stays_ended w (Add holder from) b good allowed made ended = at_set (λ x. IsFalse x.alive) w.blocks (handle_of w from).block b (one_more (block_of w from)) no_block (good.placed (place_of w from) allowed.1) (λ same. ap (λ c. (block_at w c).alive) (sym same) ∙ ended) (λ _. ended)
stays_ended w (Go holder) b good allowed made ended = at_set (λ x. IsFalse x.alive) w.blocks (handle_of w holder).block b (one_fewer (block_of w holder)) no_block (good.placed (place_of w holder) allowed)
    (λ same. not_both ((good.alive (handle_of w holder).block).1 (has_users w holder good allowed)) (ap (λ c. (block_at w c).alive) (sym same) ∙ ended)) (λ _. ended)
stays_ended w (Look holder) b good allowed made ended = ended
stays_ended w (Change holder at value) b good allowed made ended = at_set (λ x. IsFalse x.alive) w.blocks (handle_of w holder).block b (with_items (block_of w holder) (set (block_of w holder).items at value)) no_block (good.placed (place_of w holder) allowed.0) (λ same. ap (λ c. (block_at w c).alive) (sym same) ∙ ended) (λ _. ended)

no_users : (w : World) (b : ℕ) → IsCounted w → IsFalse (block_at w b).alive → live_handles w b ≡ 0
no_users w b good ended = same_or_not (live_handles w b ≡ 0) (block_at w b).users 0 (λ e. sym (good.counted b) ∙ e) (λ some. not_both ((good.alive b).1 (omega (arith, some))) ended)

-- a run is made of runs, and leaves the blocks that were made and the ended ones ended
before : (es later : List Event) (b : ℕ) → IsRun (later ++ es) → b < length (world es).blocks → IsFalse (block_at (world es) b).alive → (b < length (world (later ++ es)).blocks) × IsFalse (block_at (world (later ++ es)) b).alive
before es [] b run made ended = (made, ended)
before es (e ∷ later) b run made ended =
    let i = before es later b run.0 made ended in
    let more = more_blocks (world (later ++ es)) e in
    let inside = i.0 in
    (omega (arith, more, inside), stays_ended (world (later ++ es)) e b (reached (later ++ es) run.0) run.1 i.0 i.1)

pub never_comes_back : NeverComesBack
never_comes_back es later b run made ended =
    let i = before es later b run made ended in (i.1, no_users (world (later ++ es)) b (reached (later ++ es) run) i.1)
