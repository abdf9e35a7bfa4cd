-- Each event keeps what is true of the sharing machine, and so it holds in every world that events reach.
use Rattle.std.proofs.Common.{◌≡◌, ◌≢◌, ◌<◌, ◌↔◌, ℕ, ◌-◌, ◌==◌, length, List, [], ◌∷◌, ◌++◌, Bool, true, false, not, get_or, set, remove, count_by, IsTrue, refl, sym, ◌∙◌, ap, arith, length-set}
use Rattle.std.proofs.lemmas.List.{get_or_past, get_or_read, length_push}
use Rattle.std.proofs.lemmas.List.Sums.{sum_by-append, sum_by-set, sum_by-remove}
use Rattle.gn_shared.specs.declared.world.Handle.{Handle}
use Rattle.gn_shared.specs.Machine.{Event, Make, Add, Go, Look, Change, Block, World, no_block, no_handle, block_at, place_of, IsLive, handle_of, block_of, live_handles, with_mark, with_items, one_more, one_fewer, Allows, after, world, IsRun}
use Rattle.gn_shared.specs.Sharing.{handle_at, IsCounted}
use Rattle.gn_shared.proofs.Lists.{by_cases, at_set, at_push, at_remove, one_if, never_true, counts_some, counts_two}

-- 1 where the handle is on block b, else 0
abbrev on : ℕ → Handle → ℕ
on b h = one_if (h.block == b)

on_own : (b : ℕ) (h : Handle) → h.block ≡ b → on b h ≡ 1
on_own b h same = by_cases (λ t. one_if t ≡ 1) h.block b (λ _. refl) (λ n. absurd (n same))

on_other : (b : ℕ) (h : Handle) → h.block ≢ b → on b h ≡ 0
on_other b h apart = by_cases (λ t. one_if t ≡ 0) h.block b (λ e. absurd (apart e)) (λ _. refl)

is_on : (b : ℕ) (h : Handle) → h.block ≡ b → (h.block == b) ≡ true
is_on b h same = by_cases (λ t. t ≡ true) h.block b (λ _. refl) (λ n. absurd (n same))

-- a mark changes no count
mark_counts : (w : World) (holder b : ℕ) (m : Bool) → IsLive w holder → count_by (λ h. h.block == b) (with_mark w holder m) ≡ live_handles w b
mark_counts w holder b m live =
    let h = handle_of w holder in
    let s = sum_by-set (on b) w.handles (place_of w holder) (record { holder = h.holder; block = h.block; marked = m }) no_handle live in omega (arith, s)

-- a block with a live handle has users
pub has_users : (w : World) (holder : ℕ) → IsCounted w → IsLive w holder → 0 < (block_of w holder).users
has_users w holder good live =
    let b = (handle_of w holder).block in
    let some = counts_some (λ h. h.block == b) w.handles (place_of w holder) no_handle live (is_on b (handle_of w holder) refl) in omega (arith, some, good.counted b)

-- a marked handle at another place is on another block
pub marked_apart : (w : World) (holder k : ℕ) → IsCounted w → IsLive w holder → k < length w.handles → k ≢ place_of w holder → IsTrue (handle_at w k).marked → (handle_at w k).block ≢ (handle_of w holder).block
marked_apart w holder k good live less other mark same =
    let b = (handle_at w k).block in
    let two = counts_two (λ h. h.block == b) w.handles k (place_of w holder) no_handle less live other (is_on b (handle_at w k) refl) (is_on b (handle_of w holder) (sym same)) in
    let one = good.alone k less mark in omega (arith, two, one, good.counted b)

make_keeps : (w : World) (holder : ℕ) (items : List ℕ) → IsCounted w → IsCounted (after w (Make holder items))
make_keeps w holder items good =
    let n = length w.blocks in
    let y : Block = record { items = items; users = 1; alive = true } in
    let t : Handle = record { holder = holder; block = n; marked = false } in
    let long = length_push w.blocks y in
    record {
      placed = λ k less. at_push (λ h. h.block < length (w.blocks ++ y ∷ [])) w.handles k t no_handle (λ _. omega (arith, long))
          (λ other. let p = good.placed k (omega (arith, less, length_push w.handles t, other)) in omega (arith, long, p));
      counted = λ b. let s = sum_by-append (on b) w.handles (t ∷ []) in
          at_push (λ x. x.users ≡ count_by (λ h. h.block == b) (w.handles ++ t ∷ [])) w.blocks b y no_block
          (λ e. let none : (block_at w b).users ≡ 0 = ap (λ x. x.users) (get_or_past w.blocks b no_block (omega (arith, e))) in let own = on_own b t (sym e) in omega (arith, s, none, own, good.counted b))
          (λ other. let own = on_other b t (λ e. other (sym e)) in omega (arith, s, own, good.counted b));
      alive = λ b. at_push (λ x. IsTrue x.alive ↔ (0 < x.users)) w.blocks b y no_block (λ _. (λ _. omega arith, λ _. refl)) (λ _. good.alive b);
      alone = λ k less. at_push (λ h. IsTrue h.marked → (get_or (w.blocks ++ y ∷ []) h.block no_block).users ≡ 1) w.handles k t no_handle (λ _ no_mark. never_true no_mark)
          (λ other mark. let inside : k < length w.handles = omega (arith, less, length_push w.handles t, other) in
          at_push (λ x. x.users ≡ 1) w.blocks (handle_at w k).block y no_block (λ _. refl) (λ _. good.alone k inside mark));
    }

add_keeps : (w : World) (holder from : ℕ) → IsCounted w → IsLive w from → IsCounted (after w (Add holder from))
add_keeps w holder from good live =
    let p = place_of w from in
    let b0 = (handle_of w from).block in
    let y : Block = one_more (block_of w from) in
    let t : Handle = record { holder = holder; block = b0; marked = false } in
    let u : Handle = record { holder = (handle_of w from).holder; block = b0; marked = false } in
    let rest : List Handle = with_mark w from false in
    let within = good.placed p live in
    let len = length-set w.blocks b0 y in
    let len_rest = length-set w.handles p u in
    let some = has_users w from good live in
    let inside : (k : ℕ) → k < length (rest ++ t ∷ []) → k ≢ length rest → k < length w.handles = λ k less other. omega (arith, less, length_push rest t, other, len_rest) in
    record {
      placed = λ k less. at_push (λ h. h.block < length (set w.blocks b0 y)) rest k t no_handle (λ _. omega (arith, len, within))
          (λ other. at_set (λ h. h.block < length (set w.blocks b0 y)) w.handles p k u no_handle live (λ _. omega (arith, len, within)) (λ _. let q = good.placed k (inside k less other) in omega (arith, len, q)));
      counted = λ b. let s = sum_by-append (on b) rest (t ∷ []) in let m = mark_counts w from b false live in
          at_set (λ x. x.users ≡ count_by (λ h. h.block == b) (rest ++ t ∷ [])) w.blocks b0 b y no_block within
          (λ e. let own = on_own b t (sym e) in let same : (block_at w b).users ≡ (block_of w from).users = ap (λ c. (block_at w c).users) e in omega (arith, s, m, own, same, good.counted b))
          (λ other. let own = on_other b t (λ e. other (sym e)) in omega (arith, s, m, own, good.counted b));
      alive = λ b. at_set (λ x. IsTrue x.alive ↔ (0 < x.users)) w.blocks b0 b y no_block within (λ _. (λ _. omega arith, λ _. (good.alive b0).1 some)) (λ _. good.alive b);
      alone = λ k less. at_push (λ h. IsTrue h.marked → (get_or (set w.blocks b0 y) h.block no_block).users ≡ 1) rest k t no_handle (λ _ no_mark. never_true no_mark)
          (λ other. at_set (λ h. IsTrue h.marked → (get_or (set w.blocks b0 y) h.block no_block).users ≡ 1) w.handles p k u no_handle live (λ _ no_mark. never_true no_mark)
          (λ elsewhere mark. at_set (λ x. x.users ≡ 1) w.blocks b0 (handle_at w k).block y no_block within
          (λ e. absurd (marked_apart w from k good live (inside k less other) elsewhere mark e)) (λ _. good.alone k (inside k less other) mark)));
    }

go_keeps : (w : World) (holder : ℕ) → IsCounted w → IsLive w holder → IsCounted (after w (Go holder))
go_keeps w holder good live =
    let p = place_of w holder in
    let b0 = (handle_of w holder).block in
    let y : Block = one_fewer (block_of w holder) in
    let within = good.placed p live in
    let len = length-set w.blocks b0 y in
    record {
      placed = λ k less. at_remove (λ h. h.block < length (set w.blocks b0 y)) w.handles p k no_handle live less (λ j inside _. let q = good.placed j inside in omega (arith, len, q));
      counted = λ b. let s = sum_by-remove (on b) w.handles p no_handle live in
          at_set (λ x. x.users ≡ count_by (λ h. h.block == b) (remove w.handles p)) w.blocks b0 b y no_block within
          (λ e. let own = on_own b (handle_of w holder) (sym e) in let same : (block_at w b).users ≡ (block_of w holder).users = ap (λ c. (block_at w c).users) e in omega (arith, s, own, same, good.counted b))
          (λ other. let own = on_other b (handle_of w holder) (λ e. other (sym e)) in omega (arith, s, own, good.counted b));
      alive = λ b. at_set (λ x. IsTrue x.alive ↔ (0 < x.users)) w.blocks b0 b y no_block within
          (λ _. let n = (block_of w holder).users - 1 in by_cases (λ z. IsTrue (not z) ↔ (0 < n)) n 0 (λ e. (λ none. never_true none, λ l. absurd (omega (arith, e, l)))) (λ more. (λ _. omega (arith, more), λ _. refl)))
          (λ _. good.alive b);
      alone = λ k less. at_remove (λ h. IsTrue h.marked → (get_or (set w.blocks b0 y) h.block no_block).users ≡ 1) w.handles p k no_handle live less
          (λ j inside elsewhere mark. at_set (λ x. x.users ≡ 1) w.blocks b0 (handle_at w j).block y no_block within
          (λ e. absurd (marked_apart w holder j good live inside elsewhere mark e)) (λ _. good.alone j inside mark));
    }

look_keeps : (w : World) (holder : ℕ) → IsCounted w → IsLive w holder → IsCounted (after w (Look holder))
look_keeps w holder good live =
    let p = place_of w holder in
    let h = handle_of w holder in
    let n = (block_of w holder).users in
    let u : Handle = record { holder = h.holder; block = h.block; marked = n == 1 } in
    let len = length-set w.handles p u in
    record {
      placed = λ k less. at_set (λ x. x.block < length w.blocks) w.handles p k u no_handle live (λ _. good.placed p live) (λ _. good.placed k (omega (arith, less, len)));
      counted = λ b. let m = mark_counts w holder b (n == 1) live in omega (arith, m, good.counted b);
      alive = good.alive;
      alone = λ k less. at_set (λ x. IsTrue x.marked → (block_at w x.block).users ≡ 1) w.handles p k u no_handle live
          (λ _. by_cases (λ z. IsTrue z → n ≡ 1) n 1 (λ e _. e) (λ _ none. never_true none)) (λ _. good.alone k (omega (arith, less, len)));
    }

change_keeps : (w : World) (holder at value : ℕ) → IsCounted w → IsLive w holder → IsCounted (after w (Change holder at value))
change_keeps w holder at value good live =
    let p = place_of w holder in
    let b0 = (handle_of w holder).block in
    let x = block_of w holder in
    let y : Block = with_items x (set x.items at value) in
    let within = good.placed p live in
    let len = length-set w.blocks b0 y in
    record {
      placed = λ k less. let q = good.placed k less in omega (arith, len, q);
      counted = λ b. at_set (λ z. z.users ≡ live_handles w b) w.blocks b0 b y no_block within (λ e. let c = good.counted b in let same : (block_at w b).users ≡ x.users = ap (λ c. (block_at w c).users) e in omega (arith, c, same)) (λ _. good.counted b);
      alive = λ b. at_set (λ z. IsTrue z.alive ↔ (0 < z.users)) w.blocks b0 b y no_block within (λ _. good.alive b0) (λ _. good.alive b);
      alone = λ k less mark. at_set (λ z. z.users ≡ 1) w.blocks b0 (handle_at w k).block y no_block within (λ e. ap (λ c. (block_at w c).users) (sym e) ∙ good.alone k less mark) (λ _. good.alone k less mark);
    }

pub keeps : (w : World) (e : Event) → IsCounted w → Allows w e → IsCounted (after w e)
keeps w (Make holder items) good allowed = make_keeps w holder items good
keeps w (Add holder from) good allowed = add_keeps w holder from good allowed.1
keeps w (Go holder) good allowed = go_keeps w holder good allowed
keeps w (Look holder) good allowed = look_keeps w holder good allowed
keeps w (Change holder at value) good allowed = change_keeps w holder at value good allowed.0

pub reached : (es : List Event) → IsRun es → IsCounted (world es)
reached [] r = record { placed = λ k less. absurd (omega (arith, less)); counted = λ b. refl; alive = λ b. (λ none. never_true none, λ l. absurd (omega (arith, l))); alone = λ k less. absurd (omega (arith, less)) }
reached (e ∷ es) r = keeps (world es) e (reached es r.0) r.1

-- what the program has after a step, from what its calls gave
pub go_closes : (w : World) (holder p : ℕ) (h : Handle) (x y : Block) (hs : List Handle) → IsCounted w → IsLive w holder → p ≡ place_of w holder → h ≡ handle_of w holder → x ≡ get_or w.blocks h.block x → y ≡ one_fewer x → hs ≡ remove w.handles p → IsCounted (record { blocks = set w.blocks h.block y; handles = hs; used = w.used })
go_closes w holder p h x y hs good live at own read less gone =
    let within : h.block < length w.blocks = rw own (good.placed (place_of w holder) live) in
    let own_x : x ≡ block_of w holder = get_or_read w.blocks h.block x within read no_block ∙ ap (λ k. block_at w k) (ap (λ g. g.block) own) in
    rw (less, gone, own_x, at, own) (go_keeps w holder good live)

pub add_closes : (w : World) (holder from p : ℕ) (h : Handle) (x y : Block) (hs : List Handle) (us : List ℕ) → IsCounted w → IsLive w from → p ≡ place_of w from → h ≡ handle_of w from → x ≡ get_or w.blocks h.block x → y ≡ one_more x → hs ≡ set w.handles p (record { holder = h.holder; block = h.block; marked = false }) ++ record { holder = holder; block = h.block; marked = false } ∷ [] → us ≡ w.used ++ holder ∷ [] → IsCounted (record { blocks = set w.blocks h.block y; handles = hs; used = us })
add_closes w holder from p h x y hs us good live at own read more pushed named =
    let within : h.block < length w.blocks = rw own (good.placed (place_of w from) live) in
    let own_x : x ≡ block_of w from = get_or_read w.blocks h.block x within read no_block ∙ ap (λ k. block_at w k) (ap (λ g. g.block) own) in
    rw (more, pushed, named, own_x, at, own) (add_keeps w holder from good live)

pub make_closes : (w : World) (holder n : ℕ) (items us : List ℕ) (bs : List Block) (hs : List Handle) → IsCounted w → n ≡ length w.blocks → bs ≡ w.blocks ++ record { items = items; users = 1; alive = true } ∷ [] → hs ≡ w.handles ++ record { holder = holder; block = n; marked = false } ∷ [] → us ≡ w.used ++ holder ∷ [] → IsCounted (record { blocks = bs; handles = hs; used = us })
make_closes w holder n items us bs hs good last made pushed named = rw (made, pushed, named, last) (make_keeps w holder items good)
