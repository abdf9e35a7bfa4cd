-- A search from a node comes to all that the node leads to.
use Rattle.std.proofs.Common.{◌≡◌, ◌≢◌, ℕ, zero, suc, ◌+◌, ◌<◌, ◌≤◌, ◌⊎◌, inl, inr, Bool, true, false, not, List, [], ◌∷◌, ◌++◌, ◌||◌, ◌==◌, length, get_or, set, IsTrue, refl, sym, ap, ◌∙◌, subst, arith, true≢false, if◌then◌else◌}
use Rattle.std.proofs.lemmas.List.{get_or-set_other, get_or_default, get_or_append_left, length-set, length-append}
use Rattle.std.proofs.lemmas.List.Sums.{sum_by-set}
use Rattle.std.proofs.lemmas.List.Folds.{list_any-append}
use Rattle.std.proofs.lemmas.Bool.Decides.{Decides-eqb}
use Rattle.gn_cycle.specs.Graph.{Graph, has, targets, has_edge, Leads, by_edge, further}
use Rattle.gn_cycle.specs.Search.{is_new, State, with_node, with_nodes, Reached, unmet}
use Rattle.gn_cycle.proofs.Marks.{same_or_not, inside}
use Rattle.gn_cycle.proofs.Ways as ways

below_or_past : (m n : ℕ) → (m < n) ⊎ (n ≤ m)
below_or_past m n = grind arith

or_left : (a b : Bool) → IsTrue a → IsTrue (a || b)
or_left true b h = refl
or_left false b h = absurd (cc)

or_right : (a b : Bool) → IsTrue b → IsTrue (a || b)
or_right true b h = refl
or_right false b h = h

or_tells : (a b : Bool) → IsTrue (a || b) → IsTrue a ⊎ IsTrue b
or_tells true b h = inl refl
or_tells false b h = inr h

-- ---- lists of nodes

has_append : (xs ys : List ℕ) (x : ℕ) → has (xs ++ ys) x ≡ (has xs x || has ys x)
has_append xs ys x = list_any-append (λ k. k == x) xs ys

has_before : (xs ys : List ℕ) (x : ℕ) → IsTrue (has xs x) → IsTrue (has (xs ++ ys) x)
has_before xs ys x h = has_append xs ys x ∙ or_left (has xs x) (has ys x) h

itself : (x : ℕ) → IsTrue (x == x)
itself x = (Decides-eqb x x).1 refl

has_pushed : (xs : List ℕ) (x : ℕ) → IsTrue (has (xs ++ x ∷ []) x)
has_pushed xs x = has_append xs (x ∷ []) x ∙ or_right (has xs x) (has (x ∷ []) x) (or_left (x == x) false (itself x))

pushed_at : (x y : ℕ) → IsTrue (y == x) ⊎ IsTrue false → x ≡ y
pushed_at x y (inl e) = sym ((Decides-eqb y x).0 e)
pushed_at x y (inr f) = absurd (cc)

in_pushed_at : (xs : List ℕ) (x y : ℕ) → IsTrue (has xs x) ⊎ IsTrue (has (y ∷ []) x) → IsTrue (has xs x) ⊎ (x ≡ y)
in_pushed_at xs x y (inl h) = inl h
in_pushed_at xs x y (inr e) = inr (pushed_at x y (or_tells (y == x) false e))

in_pushed : (xs : List ℕ) (x y : ℕ) → IsTrue (has (xs ++ y ∷ []) x) → IsTrue (has xs x) ⊎ (x ≡ y)
in_pushed xs x y h = in_pushed_at xs x y (or_tells (has xs x) (has (y ∷ []) x) (sym (has_append xs (y ∷ []) x) ∙ h))

-- ---- one more node

pub grows_at : (met : List Bool) (queue : List ℕ) (node x : ℕ) (b : Bool) → IsTrue (has queue x) → IsTrue (has (if b then queue ++ node ∷ [] else queue) x)
grows_at met queue node x true h = has_before queue (node ∷ []) x h
grows_at met queue node x false h = h

grows : (nodes : List ℕ) (s : State) (x : ℕ) → IsTrue (has s.1 x) → IsTrue (has (with_nodes s nodes).1 x)
grows [] s x h = h
grows (node ∷ nodes) s x h = grows nodes (with_node s node) x (grows_at s.0 s.1 node x (is_new s.0 node) h)

abbrev Keeps : List ℕ → List ℕ → Type 0
Keeps old new = (length old ≤ length new) × ((k : ℕ) → k < length old → get_or new k 0 ≡ get_or old k 0)

keeps_at : (queue : List ℕ) (node : ℕ) (b : Bool) → Keeps queue (if b then queue ++ node ∷ [] else queue)
keeps_at queue node true = (omega (arith, length-append queue (node ∷ [])), λ k h. get_or_append_left queue (node ∷ []) 0 k h)
keeps_at queue node false = (omega arith, λ k h. refl)

keeps : (nodes : List ℕ) (s : State) → Keeps s.1 (with_nodes s nodes).1
keeps [] s = (omega arith, λ k h. refl)
keeps (node ∷ nodes) s =
    let one = keeps_at s.1 node (is_new s.0 node) in
    let all = keeps nodes (with_node s node) in
    (omega (arith, one.0, all.0), λ k h. all.1 k (omega (arith, one.0)) ∙ one.1 k h)

abbrev unmet_at : Bool → ℕ
unmet_at b = if b then 0 else 1

counted_at : (s : State) (node : ℕ) (b : Bool) → get_or s.0 node true ≡ b → unmet (if not b then set s.0 node true else s.0) + length (if not b then s.1 ++ node ∷ [] else s.1) ≡ unmet s.0 + length s.1
counted_at s node true e = refl
counted_at s node false e =
    let sum = sum_by-set unmet_at s.0 node true true (inside s.0 node e) in
    let was : unmet_at (get_or s.0 node true) ≡ 1 = ap unmet_at e in
    omega (arith, sum, was, length-append s.1 (node ∷ []))

pub counted : (nodes : List ℕ) (s : State) → unmet (with_nodes s nodes).0 + length (with_nodes s nodes).1 ≡ unmet s.0 + length s.1
counted [] s = refl
counted (node ∷ nodes) s = counted nodes (with_node s node) ∙ counted_at s node (get_or s.0 node true) refl

module _ (graph : Graph) (start : ℕ) where
  record Met (s : State) : Type 0 where
    led : (x : ℕ) → IsTrue (has s.1 x) → (x ≡ start) ⊎ Leads graph start x
    listed : (x : ℕ) → IsTrue (get_or s.0 x false) → IsTrue (has s.1 x)
    sized : length s.0 ≡ length graph

  led_one : (s : State) (node : ℕ) → Met s → Leads graph start node → (x : ℕ) → IsTrue (has s.1 x) ⊎ (x ≡ node) → (x ≡ start) ⊎ Leads graph start x
  led_one s node m l x (inl h) = m.led x h
  led_one s node m l x (inr e) = inr (subst (λ y. Leads graph start y) (sym e) l)

  listed_one : (s : State) (node : ℕ) → Met s → node < length s.0 → (x : ℕ) → (x ≡ node) ⊎ (x ≢ node) → IsTrue (get_or (set s.0 node true) x false) → IsTrue (has (s.1 ++ node ∷ []) x)
  listed_one s node m h x (inl e) t = subst (λ y. IsTrue (has (s.1 ++ node ∷ []) y)) (sym e) (has_pushed s.1 node)
  listed_one s node m h x (inr n) t = has_before s.1 (node ∷ []) x (m.listed x (sym (get_or-set_other s.0 node x true false n) ∙ t))

  met_at : (s : State) (node : ℕ) (b : Bool) → get_or s.0 node true ≡ b → Met s → Leads graph start node → Met (if not b then set s.0 node true else s.0, if not b then s.1 ++ node ∷ [] else s.1)
  met_at s node true e m l = record { led = m.led; listed = m.listed; sized = m.sized }
  met_at s node false e m l = record {
    led = λ x h. led_one s node m l x (in_pushed s.1 x node h);
    listed = λ x t. listed_one s node m (inside s.0 node e) x (same_or_not x node) t;
    sized = length-set s.0 node true ∙ m.sized;
  }

  AllLed : List ℕ → Type 0
  AllLed nodes = (t : ℕ) → IsTrue (has nodes t) → Leads graph start t

  first_led : (node : ℕ) (nodes : List ℕ) → AllLed (node ∷ nodes) → Leads graph start node
  unfolding AllLed
  first_led node nodes l = l node (or_left (node == node) (has nodes node) (itself node))

  rest_led : (node : ℕ) (nodes : List ℕ) → AllLed (node ∷ nodes) → AllLed nodes
  unfolding AllLed
  rest_led node nodes l t h = l t (or_right (node == t) (has nodes t) h)

  met_one : (s : State) (node : ℕ) → Met s → Leads graph start node → Met (with_node s node)
  met_one s node m l = met_at s node (get_or s.0 node true) refl m l

  met_all : (nodes : List ℕ) (s : State) → AllLed nodes → Met s → Met (with_nodes s nodes)
  met_all [] s l m = m
  met_all (node ∷ nodes) s l m = met_all nodes (with_node s node) (rest_led node nodes l) (met_one s node m (first_led node nodes l))

  -- a node that was to be met was met, or is not there
  there_at : (s : State) (node : ℕ) (b : Bool) → get_or s.0 node true ≡ b → (node < length s.0) ⊎ (length s.0 ≤ node) → Met s → IsTrue (has (if not b then s.1 ++ node ∷ [] else s.1) node) ⊎ (length graph ≤ node)
  there_at s node false e w m = inl (has_pushed s.1 node)
  there_at s node true e (inl h) m = inl (m.listed node (get_or_default s.0 node false true h ∙ e))
  there_at s node true e (inr h) m = inr (omega (arith, m.sized))

  there_first : (nodes : List ℕ) (s : State) (node t : ℕ) → t ≡ node → Met s → IsTrue (has (with_nodes s (node ∷ nodes)).1 t) ⊎ (length graph ≤ t)
  there_first nodes s node t e m = elim (there_at s node (get_or s.0 node true) refl (below_or_past node (length s.0)) m) as (λ _. IsTrue (has (with_nodes s (node ∷ nodes)).1 t) ⊎ (length graph ≤ t)) [
    | inl h ↦ inl (subst (λ x. IsTrue (has (with_nodes s (node ∷ nodes)).1 x)) (sym e) (grows nodes (with_node s node) node h))
    | inr p ↦ inr (omega (arith, e))
  ]

  there : (nodes : List ℕ) (s : State) (t : ℕ) → AllLed nodes → Met s → IsTrue (has nodes t) → IsTrue (has (with_nodes s nodes).1 t) ⊎ (length graph ≤ t)
  there [] s t l m h = absurd (cc)
  there (node ∷ nodes) s t l m h = elim (or_tells (node == t) (has nodes t) h) as (λ _. IsTrue (has (with_nodes s (node ∷ nodes)).1 t) ⊎ (length graph ≤ t)) [
    | inl e ↦ there_first nodes s node t (sym ((Decides-eqb node t).0 e)) m
    | inr g ↦ there nodes (with_node s node) t (rest_led node nodes l) (met_one s node m (first_led node nodes l)) g
  ]

  -- ---- the step of the search

  led_by : (s : State) (node t : ℕ) → (node ≡ start) ⊎ Leads graph start node → IsTrue (has_edge graph node t) → Leads graph start t
  led_by s node t (inl e) edge = by_edge (subst (λ x. IsTrue (has_edge graph x t)) e edge)
  led_by s node t (inr l) edge = ways.and_then graph l (by_edge edge)

  is_there_at : (xs : List ℕ) (k : ℕ) → k < length xs → IsTrue (has xs (get_or xs k 0))
  is_there_at [] k h = absurd (omega arith)
  is_there_at (x ∷ xs) zero h = or_left (x == x) (has xs x) (itself x)
  is_there_at (x ∷ xs) (suc k) h = or_right (x == get_or xs k 0) (has xs (get_or xs k 0)) (is_there_at xs k (omega arith))

  pub led_here : (s : State) (at : ℕ) → Reached graph start s at → at < length s.1 → (t : ℕ) → IsTrue (has_edge graph (get_or s.1 at 0) t) → Leads graph start t
  led_here s at r h t edge = led_by s (get_or s.1 at 0) t (r.led (get_or s.1 at 0) (is_there_at s.1 at h)) edge

  abbrev next_of : State → ℕ → State
  next_of s at = with_nodes s (targets graph (get_or s.1 at 0))

  abbrev Closed : State → ℕ → Type 0
  Closed s k = (t : ℕ) → IsTrue (has_edge graph (get_or s.1 k 0) t) → (t ≢ start) × (IsTrue (has s.1 t) ⊎ (length graph ≤ t))

  closed_earlier : (s : State) (at k : ℕ) → Reached graph start s at → at < length s.1 → k < at → Closed (next_of s at) k
  closed_earlier s at k r h l t edge =
      let nodes : List ℕ = targets graph (get_or s.1 at 0) in
      let same : get_or (with_nodes s nodes).1 k 0 ≡ get_or s.1 k 0 = (keeps nodes s).1 k (omega arith) in
      let old = r.closed k l t (subst (λ x. IsTrue (has_edge graph x t)) same edge) in
      (old.0, elim old.1 as (λ _. IsTrue (has (with_nodes s nodes).1 t) ⊎ (length graph ≤ t)) [ inl g ↦ inl (grows nodes s t g) | inr p ↦ inr p ])

  no_start : (nodes : List ℕ) (t : ℕ) → has nodes start ≡ false → IsTrue (has nodes t) → t ≢ start
  no_start nodes t n h e = true≢false (sym (subst (λ x. IsTrue (has nodes x)) e h) ∙ n)

  reached_met : (s : State) (at : ℕ) → Reached graph start s at → Met s
  reached_met s at r = record { led = r.led; listed = r.listed; sized = r.sized }

  targets_led : (s : State) (at : ℕ) → Reached graph start s at → at < length s.1 → AllLed (targets graph (get_or s.1 at 0))
  unfolding AllLed
  targets_led s at r h t edge = led_here s at r h t edge

  closed_here : (s : State) (at : ℕ) → Reached graph start s at → at < length s.1 → has (targets graph (get_or s.1 at 0)) start ≡ false → Closed (next_of s at) at
  closed_here s at r h n t edge =
      let nodes : List ℕ = targets graph (get_or s.1 at 0) in
      let same : get_or (with_nodes s nodes).1 at 0 ≡ get_or s.1 at 0 = (keeps nodes s).1 at h in
      let here : IsTrue (has nodes t) = subst (λ x. IsTrue (has_edge graph x t)) same edge in
      (no_start nodes t n here, there nodes s t (targets_led s at r h) (reached_met s at r) here)

  closed_all : (s : State) (at k : ℕ) → Reached graph start s at → at < length s.1 → has (targets graph (get_or s.1 at 0)) start ≡ false → (k < at) ⊎ (k ≡ at) → Closed (next_of s at) k
  closed_all s at k r h n (inl l) = closed_earlier s at k r h l
  closed_all s at k r h n (inr e) = subst (λ j. Closed (next_of s at) j) (sym e) (closed_here s at r h n)

  below_or_same : (k at : ℕ) → k < at + 1 → (k < at) ⊎ (k ≡ at)
  below_or_same k at h = grind arith

  pub step : (s : State) (at : ℕ) → Reached graph start s at → at < length s.1 → has (targets graph (get_or s.1 at 0)) start ≡ false → Reached graph start (next_of s at) (at + 1)
  step s at r h n =
      let nodes : List ℕ = targets graph (get_or s.1 at 0) in
      let m : Met (with_nodes s nodes) = met_all nodes s (targets_led s at r h) (reached_met s at r) in
      record {
        led = m.led;
        listed = m.listed;
        sized = m.sized;
        starts = grows nodes s start r.starts;
        closed = λ k l. closed_all s at k r h n (below_or_same k at l);
      }

  pub begin : (met : List Bool) → ((x : ℕ) → get_or met x false ≡ false) → length met ≡ length graph → Reached graph start (met, start ∷ []) 0
  begin met none sized = record {
    led = λ x h. inl (pushed_at x start (or_tells (start == x) false h));
    listed = λ x t. absurd (true≢false (sym t ∙ none x));
    sized = sized;
    starts = or_left (start == start) false (itself start);
    closed = λ k l. absurd (omega arith);
  }

  -- ---- the end of the search

  position_of : (xs : List ℕ) (x : ℕ) → IsTrue (has xs x) → (k : ℕ) × (k < length xs) × (get_or xs k 0 ≡ x)
  position_of [] x h = absurd (cc)
  position_of (y ∷ ys) x h = elim (or_tells (y == x) (has ys x) h) as (λ _. (k : ℕ) × (k < length (y ∷ ys)) × (get_or (y ∷ ys) k 0 ≡ x)) [
    | inl e ↦ (0, omega arith, (Decides-eqb y x).0 e)
    | inr g ↦ let p = position_of ys x g in (suc p.0, omega (arith, p.1), p.2)
  ]

  closed_at : (s : State) (at : ℕ) → Reached graph start s at → length s.1 ≤ at → (x : ℕ) → IsTrue (has s.1 x) → (t : ℕ) → IsTrue (has_edge graph x t) → (t ≢ start) × (IsTrue (has s.1 t) ⊎ (length graph ≤ t))
  closed_at s at r h x g t edge =
      let p = position_of s.1 x g in
      r.closed p.0 (omega (arith, p.1)) t (subst (λ y. IsTrue (has_edge graph y t)) (sym p.2) edge)

  not_back : (s : State) (at : ℕ) → Reached graph start s at → length s.1 ≤ at → {x y : ℕ} → Leads graph x y → IsTrue (has s.1 x) → y ≢ start
  not_back s at r h (by_edge {i = x} {j = y} e) g = (closed_at s at r h x g y e).0
  not_back s at r h (further {i = x} {j = m} {k = y} e q) g = elim (closed_at s at r h x g m e).1 as (λ _. y ≢ start) [
    | inl more ↦ not_back s at r h q more
    | inr past ↦ absurd (omega (arith, ways.starts graph q))
  ]

  pub ends : (s : State) (at : ℕ) → Reached graph start s at → length s.1 ≤ at → ¬ Leads graph start start
  ends s at r h l = not_back s at r h l r.starts refl

pub read_at : (xs : List ℕ) (i x : ℕ) → i < length xs → x ≡ get_or xs i x → x ≡ get_or xs i 0
read_at xs i x h e = e ∙ get_or_default xs i x 0 h

-- the first `at` nodes of the queue are no more than there are after it grew
pub longer : (nodes : List ℕ) (s : State) → length s.1 ≤ length (with_nodes s nodes).1
longer nodes s = (keeps nodes s).0
