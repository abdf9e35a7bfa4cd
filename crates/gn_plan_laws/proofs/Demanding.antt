-- The nodes that a tree demands, where what it gives out comes from one run that reads no other.
use Rattle.std.proofs.Common.{◌≡◌, inl, inr, ℕ, zero, suc, pos, List, [], ◌∷◌, ◌++◌, Option, Some, None, refl, sym, ◌∙◌, ap, subst}
use Rattle.std.specs.Prelude.{option_and_then}
use Rattle.gn_value.specs.declared.value.Value.TheVariants.{Int as int}
use Rattle.gn_tree.specs.NodeKinds.{Kind}
use Rattle.gn_tree.specs.Trees.{Tree}
use Rattle.gn_node_set.specs.Paths.{Path}
use Rattle.gn_node_set.specs.Meanings.{Has, Plain, Rows, first_read, then_read}
use Rattle.gn_meaning.specs.Sites.{a_value, Way, the_tree, into, plain_step, turn_step, Site, at_output, at_input, at_item, at_constant, nowhere, Read, plain_read}
use Rattle.gn_meaning.specs.Bodies.{Body}
use Rattle.gn_meaning.specs.Reads.{read_at, Run, Part, a_node, a_group, a_repeat, part_at, out_of, run_in, run_of}
use Rattle.gn_meaning.specs.Denotation.{Given}
use Rattle.gn_meaning.specs.Origins.{read_origin, output_origin, input_origin, turn_origin, first_origin, next_origin, origin_within, ComesFrom, IsReadFrom}
use Rattle.gn_meaning.specs.Demand.{Wanted, a_root, an_input, a_case, a_group_output, a_group_input, a_result, a_first_item, a_later_item, an_item, Demanded, ListsDemand}
use Rattle.gn_meaning.proofs.Options.{map_some, then_some, some_same}
use Rattle.gn_plan_laws.proofs.Reading.{Inside, inside}
use Rattle.gn_plan_laws.proofs.Ways.{Opens, Fits, wanted_fits}

-- the value of a site with this origin needs no run
abbrev pub IsAtHand : Site → Type 0
IsAtHand (at_constant c) = Unit {0}
IsAtHand (at_input the_tree i) = Unit {0}
IsAtHand _ = ⊥

module _ (t : Tree) (Ends : Site → Type 0) where
  -- the site comes from one with that property
  abbrev pub EndsAt : Site → Type 0
  EndsAt site = (o : Read) × ComesFrom t site o × Ends o.from

  -- a site that comes from what is read passes its property on
  passed_on : (r o : Read) (k : ℕ) → read_origin t (origin_within t k) r ≡ Some o → Ends o.from → EndsAt r.from
  passed_on r o k e h =
      let i : Inside t r o = inside t r o (k, e) in
      (i.inner, i.comes, subst Ends (sym i.from) h)

  -- the site is found in one step more
  pub record Back (site : Site) : Type 0 where
    pub steps : ℕ
    pub origin : Read
    pub found : next_origin t (origin_within t steps) site ≡ Some origin
    pub ends : Ends origin.from

  back : (site : Site) → EndsAt site → Back site
  back site (o, (zero, e), h) = cc
  back site (o, (suc k, e), h) = record { steps = k; origin = o; found = e; ends = h }

  module _ (way : Way) (n s : ℕ) where
    pub out_of_group : (b : Body) (reads : List Read) → part_at t way n ≡ Some (a_group b reads) → EndsAt (at_output way n s) → EndsAt (out_of t (into way (plain_step n)) s).from
    out_of_group b reads e h =
        let k = back (at_output way n s) h in
        passed_on (out_of t (into way (plain_step n)) s) k.origin k.steps (sym (ap (output_origin t (origin_within t k.steps) way n s) e) ∙ k.found) k.ends

    pub group_input : (b : Body) (reads : List Read) → part_at t way n ≡ Some (a_group b reads) → EndsAt (at_input (into way (plain_step n)) s) → EndsAt (read_at reads s).from
    group_input b reads e h =
        let k = back (at_input (into way (plain_step n)) s) h in
        passed_on (read_at reads s) k.origin k.steps (sym (ap (input_origin t (origin_within t k.steps) way (plain_step n) s) e) ∙ k.found) k.ends

    pub to_first : (run : Run) (b : Body) → part_at t way n ≡ Some (a_repeat run b) → EndsAt (at_item way n zero s) → EndsAt (read_at run.reads (suc s)).from
    to_first run b e h =
        let k = back (at_item way n zero s) h in
        passed_on (read_at run.reads (suc s)) k.origin k.steps (sym (ap (first_origin t (origin_within t k.steps) s) e) ∙ k.found) k.ends

    pub to_later : (turn : ℕ) → EndsAt (at_item way n (suc turn) s) → EndsAt (out_of t (into way (turn_step n turn)) s).from
    to_later turn h =
        let k = back (at_item way n (suc turn) s) h in
        passed_on (out_of t (into way (turn_step n turn)) s) k.origin k.steps k.found k.ends

    pub to_item : (turn : ℕ) (run : Run) (b : Body) → part_at t way n ≡ Some (a_repeat run b) → EndsAt (at_input (into way (turn_step n turn)) (suc s)) → EndsAt (at_item way n turn s)
    to_item turn run b e h =
        let k = back (at_input (into way (turn_step n turn)) (suc s)) h in
        (k.origin, (k.steps, sym (ap (input_origin t (origin_within t k.steps) way (turn_step n turn) (suc s)) e) ∙ k.found), k.ends)

    -- an output of what is run is its own origin
    pub own_origin : (part : Part) (run : Run) → part_at t way n ≡ Some part → run_in part ≡ Some run → EndsAt (at_output way n s) → Ends (at_output way n s)
    own_origin (a_node run) r e f h =
        let k = back (at_output way n s) h in
        own k.origin (sym (ap (output_origin t (origin_within t k.steps) way n s) e) ∙ k.found) k.ends
      where
        own : (o : Read) → Some (plain_read (at_output way n s)) ≡ Some o → Ends o.from → Ends (at_output way n s)
        own o e h = subst Ends (sym (ap (λ x. x.from) (some_same e))) h
    own_origin (a_group b reads) r e f h = cc
    own_origin (a_repeat run b) r e f h =
        let k = back (at_output way n s) h in
        own k.origin (sym (ap (output_origin t (origin_within t k.steps) way n s) e) ∙ k.found) k.ends
      where
        own : (o : Read) → Some (plain_read (at_output way n s)) ≡ Some o → Ends o.from → Ends (at_output way n s)
        own o e h = subst Ends (sym (ap (λ x. x.from) (some_same e))) h

-- ---- what is demanded

module _ {V : Type 0} (rows : Rows Kind V) (given : Given V) (t : Tree) (roots : List Read) (Ends : Site → Type 0) where
  -- at such a site stands what a plain node gives, which reads sites of that property
  abbrev pub RunsPlainly : Type 0
  RunsPlainly = (way : Way) (n s : ℕ) → Ends (at_output way n s) → (part : Part) (run : Run) → part_at t way n ≡ Some part → run_in part ≡ Some run
      → (part ≡ a_node run) × (rows.role run.kind ≡ Plain) × ((r : Read) → Has run.reads r → EndsAt t Ends r.from)

  module _ (plainly : RunsPlainly) (start : (r : Read) → Has roots r → EndsAt t Ends r.from) where
    -- a site from which a run is found is an output
    pub record IsRun (site : Site) (run : Run) : Type 0 where
      pub way : Way
      pub node : ℕ
      pub number : ℕ
      pub is : site ≡ at_output way node number
      pub ends : Ends (at_output way node number)
      pub part : part_at t way node ≡ Some (a_node run)
      pub plain : rows.role run.kind ≡ Plain
      pub reads : (r : Read) → Has run.reads r → EndsAt t Ends r.from

    pub run_found : (site : Site) (run : Run) → EndsAt t Ends site → run_of t site ≡ Some run → IsRun site run
    run_found (at_output way n s) run h e =
        let part = then_some run_in (part_at t way n) run e in
        let ends : Ends (at_output way n s) = own_origin t Ends way n s part.0 run part.1 part.2 h in
        let plain = plainly way n s ends part.0 run part.1 part.2 in
        record { way = way; node = n; number = s; is = refl; ends = ends; part = part.1 ∙ ap (λ p. Some p) plain.0; plain = plain.1; reads = plain.2 }
    run_found (at_input way i) run h e = cc
    run_found (at_item way n k i) run h e = cc
    run_found (at_constant c) run h e = cc
    run_found nowhere run h e = cc

    no_repeat : (way : Way) (n s : ℕ) (run : Run) (b : Body) → part_at t way n ≡ Some (a_repeat run b) → EndsAt t Ends (at_output way n s) → ⊥
    no_repeat way n s run b e h =
        let ends : Ends (at_output way n s) = own_origin t Ends way n s (a_repeat run b) run e refl h in
        let plain = (plainly way n s ends (a_repeat run b) run e refl).0 in
        cc

    pub wanted_ends : (site : Site) → Wanted rows given t roots site → EndsAt t Ends site
    wanted_ends site (a_root r h) = start r h
    wanted_ends site (an_input {site = from} run r w e h) =
        let found : IsRun from run = run_found from run (wanted_ends from w) e in
        found.reads r (subst (λ role. Has (first_read role run.reads) r) found.plain h)
    wanted_ends site (a_case {site = from} run choice r w e c h) =
        let found : IsRun from run = run_found from run (wanted_ends from w) e in
        let none : Has (then_read Plain choice run.reads) r = subst (λ role. Has (then_read role choice run.reads) r) found.plain h in
        absurd none
    wanted_ends site (a_group_output {way} {n} {s} b reads w e) = out_of_group t Ends way n s b reads e (wanted_ends (at_output way n s) w)
    wanted_ends site (a_group_input {way} {n} {i} b reads w e) = group_input t Ends way n i b reads e (wanted_ends (at_input (into way (plain_step n)) i) w)
    wanted_ends site (a_result {way} {n} {s} run b v w e g) = absurd (no_repeat way n s run b e (wanted_ends (at_output way n s) w))
    wanted_ends site (a_first_item {way} {n} {i} run b w e) = to_first t Ends way n i run b e (wanted_ends (at_item way n zero i) w)
    wanted_ends site (a_later_item {way} {n} {k} {i} w) = to_later t Ends way n i k (wanted_ends (at_item way n (suc k) i) w)
    wanted_ends site (an_item {way} {n} {k} {i} run b w e) = to_item t Ends way n i k run b e (wanted_ends (at_input (into way (turn_step n k)) (suc i)) w)

  -- ---- the origin of a wanted site is wanted

  -- a constant, or wanted
  abbrev Brought : Site → Type 0
  Brought (at_constant c) = Unit {0}
  Brought site = Wanted rows given t roots site

  module _ (fits : (site : Site) → Wanted rows given t roots site → Fits t site) where
    Brings : ℕ → Type 0
    Brings k = (site : Site) (o : Read) → Wanted rows given t roots site → origin_within t k site ≡ Some o → Brought o.from

    read_brings : (k : ℕ) → Brings k → (r o : Read) → Wanted rows given t roots r.from → read_origin t (origin_within t k) r ≡ Some o → Brought o.from
    unfolding Brings
    read_brings k before r o w e =
        let found = map_some (λ q. record { from = q.from; through = q.through ++ r.through }) (origin_within t k r.from) o e in
        subst Brought (ap (λ q. q.from) found.2) (before r.from found.0 w found.1)

    itself : (site : Site) (o : Read) → Brought site → Some (plain_read site) ≡ Some o → Brought o.from
    itself site o h e = subst Brought (ap (λ q. q.from) (some_same e)) h

    output_brings : (k : ℕ) → Brings k → (way : Way) (n s : ℕ) (o : Read) (part : Option Part) → part_at t way n ≡ part → Wanted rows given t roots (at_output way n s) → output_origin t (origin_within t k) way n s part ≡ Some o → Brought o.from
    output_brings k before way n s o None at w e = cc
    output_brings k before way n s o (Some (a_node run)) at w e = itself (at_output way n s) o w e
    output_brings k before way n s o (Some (a_group b reads)) at w e = read_brings k before (out_of t (into way (plain_step n)) s) o (a_group_output b reads w at) e
    output_brings k before way n s o (Some (a_repeat run b)) at w e = itself (at_output way n s) o w e

    item_brings : (k : ℕ) → Brings k → (way : Way) (n i : ℕ) (o : Read) (part : Option Part) → part_at t way n ≡ part → Wanted rows given t roots (at_item way n zero i) → first_origin t (origin_within t k) i part ≡ Some o → Brought o.from
    item_brings k before way n i o None at w e = cc
    item_brings k before way n i o (Some (a_node run)) at w e = cc
    item_brings k before way n i o (Some (a_group b reads)) at w e = cc
    item_brings k before way n i o (Some (a_repeat run b)) at w e = read_brings k before (read_at run.reads (suc i)) o (a_first_item run b w at) e

    turn_brings : (k : ℕ) → Brings k → (way : Way) (n turn i : ℕ) (o : Read) (run : Run) (b : Body) → part_at t way n ≡ Some (a_repeat run b) → Wanted rows given t roots (at_input (into way (turn_step n turn)) i) → turn_origin t (origin_within t k) way n (Some turn) i ≡ Some o → Brought o.from
    unfolding Brings
    turn_brings k before way n turn zero o run b at w e = itself (at_constant (a_value (int (pos turn)))) o tt e
    turn_brings k before way n turn (suc i) o run b at w e = before (at_item way n turn i) o (an_item run b w at) e

    group_brings : (k : ℕ) → Brings k → (way : Way) (n i : ℕ) (o : Read) (b : Body) (reads : List Read) → part_at t way n ≡ Some (a_group b reads) → Wanted rows given t roots (at_input (into way (plain_step n)) i) → next_origin t (origin_within t k) (at_input (into way (plain_step n)) i) ≡ Some o → Brought o.from
    group_brings k before way n i o b reads at w e =
        read_brings k before (read_at reads i) o (a_group_input b reads w at) (sym (ap (input_origin t (origin_within t k) way (plain_step n) i) at) ∙ e)

    repeat_brings : (k : ℕ) → Brings k → (way : Way) (n turn i : ℕ) (o : Read) (run : Run) (b : Body) → part_at t way n ≡ Some (a_repeat run b) → Wanted rows given t roots (at_input (into way (turn_step n turn)) i) → next_origin t (origin_within t k) (at_input (into way (turn_step n turn)) i) ≡ Some o → Brought o.from
    repeat_brings k before way n turn i o run b at w e =
        turn_brings k before way n turn i o run b at w (sym (ap (input_origin t (origin_within t k) way (turn_step n turn) i) at) ∙ e)

    input_brings : (k : ℕ) → Brings k → (way : Way) (i : ℕ) (o : Read) → Opens t way → Wanted rows given t roots (at_input way i) → next_origin t (origin_within t k) (at_input way i) ≡ Some o → Brought o.from
    input_brings k before the_tree i o opens w e = itself (at_input the_tree i) o w e
    input_brings k before (into way step) i o (opens, inl (n, b, reads, same, at)) w e =
        group_brings k before way n i o b reads at (subst (λ x. Wanted rows given t roots (at_input (into way x) i)) same w) (subst (λ x. next_origin t (origin_within t k) (at_input (into way x) i) ≡ Some o) same e)
    input_brings k before (into way step) i o (opens, inr (n, turn, run, b, same, at)) w e =
        repeat_brings k before way n turn i o run b at (subst (λ x. Wanted rows given t roots (at_input (into way x) i)) same w) (subst (λ x. next_origin t (origin_within t k) (at_input (into way x) i) ≡ Some o) same e)

    brings : (k : ℕ) → Brings k
    unfolding Brings
    brings zero site o w e = cc
    brings (suc k) (at_output way n s) o w e = output_brings k (brings k) way n s o (part_at t way n) refl w e
    brings (suc k) (at_input way i) o w e = input_brings k (brings k) way i o (fits (at_input way i) w) w e
    brings (suc k) (at_item way n zero i) o w e = item_brings k (brings k) way n i o (part_at t way n) refl w e
    brings (suc k) (at_item way n (suc turn) i) o w e = read_brings k (brings k) (out_of t (into way (turn_step n turn)) i) o (a_later_item w) e
    brings (suc k) (at_constant c) o w e = itself (at_constant c) o tt e
    brings (suc k) nowhere o w e = cc

    -- what a root comes from is wanted
    pub root_brings : (r o : Read) → Has roots r → IsReadFrom t r o → Brought o.from
    root_brings r o h (k, e) = read_brings k (brings k) r o (a_root r h) e

-- ---- a tree with a plan

module _ {V : Type 0} (rows : Rows Kind V) (given : Given V) (t : Tree) (root : Read) where
  abbrev Roots : List Read
  Roots = root ∷ []

  from_root : (Ends : Site → Type 0) → EndsAt t Ends root.from → (r : Read) → Has Roots r → EndsAt t Ends r.from
  from_root Ends h r (inl e) = subst (λ x. EndsAt t Ends x.from) (sym e) h
  from_root Ends h r (inr e) = absurd e

  pub root_wanted : (way : Way) (n : ℕ) → IsReadFrom t root (plain_read (at_output way n 0)) → Fits t root.from → Wanted rows given t Roots (at_output way n 0)
  root_wanted way n h fits = root_brings rows given t Roots (λ s. Unit {0}) (wanted_fits t rows given Roots root_fits) root (plain_read (at_output way n 0)) (inl refl) h
    where
      root_fits : (r : Read) → Has Roots r → Fits t r.from
      root_fits r (inl e) = subst (λ x. Fits t x.from) (sym e) fits
      root_fits r (inr e) = absurd e

  -- the way of the run that the root comes from
  pub root_opens : (way : Way) (n : ℕ) → IsReadFrom t root (plain_read (at_output way n 0)) → Fits t root.from → Opens t way
  root_opens way n h fits = wanted_fits t rows given Roots root_fits (at_output way n 0) (root_wanted way n h fits)
    where
      root_fits : (r : Read) → Has Roots r → Fits t r.from
      root_fits r (inl e) = subst (λ x. Fits t x.from) (sym e) fits
      root_fits r (inr e) = absurd e

  -- ---- nothing runs

  none_runs : RunsPlainly rows given t Roots IsAtHand
  none_runs way n s h = absurd h

  pub demands_none : (site : Site) → IsAtHand site → IsReadFrom t root (plain_read site) → ListsDemand rows given t Roots []
  demands_none site at h =
      let i : Inside t root (plain_read site) = inside t root (plain_read site) h in
      let start : EndsAt t IsAtHand root.from = (i.inner, i.comes, subst IsAtHand (sym i.from) at) in
      record {
        members = λ p. (λ h. absurd h, λ d. (run_found rows given t Roots IsAtHand none_runs (from_root IsAtHand start) d.0 d.2 (wanted_ends rows given t Roots IsAtHand none_runs (from_root IsAtHand start) d.0 d.1) d.3).ends);
        differ = tt;
      }

  -- ---- one node runs

  module _ (way : Way) (n : ℕ) (run : Run) (at : part_at t way n ≡ Some (a_node run)) (plain : rows.role run.kind ≡ Plain) where
    abbrev pub OneOrNone : Site → Type 0
    OneOrNone (at_output w m s) = (w ≡ way) × (m ≡ n)
    OneOrNone site = IsAtHand site

    module _ (reads : (r : Read) → Has run.reads r → EndsAt t OneOrNone r.from) where
      one_runs : RunsPlainly rows given t Roots OneOrNone
      one_runs w m s h part other e f =
          let place : part_at t w m ≡ part_at t way n = ap (λ x. part_at t x m) h.0 ∙ ap (part_at t way) h.1 in
          let same : a_node run ≡ part = some_same (sym at ∙ sym place ∙ e) in
          let also : run ≡ other = some_same (ap run_in same ∙ f) in
          (sym same ∙ ap a_node also, subst (λ x. rows.role x.kind ≡ Plain) also plain, subst (λ x. (r : Read) → Has x.reads r → EndsAt t OneOrNone r.from) also reads)

      module _ (h : IsReadFrom t root (plain_read (at_output way n 0))) (fits : Fits t root.from) where
        start : EndsAt t OneOrNone root.from
        start =
            let i : Inside t root (plain_read (at_output way n 0)) = inside t root (plain_read (at_output way n 0)) h in
            (i.inner, i.comes, subst OneOrNone (sym i.from) (refl, refl))

        only : (p : Path) → Demanded rows given t Roots p → p ≡ run.path
        only p d =
            let found = run_found rows given t Roots OneOrNone one_runs (from_root OneOrNone start) d.0 d.2 (wanted_ends rows given t Roots OneOrNone one_runs (from_root OneOrNone start) d.0 d.1) d.3 in
            let place : part_at t found.way found.node ≡ part_at t way n = ap (λ x. part_at t x found.node) found.ends.0 ∙ ap (part_at t way) found.ends.1 in
            let same : run ≡ d.2 = some_same (ap (option_and_then run_in) (sym at ∙ sym place ∙ found.part)) in
            sym d.4 ∙ ap (λ x. x.path) (sym same)

        demanded : Demanded rows given t Roots run.path
        demanded = (at_output way n 0, root_wanted way n h fits, run, ap (option_and_then run_in) at, refl)

        pub demands_one : ListsDemand rows given t Roots (run.path ∷ [])
        demands_one = record {
          members = λ p. (elim [ inl e ↦ subst (Demanded rows given t Roots) (sym e) demanded | inr e ↦ absurd e ], λ d. inl (only p d));
          differ = (λ h. h, tt);
        }
