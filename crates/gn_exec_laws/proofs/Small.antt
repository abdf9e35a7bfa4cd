-- A small set of nodes, whose meanings are lawful, and a run of it.
use Rattle.std.proofs.Common.{◌≡◌, ◌≢◌, ◌⊎◌, inl, inr, ◌<◌, ℕ, suc, zero, ◌+◌, length, List, [], ◌∷◌, Option, Some, None, Bool, true, false, refl, sym, ◌∙◌, ap, subst, arith}
use Rattle.std.proofs.lemmas.Bool.Decides.{eqb_tells}
use Rattle.std.specs.Prelude.{codes, ◌==◌, ◌||◌, is_some, is_none, if◌then◌else◌, slice_get}
use Rattle.gn_lazy.specs.declared.path.PathStep.{PathStep}
use Rattle.gn_node_set.specs.Paths.{Path, same_path, ends_plain, zone_of, has_turn}
use Rattle.gn_node_set.specs.Meanings.{Has, Source, a_value, an_item, an_output, Link, plain_link, Node, Opened, Role, Plain, Switch, File, Zone, Choice, one_case, all_cases, Answer, Whole, Absent, TooLong, Warning, Rows, Meanings}
use Rattle.gn_exec_laws.specs.Graphs.{Task, told_by}
use Rattle.gn_exec_laws.specs.Fits.{paths_of, CanStart, RunsWell, OpensWell, IsLawful, SourceSort, shifted}
use Rattle.gn_exec_laws.specs.Claims.{serves, IsOver, taken_nodes}
use Rattle.gn_exec_laws.proofs.Kept.{IsTakenWell, kept}
use Rattle.gn_node_set.proofs.Lists.{some_same, not_both}
use Rattle.gn_node_set.proofs.Paths.{by_path, entry_is}
use Rattle.gn_exec_laws.specs.Machine.{Event, Take, Finish, Serve, Refuse, World, world, reads, run_now, is_set, sure, possible, Reached, Used, NoRefusals, Allowed, IsRun, IsServed}

-- adding two numbers, choosing one of two, the length of a file, and a zone whose one turn adds 10
pub data Kind : Type 0 where
  adds : Kind
  chooses : Kind
  measures : List ℕ → Kind
  repeats : Kind

-- a number, and the node that made the sampled step behind it, where there is one
pub record Value : Type 0 where
  pub number : ℕ
  pub maker : Option Path

abbrev plain : ℕ → Value
plain n = record { number = n; maker = None }

abbrev role_of : Kind → Role
role_of adds = Plain
role_of chooses = Switch
role_of (measures file) = File
role_of repeats = Zone

abbrev file_of : Kind → List ℕ
file_of (measures file) = file
file_of _ = []

-- a condition of 0 chooses the first value, one of 1 the second, and a greater one asks for both
abbrev choice_by : ℕ → Choice
choice_by zero = one_case 0
choice_by (suc zero) = one_case 1
choice_by (suc (suc n)) = all_cases

abbrev length_of : Option Answer → ℕ
length_of (Some (Whole bytes)) = length bytes
length_of _ = 0

abbrev warnings_of : Path → Option Answer → List Warning
warnings_of p (Some Absent) = record { path = p; text = codes "absent" } ∷ []
warnings_of p (Some TooLong) = record { path = p; text = codes "too long" } ∷ []
warnings_of p _ = []

abbrev number_of_row : Kind → List Value → Option Answer → ℕ
number_of_row adds (a ∷ b ∷ []) answer = a.number + b.number
number_of_row chooses (c ∷ a ∷ []) answer = a.number
number_of_row chooses (c ∷ a ∷ b ∷ []) answer = a.number + b.number
number_of_row (measures file) vs answer = length_of answer
number_of_row repeats (c ∷ []) answer = c.number
number_of_row _ _ answer = 0

-- the first maker among the inputs
abbrev maker_in : List Value → Option Path
maker_in [] = None
maker_in (v ∷ vs) = if is_some v.maker then v.maker else maker_in vs

-- an import makes a sampled step
abbrev maker_by : Kind → Path → List Value → Option Path
maker_by (measures file) p vs = Some p
maker_by _ p vs = maker_in vs

abbrev warned_by : Kind → Path → Option Answer → List Warning
warned_by (measures file) p answer = warnings_of p answer
warned_by _ p answer = []

-- the turn of a zone: it adds 10 to the item
abbrev turn_path : PathStep → Path
turn_path zone = record { node = zone.node; turn = Some 0 } ∷ record { node = 0; turn = None } ∷ []

abbrev adder : PathStep → Node Kind Value
adder zone = record { path = turn_path zone; kind = adds; links = plain_link (an_item 0) ∷ plain_link (a_value (plain 10)) ∷ [] }

-- one turn where the count is 1, and else none
abbrev opened_by_count : Path → ℕ → Opened Kind Value
opened_by_count (zone ∷ []) (suc zero) = record { nodes = adder zone ∷ []; outputs = plain_link (an_output (turn_path zone) 0) ∷ [] }
opened_by_count _ _ = record { nodes = []; outputs = plain_link (an_item 0) ∷ [] }

abbrev height_of : Kind → ℕ
height_of repeats = 1
height_of _ = 0

abbrev tag_of : Option Path → Path → Option ℕ
tag_of None p = None
tag_of (Some q) p = if same_path q p then Some 0 else None

abbrev small_rows : Rows Kind Value
small_rows = record {
  role = role_of;
  file = file_of;
  choice = λ kind c. choice_by c.number;
  row = λ p kind vs answer. record { outputs = record { number = number_of_row kind vs answer; maker = maker_by kind p vs } ∷ []; warnings = warned_by kind p answer };
  turns = λ kind count. count.number;
  -- a conversion to the kind k adds k
  convert = λ v kind. record { number = v.number + kind; maker = v.maker };
}

abbrev pub small : Meanings Kind Value ℕ ℕ
small = record {
  rows = small_rows;
  opens = λ p kind count. opened_by_count p count.number;
  sort = λ v. 0;
  shift = λ s kind. Some s;
  fits = λ kind sorts. true;
  gives = λ kind. 0 ∷ [];
  height = height_of;
  tag = λ v p. tag_of v.maker p;
  nothing = plain 0;
}

-- ---- its meanings are lawful

found_maker : (vs : List Value) (q : Path) → maker_in vs ≡ Some q → (u : Value) × Has vs u × (u.maker ≡ Some q)
found_maker [] q e = cc
found_maker (v ∷ vs) q e = by_maker v.maker refl e (found_maker vs q)
  where
    by_maker : (o : Option Path) → v.maker ≡ o → (if is_some v.maker then v.maker else maker_in vs) ≡ Some q → (maker_in vs ≡ Some q → (u : Value) × Has vs u × (u.maker ≡ Some q)) → (u : Value) × Has (v ∷ vs) u × (u.maker ≡ Some q)
    by_maker (Some r) is e rest = (v, inl refl, ap (λ o. if is_some o then v.maker else maker_in vs) (sym is) ∙ e)
    by_maker None is e rest = let t : (u : Value) × Has vs u × (u.maker ≡ Some q) = rest (ap (λ o. if is_some o then v.maker else maker_in vs) (sym is) ∙ e) in (t.0, inr t.1, t.2)

-- a value has no tag but that of its maker
own_tag : (o : Option Path) (p : Path) (t : ℕ) → tag_of o p ≡ Some t → o ≡ Some p
own_tag None p t e = cc
own_tag (Some q) p t e = by_path (λ b. (if b then Some 0 else None) ≡ Some t → Some q ≡ Some p) q p (λ same _. ap Some same) (λ _ bad. cc) e

input_tag : (vs : List Value) (q : Path) (t : ℕ) → tag_of (maker_in vs) q ≡ Some t → (u : Value) × Has vs u × (tag_of u.maker q ≡ Some t)
input_tag vs q t e =
    let made : maker_in vs ≡ Some q = own_tag (maker_in vs) q t e in
    let u : (u : Value) × Has vs u × (u.maker ≡ Some q) = found_maker vs q made in
    (u.0, u.1, ap (λ o. tag_of o q) (u.2 ∙ sym made) ∙ e)

row_tags : (p : Path) (kind : Kind) (vs : List Value) (q : Path) (t : ℕ) → tag_of (maker_by kind p vs) q ≡ Some t → (q ≡ p) ⊎ ((u : Value) × Has vs u × (tag_of u.maker q ≡ Some t))
row_tags p (measures file) vs q t e = inl (sym (some_same (own_tag (Some p) q t e)))
row_tags p adds vs q t e = inr (input_tag vs q t e)
row_tags p chooses vs q t e = inr (input_tag vs q t e)
row_tags p repeats vs q t e = inr (input_tag vs q t e)

one_source : (o : Option Path) (p : Path) (s t : ℕ) → tag_of o p ≡ Some s → tag_of o p ≡ Some t → s ≡ t
one_source o p s t e f = some_same (sym e ∙ f)

own_warning : (p : Path) (kind : Kind) (answer : Option Answer) (x : Warning) → Has (warned_by kind p answer) x → x.path ≡ p
own_warning p (measures file) (Some Absent) x h = elim h [ inl same ↦ ap (λ y. y.path) same | inr z ↦ absurd z ]
own_warning p (measures file) (Some TooLong) x h = elim h [ inl same ↦ ap (λ y. y.path) same | inr z ↦ absurd z ]
own_warning p (measures file) (Some (Whole bytes)) x h = absurd h
own_warning p (measures file) None x h = absurd h
own_warning p adds answer x h = absurd h
own_warning p chooses answer x h = absurd h
own_warning p repeats answer x h = absurd h

runs_well : (p : Path) (kind : Kind) (vs : List Value) (answer : Option Answer) → RunsWell small p kind vs (small_rows.row p kind vs answer)
runs_well p kind vs answer = record {
  sorts = λ _. refl;
  count = λ _. (record { number = number_of_row kind vs answer; maker = maker_by kind p vs }, refl);
  tags = λ v h q t e. elim h [ inl same ↦ row_tags p kind vs q t (ap (λ u. tag_of u.maker q) (sym same) ∙ e) | inr z ↦ absurd z ];
  warns = own_warning p kind answer;
  agree = λ u v h k q s t e f. elim h [
    | inl same ↦ elim k [
      | inl same' ↦ one_source (maker_by kind p vs) q s t (ap (λ x. tag_of x.maker q) (sym same) ∙ e) (ap (λ x. tag_of x.maker q) (sym same') ∙ f)
      | inr z ↦ absurd z
    ]
    | inr z ↦ absurd z
  ];
}

no_nodes : (p : Path) (kind : Kind) → OpensWell small p kind (record { nodes = []; outputs = plain_link (an_item 0) ∷ [] })
no_nodes p kind = record { lower = λ x h. absurd h; in_turns = λ x h. absurd h; differ = tt; fit = tt; outputs = ((0, refl, refl), tt) }

one_turn : (zone : PathStep) → zone.turn ≡ None → OpensWell small (zone ∷ []) repeats (record { nodes = adder zone ∷ []; outputs = plain_link (an_output (turn_path zone) 0) ∷ [] })
one_turn zone none = record {
  lower = λ x h. elim h [ inl q ↦ subst (λ n. height_of n.kind < 1) (sym q) (omega arith) | inr z ↦ absurd z ];
  in_turns = λ x h. elim h [
    | inl q ↦ subst (λ n. zone_of n.path ≡ Some (zone ∷ [])) (sym q) (λ i. Some (record { node = zone.node; turn = sym none i } ∷ []))
    | inr z ↦ absurd z
  ];
  differ = (λ h. h, tt);
  fit = (record { sorts = 0 ∷ 0 ∷ []; links = ((0, refl, refl), ((0, (refl, λ p. refl), refl), tt)); kind = record { fits = refl; items = tt } }, tt);
  outputs = ((0, (adder zone, inl refl, refl, refl), refl), tt);
}

opens_well : (p : Path) (kind : Kind) (count : ℕ) → ends_plain p ≡ true → role_of kind ≡ Zone → OpensWell small p kind (opened_by_count p count)
opens_well p adds count ends role = cc
opens_well p chooses count ends role = cc
opens_well p (measures file) count ends role = cc
opens_well [] repeats count ends role = no_nodes [] repeats
opens_well (zone ∷ []) repeats zero ends role = no_nodes (zone ∷ []) repeats
opens_well (zone ∷ []) repeats (suc zero) ends role = one_turn zone (none_of zone.turn ends)
  where
    none_of : (t : Option ℕ) → is_none t ≡ true → t ≡ None
    none_of None e = refl
    none_of (Some k) e = cc
opens_well (zone ∷ []) repeats (suc (suc n)) ends role = no_nodes (zone ∷ []) repeats
opens_well (zone ∷ s ∷ p) repeats count ends role = no_nodes (zone ∷ s ∷ p) repeats

pub small_is_lawful : IsLawful small
small_is_lawful = record {
  rows = λ p kind vs answer _. runs_well p kind vs answer;
  opens = λ p kind count sorts ends role _. opens_well p kind count.number ends role;
  conversion_sorts = λ v kind s e. let same : Some 0 ≡ Some s = e in cc;
  conversion_tags = λ v kind s e p. refl;
}

-- ---- a graph: an import, a zone with the import's value as its item, event_before import, and a switch between the last two

abbrev here : ℕ → Path
here n = record { node = n; turn = None } ∷ []

abbrev in_turn : Path
in_turn = turn_path (record { node = 1; turn = None })

abbrev the_import : Node Kind Value
the_import = record { path = here 0; kind = measures (codes "a.obj"); links = [] }

abbrev the_zone : Node Kind Value
the_zone = record { path = here 1; kind = repeats; links = plain_link (a_value (plain 1)) ∷ record { from = an_output (here 0) 0; through = 100 ∷ [] } ∷ [] }

abbrev other_import : Node Kind Value
other_import = record { path = here 2; kind = measures (codes "b.obj"); links = [] }

abbrev the_switch : Node Kind Value
the_switch = record {
  path = here 3;
  kind = chooses;
  links = plain_link (a_value (plain 1)) ∷ plain_link (an_output (here 2) 0) ∷ record { from = an_output (here 1) 0; through = 1000 ∷ 10000 ∷ [] } ∷ [];
}

abbrev task : Task Kind Value
task = record { nodes = the_import ∷ the_zone ∷ other_import ∷ the_switch ∷ []; roots = plain_link (an_output (here 3) 0) ∷ [] }

abbrev number_at : Path → ℕ
number_at [] = 0
number_at (s ∷ p) = s.node

-- other numbers make other paths
apart : (a b : ℕ) → a ≢ b → here a ≢ here b
apart a b other e = other (ap number_at e)

pub can_start : CanStart small task
can_start = record {
  fit = (
    record { sorts = []; links = tt; kind = record { fits = refl; items = tt } },
    (
      record {
        sorts = 0 ∷ 0 ∷ [];
        links = ((0, (refl, λ p. refl), refl), ((0, (the_import, inl refl, refl, refl), refl), tt));
        kind = record { fits = refl; items = (0, refl) };
      },
      (
        record { sorts = []; links = tt; kind = record { fits = refl; items = tt } },
        (
          record {
            sorts = 0 ∷ 0 ∷ 0 ∷ [];
            links = ((0, (refl, λ p. refl), refl), ((0, (other_import, inr (inr (inl refl)), refl, refl), refl), ((0, (the_zone, inr (inl refl), refl, refl), refl), tt)));
            kind = record { fits = refl; items = tt };
          },
          tt,
        ),
      ),
    ),
  );
  roots = λ link h. elim h [ inl q ↦ (0, (0, subst (λ l. SourceSort small [] task.nodes l.from 0) (sym q) (the_switch, inr (inr (inr (inl refl))), refl, refl), ap (λ l. shifted small 0 l.through) q)) | inr z ↦ absurd z ];
  differ = (
    λ h. elim h [ inl q ↦ apart 0 1 (λ e. cc) q | inr h ↦ elim h [ inl q ↦ apart 0 2 (λ e. cc) q | inr h ↦ elim h [ inl q ↦ apart 0 3 (λ e. cc) q | inr z ↦ z ] ] ],
    (λ h. elim h [ inl q ↦ apart 1 2 (λ e. cc) q | inr h ↦ elim h [ inl q ↦ apart 1 3 (λ e. cc) q | inr z ↦ z ] ], (λ h. elim h [ inl q ↦ apart 2 3 (λ e. cc) q | inr z ↦ z ], (λ z. z, tt))),
  );
  no_turns = λ node h. elim h [
    | inl q ↦ ap (λ n. has_turn n.path) q
    | inr h ↦ elim h [
      | inl q ↦ ap (λ n. has_turn n.path) q
      | inr h ↦ elim h [ inl q ↦ ap (λ n. has_turn n.path) q | inr h ↦ elim h [ inl q ↦ ap (λ n. has_turn n.path) q | inr z ↦ absurd z ] ]
    ]
  ];
  ends = λ node h. elim h [
    | inl q ↦ ap (λ n. ends_plain n.path) q
    | inr h ↦ elim h [ inl q ↦ ap (λ n. ends_plain n.path) q | inr h ↦ elim h [ inl q ↦ ap (λ n. ends_plain n.path) q | inr h ↦ elim h [ inl q ↦ ap (λ n. ends_plain n.path) q | inr z ↦ absurd z ] ] ]
  ];
}

-- ---- a run: the zone is opened, so that its turn asks for the import; the other import is never asked for

abbrev bytes : List ℕ
bytes = 1 ∷ 2 ∷ 3 ∷ []

abbrev after_take : List Event
after_take = Take 0 1 ∷ []

abbrev after_opening : List Event
after_opening = Finish 0 1 ∷ after_take

abbrev after_serve : List Event
after_serve = Serve 0 (Whole bytes) ∷ after_opening

abbrev after_import : List Event
after_import = Finish 1 0 ∷ Take 1 0 ∷ after_serve

abbrev after_turn : List Event
after_turn = Finish 1 4 ∷ Take 1 4 ∷ after_import

abbrev pub events : List Event
events = Finish 0 3 ∷ Take 0 3 ∷ after_turn

abbrev after : List Event → World Kind Value
after es = world small task es

abbrev the_adder : Node Kind Value
the_adder = record { path = in_turn; kind = adds; links = record { from = an_output (here 0) 0; through = 100 ∷ [] } ∷ plain_link (a_value (plain 10)) ∷ [] }

-- 3 bytes, 100 on the way into the zone, 10 in its turn, and 11,000 on the way to the switch
the_output : reads small (after events) (plain_link (an_output (here 3) 0)) ≡ record { number = 11113; maker = Some (here 0) }
the_output = refl

the_turn_is_a_node : slice_get (after after_opening).graph 4 ≡ Some the_adder
the_turn_is_a_node = refl

-- when the zone is opened its output leads to its turn, and is set when that has run
the_zone_leads_on : (after after_opening).leads (an_output (here 1) 0) ≡ plain_link (an_output in_turn 0)
the_zone_leads_on = refl

not_set_yet : is_set (after after_import) (an_output (here 1) 0) ≡ false
not_set_yet = refl

set_behind_the_zone : is_set (after after_turn) (an_output (here 1) 0) ≡ true
set_behind_the_zone = refl

-- a switch between the imports, by a condition from a link
abbrev switch_by : Source Value → Node Kind Value
switch_by condition = record { path = here 5; kind = chooses; links = plain_link condition ∷ plain_link (an_output (here 0) 0) ∷ plain_link (an_output (here 2) 0) ∷ [] }

-- it is sure to read its condition and what that chooses
it_chooses_the_second : sure small (after []) (switch_by (a_value (plain 1))) ≡ plain_link (a_value (plain 1)) ∷ plain_link (an_output (here 2) 0) ∷ []
it_chooses_the_second = refl

it_asks_for_both : sure small (after []) (switch_by (a_value (plain 2))) ≡ (switch_by (a_value (plain 2))).links
it_asks_for_both = refl

-- and before the condition is set no more than that, though it may read all
it_waits_for_its_condition : sure small (after []) (switch_by (an_output (here 1) 0)) ≡ plain_link (an_output (here 1) 0) ∷ []
it_waits_for_its_condition = refl

it_may_read_all : possible small (after []) (switch_by (an_output (here 1) 0)) ≡ (switch_by (an_output (here 1) 0)).links
it_may_read_all = refl

-- a zone is sure to read its head, and may read its items until it is opened
the_zone_reads_its_head : sure small (after []) the_zone ≡ plain_link (a_value (plain 1)) ∷ []
the_zone_reads_its_head = refl

an_item_may_be_read : possible small (after after_take) the_zone ≡ the_zone.links
an_item_may_be_read = refl

no_item_is_read_any_more : possible small (after after_opening) the_zone ≡ plain_link (a_value (plain 1)) ∷ []
no_item_is_read_any_more = refl

-- a warning is kept under its node
the_warning : (after (Finish 1 0 ∷ Take 1 0 ∷ Serve 0 Absent ∷ after_opening)).warned (here 0) ≡ Some (record { path = here 0; text = codes "absent" } ∷ [])
the_warning = refl

-- ---- each of its events is allowed

abbrev taken_in : List Event → ℕ → Bool
taken_in [] n = false
taken_in (Take v k ∷ es) n = k == n || taken_in es n
taken_in (_ ∷ es) n = taken_in es n

abbrev finished_in : List Event → ℕ → Bool
finished_in [] n = false
finished_in (Finish v k ∷ es) n = k == n || finished_in es n
finished_in (_ ∷ es) n = finished_in es n

abbrev refused_in : List Event → Bool
refused_in [] = false
refused_in (Refuse v ∷ es) = true
refused_in (_ ∷ es) = refused_in es

abbrev number_of : Event → ℕ
number_of (Take v n) = n
number_of (Finish v n) = n
number_of (Serve n a) = n
number_of (Refuse v) = 0

same_number : (n : ℕ) → (n == n) ≡ true
same_number n = elim (eqb_tells n n) [ inl t ↦ t.0 | inr t ↦ absurd (t.1 refl) ]

rest_false : (a b : Bool) → (a || b) ≡ false → b ≡ false
rest_false true b e = cc
rest_false false b e = e

not_here : (k n : ℕ) (b : Bool) → (k == n || b) ≡ false → n ≢ k
not_here k n b e same = let bad : true ≡ false = sym (ap (λ t. t || b) (same_number n)) ∙ ap (λ j. j == n || b) same ∙ e in cc

not_taken : (es : List Event) (n : ℕ) → taken_in es n ≡ false → (v : ℕ) → ¬ Has es (Take v n)
not_taken [] n e v h = h
not_taken (Take u k ∷ es) n e v (inl q) = not_here k n (taken_in es n) e (ap number_of q)
not_taken (Take u k ∷ es) n e v (inr h) = not_taken es n (rest_false (k == n) (taken_in es n) e) v h
not_taken (Finish u k ∷ es) n e v (inl q) = cc
not_taken (Finish u k ∷ es) n e v (inr h) = not_taken es n e v h
not_taken (Serve k a ∷ es) n e v (inl q) = cc
not_taken (Serve k a ∷ es) n e v (inr h) = not_taken es n e v h
not_taken (Refuse u ∷ es) n e v (inl q) = cc
not_taken (Refuse u ∷ es) n e v (inr h) = not_taken es n e v h

not_finished : (es : List Event) (n : ℕ) → finished_in es n ≡ false → (v : ℕ) → ¬ Has es (Finish v n)
not_finished [] n e v h = h
not_finished (Finish u k ∷ es) n e v (inl q) = not_here k n (finished_in es n) e (ap number_of q)
not_finished (Finish u k ∷ es) n e v (inr h) = not_finished es n (rest_false (k == n) (finished_in es n) e) v h
not_finished (Take u k ∷ es) n e v (inl q) = cc
not_finished (Take u k ∷ es) n e v (inr h) = not_finished es n e v h
not_finished (Serve k a ∷ es) n e v (inl q) = cc
not_finished (Serve k a ∷ es) n e v (inr h) = not_finished es n e v h
not_finished (Refuse u ∷ es) n e v (inl q) = cc
not_finished (Refuse u ∷ es) n e v (inr h) = not_finished es n e v h

not_refused : (es : List Event) → refused_in es ≡ false → (v : ℕ) → ¬ Has es (Refuse v)
not_refused [] e v h = h
not_refused (Take u k ∷ es) e v (inl q) = cc
not_refused (Take u k ∷ es) e v (inr h) = not_refused es e v h
not_refused (Finish u k ∷ es) e v (inl q) = cc
not_refused (Finish u k ∷ es) e v (inr h) = not_refused es e v h
not_refused (Serve k a ∷ es) e v (inl q) = cc
not_refused (Serve k a ∷ es) e v (inr h) = not_refused es e v h
not_refused (Refuse u ∷ es) e v h = cc

abbrev IsReached : List Event → Source Value → Type 0
IsReached es = Reached small task (after es) (sure small (after es))

switch_used : (es : List Event) → IsReached es (an_output (here 3) 0)
switch_used es = Reached.a_root (plain_link (an_output (here 3) 0)) (inl refl)

abbrev zone_link : Link Value
zone_link = record { from = an_output (here 1) 0; through = 1000 ∷ 10000 ∷ [] }

abbrev import_link : Link Value
import_link = record { from = an_output (here 0) 0; through = 100 ∷ [] }

-- the switch reads the zone, the zone's output comes from its turn, and the turn reads the import
module _ (es : List Event) (graph : Has (after es).graph the_switch) (reads' : Has (sure small (after es) the_switch) zone_link) where
  zone_used : IsReached es (an_output (here 1) 0)
  zone_used = Reached.an_input the_switch 0 zone_link graph (switch_used es) reads'

  module _ (opened : (after es).opened (here 1) ≡ Some (plain_link (an_output in_turn 0) ∷ [])) where
    turn_used : IsReached es (an_output in_turn 0)
    turn_used = Reached.a_result (here 1) 0 (plain_link (an_output in_turn 0) ∷ []) (plain_link (an_output in_turn 0)) opened zone_used refl

    import_used : Has (after es).graph the_adder → Has (sure small (after es) the_adder) import_link → IsReached es (an_output (here 0) 0)
    import_used there reads'' = Reached.an_input the_adder 0 import_link there turn_used reads''

abbrev files : List ℕ → Answer
files name = Whole bytes

none_refused : (es : List Event) → refused_in es ≡ false → NoRefusals small task es
none_refused es e = not_refused es e

takes_the_zone : Allowed small task [] (Take 0 1)
takes_the_zone = (
  (
    the_zone,
    record {
      there = refl;
      used = (0, zone_used [] (inr (inr (inr (inl refl)))) (inr (inl refl)));
      fresh = not_taken [] 1 refl;
      inputs = λ link h. elim h [ inl q ↦ ap (λ l. is_set (after []) l.from) q | inr z ↦ absurd z ];
      answered = λ file. cc;
    },
  ),
  none_refused [] refl,
)

serves_the_import : Allowed small task after_opening (Serve 0 (Whole bytes))
serves_the_import = (
  (the_import, record { there = refl; used = (0, import_used after_opening (inr (inr (inr (inl refl)))) (inr (inl refl)) refl (inr (inr (inr (inr (inl refl))))) (inl refl)); file = refl; no_answer = refl }),
  none_refused after_opening refl,
)

takes_the_import : Allowed small task after_serve (Take 1 0)
takes_the_import = (
  (
    the_import,
    record {
      there = refl;
      used = (0, import_used after_serve (inr (inr (inr (inl refl)))) (inr (inl refl)) refl (inr (inr (inr (inr (inl refl))))) (inl refl));
      fresh = not_taken after_serve 0 refl;
      inputs = λ link h. absurd h;
      answered = λ _. (Whole bytes, refl);
    },
  ),
  none_refused after_serve refl,
)

takes_the_turn : Allowed small task after_import (Take 1 4)
takes_the_turn = (
  (
    the_adder,
    record {
      there = refl;
      used = (0, turn_used after_import (inr (inr (inr (inl refl)))) (inr (inl refl)) refl);
      fresh = not_taken after_import 4 refl;
      inputs = λ link h. elim h [
        | inl q ↦ ap (λ l. is_set (after after_import) l.from) q
        | inr h ↦ elim h [ inl q ↦ ap (λ l. is_set (after after_import) l.from) q | inr z ↦ absurd z ]
      ];
      answered = λ file. cc;
    },
  ),
  none_refused after_import refl,
)

takes_the_switch : Allowed small task after_turn (Take 0 3)
takes_the_switch = (
  (
    the_switch,
    record {
      there = refl;
      used = (0, switch_used after_turn);
      fresh = not_taken after_turn 3 refl;
      inputs = λ link h. elim h [
        | inl q ↦ ap (λ l. is_set (after after_turn) l.from) q
        | inr h ↦ elim h [ inl q ↦ ap (λ l. is_set (after after_turn) l.from) q | inr z ↦ absurd z ]
      ];
      answered = λ file. cc;
    },
  ),
  none_refused after_turn refl,
)

pub is_run : IsRun small task events
is_run = (
  (inl refl, not_finished (Take 0 3 ∷ after_turn) 3 refl),
  (
    takes_the_switch,
    (
      (inl refl, not_finished (Take 1 4 ∷ after_import) 4 refl),
      (
        takes_the_turn,
        (
          (inl refl, not_finished (Take 1 0 ∷ after_serve) 0 refl),
          (takes_the_import, (serves_the_import, ((inl refl, not_finished after_take 1 refl), (takes_the_zone, tt)))),
        ),
      ),
    ),
  ),
)

pub is_served : IsServed small task (told_by small files) events
is_served = (tt, (tt, (tt, (tt, (tt, (tt, (λ node at. refl, (tt, (tt, tt)))))))))

-- ---- and then nothing may happen any more

-- nothing that is reached leads to the other import
abbrev IsElsewhere : Source Value → Type 0
IsElsewhere (an_output p s) = p ≢ here 2
IsElsewhere _ = Unit {0}

sure_elsewhere : (node : Node Kind Value) → Has (after events).graph node → (link : Link Value) → Has (sure small (after events) node) link → IsElsewhere link.from
sure_elsewhere node (inl same) link h = absurd (subst (λ n. Has (sure small (after events) n) link) same h)
sure_elsewhere node (inr (inl same)) link h = elim (subst (λ n. Has (sure small (after events) n) link) same h) [ inl q ↦ subst (λ l. IsElsewhere l.from) (sym q) tt | inr z ↦ absurd z ]
sure_elsewhere node (inr (inr (inl same))) link h = absurd (subst (λ n. Has (sure small (after events) n) link) same h)
sure_elsewhere node (inr (inr (inr (inl same)))) link h = elim (subst (λ n. Has (sure small (after events) n) link) same h) [
  | inl q ↦ subst (λ l. IsElsewhere l.from) (sym q) tt
  | inr h ↦ elim h [ inl q ↦ subst (λ l. IsElsewhere l.from) (sym q) (apart 1 2 (λ e. cc)) | inr z ↦ absurd z ]
]
sure_elsewhere node (inr (inr (inr (inr (inl same))))) link h = elim (subst (λ n. Has (sure small (after events) n) link) same h) [
  | inl q ↦ subst (λ l. IsElsewhere l.from) (sym q) (apart 0 2 (λ e. cc))
  | inr h ↦ elim h [ inl q ↦ subst (λ l. IsElsewhere l.from) (sym q) tt | inr z ↦ absurd z ]
]
sure_elsewhere node (inr (inr (inr (inr (inr z))))) link h = absurd z

abbrev steps_in : Path → List PathStep
steps_in [] = []
steps_in (s ∷ p) = p

turn_elsewhere : in_turn ≢ here 2
turn_elsewhere e = let bad : ◌≡◌ {A = Path} (record { node = 0; turn = None } ∷ []) [] = ap steps_in e in cc

opened_elsewhere : (p : Path) (outs : List (Link Value)) → (after events).opened p ≡ Some outs → (s : ℕ) (link : Link Value) → slice_get outs s ≡ Some link → IsElsewhere link.from
opened_elsewhere p outs is s link at = elim (entry_is (here 1) (plain_link (an_output in_turn 0) ∷ []) (λ q. None) p outs is) [
  | inl t ↦ by_place s (subst (λ os. slice_get os s ≡ Some link) (sym t.1) at)
  | inr t ↦ let bad : None ≡ Some outs = t.1 in cc
]
  where
    by_place : (k : ℕ) → slice_get (plain_link (an_output in_turn 0) ∷ []) k ≡ Some link → IsElsewhere link.from
    by_place zero e = subst (λ l. IsElsewhere l.from) (some_same e) turn_elsewhere
    by_place (suc k) e = cc

elsewhere : (x : Source Value) → IsReached events x → IsElsewhere x
elsewhere x (Reached.a_root link h) = elim h [ inl q ↦ subst (λ l. IsElsewhere l.from) (sym q) (apart 3 2 (λ e. cc)) | inr z ↦ absurd z ]
elsewhere x (Reached.an_input node s link h r has) = sure_elsewhere node h link has
elsewhere x (Reached.a_result p s outs link is r at) = opened_elsewhere p outs is s link at

not_used : (node : Node Kind Value) → slice_get (after events).graph 2 ≡ Some node → ¬ Used small task (after events) node
not_used node at u = elsewhere (an_output node.path u.0) u.1 (ap (λ n. n.path) (sym (some_same at)))

no_take : (v n : ℕ) → ¬ Allowed small task events (Take v n)
no_take v zero a = a.0.1.fresh 1 (inr (inr (inr (inr (inr (inl refl))))))
no_take v (suc zero) a = a.0.1.fresh 0 (inr (inr (inr (inr (inr (inr (inr (inr (inl refl)))))))))
no_take v (suc (suc zero)) a = not_used a.0.0 a.0.1.there a.0.1.used
no_take v (suc (suc (suc zero))) a = a.0.1.fresh 0 (inr (inl refl))
no_take v (suc (suc (suc (suc zero)))) a = a.0.1.fresh 1 (inr (inr (inr (inl refl))))
no_take v (suc (suc (suc (suc (suc n))))) a = let bad : None ≡ Some a.0.0 = a.0.1.there in cc

no_finish : (v n : ℕ) → ¬ Allowed small task events (Finish v n)
no_finish v n a = by_number n a.0 a.1
  where
    by_number : (k : ℕ) → Has events (Take v k) → ((u : ℕ) → ¬ Has events (Finish u k)) → ⊥
    by_number zero h open' = open' 1 (inr (inr (inr (inr (inl refl)))))
    by_number (suc zero) h open' = open' 0 (inr (inr (inr (inr (inr (inr (inr (inl refl))))))))
    by_number (suc (suc zero)) h open' = not_taken events 2 refl v h
    by_number (suc (suc (suc zero))) h open' = open' 0 (inl refl)
    by_number (suc (suc (suc (suc zero)))) h open' = open' 1 (inr (inr (inl refl)))
    by_number (suc (suc (suc (suc (suc k))))) h open' =
        let t : IsTakenWell small small_is_lawful task (after events) (suc (suc (suc (suc (suc k))))) = (kept small small_is_lawful task can_start events is_run).taken v (suc (suc (suc (suc (suc k))))) h in
        let bad : None ≡ Some t.0 = t.1 in
        cc

no_serve : (n : ℕ) (a : Answer) → ¬ Allowed small task events (Serve n a)
no_serve zero b a = let same : the_import ≡ a.0.0 = some_same a.0.1.there in not_both a.0.1.no_answer (ap (λ n. (after events).answers n.path) (sym same))
no_serve (suc zero) b a = let bad : Zone ≡ File = ap (λ n. role_of n.kind) (some_same a.0.1.there) ∙ a.0.1.file in cc
no_serve (suc (suc zero)) b a = not_used a.0.0 a.0.1.there a.0.1.used
no_serve (suc (suc (suc zero))) b a = let bad : Switch ≡ File = ap (λ n. role_of n.kind) (some_same a.0.1.there) ∙ a.0.1.file in cc
no_serve (suc (suc (suc (suc zero)))) b a = let bad : Plain ≡ File = ap (λ n. role_of n.kind) (some_same a.0.1.there) ∙ a.0.1.file in cc
no_serve (suc (suc (suc (suc (suc n))))) b a = let bad : None ≡ Some a.0.0 = a.0.1.there in cc

pub is_over : IsOver small task events
is_over = record { none_refused = not_refused events refl; no_take = no_take; no_finish = no_finish; no_serve = no_serve }

-- so the demand is what was taken, with two events for each of four nodes and one for the import
the_demand : paths_of (taken_nodes small task events) ≡ here 3 ∷ in_turn ∷ here 0 ∷ here 1 ∷ []
the_demand = refl

the_count : length events ≡ 4 + 4 + 1
the_count = refl

the_served : serves events ≡ 0 ∷ []
the_served = refl

-- the zone's output leads to the node of its turn, and the import has what its run gives by what is read now
the_zone_leads : (after events).leads (an_output (here 1) 0) ≡ plain_link (an_output in_turn 0)
the_zone_leads = refl

the_import_gives : (after events).set (here 0) ≡ Some (run_now small (after events) the_import).outputs
the_import_gives = refl
