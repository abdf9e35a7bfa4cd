-- One step back to where the value of a site comes from.
use Rattle.std.proofs.Common.{◌≡◌, ℕ, zero, suc, pos, List, [], ◌++◌, Option, Some, None, refl, sym, ◌∙◌, ap}
use Rattle.std.specs.Prelude.{option_map, option_and_then}
use Rattle.gn_value.specs.declared.value.Value.TheVariants.{Int as int}
use Rattle.gn_lazy.specs.declared.path.PathStep.{PathStep}
use Rattle.gn_tree.specs.NodeKinds.{Kind}
use Rattle.gn_tree.specs.Trees.{Tree}
use Rattle.gn_node_set.specs.Meanings.{Rows, converted}
use Rattle.gn_node_set.proofs.Lists.{append_nil}
use Rattle.gn_meaning.specs.Sites.{a_value, Way, the_tree, into, plain_step, turn_step, Site, at_output, at_input, at_item, at_constant, nowhere, Read, plain_read}
use Rattle.gn_meaning.specs.Bodies.{Body}
use Rattle.gn_meaning.specs.Reads.{read_at, Run, Part, a_node, a_group, a_repeat, run_in, part_at, out_of, run_of}
use Rattle.gn_meaning.specs.Origins.{read_origin, output_origin, turn_origin, input_origin, first_origin, origin_within}
use Rattle.gn_meaning.specs.Denotation.{Given, read_value, output_value, turn_value, input_value, first_item, value_within}
use Rattle.gn_meaning.proofs.Options.{some_same, map_some}

-- an origin with the conversion of a read behind its own
abbrev pub beyond : Read → Read → Read
beyond o r = record { from = o.from; through = o.through ++ r.through }

pub beyond_nothing : (o : Read) (site : Site) → o ≡ beyond o (plain_read site)
beyond_nothing o site = let whole : o.through ≡ o.through ++ [] = sym (append_nil o.through) in λ i. record { from = o.from; through = whole i }

module _ (t : Tree) where
  -- the value of the site is what the read carries
  pub data Leads : Site → Read → Type 0 where
    group_output : {way : Way} {n s : ℕ} (b : Body) (reads : List Read) → part_at t way n ≡ Some (a_group b reads) → Leads (at_output way n s) (out_of t (into way (plain_step n)) s)
    group_input : {way : Way} {step : PathStep} {i : ℕ} (b : Body) (reads : List Read) → part_at t way step.node ≡ Some (a_group b reads) → Leads (at_input (into way step) i) (read_at reads i)
    turn_item : {way : Way} {step : PathStep} {i : ℕ} (k : ℕ) (run : Run) (b : Body) → part_at t way step.node ≡ Some (a_repeat run b) → step.turn ≡ Some k → Leads (at_input (into way step) (suc i)) (plain_read (at_item way step.node k i))
    first : {way : Way} {n i : ℕ} (run : Run) (b : Body) → part_at t way n ≡ Some (a_repeat run b) → Leads (at_item way n zero i) (read_at run.reads (suc i))
    later : {way : Way} {n k i : ℕ} → Leads (at_item way n (suc k) i) (out_of t (into way (turn_step n k)) i)

  -- the value of the site goes no further back
  abbrev pub IsOwn : Site → Type 0
  IsOwn (at_output way n s) = (run : Run) × (run_of t (at_output way n s) ≡ Some run)
  IsOwn (at_input the_tree i) = Unit {0}
  IsOwn (at_constant c) = Unit {0}
  IsOwn _ = ⊥

  -- how an origin is found in one more step
  pub data Found (k : ℕ) (site : Site) (origin : Read) : Type 0 where
    leads_on : (r o : Read) → Leads site r → origin_within t k r.from ≡ Some o → beyond o r ≡ origin → Found k site origin
    itself : IsOwn site → plain_read site ≡ origin → Found k site origin
    a_number : (way : Way) (step : PathStep) (j : ℕ) (run : Run) (b : Body) → part_at t way step.node ≡ Some (a_repeat run b) → step.turn ≡ Some j → at_input (into way step) zero ≡ site → plain_read (at_constant (a_value (int (pos j)))) ≡ origin → Found k site origin

  module _ (k : ℕ) where
    abbrev so_far : Site → Option Read
    so_far = origin_within t k

    by_read : (site : Site) (r origin : Read) → Leads site r → read_origin t so_far r ≡ Some origin → Found k site origin
    by_read site r origin l e =
        let o : (o : Read) × (so_far r.from ≡ Some o) × (beyond o r ≡ origin) = map_some (λ o. beyond o r) (so_far r.from) origin e in
        leads_on r o.0 l o.1 o.2

    found_output : (way : Way) (n s : ℕ) (p : Option Part) (origin : Read) → part_at t way n ≡ p → output_origin t so_far way n s p ≡ Some origin → Found k (at_output way n s) origin
    found_output way n s None origin e h = cc
    found_output way n s (Some (a_node run)) origin e h = itself (run, ap (option_and_then run_in) e) (some_same h)
    found_output way n s (Some (a_group b reads)) origin e h = by_read (at_output way n s) (out_of t (into way (plain_step n)) s) origin (group_output b reads e) h
    found_output way n s (Some (a_repeat run b)) origin e h = itself (run, ap (option_and_then run_in) e) (some_same h)

    found_turn : (way : Way) (step : PathStep) (turn : Option ℕ) (i : ℕ) (run : Run) (b : Body) (origin : Read) → part_at t way step.node ≡ Some (a_repeat run b) → step.turn ≡ turn → turn_origin t so_far way step.node turn i ≡ Some origin → Found k (at_input (into way step) i) origin
    found_turn way step None i run b origin e f h = cc
    found_turn way step (Some j) zero run b origin e f h = a_number way step j run b e f refl (some_same h)
    found_turn way step (Some j) (suc i) run b origin e f h = leads_on (plain_read (at_item way step.node j i)) origin (turn_item j run b e f) h (sym (beyond_nothing origin (at_item way step.node j i)))

    found_input : (way : Way) (step : PathStep) (i : ℕ) (p : Option Part) (origin : Read) → part_at t way step.node ≡ p → input_origin t so_far way step i p ≡ Some origin → Found k (at_input (into way step) i) origin
    found_input way step i None origin e h = cc
    found_input way step i (Some (a_node run)) origin e h = cc
    found_input way step i (Some (a_group b reads)) origin e h = by_read (at_input (into way step) i) (read_at reads i) origin (group_input b reads e) h
    found_input way step i (Some (a_repeat run b)) origin e h = found_turn way step step.turn i run b origin e refl h

    found_first : (way : Way) (n i : ℕ) (p : Option Part) (origin : Read) → part_at t way n ≡ p → first_origin t so_far i p ≡ Some origin → Found k (at_item way n zero i) origin
    found_first way n i None origin e h = cc
    found_first way n i (Some (a_node run)) origin e h = cc
    found_first way n i (Some (a_group b reads)) origin e h = cc
    found_first way n i (Some (a_repeat run b)) origin e h = by_read (at_item way n zero i) (read_at run.reads (suc i)) origin (first run b e) h

    pub found : (site : Site) (origin : Read) → origin_within t (suc k) site ≡ Some origin → Found k site origin
    found (at_output way n s) origin h = found_output way n s (part_at t way n) origin refl h
    found (at_input the_tree i) origin h = itself tt (some_same h)
    found (at_input (into way step) i) origin h = found_input way step i (part_at t way step.node) origin refl h
    found (at_item way n zero i) origin h = found_first way n i (part_at t way n) origin refl h
    found (at_item way n (suc j) i) origin h = by_read (at_item way n (suc j) i) (out_of t (into way (turn_step n j)) i) origin later h
    found (at_constant c) origin h = itself tt (some_same h)
    found nowhere origin h = cc

    whole : (o : Option Read) (site : Site) → o ≡ option_map (λ x. beyond x (plain_read site)) o
    whole None site = refl
    whole (Some x) site = ap Some (beyond_nothing x site)

    -- the origin of a site is that of what it leads to, with the conversion of the read
    pub led_equation : (site : Site) (r : Read) → Leads site r → origin_within t (suc k) site ≡ option_map (λ x. beyond x r) (so_far r.from)
    led_equation site r (group_output {way} {n} {s} b reads e) = ap (output_origin t so_far way n s) e
    led_equation site r (group_input {way} {step} {i} b reads e) = ap (input_origin t so_far way step i) e
    led_equation site r (turn_item {way} {step} {i} j run b e f) =
        ap (input_origin t so_far way step (suc i)) e ∙ ap (λ turn. turn_origin t so_far way step.node turn (suc i)) f ∙ whole (so_far (at_item way step.node j i)) (at_item way step.node j i)
    led_equation site r (first {way} {n} {i} run b e) = ap (first_origin t so_far i) e
    led_equation site r (later {way} {n} {k = j} {i}) = refl

    pub led_origin : (site : Site) (r o : Read) → Leads site r → so_far r.from ≡ Some o → origin_within t (suc k) site ≡ Some (beyond o r)
    led_origin site r o l h = led_equation site r l ∙ ap (option_map (λ x. beyond x r)) h

  module _ {V : Type 0} (rows : Rows Kind V) (given : Given V) (j : ℕ) where
    abbrev values : Site → Option V
    values = value_within rows given t j

    abbrev CarriedOn : Read → V → Type 0
    CarriedOn r w = (v : V) × (values r.from ≡ Some v) × (converted rows v r.through ≡ w)

    read_carried : (r : Read) (w : V) → read_value rows given t values r ≡ Some w → CarriedOn r w
    read_carried r w e = map_some (λ v. converted rows v r.through) (values r.from) w e

    -- where the site has a value, what it leads to has one, from which it is converted
    pub led_value : (site : Site) (r : Read) (w : V) → Leads site r → value_within rows given t (suc j) site ≡ Some w → CarriedOn r w
    led_value site r w (group_output {way} {n} {s} b reads e) h = read_carried r w (sym (ap (output_value rows given t values way n s) e) ∙ h)
    led_value site r w (group_input {way} {step} {i} b reads e) h = read_carried r w (sym (ap (input_value rows given t values way step i) e) ∙ h)
    led_value site r w (turn_item {way} {step} {i} k run b e f) h =
        (w, sym (ap (input_value rows given t values way step (suc i)) e ∙ ap (λ turn. turn_value rows given t values way step.node turn (suc i)) f) ∙ h, refl)
    led_value site r w (first {way} {n} {i} run b e) h = read_carried r w (sym (ap (first_item rows given t values i) e) ∙ h)
    led_value site r w (later {way} {n} {k} {i}) h = read_carried r w h
