-- One reader more that is planned.
use Rattle.std.proofs.Common.{◌≡◌, ◌≢◌, ◌⊎◌, inl, inr, ℕ, zero, suc, ◌<◌, ◌==◌, Bool, true, false, List, [], ◌∷◌, ◌++◌, map, length, set, Option, Some, None, refl, sym, ap, ◌∙◌, subst, arith}
use Rattle.std.specs.Prelude.{slice_get, slice_index_or, replicate, if◌then◌else◌}
use Rattle.std.proofs.lemmas.Bool.Decides.{Decides-eqb}
use Rattle.gn_lazy.specs.Graphs.{Nodes}
use Rattle.gn_lazy.specs.declared.graph.Origin.{Origin}
use Rattle.gn_lazy.specs.declared.graph.Origin.TheVariants as origin
use Rattle.gn_lazy.specs.declared.graph.Link.{Link}
use Rattle.gn_lazy.specs.declared.graph.GraphNode.{GraphNode}
use Rattle.gn_node_set.specs.Meanings.{Has, Switch, Meanings}
use Rattle.gn_node_set.proofs.Lists.{some_same, not_both, has_first, has_second, has_either}
use Rattle.gn_readers.specs.declared.place.Place.{Place}
use Rattle.gn_readers.specs.declared.place.Place.TheVariants.{Input, Root}
use Rattle.gn_readers.specs.declared.place.Reader.{Reader}
use Rattle.gn_readers.specs.Readers.{link_at, LeadsTo, AreReaders}
use Rattle.gn_readers.proofs.Noting.{same_number}
use Rattle.gn_delivery.specs.declared.plan.Second.{Second}
use Rattle.gn_delivery.specs.declared.plan.Chosen.{Chosen}
use Rattle.gn_delivery.specs.declared.plan.Plan.{Plan}
use Rattle.gn_delivery.specs.Plans.{IsPlain, AllPlain, AreOf, listed, ChoosesBy, carried, due_from, due_by, due, IsChoice, IsPlanFor}

-- ---- outputs that are handed on themselves

-- a slot of a list in which one was set
at_set : {A : Type 0} (xs : List A) (n k : ℕ) (x y : A) → slice_get (set xs n x) k ≡ Some y → ((k ≡ n) × (y ≡ x)) ⊎ (slice_get xs k ≡ Some y)
at_set [] n k x y e = cc
at_set (z ∷ xs) zero zero x y e = inl (refl, sym (some_same e))
at_set (z ∷ xs) zero (suc k) x y e = inr e
at_set (z ∷ xs) (suc n) zero x y e = inr e
at_set (z ∷ xs) (suc n) (suc k) x y e = elim (at_set xs n k x y e) [
  | inl s ↦ inl (ap suc s.0, s.1)
  | inr f ↦ inr f
]

module _ {G : Type 0} (g : Nodes G) where
  pub plain_set : (itself : List (Option Place)) (n : ℕ) (place : Place) → IsPlain g place → AllPlain g itself → AllPlain g (set itself n (Some place))
  plain_set itself n place plain before s p e = elim (at_set itself n s (Some place) (Some p) e) [
    | inl f ↦ subst (IsPlain g) (sym (some_same f.1)) plain
    | inr f ↦ before s p f
  ]

  pub of_set : (rs : List Reader) (itself : List (Option Place)) (r : Reader) → AreOf g rs itself → AreOf g (rs ++ r ∷ []) (set itself r.output (Some r.place))
  of_set rs itself r before s p e = elim (at_set itself r.output s (Some r.place) (Some p) e) [
    | inl f ↦ has_second rs (r ∷ []) (record { output = s; place = p }) (inl (λ t. record { output = f.0 t; place = (some_same f.1) t }))
    | inr f ↦ has_first rs (r ∷ []) (record { output = s; place = p }) (before s p f)
  ]

  pub of_more : (rs : List Reader) (itself : List (Option Place)) (r : Reader) → AreOf g rs itself → AreOf g (rs ++ r ∷ []) itself
  of_more rs itself r before s p e = has_first rs (r ∷ []) (record { output = s; place = p }) (before s p e)

  pub no_outputs : (count : ℕ) (rs : List Reader) (s : ℕ) (p : Place) → slice_get (replicate count None) s ≡ Some (Some p) → ⊥
  no_outputs zero rs s p e = cc
  no_outputs (suc count) rs zero p e = cc
  no_outputs (suc count) rs (suc s) p e = no_outputs count rs s p e

-- ---- what is due

module _ {G K V S T : Type 0} (m : Meanings K V S T) (kind_of : G → K) (g : Nodes G) (outs : List V) (n : ℕ) where
  same_is : (n == n) ≡ true
  same_is = (Decides-eqb n n).1 refl

  pub due_elsewhere : (k s : ℕ) (through : List ℕ) → k ≢ n → due_from m kind_of g outs n (origin.Out k s) through ≡ None
  due_elsewhere k s through d = by (k == n) refl
    where
      by : (b : Bool) → (k == n) ≡ b → due_from m kind_of g outs n (origin.Out k s) through ≡ None
      by true e = absurd (d ((Decides-eqb k n).0 e))
      by false e = ap (λ b. if b then Some (carried m kind_of g outs s through) else None) e

  pub due_from_node : (o : Origin) (s : ℕ) (through : List ℕ) → o ≡ origin.Out n s → due_from m kind_of g outs n o through ≡ Some (carried m kind_of g outs s through)
  due_from_node o s through e =
      ap (λ x. due_from m kind_of g outs n x through) e
      ∙ ap (λ b. if b then Some (carried m kind_of g outs s through) else None) same_is

  -- a reader's place
  pub due_reader : (r : Reader) (link : Link) → link_at g r.place ≡ Some link → link.origin ≡ origin.Out n r.output → due m kind_of g outs n r.place ≡ Some (carried m kind_of g outs r.output link.through.items)
  due_reader r link is leads = ap (due_by m kind_of g outs n) is ∙ due_from_node link.origin r.output link.through.items leads

  pub due_plain : (r : Reader) → LeadsTo g n r → IsPlain g r.place → due m kind_of g outs n r.place ≡ Some (slice_index_or outs r.output m.nothing)
  due_plain r leads plain = due_reader r leads.0 leads.1 leads.2 ∙ ap (λ through. Some (carried m kind_of g outs r.output through)) (plain leads.0 leads.1)

  -- where something is due a link leads to the node
  due_is : (o : Origin) (through : List ℕ) (v : V) → due_from m kind_of g outs n o through ≡ Some v → (s : ℕ) × (o ≡ origin.Out n s)
  due_is origin.Input through v e = cc
  due_is (origin.Constant slot) through v e = cc
  due_is (origin.Out k s) through v e = elim (same_number k n) [
    | inl f ↦ (s, ap (λ j. origin.Out j s) f)
    | inr d ↦ absurd (not_both (due_elsewhere k s through d) e)
  ]

  pub reader_due : (p : Place) (v : V) → due m kind_of g outs n p ≡ Some v → (s : ℕ) × LeadsTo g n (record { output = s; place = p })
  reader_due p v e = by (link_at g p) refl e
    where
      by : (o : Option Link) → link_at g p ≡ o → due_by m kind_of g outs n o ≡ Some v → (s : ℕ) × LeadsTo g n (record { output = s; place = p })
      by None is f = cc
      by (Some link) is f = let s = due_is link.origin link.through.items v f in (s.0, (link, is, s.1))

  -- ---- plans

  module _ {H : Type 0} (content : H → V) where
    abbrev Planned : List Reader → Plan H → Type 0
    Planned rs plan = IsPlanFor m kind_of g outs n content rs plan

    pub nothing_planned : (itself : List (Option Place)) (rs : List Reader) (plan : Plan H) → AreReaders g n rs → AllPlain g itself → AreOf g rs itself → plan.itself.items ≡ itself → plan.seconds.items ≡ [] → plan.choices.items ≡ [] → Planned [] plan
    nothing_planned itself rs plan readers plain of is none no_choice = record {
      seconds = λ x h. absurd (subst (λ xs. Has xs x) none h);
      itself = λ s p e.
          let f : slice_get itself s ≡ Some (Some p) = ap (λ xs. slice_get xs s) (sym is) ∙ e in
          let r : Reader = record { output = s; place = p } in
          due_plain r ((readers.each r).0 (of s p f)) (plain s p f);
      all = λ r h. absurd h;
      choices = λ c h. absurd (subst (λ cs. Has cs c) no_choice h);
      all_choices = λ r h k at e f switch. absurd h;
    }

    -- an output that is handed on itself
    pub carried_plain : (outputs : List H) (s : ℕ) (y : H) (through : List ℕ) → map content outputs ≡ outs → s < length outputs → y ≡ slice_index_or outputs s y → through ≡ [] → carried m kind_of g outs s through ≡ content y
    carried_plain outputs s y through same inside is none =
        ap (carried m kind_of g outs s) none
        ∙ ap (λ vs. slice_index_or vs s m.nothing) (sym same)
        ∙ content_at outputs s y inside is
      where
        content_at : (xs : List H) (k : ℕ) (y : H) → k < length xs → y ≡ slice_index_or xs k y → slice_index_or (map content xs) k m.nothing ≡ content y
        content_at [] k y h e = absurd (omega (arith, h))
        content_at (x ∷ xs) zero y h e = ap content (sym e)
        content_at (x ∷ xs) (suc k) y h e = content_at xs k y (omega (arith, h)) e

    -- a second of what is due
    pub only_second : (x : Second H) (place : Place) → x.place ≡ place → due m kind_of g outs n place ≡ Some (content x.value) → (y : Second H) → Has (x ∷ []) y → due m kind_of g outs n y.place ≡ Some (content y.value)
    only_second x place at is y (inl e) = subst (λ z. due m kind_of g outs n z.place ≡ Some (content z.value)) (sym e) (ap (due m kind_of g outs n) at ∙ is)
    only_second x place at is y (inr f) = absurd f

    -- what a switch chooses by what is due
    one_choice : (place : Place) (v : V) (made : Option Chosen) → due m kind_of g outs n place ≡ Some v → ChoosesBy m kind_of g place v made → (c : Chosen) → Has (listed made) c → IsChoice m kind_of g outs n c
    one_choice place v None is by c h = absurd h
    one_choice place v (Some d) is by c (inl e) = subst (IsChoice m kind_of g outs n) (sym e) (record {
      node = by.1.0;
      there = by.1.1;
      switch = by.1.2;
      condition = v;
      is_due = ap (due m kind_of g outs n) (sym by.0) ∙ is;
      chooses = by.1.3;
    })
    one_choice place v (Some d) is by c (inr h) = absurd h

    abbrev node_in : Place → ℕ
    node_in (Input k i) = k
    node_in (Root r) = 0

    its_choice : (place : Place) (v : V) (made : Option Chosen) → ChoosesBy m kind_of g place v made → (k : ℕ) (at : GraphNode G) → place ≡ Input k 0 → slice_get g.nodes k ≡ Some at → m.rows.role (kind_of at.kind) ≡ Switch → (c : Chosen) × Has (listed made) c × (c.node ≡ k)
    its_choice place v None by k at e there switch = absurd (by k at e there switch)
    its_choice place v (Some c) by k at e there switch = (c, inl refl, ap node_in (sym by.0 ∙ e))

    -- one reader more, with what it gets
    pub one_planned : (rs : List Reader) (r : Reader) (plan plan' : Plan H) (v : V) (made : Option Chosen) (xs : List (Second H)) → Planned rs plan
        → plan'.itself.items ≡ plan.itself.items → plan'.seconds.items ≡ plan.seconds.items ++ xs → plan'.choices.items ≡ plan.choices.items ++ listed made
        → due m kind_of g outs n r.place ≡ Some v → ChoosesBy m kind_of g r.place v made
        → ((x : Second H) → Has xs x → due m kind_of g outs n x.place ≡ Some (content x.value))
        → (((x : Second H) × Has xs x × (x.place ≡ r.place)) ⊎ (slice_get plan.itself.items r.output ≡ Some (Some r.place)))
        → Planned (rs ++ r ∷ []) plan'
    one_planned rs r plan plan' v made xs before same_itself more_seconds more_choices is by right got = record {
      seconds = λ x h. elim (has_either plan.seconds.items xs x (subst (λ ys. Has ys x) more_seconds h)) [
        | inl a ↦ before.seconds x a
        | inr b ↦ right x b
      ];
      itself = λ s p e. before.itself s p (ap (λ ys. slice_get ys s) (sym same_itself) ∙ e);
      all = λ q h. elim (has_either rs (r ∷ []) q h) [
        | inl a ↦ kept q (before.all q a)
        | inr b ↦ new q b
      ];
      choices = λ c h. elim (has_either plan.choices.items (listed made) c (subst (λ cs. Has cs c) more_choices h)) [
        | inl a ↦ before.choices c a
        | inr b ↦ one_choice r.place v made is by c b
      ];
      all_choices = λ q h k at e there switch. elim (has_either rs (r ∷ []) q h) [
        | inl a ↦
            let c = before.all_choices q a k at e there switch in
            (c.0, subst (λ cs. Has cs c.0) (sym more_choices) (has_first plan.choices.items (listed made) c.0 c.1), c.2)
        | inr b ↦ last q b k at e there switch
      ];
    }
      where
        kept : (q : Reader) → ((x : Second H) × Has plan.seconds.items x × (x.place ≡ q.place)) ⊎ (slice_get plan.itself.items q.output ≡ Some (Some q.place))
            → ((x : Second H) × Has plan'.seconds.items x × (x.place ≡ q.place)) ⊎ (slice_get plan'.itself.items q.output ≡ Some (Some q.place))
        kept q (inl x) = inl (x.0, subst (λ ys. Has ys x.0) (sym more_seconds) (has_first plan.seconds.items xs x.0 x.1), x.2)
        kept q (inr e) = inr (ap (λ ys. slice_get ys q.output) same_itself ∙ e)

        here : ((x : Second H) × Has xs x × (x.place ≡ r.place)) ⊎ (slice_get plan.itself.items r.output ≡ Some (Some r.place))
            → ((x : Second H) × Has plan'.seconds.items x × (x.place ≡ r.place)) ⊎ (slice_get plan'.itself.items r.output ≡ Some (Some r.place))
        here (inl x) = inl (x.0, subst (λ ys. Has ys x.0) (sym more_seconds) (has_second plan.seconds.items xs x.0 x.1), x.2)
        here (inr e) = inr (ap (λ ys. slice_get ys r.output) same_itself ∙ e)

        new : (q : Reader) → Has (r ∷ []) q → ((x : Second H) × Has plan'.seconds.items x × (x.place ≡ q.place)) ⊎ (slice_get plan'.itself.items q.output ≡ Some (Some q.place))
        new q (inl e) = subst (λ y. ((x : Second H) × Has plan'.seconds.items x × (x.place ≡ y.place)) ⊎ (slice_get plan'.itself.items y.output ≡ Some (Some y.place))) (sym e) (here got)
        new q (inr f) = absurd f

        last : (q : Reader) → Has (r ∷ []) q → (k : ℕ) (at : GraphNode G) → q.place ≡ Input k 0 → slice_get g.nodes k ≡ Some at → m.rows.role (kind_of at.kind) ≡ Switch → (c : Chosen) × Has plan'.choices.items c × (c.node ≡ k)
        last q (inl e) k at is_input there switch =
            let c = its_choice r.place v made by k at (ap (λ y. y.place) (sym e) ∙ is_input) there switch in
            (c.0, subst (λ cs. Has cs c.0) (sym more_choices) (has_second plan.choices.items (listed made) c.0 c.1), c.2)
        last q (inr f) k at is_input there switch = absurd f

-- a plan is one of all outputs with the same contents
pub planned_as : {G H K V S T : Type 0} (m : Meanings K V S T) (kind_of : G → K) (g : Nodes G) (n : ℕ) (content : H → V) (outs outs' : List V) (rs : List Reader) (plan : Plan H) → outs ≡ outs' → IsPlanFor m kind_of g outs n content rs plan → IsPlanFor m kind_of g outs' n content rs plan
planned_as m kind_of g n content outs outs' rs plan e p = subst (λ vs. IsPlanFor m kind_of g vs n content rs plan) e p
