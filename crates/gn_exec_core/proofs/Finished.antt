-- A state after a finish.
use Rattle.std.proofs.Common.{◌≡◌, ◌≢◌, inl, inr, ℕ, List, [], ◌∷◌, map, length, Option, Some, None, refl, sym, ap, ◌∙◌, subst}
use Rattle.std.specs.Prelude.{slice_get, slice_index_or, option_map, option_and_then}
use Rattle.gn_lazy.specs.declared.graph.GraphNode.{GraphNode}
use Rattle.gn_node_set.specs.Meanings.{Has, Source, a_value, an_item, an_output, plain_link, Node, Zone, AllDiffer, Meanings}
use Rattle.gn_node_set.proofs.Lists.{member_at, known_by, one_place}
use Rattle.gn_node_set.proofs.Paths.{entry_here}
use Rattle.gn_exec_laws.specs.Fits.{paths_of, IsLawful}
use Rattle.gn_exec_laws.specs.Machine.{Event, Take, Finish, World, HasNumber, IsShut, with_outputs, run_now, IsRun}
use Rattle.gn_exec_laws.specs.Claims.{WorldFits}
use Rattle.gn_exec_laws.proofs.Kept.{kept}
use Rattle.gn_exec_laws.proofs.Fitting.{world_fits}
use Rattle.gn_exec_laws.proofs.Events.{came_of_events, leads_on}
use Rattle.gn_uses.specs.declared.nodes.Choice.{Choice}
use Rattle.gn_uses.specs.Nodes as numbers
use Rattle.gn_uses.specs.Uses.{Uses, HasInput}
use Rattle.gn_readers.specs.declared.place.Place.TheVariants.{Input, Root}
use Rattle.gn_readers.specs.declared.place.Reader.{Reader}
use Rattle.gn_readers.specs.Readers.{link_at, AreReaders}
use Rattle.gn_nodes.specs.declared.values.Answer.{Answer}
use Rattle.gn_delivery.specs.declared.plan.Plan.{Plan}
use Rattle.gn_delivery.specs.Slots.{or_as_before, Delivers}
use Rattle.gn_delivery.specs.Plans.{due, CanRead, IsPlanFor}
use Rattle.gn_delivery.specs.Marks.{Chooses, Fills}
use Rattle.gn_exec_core.specs.States.{State, job, now, IsReached}
use Rattle.gn_exec_core.specs.Holds.{value_now, AreNumbered, AreTaken}
use Rattle.gn_exec_core.specs.Jobs.{Holds}
use Rattle.gn_exec_core.specs.Finishes.{HandsOn}
use Rattle.gn_exec_core.proofs.Using.{inside, at_node, link, from_world}
use Rattle.gn_exec_core.proofs.Allowing.{after_finish, can_read}
use Rattle.gn_exec_core.proofs.Finishing.{values_after, numbered_after, has_input, get_map}

taken_finished : (ns : List ℕ) (es : List Event) (worker n : ℕ) → AreTaken ns es → AreTaken ns (Finish worker n ∷ es)
taken_finished ns es worker n t k = (λ h. let u = (t k).0 h in (u.0, inr u.1), λ u. by u.0 u.1)
  where
    by : (u : ℕ) → Has (Finish worker n ∷ es) (Take u k) → Has ns k
    by u (inl e) = cc
    by u (inr h) = (t k).1 (u, h)

module _ {G H K V S T : Type 0} (m : Meanings K V S T) (lawful : IsLawful m) (kind_of : G → K) (content : H → V) (s : State G H) (u : Uses) (made : List (Option Choice)) (rows : List (List (Option H))) (got : List (Option Answer)) (h : Holds m kind_of content s u made rows got)
    (reached : IsReached m kind_of content s) (readers : List (List Reader)) (roots : List (Option H)) (hands : HandsOn m kind_of content s readers roots)
    (worker n : ℕ) (taken : Has s.events (Take worker n)) (no_zone : (node : Node K V) → HasNumber (now m kind_of content s) n node → m.rows.role node.kind ≢ Zone) (fresh : (w : ℕ) → ¬ Has s.events (Finish w n)) where
  abbrev w : World K V
  w = now m kind_of content s

  abbrev given : List V
  given = map content s.given

  abbrev node : GraphNode G → Node K V
  node = at_node m kind_of s.graph given

  differ : AllDiffer (paths_of w.graph)
  differ = subst (λ ns. AllDiffer (paths_of ns)) (sym h.numbered.nodes) reached.start.differ

  -- the node
  pub here : (at : GraphNode G) × (slice_get s.graph.nodes n ≡ Some at) × HasNumber w n (node at)
  here =
      let t = (kept m lawful (job m kind_of content s) reached.start s.events reached.run).taken worker n taken in
      let at = from_world m kind_of s.graph given w u.nodes h.numbered n t.0 t.1 in
      (at.0, at.1, t.1 ∙ ap Some (sym at.2))

  abbrev x : Node K V
  x = node here.0

  abbrev outs : List V
  outs = (run_now m w x).outputs

  abbrev pub s' : List H → State G H
  s' outputs = record s { events = Finish worker n ∷ s.events; handed = outputs ∷ s.handed }

  after : now m kind_of content (s' []) ≡ with_outputs m w x (run_now m w x)
  after = after_finish m w n x here.2 (no_zone x here.2)

  run_after : IsRun m (job m kind_of content s) (Finish worker n ∷ s.events)
  run_after = ((taken, fresh), reached.run)

  pub reached_after : (outputs : List H) → IsReached m kind_of content (s' outputs)
  reached_after outputs = record { start = reached.start; run = run_after }

  -- nothing leads on, and the node has no outputs yet
  leads : (y : Source V) → w.leads y ≡ plain_link y
  leads y = (leads_on m lawful (job m kind_of content s) reached.start s.events reached.run).others y (shut y)
    where
      shut : (y : Source V) → IsShut w y
      shut (a_value z) = tt
      shut (an_item i) = tt
      shut (an_output p t) = h.numbered.shut p

  unset : w.set x.path ≡ None
  unset = by (w.set x.path) refl
    where
      by : (o : Option (List V)) → w.set x.path ≡ o → w.set x.path ≡ None
      by None e = e
      by (Some vs) e =
          let f = (came_of_events m lawful (job m kind_of content s) reached.start s.events reached.run).set x.path vs e in
          let same : f.2.1 ≡ n = one_place (λ y. y.path) w.graph differ f.2.1 n f.0 x f.2.3 here.2 f.1 in
          absurd (fresh f.2.0 (subst (λ k. Has s.events (Finish f.2.0 k)) same f.2.2))

  sorts : map m.sort outs ≡ m.gives (kind_of here.0.kind)
  sorts =
      let fits : WorldFits m (now m kind_of content (s' [])) = world_fits m lawful (job m kind_of content s) reached.start (Finish worker n ∷ s.events) run_after in
      let f = fits.set x.path outs (ap (λ y. y.set x.path) after ∙ entry_here x.path outs w.set) in
      let same : f.0 ≡ x = known_by (λ y. y.path) w.graph differ f.0 x (subst (λ ns. Has ns f.0) (ap (λ y. y.graph) after) f.1) (member_at w.graph n x here.2) f.2 in
      f.3 ∙ ap (λ y. m.gives y.kind) same

  abbrev rs : List Reader
  rs = slice_index_or readers n []

  are : AreReaders s.graph n rs
  are = hands.readers.each_node n (inside s.graph.nodes n here.0 here.1)

  -- each reader can be given its value
  pub all_read : (r : Reader) → Has rs r → CanRead m kind_of s.graph outs r
  all_read r has = can_read m lawful kind_of s.graph given reached.start n here.0 here.1 outs sorts r ((are.each r).0 has)

  pub all_inputs : length u.nodes.sizes ≡ length s.graph.nodes → (r : Reader) (k i : ℕ) → Has rs r → r.place ≡ Input k i → HasInput u.nodes k i
  all_inputs sizes r k i has e =
      let leads_there = (are.each r).0 has in
      has_input m kind_of s.graph given w u.nodes h.numbered leads differ n here.0 here.1 outs (run_now m w x).warnings rs are k i leads_there.0 sizes (ap (link_at s.graph) (sym e) ∙ leads_there.1)

  module _ (plan : Plan H) (planned : IsPlanFor m kind_of s.graph outs n content rs plan) (sizes : length u.nodes.sizes ≡ length s.graph.nodes) (g' : numbers.Nodes) (chooses : Chooses u.nodes plan.choices.items g') (u' : Uses) (fills : Fills g' rs u'.nodes) (still : u'.taken ≡ u.taken) (made' : List (Option Choice)) (chosen : made' ≡ u'.nodes.choices)
      (rows' : List (List (Option H))) (roots' : List (Option H)) (delivers : Delivers content (due m kind_of s.graph outs n) (record { rows = rows; roots = roots }) (record { rows = rows'; roots = roots' })) (outputs : List H) where
    abbrev w' : World K V
    w' = with_outputs m w x (run_now m w x)

    numbered : AreNumbered m kind_of s.graph given w' u'.nodes
    numbered = numbered_after m kind_of s.graph given w u.nodes h.numbered leads differ n here.0 here.1 outs (run_now m w x).warnings rs are content plan planned h.conditions unset g' chooses sizes u'.nodes fills

    -- a row that is kept
    row_after : (k : ℕ) (b : GraphNode G) → slice_get s.graph.nodes k ≡ Some b → map (option_map content) (slice_index_or rows k []) ≡ map (value_now m w) (node b).links → map (option_map content) (slice_index_or rows' k []) ≡ map (value_now m w') (node b).links
    row_after k b e before =
        values_after m kind_of s.graph given w u.nodes h.numbered leads differ n here.0 here.1 outs (run_now m w x).warnings b.inputs.items (λ i. Input k i) (λ i. ap (option_and_then (λ y. slice_get y.inputs.items i)) e)
        (map (option_map content) (slice_index_or rows k [])) (map (option_map content) (slice_index_or rows' k []))
        (λ i. get_map (option_map content) (slice_index_or rows' k []) i ∙ delivers (Input k i) ∙ ap (option_map (or_as_before (due m kind_of s.graph outs n (Input k i)))) (sym (get_map (option_map content) (slice_index_or rows k []) i)))
        before

    roots_after : map (option_map content) roots' ≡ map (value_now m w') (map (link m kind_of s.graph given) s.graph.roots)
    roots_after =
        values_after m kind_of s.graph given w u.nodes h.numbered leads differ n here.0 here.1 outs (run_now m w x).warnings s.graph.roots (λ i. Root i) (λ i. refl)
        (map (option_map content) roots) (map (option_map content) roots')
        (λ i. get_map (option_map content) roots' i ∙ delivers (Root i) ∙ ap (option_map (or_as_before (due m kind_of s.graph outs n (Root i)))) (sym (get_map (option_map content) roots i)))
        hands.roots

    pub holds_finished : Holds m kind_of content (s' outputs) u' made' rows' got
    holds_finished = record {
      numbered = subst (λ y. AreNumbered m kind_of s.graph given y u'.nodes) (sym after) numbered;
      conditions = h.conditions;
      ordered = h.ordered;
      taken = subst (λ ns. AreTaken ns (Finish worker n ∷ s.events)) (sym still) (taken_finished u.taken s.events worker n h.taken);
      choices = chosen;
      kept = λ k b e new. row_after k b e (h.kept k b e (λ has. new (subst (λ ns. Has ns k) (sym still) has))) ∙ ap (λ y. map (value_now m y) (node b).links) (sym after);
      answers = λ k b e new. h.answers k b e (λ has. new (subst (λ ns. Has ns k) (sym still) has)) ∙ sym (ap (λ y. y.answers b.path.steps.items) after);
    }

    pub hands_finished : HandsOn m kind_of content (s' outputs) readers roots'
    hands_finished = record {
      readers = hands.readers;
      roots = roots_after ∙ ap (λ y. map (value_now m y) (job m kind_of content s).roots) (sym after);
    }
