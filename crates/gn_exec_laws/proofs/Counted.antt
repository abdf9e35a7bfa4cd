-- How many events there are, and which imports are served.
use Rattle.std.proofs.Common.{◌≡◌, inl, inr, ◌<◌, ◌≤◌, ◌+◌, ℕ, zero, suc, length, List, [], ◌∷◌, Some, refl, sym, ◌∙◌, ap, subst, arith}
use Rattle.std.specs.Prelude.{slice_get}
use Rattle.std.proofs.lemmas.Bool.Decides.{eqb_tells}
use Rattle.gn_node_set.specs.Paths.{Path}
use Rattle.gn_node_set.specs.Meanings.{Has, Node, File, Answer, Meanings, AllDiffer}
use Rattle.gn_exec_laws.specs.Graphs.{Task, Answers, Solves, Demanded, ListsDemand}
use Rattle.gn_exec_laws.specs.Fits.{CanStart, IsLawful}
use Rattle.gn_exec_laws.specs.Machine.{Event, Take, Finish, Serve, Refuse, World, HasNumber, world, Used, IsRun, IsServed}
use Rattle.gn_exec_laws.specs.Claims.{takes, finishes, serves, IsOver, numbered, taken_nodes, ServesOnce, AreBounded, UsesDemanded, EndsWell, TakesDemanded, ServesDemanded}
use Rattle.gn_node_set.proofs.Lists.{some_same, member_at, known_by, one_place}
use Rattle.gn_exec_laws.proofs.Kept.{Kept, kept, IsTakenWell, IsFinished}
use Rattle.gn_exec_laws.proofs.Counts.{was_taken, was_finished, takes_differ, finishes_differ}
use Rattle.gn_exec_laws.proofs.Safety.{uses_demanded}
use Rattle.gn_exec_laws.proofs.Ends.{at_most_as_long, as_long, numbered_number, numbered_differ, numbered_length, IsServedAt, served_at, serves_differ, WasServed, was_served, ends_well}

-- ---- refusals

abbrev refuses : List Event → List ℕ
refuses [] = []
refuses (Refuse v ∷ es) = v ∷ refuses es
refuses (_ ∷ es) = refuses es

was_refused : (es : List Event) (v : ℕ) → Has (refuses es) v → Has es (Refuse v)
was_refused [] v h = absurd h
was_refused (Refuse u ∷ es) v (inl e) = inl (ap Refuse e)
was_refused (Refuse u ∷ es) v (inr h) = inr (was_refused es v h)
was_refused (Take u n ∷ es) v h = inr (was_refused es v h)
was_refused (Finish u n ∷ es) v h = inr (was_refused es v h)
was_refused (Serve n a ∷ es) v h = inr (was_refused es v h)

kinds : (es : List Event) → length es ≡ length (takes es) + length (finishes es) + length (serves es) + length (refuses es)
kinds [] = refl
kinds (Take v n ∷ es) = omega (arith, kinds es)
kinds (Finish v n ∷ es) = omega (arith, kinds es)
kinds (Serve n a ∷ es) = omega (arith, kinds es)
kinds (Refuse v ∷ es) = omega (arith, kinds es)

-- the numbers below one
below : ℕ → List ℕ
below zero = []
below (suc n) = n ∷ below n

below_length : (n : ℕ) → length (below n) ≡ n
unfolding below
below_length zero = refl
below_length (suc n) = ap suc (below_length n)

is_below : (n k : ℕ) → k < n → Has (below n) k
unfolding below
is_below zero k less = absurd (omega (arith, less))
is_below (suc n) k less = elim (eqb_tells k n) [ inl t ↦ inl t.1 | inr t ↦ let other : ¬ (k ≡ n) = t.1 in inr (is_below n k (omega (arith, less, other))) ]

module _ {K V S T : Type 0} (m : Meanings K V S T) (lawful : IsLawful m) (task : Task K V) (c : CanStart m task) (es : List Event) (r : IsRun m task es) where
  abbrev w : World K V
  w = world m task es

  k : Kept m lawful task es
  k = kept m lawful task c es r

  one_number : (n j : ℕ) (node : Node K V) → slice_get w.graph n ≡ Some node → slice_get w.graph j ≡ Some node → n ≡ j
  one_number n j node a b = one_place (λ x. x.path) w.graph k.shape.differ n j node node a b refl

  -- numbers of nodes that differ are at most as many as nodes
  number_bound : (ns : List ℕ) → AllDiffer ns → ((n : ℕ) → Has ns n → (node : Node K V) × HasNumber w n node) → length ns ≤ length w.graph
  number_bound ns differ there =
      let same : length (numbered m w.graph ns) ≡ length ns = numbered_length m lawful task w.graph one_number ns there in
      let most : length (numbered m w.graph ns) ≤ length w.graph =
      at_most_as_long (numbered m w.graph ns) w.graph (numbered_differ m lawful task w.graph one_number ns differ)
      (λ node h. let n : (n : ℕ) × Has ns n × (slice_get w.graph n ≡ Some node) = numbered_number m lawful task w.graph ns node h in member_at w.graph n.0 node n.2) in
      subst (λ l. l ≤ length w.graph) same most

  taken_there : (n : ℕ) → Has (takes es) n → (node : Node K V) × HasNumber w n node
  taken_there n h =
      let v : (v : ℕ) × Has es (Take v n) = was_taken es n h in
      let t : IsTakenWell m lawful task w n = k.taken v.0 n v.1 in
      (t.0, t.1)

  finished_there : (n : ℕ) → Has (finishes es) n → (node : Node K V) × HasNumber w n node
  finished_there n h =
      let v : (v : ℕ) × Has es (Finish v n) = was_finished es n h in
      let t : IsFinished m lawful task w n = k.finishes v.0 n v.1 in
      (t.0, t.1)

  pub serves_once : ServesOnce m task es
  serves_once = record {
    served = serves_differ m lawful task c es r;
    imports = λ n h. let t : IsServedAt m lawful task w n = served_at m lawful task c es r n h in (t.0, t.1, t.2, t.4);
  }

  served_there : (n : ℕ) → Has (serves es) n → (node : Node K V) × HasNumber w n node
  served_there n h = let t : (node : Node K V) × HasNumber w n node × (m.rows.role node.kind ≡ File) × Used m task w node = serves_once.imports n h in (t.0, t.1)

  -- ---- the bound

  refuses_differ : (fs : List Event) → IsRun m task fs → AllDiffer (refuses fs)
  refuses_differ [] q = tt
  refuses_differ (Refuse v ∷ fs) q = (λ h. q.0.1 (was_refused fs v h), refuses_differ fs q.1)
  refuses_differ (Take v n ∷ fs) q = refuses_differ fs q.1
  refuses_differ (Finish v n ∷ fs) q = refuses_differ fs q.1
  refuses_differ (Serve n a ∷ fs) q = refuses_differ fs q.1

  refuses_below : (fs : List Event) → IsRun m task fs → (v : ℕ) → Has (refuses fs) v → v < 64
  refuses_below [] q v h = absurd h
  refuses_below (Refuse u ∷ fs) q v (inl e) = subst (λ x. x < 64) (sym e) q.0.0
  refuses_below (Refuse u ∷ fs) q v (inr h) = refuses_below fs q.1 v h
  refuses_below (Take u n ∷ fs) q v h = refuses_below fs q.1 v h
  refuses_below (Finish u n ∷ fs) q v h = refuses_below fs q.1 v h
  refuses_below (Serve n a ∷ fs) q v h = refuses_below fs q.1 v h

  pub are_bounded : AreBounded m task es
  are_bounded =
      let a : length (takes es) ≤ length w.graph = number_bound (takes es) (takes_differ m lawful task es r) taken_there in
      let b : length (finishes es) ≤ length w.graph = number_bound (finishes es) (finishes_differ m lawful task es r) finished_there in
      let d : length (serves es) ≤ length w.graph = number_bound (serves es) (serves_differ m lawful task c es r) served_there in
      let e : length (refuses es) ≤ 64 =
      subst (λ l. length (refuses es) ≤ l) (below_length 64)
      (at_most_as_long (refuses es) (below 64) (refuses_differ es r) (λ v h. is_below 64 v (refuses_below es r v h))) in
      let f : length es ≡ length (takes es) + length (finishes es) + length (serves es) + length (refuses es) = kinds es in
      omega arith

  -- ---- over files

  module _ (tells : Answers m) (den : Path → List V) (solves : Solves m task tells den) (served : IsServed m task tells es) where
    abbrev taken : List (Node K V)
    taken = taken_nodes m task es

    uses : UsesDemanded m task tells den es
    uses = uses_demanded m lawful task c tells den solves es r served

    taken_length : length taken ≡ length (takes es)
    taken_length = numbered_length m lawful task w.graph one_number (takes es) taken_there

    taken_differ : AllDiffer taken
    taken_differ = numbered_differ m lawful task w.graph one_number (takes es) (takes_differ m lawful task es r)

    taken_demanded : (node : Node K V) → Has taken node → Demanded m task tells den node
    taken_demanded node h =
        let n : (n : ℕ) × Has (takes es) n × (slice_get w.graph n ≡ Some node) = numbered_number m lawful task w.graph (takes es) node h in
        let v : (v : ℕ) × Has es (Take v n.0) = was_taken es n.0 n.1 in
        let t : (x : Node K V) × HasNumber w n.0 x × Used m task w x = uses.taken v.0 n.0 v.1 in
        let same : t.0 ≡ node = some_same (sym t.1 ∙ n.2) in
        uses.used node (member_at w.graph n.0 node n.2) (subst (Used m task w) same t.2)

    ended : IsOver m task es → EndsWell m task tells den es
    ended over = ends_well m lawful task c es r over tells den solves served

    pub takes_demanded : TakesDemanded m task tells den es
    takes_demanded = record {
      at_most = λ nodes l. subst (λ n. n ≤ length nodes) taken_length (at_most_as_long taken nodes taken_differ (λ x h. (l.members x).1 (taken_demanded x h)));
      as_many = λ nodes l over.
          let t : ListsDemand m task tells den taken = (ended over).taken in
          sym taken_length ∙ as_long taken nodes taken_differ l.differ (λ x h. (l.members x).1 ((t.members x).0 h)) (λ x h. (t.members x).1 ((l.members x).0 h));
    }

    served_demanded : (n : ℕ) → Has (serves es) n → (node : Node K V) × HasNumber w n node × (m.rows.role node.kind ≡ File) × Demanded m task tells den node
    served_demanded n h =
        let t : (node : Node K V) × HasNumber w n node × (m.rows.role node.kind ≡ File) × Used m task w node = serves_once.imports n h in
        (t.0, t.1, t.2, uses.used t.0 (member_at w.graph n t.0 t.1) t.3)

    answered_served : (node : Node K V) → Has w.graph node → (a : Answer) × (w.answers node.path ≡ Some a) → (n : ℕ) × Has (serves es) n × HasNumber w n node
    answered_served node h a = number (was_served m lawful task c es r node.path a.0 a.1)
      where
        number : WasServed m lawful task c es w node.path → (n : ℕ) × Has (serves es) n × HasNumber w n node
        number s = (s.0, s.2, s.3 ∙ ap Some (known_by (λ y. y.path) w.graph k.shape.differ s.1 node (member_at w.graph s.0 s.1 s.3) h s.4))

    taken_served : (n : ℕ) (node : Node K V) → HasNumber w n node → m.rows.role node.kind ≡ File → IsTakenWell m lawful task w n → (j : ℕ) × Has (serves es) j × HasNumber w j node
    taken_served n node at file t =
        answered_served node (member_at w.graph n node at)
        (subst (λ y. m.rows.role y.kind ≡ File → (a : Answer) × (w.answers y.path ≡ Some a)) (some_same (sym t.1 ∙ at)) t.3 file)

    demanded_served : IsOver m task es → (node : Node K V) → Demanded m task tells den node → m.rows.role node.kind ≡ File → (n : ℕ) × Has (serves es) n × HasNumber w n node
    demanded_served over node demanded file =
        let n : (n : ℕ) × Has (takes es) n × (slice_get w.graph n ≡ Some node) = numbered_number m lawful task w.graph (takes es) node (((ended over).taken.members node).1 demanded) in
        let v : (v : ℕ) × Has es (Take v n.0) = was_taken es n.0 n.1 in
        taken_served n.0 node n.2 file (k.taken v.0 n.0 v.1)

    pub serves_demanded : ServesDemanded m task tells den es
    serves_demanded = record { imports = served_demanded; all = demanded_served }
