-- What later events keep.
use Rattle.std.proofs.Common.{◌≡◌, ℕ, List, [], ◌∷◌, ◌++◌, map, Option, Some, None, true, refl, sym, ◌∙◌, ap, subst}
use Rattle.std.specs.Prelude.{is_some, slice_get}
use Rattle.gn_node_set.specs.Meanings.{Has, Link, Node, Role, Plain, Switch, File, Zone, Answer, Meanings}
use Rattle.gn_exec_laws.specs.Graphs.{Task, links_read, run_of}
use Rattle.gn_exec_laws.specs.Fits.{is_file, CanStart, IsLawful}
use Rattle.gn_exec_laws.specs.Machine.{Event, Take, World, is_set, reads, world, IsRun}
use Rattle.gn_exec_laws.specs.Claims.{Stays}
use Rattle.gn_node_set.proofs.Lists.{some_same, map_equal, member_at}
use Rattle.gn_exec_laws.proofs.Kept.{Grows, same_world, set_stays, read_stays, same_reads, Kept, kept, IsTakenWell, answer_there}
use Rattle.gn_exec_laws.proofs.Counts.{event_grows}

module _ {K V S T : Type 0} (m : Meanings K V S T) where
  abbrev Fed : World K V → Node K V → Type 0
  Fed w node = (link : Link V) → Has (links_read m (reads m w) node) link → is_set w link.from ≡ true

  -- a run reads the same later on
  pub same_run : (w v : World K V) → Grows m w v → (node : Node K V) → Fed w node → (answer : Option Answer) → run_of m (reads m v) answer node ≡ run_of m (reads m w) answer node
  same_run w v grows node fed answer =
      ap (λ vs. m.rows.row node.path node.kind vs answer)
      (ap (map (reads m v)) (same_reads m w v grows node fed) ∙ map_equal (reads m v) (reads m w) (links_read m (reads m w) node) (λ link has. read_stays m w v grows link (fed link has)))

  pub both_grow : (w v u : World K V) → Grows m w v → Grows m v u → Grows m w u
  both_grow w v u a b = record {
    graph = λ n x e. b.graph n x (a.graph n x e);
    set = λ p vs e. b.set p vs (a.set p vs e);
    opened = λ p os e. b.opened p os (a.opened p os e);
    answers = λ p x e. b.answers p x (a.answers p x e);
    warned = λ p ws e. b.warned p ws (a.warned p ws e);
    finished = λ p e. b.finished p (a.finished p e);
    leads = λ x e. b.leads x (set_stays m w v a x e) ∙ a.leads x e;
  }

module _ {K V S T : Type 0} (m : Meanings K V S T) (lawful : IsLawful m) (task : Task K V) (c : CanStart m task) where
  pub grows_on : (later es : List Event) → IsRun m task (later ++ es) → Grows m (world m task es) (world m task (later ++ es))
  grows_on [] es r = same_world m (world m task es)
  grows_on (e ∷ later) es r = both_grow m (world m task es) (world m task (later ++ es)) (world m task (e ∷ later ++ es)) (grows_on later es r.1) (event_grows m lawful task c e (later ++ es) r)

  earlier_run : (later es : List Event) → IsRun m task (later ++ es) → IsRun m task es
  earlier_run [] es r = r
  earlier_run (e ∷ later) es r = earlier_run later es r.1

  -- an answer that is there stays, and only imports get one
  same_answer : (role : Role) (a b : Option Answer) → is_some a ≡ is_file role → is_some b ≡ is_file role → ((x : Answer) → a ≡ Some x → b ≡ Some x) → b ≡ a
  same_answer File None b is is' keeps = cc
  same_answer File (Some x) b is is' keeps = keeps x refl
  same_answer Plain None None is is' keeps = refl
  same_answer Switch None None is is' keeps = refl
  same_answer Zone None None is is' keeps = refl
  same_answer Plain None (Some y) is is' keeps = cc
  same_answer Switch None (Some y) is is' keeps = cc
  same_answer Zone None (Some y) is is' keeps = cc
  same_answer Plain (Some x) b is is' keeps = cc
  same_answer Switch (Some x) b is is' keeps = cc
  same_answer Zone (Some x) b is is' keeps = cc

  pub runs_stay : (later es : List Event) → IsRun m task (later ++ es) → (v n : ℕ) (node : Node K V) → Has es (Take v n) → slice_get (world m task es).graph n ≡ Some node
      → run_of m (reads m (world m task (later ++ es))) ((world m task (later ++ es)).answers node.path) node ≡ run_of m (reads m (world m task es)) ((world m task es).answers node.path) node
  runs_stay later es r v n node h at =
      let k : Kept m lawful task es = kept m lawful task c es (earlier_run later es r) in
      let k' : Kept m lawful task (later ++ es) = kept m lawful task c (later ++ es) r in
      let grows : Grows m (world m task es) (world m task (later ++ es)) = grows_on later es r in
      let t : IsTakenWell m lawful task (world m task es) n = k.taken v n h in
      let is : t.0 ≡ node = some_same (sym t.1 ∙ at) in
      let fed : Fed m (world m task es) node = subst (Fed m (world m task es)) is t.2 in
      let has : m.rows.role node.kind ≡ File → (a : Answer) × ((world m task es).answers node.path ≡ Some a) = subst (λ y. m.rows.role y.kind ≡ File → (a : Answer) × ((world m task es).answers y.path ≡ Some a)) is t.3 in
      let has' : m.rows.role node.kind ≡ File → (a : Answer) × ((world m task (later ++ es)).answers node.path ≡ Some a) =
      λ file. let a : (a : Answer) × ((world m task es).answers node.path ≡ Some a) = has file in (a.0, grows.answers node.path a.0 a.1) in
      let there : is_some ((world m task es).answers node.path) ≡ is_file (m.rows.role node.kind) =
      answer_there m lawful task (world m task es) k.shape node (member_at (world m task es).graph n node at) has (m.rows.role node.kind) refl ((world m task es).answers node.path) refl in
      let there' : is_some ((world m task (later ++ es)).answers node.path) ≡ is_file (m.rows.role node.kind) =
      answer_there m lawful task (world m task (later ++ es)) k'.shape node (member_at (world m task (later ++ es)).graph n node (grows.graph n node at)) has' (m.rows.role node.kind) refl ((world m task (later ++ es)).answers node.path) refl in
      same_run m (world m task es) (world m task (later ++ es)) grows node fed ((world m task (later ++ es)).answers node.path)
      ∙ ap (λ a. run_of m (reads m (world m task es)) a node)
      (same_answer (m.rows.role node.kind) ((world m task es).answers node.path) ((world m task (later ++ es)).answers node.path) there there' (λ x e. grows.answers node.path x e))

  pub stays : (later es : List Event) → IsRun m task (later ++ es) → Stays m task later es
  stays later es r =
      let grows : Grows m (world m task es) (world m task (later ++ es)) = grows_on later es r in
      record { graph = grows.graph; set = grows.set; opened = grows.opened; answers = grows.answers; warned = grows.warned; finished = grows.finished; runs = runs_stay later es r }
