-- Which nodes are finished, and which imports wait, by the numbers.
use Rattle.std.proofs.Common.{◌≡◌, ℕ, Bool, true, false, List, map, Option, Some, None, IsTrue, refl, sym, ap, ◌∙◌, subst, true≢false}
use Rattle.std.specs.Prelude.{◌&&◌, not, is_some, slice_get, slice_index_or}
use Rattle.gn_lazy.specs.declared.graph.GraphNode.{GraphNode}
use Rattle.gn_node_set.specs.Meanings.{Has, Node, Role, Plain, Switch, File, Zone, Warning, AllDiffer, Meanings}
use Rattle.gn_node_set.specs.Paths.{path_before}
use Rattle.gn_node_set.proofs.Lists.{some_same, held, not_held, not_both, one_place}
use Rattle.gn_exec_laws.specs.Fits.{IsLawful, paths_of, is_file}
use Rattle.gn_exec_laws.specs.Machine.{Finish, World, HasNumber, finished, Used, Awaits}
use Rattle.gn_exec_laws.specs.Claims.{finishes}
use Rattle.gn_exec_laws.proofs.Counts.{was_finished}
use Rattle.gn_exec_laws.proofs.Events.{came_of_events, events_left}
use Rattle.gn_uses.specs.declared.nodes.Choice.{Choice}
use Rattle.gn_uses.specs.Nodes as numbers
use Rattle.gn_uses.specs.Sets.{has}
use Rattle.gn_uses.specs.Uses.{Uses, IsExact}
use Rattle.gn_uses.proofs.Lists.{is_member, member_is}
use Rattle.gn_nodes.specs.declared.values.Answer.{Answer}
use Rattle.gn_exec_core.specs.States.{State, job, now, IsReached}
use Rattle.gn_exec_core.specs.Jobs.{Holds}
use Rattle.gn_pending.specs.Flags.{AreFlagged, IsFlagged, IsFirstOf}
use Rattle.gn_exec_core.specs.Waits.{Tallies, NodeIs, AreFinished, WaitsFirst}
use Rattle.gn_exec_core.proofs.Using.{at_node, in_world, from_world, used_same, same_used}
use Rattle.gn_exec_core.proofs.Tallying.{finish_in}

both_true : (a b : Bool) → (not a && b) ≡ true → (a ≡ false) × (b ≡ true)
both_true true b e = absurd (true≢false (sym e))
both_true false b e = (refl, e)

file_role : (r : Role) → is_file r ≡ true → r ≡ File
file_role Plain e = absurd (true≢false (sym e))
file_role Switch e = absurd (true≢false (sym e))
file_role File e = refl
file_role Zone e = absurd (true≢false (sym e))

module _ {G H K V S T : Type 0} (m : Meanings K V S T) (lawful : IsLawful m) (kind_of : G → K) (content : H → V) (s : State G H) (u : Uses) (made : List (Option Choice)) (rows : List (List (Option H))) (got : List (Option Answer))
    (h : Holds m kind_of content s u made rows got) (reached : IsReached m kind_of content s) (done unanswered : List Bool) (slots running : ℕ) (t : Tallies s.graph.nodes s.events u.nodes done unanswered slots running) where
  abbrev w : World K V
  w = now m kind_of content s

  abbrev node : GraphNode G → Node K V
  node = at_node m kind_of s.graph (map content s.given)

  differ : AllDiffer (paths_of w.graph)
  differ = subst (λ ns. AllDiffer (paths_of ns)) (sym h.numbered.nodes) reached.start.differ

  found : (n : ℕ) (x : Node K V) → HasNumber w n x → (at : GraphNode G) × (slice_get s.graph.nodes n ≡ Some at) × (node at ≡ x)
  found n x e = from_world m kind_of s.graph (map content s.given) w u.nodes h.numbered n x e

  -- ---- nodes

  pub node_found : (n : ℕ) (o : Option (GraphNode G)) → o ≡ slice_get s.graph.nodes n → NodeIs m kind_of content s n o
  node_found n None e = λ x is. let f = found n x is in not_both (sym e) f.1
  node_found n (Some at) e = (node at, in_world m kind_of s.graph (map content s.given) w u.nodes h.numbered n at (sym e), refl, refl)

  -- ---- finished nodes

  finish_flag : (n : ℕ) (at : GraphNode G) → slice_get s.graph.nodes n ≡ Some at → slice_index_or done n false ≡ true → finished w at.path.steps.items ≡ true
  finish_flag n at e flag =
      let f : (v : ℕ) × Has s.events (Finish v n) = was_finished s.events n (member_is (finishes s.events) n (sym (t.is_done n) ∙ flag)) in
      let left = (events_left m lawful (job m kind_of content s) reached.start s.events reached.run).warnings (node at) (f.0, n, f.1, in_world m kind_of s.graph (map content s.given) w u.nodes h.numbered n at e) in
      ap is_some left

  flag_finish : (n : ℕ) (at : GraphNode G) → slice_get s.graph.nodes n ≡ Some at → finished w at.path.steps.items ≡ true → slice_index_or done n false ≡ true
  flag_finish n at e is =
      let ws : (ws : List Warning) × (w.warned at.path.steps.items ≡ Some ws) = held (w.warned at.path.steps.items) is in
      let c = (came_of_events m lawful (job m kind_of content s) reached.start s.events reached.run).warned at.path.steps.items ws.0 ws.1 in
      let same : c.2.1 ≡ n = one_place (λ y. y.path) w.graph differ c.2.1 n c.0 (node at) c.2.3 (in_world m kind_of s.graph (map content s.given) w u.nodes h.numbered n at e) c.1 in
      t.is_done n ∙ is_member (finishes s.events) n (subst (Has (finishes s.events)) same (finish_in s.events c.2.0 c.2.1 c.2.2))

  module _ (exact : IsExact u) where
    pub all_finished : AreFlagged done u.used → AreFinished m kind_of content s
    all_finished all n x is used =
        let f = found n x is in
        let used' : Used m (job m kind_of content s) w (node f.0) = subst (Used m (job m kind_of content s) w) (sym f.2) used in
        let flag = all n ((exact.used n).1 (used_same m kind_of s.graph (map content s.given) w u.nodes h.numbered h.ordered differ n f.0 f.1 used')) in
        subst (λ y. IsTrue (finished w y.path)) f.2 (finish_flag n f.0 f.1 flag)

    pub finished_all : AreFinished m kind_of content s → AreFlagged done u.used
    finished_all all n has =
        let f = same_used m kind_of s.graph (map content s.given) w u.nodes h.numbered h.ordered differ n ((exact.used n).0 has) in
        flag_finish n f.0 f.1 (all n (node f.0) (in_world m kind_of s.graph (map content s.given) w u.nodes h.numbered n f.0 f.1) f.2)

    -- ---- imports that wait

    abbrev Flagged : ℕ → GraphNode G → Type 0
    Flagged = IsFlagged s.graph.nodes unanswered

    waiting_found : (n : ℕ) (at : GraphNode G) → Has u.used n → Flagged n at → Awaits m (job m kind_of content s) s.events n (node at)
    waiting_found n at has flagged =
        let f = same_used m kind_of s.graph (map content s.given) w u.nodes h.numbered h.ordered differ n ((exact.used n).0 has) in
        let same : f.0 ≡ at = some_same (sym f.1 ∙ flagged.there) in
        let i = h.numbered.each n at flagged.there in
        let both = both_true (numbers.answered u.nodes n) (is_file (numbers.role_of (numbers.role u.nodes n))) (sym (t.is_unanswered n) ∙ flagged.flag) in
        record {
          there = in_world m kind_of s.graph (map content s.given) w u.nodes h.numbered n at flagged.there;
          used = subst (λ y. Used m (job m kind_of content s) w (node y)) same f.2;
          file = file_role (m.rows.role (kind_of at.kind)) (ap is_file (sym i.role) ∙ both.1);
          no_answer = not_held (w.answers at.path.steps.items) (sym i.answered ∙ both.0);
        }

    found_waiting : (n : ℕ) (x : Node K V) → Awaits m (job m kind_of content s) s.events n x → (at : GraphNode G) × (node at ≡ x) × Has u.used n × Flagged n at
    found_waiting n x waits =
        let f = found n x waits.there in
        let i = h.numbered.each n f.0 f.1 in
        let used' : Used m (job m kind_of content s) w (node f.0) = subst (Used m (job m kind_of content s) w) (sym f.2) waits.used in
        let file : m.rows.role (kind_of f.0.kind) ≡ File = ap (λ y. m.rows.role y.kind) f.2 ∙ waits.file in
        let none : numbers.answered u.nodes n ≡ false = i.answered ∙ ap is_some (ap (λ y. w.answers y.path) f.2 ∙ waits.no_answer) in (
          f.0,
          f.2,
          (exact.used n).1 (used_same m kind_of s.graph (map content s.given) w u.nodes h.numbered h.ordered differ n f.0 f.1 used'),
          record {
            there = f.1;
            flag = t.is_unanswered n ∙ ap (λ b. not b && is_file (numbers.role_of (numbers.role u.nodes n))) none ∙ ap is_file (i.role ∙ file);
          },
        )

    pub first_waits : (o : Option ℕ) → IsFirstOf s.graph.nodes unanswered u.used o → WaitsFirst m kind_of content s o
    first_waits None first = λ n x waits. let f = found_waiting n x waits in first n f.0 f.2 f.3
    first_waits (Some n) first = (
      node first.1.0,
      waiting_found n first.1.0 first.0 first.1.1,
      λ k other waits.
          let f = found_waiting k other waits in
          subst (λ y. path_before y.path first.1.0.path.steps.items ≡ false) f.1 (first.1.2 k f.0 f.2 f.3),
    )
