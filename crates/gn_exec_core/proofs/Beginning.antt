-- A state with no event holds.
use Rattle.std.proofs.Common.{◌≡◌, ℕ, zero, suc, ◌≤◌, Bool, false, List, [], map, length, Option, Some, None, refl, sym, ap, ◌∙◌, subst, arith, replicate}
use Rattle.std.specs.Prelude.{slice_get, slice_index_or, option_map}
use Rattle.std.proofs.lemmas.List.{length-replicate, length-map}
use Rattle.gn_lazy.specs.Graphs.{Nodes, IsOrdered}
use Rattle.gn_lazy.specs.declared.graph.GraphNode.{GraphNode}
use Rattle.gn_node_set.specs.Meanings.{Meanings}
use Rattle.gn_exec_laws.specs.Tasks.{task_of}
use Rattle.gn_exec_laws.specs.Fits.{CanStart}
use Rattle.gn_uses.specs.declared.nodes.Choice.{Choice}
use Rattle.gn_uses.specs.Uses.{Uses}
use Rattle.std.specs.declared.alloc.Global.{Global}
use Rattle.std.specs.declared.vec.Vec.{Vec}
use Rattle.gn_exec_core.specs.declared.state.Happened.{Happened}
use Rattle.gn_exec_core.specs.States.{unset, events_of, seen, HasFlags, IsReached}
use Rattle.gn_exec_core.specs.Holds.{input_of, present, HaveConditions}
use Rattle.gn_exec_core.specs.Jobs.{Holds}
use Rattle.gn_exec_core.specs.Starts.{begun, start_value, IsChosenBy, HasNumbers}
use Rattle.gn_exec_core.proofs.Taking.{unset_within}
use Rattle.gn_readers.specs.declared.place.Reader.{Reader}
use Rattle.gn_readers.specs.Readers.{HaveReaders}
use Rattle.gn_exec_core.specs.Finishes.{HandsOn}
use Rattle.gn_exec_core.proofs.Starting.{roots_first, all_first, kept_first, taken_first}

none_set : (n k : ℕ) → slice_index_or (replicate n false) k false ≡ false
none_set zero k = refl
none_set (suc n) zero = refl
none_set (suc n) (suc k) = none_set n k

pub no_flags : (flags : List Bool) (room : ℕ) → flags ≡ replicate 64 false → 64 ≤ room → HasFlags flags [] room
no_flags flags room is enough =
    let many : length flags ≡ 64 = ap length is ∙ length-replicate 64 false in
    record {
      flagged = λ worker. ap (λ fs. slice_index_or fs worker false) is ∙ none_set 64 worker;
      workers = many;
      fits = let few : unset flags ≤ length flags = unset_within flags in omega (arith, few, many, enough);
    }

pub seen_begun : {K V : Type 0} (graph : Nodes K) (given given' : List V) (journal : List (Happened V)) → journal ≡ [] → given' ≡ given → seen graph given' journal ≡ begun graph given
seen_begun graph given given' journal e f = ap (λ j. seen graph given' j) e ∙ ap (λ x. begun graph x) f

pub rows_counted : {A B C D : Type 0} (f : A → B) (rows : List (Vec (Option C) Global)) (h : D → B) (ys : List D) (lists : Vec (Option C) Global → A) → map f (map lists rows) ≡ map h ys → length rows ≡ length ys
rows_counted f rows h ys lists e = sym (length-map rows lists) ∙ sym (length-map (map lists rows) f) ∙ ap length e ∙ length-map ys h

module _ {G H K V S T : Type 0} (m : Meanings K V S T) (kind_of : G → K) (content : H → V) (graph : Nodes G) (given : List H)
    (start : CanStart m (task_of kind_of m.nothing graph (map content given))) (conditions : HaveConditions m kind_of graph.nodes) (ordered : IsOrdered graph)
    (rows : List (List (Option H))) (rows_are : map (λ row. map (option_map content) row) rows ≡ map (λ at. map (start_value m (map content given)) at.inputs.items) graph.nodes)
    (choices : List (Option Choice)) (chosen : (n : ℕ) (at : GraphNode G) → slice_get graph.nodes n ≡ Some at → IsChosenBy m (kind_of at.kind) (map (option_map content) (slice_index_or rows n [])) (slice_index_or choices n None))
    (u : Uses) (are : HasNumbers m kind_of graph.nodes choices u.nodes) (roots : u.nodes.roots ≡ present (map input_of graph.roots)) (none_taken : u.taken ≡ []) where
  pub begun_reached : IsReached m kind_of content (begun graph given)
  begun_reached = record { start = start; run = tt }

  pub begun_holds : Holds m kind_of content (begun graph given) u choices rows []
  begun_holds = record {
    numbered = all_first m kind_of content graph (map content given) ordered conditions rows rows_are choices chosen u are roots none_taken;
    conditions = conditions;
    ordered = ordered;
    taken = taken_first m kind_of content graph (map content given) ordered conditions rows rows_are choices chosen u are roots none_taken;
    choices = sym are.choices;
    kept = kept_first m kind_of content graph (map content given) ordered conditions rows rows_are choices chosen u are roots none_taken;
    answers = λ n at e fresh. refl;
  }

  -- the same, of a state whose journal is empty
  pub begun_all : (about : List H) (journal : List (Happened H)) (flags : List Bool) (room : ℕ) → about ≡ given → journal ≡ [] → flags ≡ replicate 64 false → 64 ≤ room
      → HasFlags flags (events_of journal) room × IsReached m kind_of content (seen graph about journal) × Holds m kind_of content (seen graph about journal) u choices rows []
  begun_all about journal flags room is none no_flag enough = (
    subst (λ j. HasFlags flags (events_of j) room) (sym none) (no_flags flags room no_flag enough),
    subst (IsReached m kind_of content) (sym (seen_begun graph given about journal none is)) begun_reached,
    subst (λ s. Holds m kind_of content s u choices rows []) (sym (seen_begun graph given about journal none is)) begun_holds,
  )

-- and it can hand on
pub begun_hands : {G H K V S T : Type 0} (m : Meanings K V S T) (kind_of : G → K) (content : H → V) (graph : Nodes G) (given about : List H) (ordered : IsOrdered graph) (readers : List (List Reader)) (roots : List (Option H)) (journal : List (Happened H))
    → HaveReaders graph readers → map (option_map content) roots ≡ map (start_value m (map content given)) graph.roots → about ≡ given → journal ≡ [] → HandsOn m kind_of content (seen graph about journal) readers roots
begun_hands m kind_of content graph given about ordered readers roots journal have values is none =
    subst (λ s. HandsOn m kind_of content s readers roots) (sym (seen_begun graph given about journal none is))
    (record { readers = have; roots = values ∙ roots_first m kind_of content graph (map content given) ordered })
