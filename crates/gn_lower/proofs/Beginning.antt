-- Before the first step nothing is done.
use Rattle.std.proofs.Common.{◌≡◌, ◌<◌, ℕ, zero, suc, List, [], ◌∷◌, map, length, drop, take, reverse, Some, None, refl, sym, ◌∙◌, ap, subst, arith}
use Rattle.std.specs.Prelude.{option_map, slice_get}
use Rattle.std.specs.Arc.{arc_value}
use Rattle.std.proofs.lemmas.Option.{slice_get-map}
use Rattle.gn_lazy.specs.Graphs.{LinksLeadBack}
use Rattle.gn_tree.specs.NodeKinds as tree
use Rattle.gn_tree.specs.Trees.{Tree}
use Rattle.gn_tree.specs.Form.{IsOfForm}
use Rattle.gn_tree.specs.Seen.{group_of}
use Rattle.gn_node_set.specs.Lists.{all_of}
use Rattle.gn_node_set.specs.Meanings.{Has, a_value, plain_link, Node}
use Rattle.gn_node_set.proofs.Lists.{append_nil}
use Rattle.gn_exec_laws.specs.Graphs.{Task}
use Rattle.gn_rules.specs.Rules.{KeepsRules, graph_of}
use Rattle.gn_meaning.specs.Sites.{the_tree, at_input}
use Rattle.gn_meaning.specs.Bodies.{tree_body, body_at}
use Rattle.gn_meaning.specs.Demand.{output_read}
use Rattle.gn_meaning.specs.Forms.{HasForm}
use Rattle.gn_meaning.specs.There.{to_the_tree}
use Rattle.gn_meaning.specs.Reads.{Run}
use Rattle.gn_meaning.proofs.Options.{then_some}
use Rattle.gn_meaning.proofs.Formed.{has_form}
use Rattle.gn_stands.specs.Order.{by_rank}
use Rattle.gn_stands.specs.Tasks.{runs_within, links_within, node_within, nodes_within}
use Rattle.gn_found.specs.Filled.{by_name}
use Rattle.gn_found.proofs.Exist.{task_exists}
use Rattle.gn_table.specs.Tables.{IsTable, AreTables}
use Rattle.gn_lower.specs.declared.carried.Source.TheVariants.{Input}
use Rattle.gn_lower.specs.declared.unfold.Unfolding.{Unfolding}
use Rattle.gn_lower.specs.Lowered.{Named}
use Rattle.gn_lower.specs.Carried.{Came, came_of, plain, Carries}
use Rattle.gn_lower.specs.Carried as visit
use Rattle.gn_lower.specs.Unfolding.{IsVisit, AreNodes, Around, Stands, Unfold, outermost, tree_in, way_by}
use Rattle.gn_lower.proofs.Carrying.{own_input}
use Rattle.gn_lower.proofs.Unfolds.{unfolded}

-- nothing is done
pub record IsNew (u : Unfolding) : Type 0 where
  pub tables : AreTables (tree_in u) u.tables.now
  pub groups : map group_of (arc_value u.groups).items ≡ (tree_in u).groups
  pub visit : visit.Begins u.tables.now.tree (plain Input ∷ []) u.visit
  pub outer : u.outer.items ≡ []
  pub way : u.way.items ≡ []
  pub nodes : u.nodes.items ≡ []

module _ (u : Unfolding) (keeps : KeepsRules (tree_in u)) (formed : IsOfForm (tree_in u)) (new : IsNew u) where
  abbrev t : Tree
  t = tree_in u

  abbrev form : HasForm t
  form = has_form t formed

  own_list : IsTable (tree_body t) u.visit.table.now
  own_list = subst (IsTable (tree_body t)) (sym new.visit.table) new.tables.tree

  own_entries : (i : ℕ) → i < length (tree_body t).scope.entries → (c : Came) × (option_map came_of (slice_get u.visit.entries.items i) ≡ Some c) × Carries u.nodes.items t (at_input the_tree i) c
  own_entries zero h = (
    plain Input,
    sym (slice_get-map came_of u.visit.entries.items 0) ∙ ap (λ cs. slice_get cs 0) new.visit.entries,
    record { link = plain_link (a_value None); named = refl; carries = own_input t; there = refl },
  )
  own_entries (suc i) h = absurd (omega (arith, h))

  own_visit : IsVisit t u.nodes.items the_tree u.visit
  own_visit = record {
    body = tree_body t;
    leads = to_the_tree;
    table = own_list;
    sized = new.visit.sized ∙ ap (λ table. length table.rows.items) (sym new.visit.table);
    entries = own_entries;
    outputs = λ m s x there less done. absurd (subst (λ n. Has (take n u.visit.table.now.order.items) m) new.visit.next done);
  }

  pub begins : Stands u
  begins =
      let exists = task_exists t keeps form in
      let k : ℕ = exists.0 in
      let task : Task tree.Kind Named = exists.1 in
      let nodes : (ns : List (Node tree.Kind Named)) × (nodes_within by_name t k the_tree ≡ Some ns) × (option_map (λ rs. record { nodes = ns; roots = rs }) (links_within by_name t k (output_read t ∷ [])) ≡ Some task) =
      then_some (λ ns. option_map (λ rs. record { nodes = ns; roots = rs }) (links_within by_name t k (output_read t ∷ []))) (nodes_within by_name t k the_tree) task exists.2 in
      let runs : (rs : List Run) × (runs_within (body_at t) k the_tree ≡ Some rs) × (all_of (map (node_within by_name t k) rs) ≡ Some nodes.0) =
      then_some (λ rs. all_of (map (node_within by_name t k) rs)) (runs_within (body_at t) k the_tree) nodes.0 nodes.1 in
      let left : Unfold t the_tree (by_rank (graph_of t.nodes)) runs.0 = unfolded t keeps form k the_tree (tree_body t) to_the_tree runs.0 runs.1 in
      record {
        keeps = keeps;
        formed = formed;
        tables = new.tables;
        groups = new.groups;
        of = record { steps = k; task = task; found = exists.2; runs = runs.0; these = runs.1 };
        state = record {
          visit = subst (λ steps. IsVisit t u.nodes.items (way_by (reverse steps)) u.visit) (sym new.way) own_visit;
          done = [];
          nodes = subst (λ ns. AreNodes t ns u.constants.items [] ns) (sym new.nodes) tt;
          back = subst (λ ns. LinksLeadBack (record { nodes = ns; roots = []; constants = length u.constants.items })) (sym new.nodes) (λ n node e. cc);
          left = runs.0;
          more = [];
          here =
              subst (λ steps. Unfold t (way_by (reverse steps)) (drop u.visit.next u.visit.table.now.order.items) runs.0) (sym new.way)
              (subst (λ n. Unfold t the_tree (drop n u.visit.table.now.order.items) runs.0) (sym new.visit.next) (subst (λ ns. Unfold t the_tree ns runs.0) (sym own_list.order) left));
          around = subst (λ steps. Around t u.nodes.items (reverse u.outer.items) (reverse steps) []) (sym new.way) (subst (λ vs. Around t u.nodes.items (reverse vs) [] []) (sym new.outer) outermost);
          whole = append_nil runs.0;
        };
      }

pub begins_new : (u : Unfolding) → KeepsRules (tree_in u) → IsOfForm (tree_in u) → AreTables (tree_in u) u.tables.now → map group_of (arc_value u.groups).items ≡ (tree_in u).groups
    → (entries : List Came) → entries ≡ plain Input ∷ [] → visit.Begins u.tables.now.tree entries u.visit → u.outer.items ≡ [] → u.way.items ≡ [] → u.nodes.items ≡ [] → Stands u
begins_new u keeps formed tables groups entries came first outer way nodes =
    begins u keeps formed (record { tables = tables; groups = groups; visit = subst (λ cs. visit.Begins u.tables.now.tree cs u.visit) came first; outer = outer; way = way; nodes = nodes })
