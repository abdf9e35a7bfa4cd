-- What is known with the nodes of a graph so far is known with more.
use Rattle.std.proofs.Common.{◌≡◌, List, ◌++◌, Option, Some, None, refl, ◌∙◌, ap}
use Rattle.std.specs.Prelude.{IsTrue, option_map, slice_get}
use Rattle.gn_lazy.specs.declared.path.PathStep.{PathStep}
use Rattle.gn_lazy.specs.declared.graph.GraphNode.{GraphNode}
use Rattle.gn_lazy.specs.Graphs.{has_output}
use Rattle.gn_tree.specs.Trees.{Tree}
use Rattle.gn_tree.specs.declared.kind.Kind.{Kind}
use Rattle.gn_node_set.specs.Meanings as meanings
use Rattle.gn_node_set.specs.Meanings.{an_output}
use Rattle.gn_node_set.proofs.Lists.{same_place}
use Rattle.gn_meaning.specs.Sites.{Way, Site}
use Rattle.gn_meaning.specs.Reads.{Run}
use Rattle.gn_meaning.proofs.Options.{map_some}
use Rattle.gn_lower.specs.declared.carried.Source.{Source}
use Rattle.gn_lower.specs.declared.carried.Source.TheVariants.{Input, Constant, Out}
use Rattle.gn_lower.specs.declared.visit.Visit.{Visit}
use Rattle.gn_lower.specs.Lowered.{Named}
use Rattle.gn_lower.specs.Carried.{Came, Carries, is_there, named_source}
use Rattle.gn_lower.specs.Unfolding.{Around, IsVisit, inside, outermost}

module _ (nodes others : List (GraphNode Kind)) where
  source_stays : (s : Source) (x : meanings.Source Named) → named_source nodes s ≡ Some x → named_source (nodes ++ others) s ≡ Some x
  source_stays Input x e = e
  source_stays (Constant c) x e = e
  source_stays (Out node socket) x e =
      let n : (n : GraphNode Kind) × (slice_get nodes node ≡ Some n) × (an_output n.path.steps.items socket ≡ x) = map_some (λ n. an_output n.path.steps.items socket) (slice_get nodes node) x e in
      ap (option_map (λ m. an_output m.path.steps.items socket)) (same_place nodes others node n.0 n.1) ∙ ap Some n.2

  there_stays : (s : Source) → IsTrue (is_there nodes s) → IsTrue (is_there (nodes ++ others) s)
  there_stays Input h = h
  there_stays (Constant c) h = h
  there_stays (Out node socket) h = by_node (slice_get nodes node) refl h
    where
      by_node : (o : Option (GraphNode Kind)) → slice_get nodes node ≡ o → IsTrue (has_output o socket) → IsTrue (has_output (slice_get (nodes ++ others) node) socket)
      by_node None at k = cc
      by_node (Some n) at k = ap (λ o. has_output o socket) (same_place nodes others node n at) ∙ k

  module _ (t : Tree) where
    pub carries_stays : (place : Site) (c : Came) → Carries nodes t place c → Carries (nodes ++ others) t place c
    carries_stays place c k =
        let x : (x : meanings.Source Named) × (named_source nodes c.source ≡ Some x) × (record { from = x; through = c.through } ≡ k.link) = map_some (λ x. record { from = x; through = c.through }) (named_source nodes c.source) k.link k.named in
        record {
          link = k.link;
          named = ap (option_map (λ y. record { from = y; through = c.through })) (source_stays c.source x.0 x.1) ∙ ap Some x.2;
          carries = k.carries;
          there = there_stays c.source k.there;
        }

    abbrev pub visit_stays : (way : Way) (visit : Visit) → IsVisit t nodes way visit → IsVisit t (nodes ++ others) way visit
    visit_stays way visit v = record {
      body = v.body;
      leads = v.leads;
      table = v.table;
      sized = v.sized;
      entries = λ i h. let c = v.entries i h in (c.0, c.1, carries_stays _ c.0 c.2);
      outputs = λ m s x there less done. let c = v.outputs m s x there less done in (c.0, c.1, carries_stays _ c.0 c.2);
    }

    pub around_stays : {visits : List Visit} {steps : List PathStep} {runs : List Run} → Around t nodes visits steps runs → Around t (nodes ++ others) visits steps runs
    around_stays outermost = outermost
    around_stays (inside {steps = steps} visit n b reads v next is u around) = inside visit n b reads (visit_stays _ visit v) next is u (around_stays around)
