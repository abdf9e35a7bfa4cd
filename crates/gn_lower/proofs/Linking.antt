-- Links one by one, and their constants.
use Rattle.std.proofs.Common.{◌≡◌, ◌<◌, ◌≤◌, ◌+◌, ℕ, List, [], ◌∷◌, ◌++◌, map, length, take, get_or, true, Some, refl, sym, ◌∙◌, ap, subst, arith}
use Rattle.std.specs.Prelude.{All, IsTrue, nat_lt, option_map, slice_get}
use Rattle.std.proofs.lemmas.Bool.Decides.{nat_tests}
use Rattle.std.proofs.lemmas.List.{length-append, take_more}
use Rattle.std.proofs.lemmas.List.Elements.{All-head, All-nil, All-push, All-tail}
use Rattle.gn_lazy.specs.declared.graph.Origin.{Origin}
use Rattle.gn_lazy.specs.declared.graph.Origin.TheVariants.{Input, Constant as Slot, Out}
use Rattle.gn_lazy.specs.declared.graph.Link.{Link as CodeLink}
use Rattle.gn_lazy.specs.declared.graph.GraphNode.{GraphNode}
use Rattle.gn_lazy.specs.Graphs as graphs
use Rattle.gn_lazy.specs.Graphs.{AreThere}
use Rattle.gn_tree.specs.declared.kind.Kind.{Kind}
use Rattle.gn_node_set.specs.Meanings.{a_value}
use Rattle.gn_node_set.proofs.Lists.{append_assoc, append_nil, map_append, same_place}
use Rattle.gn_meaning.proofs.Lists.{get_below}
use Rattle.gn_meaning.proofs.Options.{some_same}
use Rattle.gn_table.specs.declared.constant.Constant.{Constant}
use Rattle.gn_table.specs.declared.read.Read.{Read}
use Rattle.gn_table.specs.Constants.{name_of}
use Rattle.gn_lower.specs.declared.visit.Visit.{Visit}
use Rattle.gn_lower.specs.declared.unfold.Unfolding.{Unfolding}
use Rattle.gn_lower.specs.Lowered.{link_of, source_of}
use Rattle.gn_lower.specs.Carried.{Came, IsLink, IsRead, came_in, is_there, named_link}
use Rattle.gn_lower.specs.Events.{Carry, Links}
use Rattle.gn_lower.proofs.Adding.{links_there}
use Rattle.gn_lower.proofs.Lists.{all_with}

below : (a b : ℕ) → nat_lt a b ≡ true → a < b
below a b e = grind (arith, nat_tests)

module _ (nodes : List (GraphNode Kind)) (before more : List Constant) where
  -- what leads to something is the same with more constants
  origin_same : (o : Origin) → IsTrue (graphs.is_there nodes (length before) o) → source_of nodes (before ++ more) o ≡ source_of nodes before o
  origin_same Input h = refl
  origin_same (Out node socket) h = refl
  origin_same (Slot slot) h =
      let c : (c : Constant) × (slice_get before slot ≡ Some c) = get_below before slot (below slot (length before) h) in
      ap (option_map (λ x. a_value (Some (name_of x)))) (same_place before more slot c.0 c.1 ∙ sym c.1)

  links_same : (links : List CodeLink) → AreThere nodes (length before) links → map (link_of nodes (before ++ more)) links ≡ map (link_of nodes before) links
  links_same [] h = refl
  links_same (l ∷ links) h =
      let first : IsTrue (graphs.is_there nodes (length before) l.origin) = All-head (λ x. IsTrue (graphs.is_there nodes (length before) x.origin)) l links h in
      let rest : AreThere nodes (length before) links = All-tail (λ x. IsTrue (graphs.is_there nodes (length before) x.origin)) l links h in
      λ i. option_map (λ x. record { from = x; through = l.through.items }) (origin_same l.origin first i) ∷ links_same links rest i

one_link_more : (nodes : List (GraphNode Kind)) (visit : Visit) (reads : List Read) (before after : List Constant) (links : List CodeLink) (r : Read) (c : Came) (link : CodeLink)
    → Carry nodes visit reads before links → came_in visit r ≡ Some c → IsTrue (is_there nodes c.source) → IsLink nodes c before after link → Carry nodes visit (reads ++ r ∷ []) after (links ++ link ∷ [])
one_link_more nodes visit reads before after links r c link carry is there new =
    let room : length before ≤ length after = (let sum : length after ≡ length before + length new.more = ap length new.grown ∙ length-append before new.more in omega (arith, sum)) in
    let same : map (link_of nodes after) links ≡ map (link_of nodes before) links = ap (λ cs. map (link_of nodes cs) links) new.grown ∙ links_same nodes before new.more links carry.there in
    record {
      came = carry.came ++ c ∷ [];
      read = all_with (came_in visit) reads carry.came r c carry.read is;
      seen =
          map_append (link_of nodes after) links (link ∷ [])
          ∙ ((λ i. (same ∙ carry.seen) i ++ new.same i ∷ []) ∙ sym (map_append (named_link nodes) carry.came (c ∷ [])));
      there = All-push (λ x. IsTrue (graphs.is_there nodes (length after) x.origin)) links link (links_there nodes (length before) (length after) room links carry.there) (new.there ∙ there);
    }

pub no_links : (u : Unfolding) → Links u [] [] u
no_links u = record {
  others = refl;
  more = [];
  constants = sym (append_nil u.constants.items);
  carry = record { came = []; read = refl; seen = refl; there = All-nil (λ x. IsTrue (graphs.is_there u.nodes.items (length u.constants.items) x.origin)) };
}

pub next_link : (first old new : Unfolding) (reads : List Read) (i : ℕ) (links pushed : List CodeLink) (d : Read) (c : Came) (link : CodeLink)
    → Links first (take i reads) links old → All (IsRead first.nodes.items first.visit) reads → i < length reads → came_in old.visit (get_or reads i d) ≡ Some c
    → ((nodes : List (GraphNode Kind)) → IsLink nodes c old.constants.items new.constants.items link) → new ≡ record old { constants = new.constants } → pushed ≡ links ++ link ∷ [] → Links first (take (i + 1) reads) pushed new
next_link first old new reads i links pushed d c link so_far all less is of same push =
    let link_is : IsLink first.nodes.items c old.constants.items new.constants.items link = of first.nodes.items in
    let with_new : Unfolding → Unfolding = λ u. record u { constants = new.constants } in
    let read : IsRead first.nodes.items first.visit (get_or reads i d) = all i d less in
    let came : came_in first.visit (get_or reads i d) ≡ Some c = ap (λ u. came_in u.visit (get_or reads i d)) (sym so_far.others) ∙ is in
    let there : IsTrue (is_there first.nodes.items c.source) = subst (λ x. IsTrue (is_there first.nodes.items x.source)) (some_same (sym read.is ∙ came)) read.there in
    let made : Links first (take i reads ++ get_or reads i d ∷ []) (links ++ link ∷ []) new = record {
      others = same ∙ ap with_new so_far.others;
      more = so_far.more ++ link_is.more;
      constants = link_is.grown ∙ (ap (λ cs. cs ++ link_is.more) so_far.constants ∙ append_assoc first.constants.items so_far.more link_is.more);
      carry = one_link_more first.nodes.items first.visit (take i reads) old.constants.items new.constants.items links (get_or reads i d) c link so_far.carry came there link_is;
    } in
    subst (λ ls. Links first (take (i + 1) reads) ls new) (sym push) (subst (λ rs. Links first rs (links ++ link ∷ []) new) (sym (take_more reads i d less)) made)
