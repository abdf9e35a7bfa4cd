-- A graph that is put together node by node.
use Rattle.std.proofs.Common.{◌≡◌, ◌<◌, ◌+◌, ℕ, suc, List, [], ◌∷◌, length, take, get_or, Bool, true, false, not, Some, None, refl, sym, ◌∙◌, ap, subst, arith}
use Rattle.std.specs.Prelude.{All, cond, slice_get}
use Rattle.std.specs.List.{position_from}
use Rattle.std.proofs.lemmas.Iterator.Adapters.{position_from-zero}
use Rattle.std.proofs.lemmas.Option.{slice_get-get_or}
use Rattle.gn_lazy.specs.declared.graph.Link.{Link}
use Rattle.gn_lazy.specs.declared.graph.GraphNode.{GraphNode}
use Rattle.gn_lazy.specs.Graphs.{AreThere, LinksLeadBack, first_bad, is_there}
use Rattle.gn_tree.specs.declared.kind.Kind.{Kind}

none_from : {A : Type 0} (bad : A → Bool) (i : ℕ) (xs : List A) → All (λ x. bad x ≡ false) xs → position_from bad i xs ≡ None
none_from bad i [] h = refl
none_from bad i (x ∷ xs) h = by_test (bad x) (h 0 x (omega arith)) (none_from bad (i + 1) xs (λ k d less. h (suc k) d (omega (arith, less))))
  where
    by_test : (b : Bool) → b ≡ false → position_from bad (i + 1) xs ≡ None → cond b (Some i) (position_from bad (i + 1) xs) ≡ None
    by_test true e rest = cc
    by_test false e rest = rest

-- where each link leads to something, none is bad
pub none_bad : (nodes : List (GraphNode Kind)) (constants : ℕ) (links roots : List Link) → AreThere nodes constants links → first_bad (record { nodes = nodes; roots = roots; constants = constants }) links ≡ None
none_bad nodes constants links roots there =
    position_from-zero (λ link. not (is_there nodes constants link.origin)) links ∙ none_from (λ link. not (is_there nodes constants link.origin)) 0 links (λ k d less. ap not (there k d less))

-- the next of some nodes whose links lead back fits behind those before it
pub next_fits : (all : List (GraphNode Kind)) (constants : ℕ) (nodes : List (GraphNode Kind)) (node : GraphNode Kind) → LinksLeadBack (record { nodes = all; roots = []; constants = constants })
    → nodes ≡ take (length nodes) all → length nodes < length all → node ≡ get_or all (length nodes) node → first_bad (record { nodes = nodes; roots = []; constants = constants }) node.inputs.items ≡ None
next_fits all constants nodes node back before less at =
    let here : slice_get all (length nodes) ≡ Some node = slice_get-get_or all (length nodes) node less ∙ ap Some (sym at) in
    none_bad nodes constants node.inputs.items [] (subst (λ ns. AreThere ns constants node.inputs.items) (sym before) (back (length nodes) node here))
