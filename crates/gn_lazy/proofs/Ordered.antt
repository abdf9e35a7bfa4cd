-- A node whose links are there keeps a graph's order.
use Rattle.std.proofs.Common.{◌≡◌, ◌<◌, ◌≤◌, ◌⊎◌, inl, inr, ℕ, zero, suc, ◌+◌, length, List, [], ◌∷◌, ◌++◌, take, Option, Some, None, Bool, true, false, not, IsTrue, refl, sym, ◌∙◌, ap, subst, arith}
use Rattle.std.specs.Prelude.{Result, Ok, Err, is_ok, is_err, All, slice_get, slice_index_or, position, nat_lt, cond}
use Rattle.std.specs.List.{position_or_len}
use Rattle.std.proofs.lemmas.Bool.Decides.{leb_tells}
use Rattle.gn_lazy.specs.declared.graph.Origin.{Origin}
use Rattle.gn_lazy.specs.declared.graph.Origin.TheVariants.{Input, Constant, Out}
use Rattle.gn_lazy.specs.declared.graph.GraphNode.{GraphNode}
use Rattle.gn_lazy.specs.Graphs.{Nodes, with_node, has_output, is_there, first_bad, AreThere, LinksLeadBack, IsOrdered}

more_outputs : {K : Type 0} (nodes : List (GraphNode K)) (more : List (GraphNode K)) (n socket : ℕ) → IsTrue (has_output (slice_get nodes n) socket) → IsTrue (has_output (slice_get (nodes ++ more) n) socket)
more_outputs [] more n socket there = absurd (cc)
more_outputs (x ∷ xs) more zero socket there = there
more_outputs (x ∷ xs) more (suc n) socket there = more_outputs xs more n socket there

still_there : {K : Type 0} (nodes : List (GraphNode K)) (more : List (GraphNode K)) (constants : ℕ) (o : Origin) → IsTrue (is_there nodes constants o) → IsTrue (is_there (nodes ++ more) constants o)
still_there nodes more constants Input there = there
still_there nodes more constants (Constant slot) there = there
still_there nodes more constants (Out n socket) there = more_outputs nodes more n socket there

-- what passes a test stands at or behind the first that does
found : {A : Type 0} (bad : A → Bool) (xs : List A) (k : ℕ) (d : A) → k < length xs → bad (slice_index_or xs k d) ≡ true → position_or_len bad xs < length xs
found bad [] k d within is = absurd (omega (arith, within))
found bad (x ∷ xs) zero d within is = subst (λ b. cond (not b) (1 + position_or_len bad xs) 0 < suc (length xs)) (sym is) (omega arith)
found bad (x ∷ xs) (suc k) d within is = later (bad x) (found bad xs k d (omega (arith, within)) is)
  where
    later : (b : Bool) → position_or_len bad xs < length xs → cond (not b) (1 + position_or_len bad xs) 0 < suc (length xs)
    later true h = omega arith
    later false h = omega (arith, h)

not_none : (a b : ℕ) → a < b → cond (nat_lt a b) (Some a) None ≡ None → ⊥
not_none a b less e = pick (leb_tells (suc a) b)
  where
    pick : ((nat_lt a b ≡ true) × (suc a ≤ b)) ⊎ ((nat_lt a b ≡ false) × (b < suc a)) → ⊥
    pick (inl t) = let bad' : Some a ≡ None = ap (λ b. cond b (Some a) None) (sym t.0) ∙ e in cc
    pick (inr t) = omega (arith, less, t.1)

none_bad : {A : Type 0} (bad : A → Bool) (xs : List A) → position bad xs ≡ None → All (λ x. bad x ≡ false) xs
none_bad bad xs none k d within = by_test (bad (slice_index_or xs k d)) refl
  where
    by_test : (b : Bool) → bad (slice_index_or xs k d) ≡ b → bad (slice_index_or xs k d) ≡ false
    by_test false is = is
    by_test true is = absurd (not_none (position_or_len bad xs) (length xs) (found bad xs k d within is) none)

-- before or at the new node
by_number : {A : Type 0} (xs : List A) (x : A) (n : ℕ) (y : A) → slice_get (xs ++ x ∷ []) n ≡ Some y → ((slice_get xs n ≡ Some y) × (take n (xs ++ x ∷ []) ≡ take n xs)) ⊎ ((y ≡ x) × (take n (xs ++ x ∷ []) ≡ xs))
by_number [] x zero y at = inr (cc, refl)
by_number [] x (suc n) y at = cc
by_number (z ∷ zs) x zero y at = inl (at, refl)
by_number (z ∷ zs) x (suc n) y at = elim (by_number zs x n y at) [ inl p ↦ inl (p.0, ap (λ ts. z ∷ ts) p.1) | inr p ↦ inr (p.0, ap (λ ts. z ∷ ts) p.1) ]

true_unless : (b : Bool) → not b ≡ false → IsTrue b
true_unless true e = refl
true_unless false e = cc

pub add_keeps : {K : Type 0} (g : Nodes K) (node : GraphNode K) → IsOrdered g → first_bad g node.inputs.items ≡ None → IsOrdered (with_node g node)
add_keeps g node ordered none = (back, λ k d within. still_there g.nodes (node ∷ []) g.constants (slice_index_or g.roots k d).origin (ordered.1 k d within))
  where
    own : AreThere g.nodes g.constants node.inputs.items
    own k d within = true_unless _ (none_bad _ node.inputs.items none k d within)

    back : LinksLeadBack (with_node g node)
    back n x at = elim (by_number g.nodes node n x at) [
      | inl p ↦ subst (λ before. AreThere before g.constants x.inputs.items) (sym p.1) (ordered.0 n x p.0)
      | inr p ↦ subst (λ before. AreThere before g.constants x.inputs.items) (sym p.1) (subst (λ y. AreThere g.nodes g.constants y.inputs.items) (sym p.0) own)
    ]

-- the same, by what the code has at hand
pub added : {K : Type 0} (g : Nodes K) (node : GraphNode K) (nodes : List (GraphNode K)) → IsOrdered g → first_bad g node.inputs.items ≡ None → nodes ≡ g.nodes ++ node ∷ [] → IsOrdered (record { nodes = nodes; roots = g.roots; constants = g.constants })
added g node nodes ordered none is = subst (λ ns. IsOrdered (record { nodes = ns; roots = g.roots; constants = g.constants })) (sym is) (add_keeps g node ordered none)

pub none_of : (o : Option ℕ) → ((k : ℕ) → o ≡ Some k → ⊥) → o ≡ None
none_of None not_some = refl
none_of (Some k) not_some = absurd (not_some k refl)

pub ok_unless : {A E : Type 0} (r : Result A E) → is_err r ≡ false → is_ok r ≡ true
ok_unless (Ok a) e = refl
ok_unless (Err e') e = cc
