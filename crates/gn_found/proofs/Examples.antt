-- A node that links to one before it, and a root that links to it.
use Rattle.std.proofs.Common.{inl, inr, ℕ, List, [], ◌∷◌, refl, sym, subst}
use Rattle.gn_node_set.specs.Paths.{Path}
use Rattle.gn_node_set.specs.Meanings.{a_value, an_output, plain_link, Link, Node}
use Rattle.gn_meaning.specs.Sites.{plain_step}
use Rattle.gn_found.specs.Claims.{LeadsInto, LinksLeadInto, LinksLeadBack}

-- a node that links to a given value, and one that links to its first output
first : Node ℕ ℕ
first = record { path = plain_step 1 ∷ []; kind = 0; links = plain_link (a_value 7) ∷ [] }

to_first : Link ℕ
to_first = plain_link (an_output (plain_step 1 ∷ []) 0)

second : Node ℕ ℕ
second = record { path = plain_step 0 ∷ []; kind = 0; links = to_first ∷ [] }

first_back : (paths : List Path) → LinksLeadInto paths first.links
unfolding first
first_back paths link (inl same) = subst (λ l. LeadsInto paths l.from) (sym same) tt
first_back paths link (inr h) = absurd h

second_back : LinksLeadInto (first.path ∷ []) second.links
unfolding first second to_first
second_back link (inl same) = subst (λ l. LeadsInto ((plain_step 1 ∷ []) ∷ []) l.from) (sym same) (inl refl)
second_back link (inr h) = absurd h

in_order : LinksLeadBack [] (first ∷ second ∷ [])
in_order = (first_back [], (second_back, tt))

-- the other way round a link leads to a node behind
not_in_order : LinksLeadBack [] (second ∷ first ∷ []) → ⊥
unfolding first second to_first
not_in_order back = back.0 to_first (inl refl)
