-- Whether a node is too high, with its settings seen apart, and tests of links.
use Rattle.std.proofs.Common.{◌≡◌, ◌&&◌, ◌||◌, nat_lt, refl, ap, Bool, List, [], ◌∷◌, map}
use Rattle.std.specs.List.{list_any}
use Rattle.gn_tree.specs.Trees.{Link, Node, node}
use Rattle.gn_tree.specs.Seen.{link_of}
use Rattle.gn_tree.specs.declared.tree.TreeLink.{TreeLink}
use Rattle.gn_rules.specs.Sockets.{is_zone}
use Rattle.gn_rules.specs.Scopes.{Scope}
use Rattle.gn_rules.specs.Measures.{height, heights, known_above}
use Rattle.gn_rules.specs.Rules.{is_too_high}
use Rattle.gn_tree.specs.Nodes.{settings_in}

pub too_high_seen : (s : Scope) (n : Node) → is_too_high s n ≡ (is_zone (settings_in n) && nat_lt 2 (height (known_above heights s.groups s.above) n))
too_high_seen s (node id kind set inputs) = refl

-- a test of the links that links stand for
pub any_link : (f : Link → Bool) (links : List TreeLink) → list_any f (map link_of links) ≡ list_any (λ l. f (link_of l)) links
any_link f [] = refl
any_link f (l ∷ ls) = ap (λ b. f (link_of l) || b) (any_link f ls)
