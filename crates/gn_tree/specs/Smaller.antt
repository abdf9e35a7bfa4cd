-- A node in a zone is smaller than the zone's node.
use Rattle.std.specs.Prelude.{suc, ◌+◌, ◌≤◌, max, List, [], ◌∷◌}
use Rattle.std.proofs.Common.{arith}
use denote.Param.Weighed.{most}
use Rattle.gn_tree.specs.Trees.{Node, node_size, settings_size, nodes_size}
use Rattle.gn_tree.specs.Seen.{settings_of, nodes_of}
use Rattle.gn_tree.specs.declared.tree.Node.TheDeep.{deep-Setting}
use Rattle.gn_tree.specs.declared.tree.Setting.{Setting}
use Rattle.gn_tree.specs.declared.tree.Setting.TheVariants as s

most_nodes : (xs : List Node) → most (λ y. node_size y + 1) xs ≤ suc (nodes_size (nodes_of xs))
most_nodes [] = omega arith
most_nodes (x ∷ xs) = omega (arith, most_nodes xs)

pub most_settings : (xs : List Setting) → max (most deep-Setting xs) 0 ≤ suc (settings_size (settings_of xs))
most_settings [] = omega arith
most_settings (s.Of x ∷ xs) = omega (arith, most_settings xs)
most_settings (s.Op x ∷ xs) = omega (arith, most_settings xs)
most_settings (s.Place x ∷ xs) = omega (arith, most_settings xs)
most_settings (s.Clamp x ∷ xs) = omega (arith, most_settings xs)
most_settings (s.Name x ∷ xs) = omega (arith, most_settings xs)
most_settings (s.File x ∷ xs) = omega (arith, most_settings xs)
most_settings (s.Value x ∷ xs) = omega (arith, most_settings xs)
most_settings (s.Group x ∷ xs) = omega (arith, most_settings xs)
most_settings (s.Zone z ∷ xs) = omega (arith, most_settings xs, most_nodes z.nodes.items)
