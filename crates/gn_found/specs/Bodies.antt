-- Zones have bodies.
use Rattle.std.specs.Prelude.{◌≡◌, ◌≢◌, ℕ, codes, Some}
use Rattle.gn_tree.specs.Trees.{Tree}
use Rattle.gn_tree.specs.Form.{IsOfForm}
use Rattle.gn_rules.specs.Rules.{KeepsRules}
use Rattle.gn_meaning.specs.Sites.{Way}
use Rattle.gn_meaning.specs.Bodies.{Body}
use Rattle.gn_meaning.specs.Reads.{Run, a_node, part_at}
use Rattle.gn_meaning.specs.There.{LeadsTo}

-- in a tree that is of its form and keeps the rules, no node that is run alone is a repeat
abbrev pub RepeatsHaveBodies : Type 0
RepeatsHaveBodies = (t : Tree) → IsOfForm t → KeepsRules t → (way : Way) (b : Body) (n : ℕ) (run : Run) → LeadsTo t way b → part_at t way n ≡ Some (a_node run) → run.kind.name ≢ codes "repeat"
