-- Heights and numbers of nodes, saturating at 2^64 - 1, and what is kept of them for groups.
use Rattle.std.specs.Prelude.{◌≡◌, ℕ, suc, List, string_bytes}
use Rattle.gn_kinds.specs.Row.{Text}
use Rattle.gn_tree.specs.Seen.{nodes_of}
use Rattle.gn_tree.specs.declared.tree.Setting.{Setting}
use Rattle.gn_tree.specs.declared.tree.Setting.TheVariants as s
use Rattle.gn_tree.specs.Trees.{Group}
use Rattle.gn_rules.specs.Sockets.{group_names}
use Rattle.gn_rules.specs.Measures.{heights, counts, number_among, of_groups}
use Rattle.gn_measure.specs.Capped.{capped_heights, capped_counts}
use Rattle.gn_measure.specs.declared.measure.Known.{Known}

abbrev pub known : Known → Text → ℕ
known groups = number_among groups.names.now groups.numbers.now groups.above

abbrev pub height_of : (Text → ℕ) → Setting → ℕ
height_of f (s.Group name) = f (string_bytes name)
height_of f (s.Zone zone) = suc (heights f (nodes_of zone.nodes.items))
height_of f _ = 0

abbrev pub count_of : (Text → ℕ) → Setting → ℕ
count_of f (s.Group name) = f (string_bytes name)
count_of f (s.Zone zone) = counts f (nodes_of zone.nodes.items)
count_of f _ = 0

abbrev pub heights_capped : List Group → List ℕ
heights_capped gs = of_groups capped_heights gs

abbrev pub counts_capped : List Group → List ℕ
counts_capped gs = of_groups capped_counts gs

-- the names, heights and numbers of nodes of these groups
pub record AreOf (groups : List Group) (names : List Text) (hs cs : List ℕ) : Type 0 where
  pub named : names ≡ group_names groups
  pub high : hs ≡ heights_capped groups
  pub many : cs ≡ counts_capped groups
