-- Measures that saturate at 2^64 - 1.
use Rattle.std.specs.Prelude.{ℕ, ◌-◌, ◌^◌, min}
use Rattle.gn_kinds.specs.Row.{Text}
use Rattle.gn_tree.specs.Trees.{Nodes}
use Rattle.gn_rules.specs.Measures.{heights, counts}

abbrev pub capped : ℕ → ℕ
capped n = min n (2 ^ 64 - 1)

abbrev pub capped_heights : (Text → ℕ) → Nodes → ℕ
capped_heights f ns = capped (heights f ns)

abbrev pub capped_counts : (Text → ℕ) → Nodes → ℕ
capped_counts f ns = capped (counts f ns)
