-- How deep zones stand in one another, and how many nodes there are with groups unfolded.
use Rattle.std.specs.Prelude.{ℕ, suc, ◌+◌, max, List, [], ◌∷◌, ◌++◌, length, slice_index_or, nat_lt, if◌then◌else◌}
use Rattle.std.specs.Option.{option_map_or}
use Rattle.gn_kinds.specs.Row.{Text}
use Rattle.gn_names.specs.First.{first_of}
use Rattle.gn_tree.specs.Trees.{Node, node, Setting, of_group, Settings, no_settings, and_setting, and_zone, Nodes, no_nodes, and_node, Group}
use Rattle.gn_rules.specs.Sockets.{group_names}

-- what a setting that names a group has, given what each group has
abbrev pub by_group : (Text → ℕ) → Setting → ℕ
by_group f (of_group name) = f name
by_group f _ = 0

-- a zone is one higher than its body, and a group node as high as its group
abbrev mutual
  pub height : (Text → ℕ) → Node → ℕ
  height f (node id kind settings inputs) = height_in f settings

  pub height_in : (Text → ℕ) → Settings → ℕ
  height_in f no_settings = 0
  height_in f (and_setting x rest) = max (by_group f x) (height_in f rest)
  height_in f (and_zone items nodes output rest) = max (suc (heights f nodes)) (height_in f rest)

  pub heights : (Text → ℕ) → Nodes → ℕ
  heights f no_nodes = 0
  heights f (and_node n ns) = max (height f n) (heights f ns)

-- a node counts itself and its body, a group node itself and its group
abbrev mutual
  pub count : (Text → ℕ) → Node → ℕ
  count f (node id kind settings inputs) = suc (count_in f settings)

  pub count_in : (Text → ℕ) → Settings → ℕ
  count_in f no_settings = 0
  count_in f (and_setting x rest) = by_group f x + count_in f rest
  count_in f (and_zone items nodes output rest) = counts f nodes + count_in f rest

  pub counts : (Text → ℕ) → Nodes → ℕ
  counts f no_nodes = 0
  counts f (and_node n ns) = count f n + counts f ns

-- what the group of that name has, if it is one of the first `above`; no other is there to be used
abbrev pub number_among : List Text → List ℕ → ℕ → Text → ℕ
number_among names numbers above name = option_map_or (λ i. if nat_lt i above then slice_index_or numbers i 0 else 0) (first_of names name) 0

-- group by group, each from those above it
abbrev pub group_by_group : ((Text → ℕ) → Nodes → ℕ) → List Text → List ℕ → List Group → List ℕ
group_by_group measure names done [] = done
group_by_group measure names done (g ∷ gs) = group_by_group measure names (done ++ measure (number_among names done (length done)) g.nodes ∷ []) gs

abbrev pub of_groups : ((Text → ℕ) → Nodes → ℕ) → List Group → List ℕ
of_groups measure gs = group_by_group measure (group_names gs) [] gs

-- what a group has for a list of nodes below the first `above` groups
abbrev pub known_above : ((Text → ℕ) → Nodes → ℕ) → List Group → ℕ → Text → ℕ
known_above measure gs above = number_among (group_names gs) (of_groups measure gs) above
