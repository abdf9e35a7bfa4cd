-- What a node is, by its kind and its settings.
use Rattle.std.specs.Prelude.{◌≡◌, ℕ, List, [], map, codes, Option, Some, None, slice_get}
use Rattle.gn_kinds.specs.Row.{Text}
use Rattle.gn_tree.specs.Trees.{Node, Group, Socket, Settings}
use Rattle.gn_tree.specs.Seen.{group_of}
use Rattle.gn_rules.specs.Scopes.{Scope}
use Rattle.gn_tree.specs.Nodes.{kind_in, settings_in}
use Rattle.gn_meaning.specs.Sites.{Way}
use Rattle.gn_meaning.specs.Forms.{SettingsHaveForm}
use Rattle.gn_meaning.specs.Bodies.{Body, group_body, body_in}
use Rattle.gn_meaning.specs.Reads.{Part, a_node, a_group, a_repeat, part_in}
use Rattle.gn_origin.specs.declared.groups.GroupList.{GroupList}
use Rattle.gn_origin.specs.declared.groups.Lists.{Lists}
use Rattle.gn_origin.specs.declared.list.Inside.{Inside}
use Rattle.gn_origin.specs.declared.list.Inside.TheVariants as inside
use Rattle.gn_origin.specs.declared.list.Part.{Part as CodePart}
use Rattle.gn_origin.specs.declared.list.Part.TheVariants as part
use Rattle.gn_names.specs.First.{first_of}
use Rattle.gn_rules.specs.Sockets.{group_names, further}
use Rattle.gn_tree.specs.declared.tree.Setting.{Setting}
use Rattle.gn_tree.specs.Seen.{setting_then}
use denote.Ref.{Bor}

abbrev pub group_in : GroupList → Group
group_in list = group_of list.group.now

-- there is a list for each group of the tree
abbrev pub HasGroups : Lists → Type 0
HasGroups lists = map (λ list. list.group.now) lists.groups.items ≡ lists.tree.now.groups.items

-- it is the group with that number
abbrev pub IsGroup : List Group → ℕ → GroupList → Type 0
IsGroup gs i list = slice_get gs i ≡ Some (group_in list)

-- what the settings hold is that body, if any
abbrev pub Holds : Scope → Text → Settings → Inside → Type 0
Holds s kind set inside.Nothing = (body_in s kind set ≡ None) × ((side : Group → List Socket) → further side s.groups set ≡ [])
Holds s kind set (inside.Group list) = (i : ℕ) × IsGroup s.groups i list.now × (body_in s kind set ≡ Some (group_body s.groups i (group_in list.now))) × ((side : Group → List Socket) → further side s.groups set ≡ side (group_in list.now))
Holds s kind set inside.Zone = (b : Body) × (body_in s kind set ≡ Some b) × (SettingsHaveForm kind set → kind ≡ codes "repeat")

-- the setting holds that, or no nodes
abbrev pub HoldsFirst : Scope → Setting → Option Inside → Type 0
HoldsFirst s x None = (kind : Text) (rest : Settings) (found : Inside) → Holds s kind rest found → Holds s kind (setting_then x rest) found
HoldsFirst s x (Some found) = (kind : Text) (rest : Settings) → Holds s kind (setting_then x rest) found

-- the first group of that name
abbrev pub IsNamed : List Group → Text → Option (Bor GroupList) → Type 0
IsNamed gs name None = first_of (group_names gs) name ≡ None
IsNamed gs name (Some list) = (i : ℕ) × (first_of (group_names gs) name ≡ Some i) × IsGroup gs i list.now

-- neither a group node nor a Set Position that is run
abbrev pub IsOther : Part → Type 0
IsOther (a_node run) = ¬ (run.kind.name ≡ codes "set_position")
IsOther (a_group b reads) = ⊥
IsOther (a_repeat run b) = Unit {0}

abbrev pub IsPart : Scope → Node → CodePart → Type 0
IsPart s n (part.Group list) = (kind_in n ≡ codes "group") × Holds s (kind_in n) (settings_in n) (inside.Group list)
IsPart s n part.SetPosition = (kind_in n ≡ codes "set_position") × Holds s (kind_in n) (settings_in n) inside.Nothing
IsPart s n part.Other = (way : Way) (i : ℕ) → IsOther (part_in s way i n)
