-- Trees in which the inputs of each node, and what each zone and each group gives out, stand in the
-- order of their names' bytes, no name twice.
use Rattle.std.specs.Prelude.{List, All, map}
use Rattle.std.specs.Ordering.{nat_cmp}
use Rattle.std.specs.Cmp.Lexicographic.{slice_cmp}
use Rattle.std.specs.List.Sorted.{IsStrictlySortedBy}
use Rattle.std.specs.Coded.{×_prop, Unit-prop}
use Rattle.std.proofs.Props.{props}
use Rattle.std.proofs.lemmas.Map.Keys.{IsStrictlySortedBy-prop}
use Rattle.gn_tree.specs.Trees.{Named, Node, node, Settings, no_settings, and_setting, and_zone, Nodes, no_nodes, and_node, Group, Tree}

abbrev pub NamesRise : List Named → Type 0
NamesRise inputs = IsStrictlySortedBy (slice_cmp nat_cmp) (map (λ x. x.name) inputs)

abbrev mutual
  pub NamesRiseAt : Node → Type 0
  NamesRiseAt (node id kind settings inputs) = NamesRise inputs × NamesRiseInSettings settings

  pub NamesRiseInSettings : Settings → Type 0
  NamesRiseInSettings no_settings = Unit {0}
  NamesRiseInSettings (and_setting x rest) = NamesRiseInSettings rest
  NamesRiseInSettings (and_zone items nodes output rest) = NamesRiseInNodes nodes × NamesRise output × NamesRiseInSettings rest

  pub NamesRiseInNodes : Nodes → Type 0
  NamesRiseInNodes no_nodes = Unit {0}
  NamesRiseInNodes (and_node x xs) = NamesRiseAt x × NamesRiseInNodes xs

abbrev pub NamesRiseInGroup : Group → Type 0
NamesRiseInGroup g = NamesRiseInNodes g.nodes × NamesRise g.output

abbrev pub NamesRiseInTree : Tree → Type 0
NamesRiseInTree t = All NamesRiseInGroup t.groups × NamesRiseInNodes t.nodes

-- each of these is a fact, which can hold in one way alone
NamesRise-prop : (xs : List Named) → IsProp (NamesRise xs)
NamesRise-prop xs = IsStrictlySortedBy-prop (slice_cmp nat_cmp) (map (λ x. x.name) xs)

mutual
  NamesRiseAt-prop : (x : Node) → IsProp (NamesRiseAt x)
  NamesRiseAt-prop (node id kind settings inputs) = ×_prop (NamesRise-prop inputs) (NamesRiseInSettings-prop settings)

  NamesRiseInSettings-prop : (xs : Settings) → IsProp (NamesRiseInSettings xs)
  NamesRiseInSettings-prop no_settings = Unit-prop
  NamesRiseInSettings-prop (and_setting x rest) = NamesRiseInSettings-prop rest
  NamesRiseInSettings-prop (and_zone items nodes output rest) = λ p q i. (NamesRiseInNodes-prop nodes p.0 q.0 i, NamesRise-prop output p.1 q.1 i, NamesRiseInSettings-prop rest p.2 q.2 i)

  NamesRiseInNodes-prop : (xs : Nodes) → IsProp (NamesRiseInNodes xs)
  NamesRiseInNodes-prop no_nodes = Unit-prop
  NamesRiseInNodes-prop (and_node x xs) = ×_prop (NamesRiseAt-prop x) (NamesRiseInNodes-prop xs)

pub NamesRiseInTree-prop : (t : Tree) → IsProp (NamesRiseInTree t)
NamesRiseInTree-prop t = Prim.hlevel (props, NamesRise-prop, NamesRiseInNodes-prop)
