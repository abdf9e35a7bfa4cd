-- A walk through a graph that finds the heights of nodes: a node's height is found once those of all its targets are known.
use Rattle.std.specs.Prelude.{◌≡◌, ◌<◌, ◌≤◌, ◌+◌, ◌*◌, ◌==◌, ℕ, suc, List, [], ◌∷◌, Option, Some, None, length, sum_by, slice_index, if◌then◌else◌}
use Rattle.gn_cycle.specs.Graph.{Graph, targets}
use Rattle.gn_stands.specs.Order.{rank}
use Rattle.gn_order.specs.declared.heights.Visit.{Visit}
use Rattle.gn_order.specs.Heights.{at, AreKnown}

-- the position is that of the first target whose height is not known
abbrev pub IsFirstOpen : List ℕ → List ℕ → ℕ → Option ℕ → Type 0
IsFirstOpen heights nodes from None = AreKnown heights nodes (length nodes)
IsFirstOpen heights nodes from (Some position) = AreKnown heights nodes position × (position < length nodes) × (at heights (slice_index nodes position) ≡ 0)

abbrev pub Knows : List ℕ → ℕ → Type 0
Knows heights node = 0 < at heights node

-- what was known stays so
abbrev pub Keeps : List ℕ → List ℕ → Type 0
Keeps old new = (node : ℕ) → Knows old node → Knows new node

module _ (graph : Graph) where
  -- the heights that are known are right
  pub record Found (heights : List ℕ) : Type 0 where
    pub sized : length heights ≡ length graph
    pub right : (node : ℕ) → Knows heights node → at heights node ≡ suc (rank graph node)

  pub record IsOpen (heights : List ℕ) (visit : Visit) : Type 0 where
    pub there : visit.node < length graph
    pub unset : at heights visit.node ≡ 0
    pub passed : AreKnown heights (targets graph visit.node) visit.next

  -- the nodes on the way are open, the innermost first, and each has a greater rank than those before
  abbrev pub AreOpen : List ℕ → ℕ → List Visit → Type 0
  AreOpen heights low [] = Unit {0}
  AreOpen heights low (visit ∷ way) = (low ≤ rank graph visit.node) × IsOpen heights visit × AreOpen heights (suc (rank graph visit.node)) way

  -- the way began at the node, whose height is known at its end
  abbrev pub BeganAt : ℕ → List ℕ → List Visit → Type 0
  BeganAt start heights [] = Knows heights start
  BeganAt start heights (visit ∷ []) = visit.node ≡ start
  BeganAt start heights (visit ∷ other ∷ way) = BeganAt start heights (other ∷ way)

  abbrev pub unknown : List ℕ → ℕ
  unknown heights = sum_by (λ height. if height == 0 then 1 else 0) heights

  abbrev pub top : List Visit → ℕ
  top [] = 0
  top (visit ∷ way) = rank graph visit.node

  -- what is left to do
  abbrev pub left : List ℕ → List Visit → ℕ
  left heights way = unknown heights * suc (length graph) + top way

  -- one step
  pub record Goes (old : List ℕ) (before : List Visit) (new : List ℕ) (after : List Visit) : Type 0 where
    pub found : Found new
    pub way : AreOpen new 0 after
    pub keeps : Keeps old new
    pub began : (start : ℕ) → BeganAt start old before → BeganAt start new after
    pub less : left new after < left old before
