-- Nodes with what is used of them, as callers see it.
use Rattle.std.specs.Prelude.{◌≡◌, ◌↔◌, ◌<◌, ℕ, Bool, true, List, [], ◌∷◌, ◌++◌, length, Option, Some, None, IsTrue}
use Rattle.gn_node_set.specs.Meanings.{Has, AllDiffer}
use Rattle.gn_uses.specs.Nodes.{Nodes, no_nodes, role, choice, results, filled, is_full, Used, IsUndecided}
use Rattle.gn_uses.specs.Progress.{GoesOn}

-- what is known of the nodes, and the nodes that were taken, those that are ready and those that are used
pub record Uses : Type 0 where
  pub nodes : Nodes
  pub taken : List ℕ
  pub ready : List ℕ
  pub used : List ℕ

abbrev pub nothing : Uses
nothing = record { nodes = no_nodes; taken = []; ready = []; used = [] }

-- a node is ready where it is used, all is there that its run gets, and it was not taken
pub record Ready (u : Uses) (n : ℕ) : Type 0 where
  pub used : Used u.nodes n
  pub full : IsTrue (is_full u.nodes n)
  pub fresh : ¬ Has u.taken n

-- the lists have just the ready nodes and the used ones, and each node once
pub record IsExact (u : Uses) : Type 0 where
  pub ready : (n : ℕ) → Has u.ready n ↔ Ready u n
  pub used : (n : ℕ) → Has u.used n ↔ Used u.nodes n
  pub taken_differ : AllDiffer (u.taken ++ u.ready)
  pub used_differ : AllDiffer u.used

-- the nodes become these; what was taken, and what was ready and used before, stays
pub record Changes (u : Uses) (g : Nodes) (u' : Uses) : Type 0 where
  pub nodes : u'.nodes ≡ g
  pub taken : u'.taken ≡ u.taken
  pub ready : GoesOn u.ready u'.ready
  pub used : GoesOn u.used u'.used

abbrev pub TakesFirst : Uses → Option ℕ → Uses → Type 0
TakesFirst u None u' = (u.ready ≡ []) × (u' ≡ u)
TakesFirst u (Some n) u' = (u.ready ≡ n ∷ u'.ready) × (u' ≡ record u { taken = u.taken ++ n ∷ []; ready = u'.ready })

-- ---- conditions

pub record IsUnchosen (g : Nodes) (n : ℕ) : Type 0 where
  pub there : n < length g.sizes
  pub undecided : IsUndecided (role g n) (choice g n)

pub record HasNoResults (g : Nodes) (n : ℕ) : Type 0 where
  pub there : n < length g.sizes
  pub shut : results g n ≡ []

pub record HasInput (g : Nodes) (n i : ℕ) : Type 0 where
  pub there : n < length g.sizes
  pub input : i < length (filled g n)
