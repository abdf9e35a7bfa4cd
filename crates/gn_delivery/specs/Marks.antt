-- Choices of switches and inputs that get values, by the numbers.
use Rattle.std.specs.Prelude.{◌≡◌, ◌⊎◌, ℕ, true, false, List, length, Some, is_some, slice_index_or}
use Rattle.gn_node_set.specs.Meanings.{Has}
use Rattle.gn_uses.specs.Nodes.{Nodes, choice, filled}
use Rattle.gn_uses.specs.Uses.{IsUnchosen}
use Rattle.gn_readers.specs.declared.place.Place.TheVariants.{Input}
use Rattle.gn_readers.specs.declared.place.Reader.{Reader}
use Rattle.gn_delivery.specs.declared.plan.Chosen.{Chosen}

-- each switch that has not chosen chooses what stands there for it, and nothing else changes
pub record Chooses (g : Nodes) (chosen : List Chosen) (g' : Nodes) : Type 0 where
  pub same : g' ≡ record g { choices = g'.choices }
  pub len : length g'.choices ≡ length g.choices
  pub each : (n : ℕ) → (choice g' n ≡ choice g n) ⊎ ((c : Chosen) × Has chosen c × (c.node ≡ n) × (choice g' n ≡ Some c.choice))
  pub all : (c : Chosen) → Has chosen c → IsUnchosen g c.node → is_some (choice g' c.node) ≡ true

-- the inputs among the readers have their values, and nothing else changes
pub record Fills (g : Nodes) (rs : List Reader) (g' : Nodes) : Type 0 where
  pub same : g' ≡ record g { filled = g'.filled }
  pub len : length g'.filled ≡ length g.filled
  pub inputs : (n : ℕ) → length (filled g' n) ≡ length (filled g n)
  pub each : (n i : ℕ) → (slice_index_or (filled g' n) i false ≡ slice_index_or (filled g n) i false) ⊎ (((r : Reader) × Has rs r × (r.place ≡ Input n i)) × (slice_index_or (filled g' n) i false ≡ true))
  pub all : (r : Reader) (n i : ℕ) → Has rs r → r.place ≡ Input n i → slice_index_or (filled g' n) i false ≡ true
