-- What a `&` to a block's name shows.
use Rattle.std.specs.Prelude.{ℕ}
use base.Fml.{Lft, GName, Fml}
use denote.Sharing.{some, one}
use Rattle.counted_slot.specs.Counting.{tag}

abbrev pub name_shares : GName → Lft → Fml
name_shares δ = some ℕ (λ c. one (λ q. tag δ q c))
