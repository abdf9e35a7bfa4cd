use Rattle.std.proofs.Common.{◌≡◌, ◌<◌, ℕ, take, length, slice_index, slice_index_or}
use Rattle.gn_value.specs.Registers.{register_value}
use Rattle.gn_value.specs.declared.value.Value.{Value}
use Rattle.gn_fill.specs.Put.{IsPut}
use Rattle.gn_fill.proofs.placed.put_as.Given as goal

-- the values of the elements so far are put
abbrev pub invariant-loop-k : goal.invariant-loop-k
invariant-loop-k g l = (value : ℕ → Value) (d : _) → ((k : ℕ) → k < length l.elements → register_value k l.fn.values ≡ value (slice_index l.elements k))
    → IsPut (take l.k l.elements) value (λ i. g.T.OfKind.as_value (slice_index_or l.initial.into i d)) (λ i. g.T.OfKind.as_value (slice_index_or l.into i d)) (length l.initial.into)
