use Rattle.std.proofs.Common.{◌≡◌, ℕ, ◌<◌, false, length, take, slice_index_or}
use Rattle.gn_inst.specs.Realizing.{is_named}
use Rattle.gn_inst.proofs.realizing.named_parts.Given as goal

abbrev pub invariant-loop-part : goal.invariant-loop-part
invariant-loop-part l = (length l.named.items ≡ l.count) × ((k : ℕ) → k < l.count → slice_index_or l.named.items k false ≡ is_named (take l.part-index l.items) k)
