use Rattle.std.proofs.Common.{◌≡◌, ◌*◌, suc, map}
use Rattle.std.specs.List.{range_with_len}
use Rattle.gn_grid.proofs.grids.offsets.Given as goal

-- the offsets so far
abbrev pub invariant-loop-face : goal.invariant-loop-face
invariant-loop-face l = record {
  offsets : l.offsets.items ≡ map (λ k. 4 * k) (range_with_len 0 l.face);
  end : l.face-end ≡ suc l.faces;
}
