use Rattle.std.proofs.Common.{◌≡◌, drop}
use Rattle.gn_kinds.specs.Names.{place_named}
use Rattle.gn_kinds.proofs.name.find_place.Given as goal

abbrev pub invariant-loop-place : goal.invariant-loop-place
invariant-loop-place l = place_named (drop l.place-index l.places) l.fn.name ≡ place_named l.places l.fn.name
