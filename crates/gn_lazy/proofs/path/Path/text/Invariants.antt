use Rattle.std.proofs.Common.{◌≡◌, ◌++◌, drop, map}
use Rattle.gn_lazy.specs.Paths.{text_from, path_text}
use Rattle.gn_lazy.proofs.path.Path.text.Given as goal

abbrev pub invariant-loop-at : goal.invariant-loop-at
invariant-loop-at l = l.text.items ++ text_from l.at (drop l.at (map (λ id. id.now) l.ids)) (drop l.at l.step-items) ≡ path_text (map (λ id. id.now) l.ids) l.step-items
