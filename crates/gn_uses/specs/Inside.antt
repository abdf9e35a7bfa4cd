-- What callers see of the lists that are kept, and what holds of these.
use Rattle.std.specs.Prelude.{◌≡◌, ◌≤◌, ℕ, length, take, drop}
use Rattle.gn_uses.specs.declared.nodes.Parts.{Parts}
use Rattle.gn_uses.specs.declared.progress.Progress.{Progress}
use Rattle.gn_uses.specs.Parts.{nodes_of}
use Rattle.gn_uses.specs.Marks.{AreRight}
use Rattle.gn_uses.specs.Progress.{marks_of, CanGoOn}
use Rattle.gn_uses.specs.Uses.{Uses}

abbrev pub seen : Parts → Progress → ℕ → Uses
seen parts p taken = record {
  nodes = nodes_of parts p.wanted.sizes;
  taken = take taken p.line.items;
  ready = drop taken p.line.items;
  used = p.used.items;
}

pub record IsRight (parts : Parts) (p : Progress) (taken : ℕ) : Type 0 where
  pub can : CanGoOn parts p
  pub right : AreRight (nodes_of parts p.wanted.sizes) (marks_of p) p.wanted.items
  pub all : p.followed ≡ length p.wanted.items
  pub within : taken ≤ length p.line.items
