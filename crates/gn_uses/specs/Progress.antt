-- The marks as they are kept.
use Rattle.std.specs.Prelude.{◌≡◌, ◌+◌, ◌<◌, ◌≤◌, ℕ, Bool, List, [], ◌∷◌, ◌++◌, length, take, slice_index_or, if◌then◌else◌}
use Rattle.gn_uses.specs.declared.nodes.Parts.{Parts}
use Rattle.gn_uses.specs.declared.progress.Progress.{Progress}
use Rattle.gn_uses.specs.Nodes.{Nodes}
use Rattle.gn_uses.specs.Parts.{nodes_of, ArePassed}
use Rattle.gn_uses.specs.Marks.{Marks, no_marks, AreRight, AreWhole}

abbrev pub marks_of : Progress → Marks
marks_of p = record { wanted = p.wanted.items; used = p.used.items; line = p.line.items }

pub record IsAtStart (p : Progress) : Type 0 where
  pub marks : marks_of p ≡ no_marks
  pub sizes : p.wanted.sizes ≡ []
  pub followed : p.followed ≡ 0
  pub cursors : p.cursors.items ≡ []

-- the marks stay, and there is room for those of one more node where all went well
pub record HasGrown (p : Progress) (size : ℕ) (well : Bool) (p' : Progress) : Type 0 where
  pub marks : marks_of p' ≡ marks_of p
  pub sizes : p'.wanted.sizes ≡ (if well then p.wanted.sizes ++ size ∷ [] else p.wanted.sizes)
  pub used_bound : p.used.bound + (if well then 1 else 0) ≤ p'.used.bound
  pub line_bound : p.line.bound + (if well then 1 else 0) ≤ p'.line.bound
  pub followed : p'.followed ≡ p.followed
  pub cursors : (n : ℕ) → n < length p.wanted.sizes → slice_index_or p'.cursors.items n 0 ≡ slice_index_or p.cursors.items n 0
  pub fresh : (n : ℕ) → length p.wanted.sizes ≤ n → slice_index_or p'.cursors.items n 0 ≡ 0

-- there is room for the marks of all nodes
pub record CanGoOn (parts : Parts) (p : Progress) : Type 0 where
  pub whole : AreWhole (nodes_of parts p.wanted.sizes)
  pub for_used : length p.wanted.sizes ≤ p.used.bound
  pub for_line : length p.wanted.sizes ≤ p.line.bound
  pub passed : ArePassed (nodes_of parts []) p.cursors.items

-- the marks become these, and all else stays
pub record Becomes (parts : Parts) (p : Progress) (m : Marks) (p' : Progress) : Type 0 where
  pub marks : marks_of p' ≡ m
  pub sizes : p'.wanted.sizes ≡ p.wanted.sizes
  pub total : p'.wanted.total ≡ p.wanted.total
  pub used_bound : p'.used.bound ≡ p.used.bound
  pub line_bound : p'.line.bound ≡ p.line.bound
  pub followed : p'.followed ≡ p.followed
  pub passed : ArePassed (nodes_of parts []) p'.cursors.items

-- the list goes on from the first one
abbrev pub GoesOn : {A : Type 0} → List A → List A → Type 0
GoesOn {A = A} xs ys = (zs : List A) × (ys ≡ xs ++ zs)

pub record AreRightSoFar (parts : Parts) (p : Progress) : Type 0 where
  pub right : AreRight (nodes_of parts p.wanted.sizes) (marks_of p) (take p.followed p.wanted.items)
  pub within : p.followed ≤ length p.wanted.items

-- all that is wanted was followed
pub record HasSettled (parts : Parts) (p p' : Progress) : Type 0 where
  pub can : CanGoOn parts p'
  pub right : AreRight (nodes_of parts p'.wanted.sizes) (marks_of p') p'.wanted.items
  pub all : p'.followed ≡ length p'.wanted.items
  pub sizes : p'.wanted.sizes ≡ p.wanted.sizes
  pub used : GoesOn p.used.items p'.used.items
  pub line : GoesOn p.line.items p'.line.items
