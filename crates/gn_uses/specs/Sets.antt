-- Sets of numbers and of outputs that keep the order in which their members came, and the flags by which
-- a member is found.
use Rattle.std.specs.Prelude.{◌≡◌, ◌+◌, ◌≤◌, ◌<◌, ℕ, Bool, true, false, ◌==◌, ◌&&◌, ◌||◌, List, [], ◌∷◌, ◌++◌, map, length, slice_index_or, slice_set, sum_by, if◌then◌else◌}
use Rattle.std.specs.declared.alloc.Global.{Global}
use Rattle.std.specs.declared.vec.Vec.{Vec}
use Rattle.gn_node_set.specs.Meanings.{AllDiffer}
use Rattle.gn_uses.specs.declared.outputs.Out.{Out}

-- ---- numbers

abbrev pub has : List ℕ → ℕ → Bool
has [] n = false
has (k ∷ ns) n = k == n || has ns n

-- the number behind the others, if it is new
abbrev pub with_number : List ℕ → ℕ → List ℕ
with_number ns n = if has ns n then ns else ns ++ n ∷ []

-- numbers below a bound
pub record NumberSet : Type 0 where
  pub bound : ℕ
  pub items : List ℕ

abbrev pub no_numbers : NumberSet
no_numbers = record { bound = 0; items = [] }

abbrev pub larger : NumberSet → NumberSet
larger s = record { bound = s.bound + 1; items = s.items }

abbrev pub with_member : NumberSet → ℕ → NumberSet
with_member s n = record { bound = s.bound; items = with_number s.items n }

-- how many flags are not set
abbrev pub unset : List Bool → ℕ
unset flags = sum_by (λ flag. if flag then 0 else 1) flags

-- the flags are those of the members, and there is room for a member per flag
pub record IsFlagged (flags : List Bool) (items : List ℕ) (room : ℕ) : Type 0 where
  pub flagged : (n : ℕ) → slice_index_or flags n false ≡ has items n
  pub counted : unset flags + length items ≡ length flags
  pub fits : length flags ≤ room

-- ---- outputs

abbrev pub same_out : Out → Out → Bool
same_out x y = x.node == y.node && x.output == y.output

abbrev pub has_out : List Out → Out → Bool
has_out [] x = false
has_out (y ∷ ys) x = same_out y x || has_out ys x

-- the output behind the others, if it is new
abbrev pub with_out : List Out → Out → List Out
with_out xs x = if has_out xs x then xs else xs ++ x ∷ []

-- outputs of nodes, with the number of outputs of each node, and of all
pub record OutputSet : Type 0 where
  pub sizes : List ℕ
  pub total : ℕ
  pub items : List Out

abbrev pub no_outputs : OutputSet
no_outputs = record { sizes = []; total = 0; items = [] }

abbrev pub with_row : OutputSet → ℕ → OutputSet
with_row s n = record { sizes = s.sizes ++ n ∷ []; total = s.total + n; items = s.items }

abbrev pub with_output : OutputSet → Out → OutputSet
with_output s x = record { sizes = s.sizes; total = s.total; items = with_out s.items x }

-- is there a node with the output?
abbrev pub IsIn : List ℕ → Out → Type 0
IsIn sizes x = x.output < slice_index_or sizes x.node 0

-- ---- rows of flags, one per node

abbrev pub rows_of : List (Vec Bool Global) → List (List Bool)
rows_of vs = map (λ v. v.items) vs

abbrev pub sizes_of : List (List Bool) → List ℕ
sizes_of rows = map length rows

abbrev pub row : List (List Bool) → ℕ → List Bool
row rows n = slice_index_or rows n []

abbrev pub with_flag : List (List Bool) → ℕ → ℕ → List (List Bool)
with_flag rows n i = slice_set rows n (slice_set (row rows n) i true)

abbrev pub unset_in : List (List Bool) → ℕ
unset_in rows = sum_by unset rows

pub record HasFlags (rows : List (List Bool)) (items : List Out) (total room : ℕ) : Type 0 where
  pub flagged : (x : Out) → slice_index_or (row rows x.node) x.output false ≡ has_out items x
  pub counted : unset_in rows + length items ≡ total
  pub fits : total ≤ room
