-- Entries, boxes round them, and the parts of a tree.
use Rattle.std.specs.Prelude.{◌≡◌, ℕ, ◌+◌, ◌-◌, ◌*◌, ◌<◌, ◌≤◌, ◌^◌, ◌==◌, true, List, [], ◌∷◌, ◌++◌, length, map, slice_index_or, ◌≤ℤ◌, if◌then◌else◌, Option, None, Some}
use Rattle.std.specs.Int.{int_max, int_min}
use Rattle.std.specs.List.{All, list_any, range_with_len}
use Rattle.std.specs.List.Sorted.{IsPermutation}
use Rattle.gn_value.specs.Values.{by_component}
use Rattle.gn_value.specs.declared.vector.V3.{V3}
use Rattle.gn_nearest.specs.Nearest.{distance, origin, point_at}
use Rattle.gn_nearest.specs.declared.candidate.Entry.{Entry}
use Rattle.gn_nearest.specs.declared.candidate.Candidate.{Candidate}
use Rattle.gn_nearest.specs.declared.bounds.Bounds.{Bounds}
use Rattle.gn_nearest.specs.declared.grow.Part.{Part}
use Rattle.gn_nearest.specs.declared.grow.Halves.{Halves}

-- candidates come in the order of their distances, those of one distance in that of their indices
abbrev pub rank : Candidate → ℕ
rank c = c.distance * 2 ^ 32 + c.index

-- an entry as it is seen from a point
abbrev pub candidate : V3 → Entry → Candidate
candidate to e = record { distance = distance e.point to; index = e.index }

-- the entry's point is in the box, and its index is not below the box's least
pub record IsInside (b : Bounds) (e : Entry) : Type 0 where
  pub low_x : b.low.x.0 ≤ℤ e.point.x.0
  pub low_y : b.low.y.0 ≤ℤ e.point.y.0
  pub low_z : b.low.z.0 ≤ℤ e.point.z.0
  pub high_x : e.point.x.0 ≤ℤ b.high.x.0
  pub high_y : e.point.y.0 ≤ℤ b.high.y.0
  pub high_z : e.point.z.0 ≤ℤ b.high.z.0
  pub least : b.least ≤ e.index

-- the point of a box that is next to a point
abbrev pub next_to : V3 → Bounds → V3
next_to to b = by_component int_min (by_component int_max to b.low) b.high

-- what no entry in a box comes before
abbrev pub bound : V3 → Bounds → Candidate
bound to b = record { distance = distance (next_to to b) to; index = b.least }

-- the part at a position; for none, one that has no entries
abbrev pub no_part : Part
no_part = record { bounds = record { low = origin; high = origin; least = 0 }; from = 0; to = 0; halves = None }

abbrev pub part_at : List Part → ℕ → Part
part_at parts k = slice_index_or parts k no_part

-- two halves, and one entry between them, are together the entries from one position up to another
pub record AreHalves (parts : List Part) (k from to : ℕ) (halves : Halves) : Type 0 where
  pub front : halves.front < k
  pub back : halves.back < k
  pub begin : (part_at parts halves.front).from ≡ from
  pub middle : (part_at parts halves.back).from ≡ (part_at parts halves.front).to + 1
  pub end : (part_at parts halves.back).to ≡ to

-- the halves of a part, if it has any, have lesser numbers than it
abbrev pub IsHalved : List Part → ℕ → Part → Option Halves → Type 0
IsHalved parts k part None = Unit {0}
IsHalved parts k part (Some halves) = AreHalves parts k part.from part.to halves

-- a part, which has a number, lies in the entries, and its box is round its entries
pub record IsBox (entries : List Entry) (parts : List Part) (k : ℕ) (part : Part) : Type 0 where
  pub rises : part.from ≤ part.to
  pub within : part.to ≤ length entries
  pub inside : (p : ℕ) (d : Entry) → part.from ≤ p → p < part.to → IsInside part.bounds (slice_index_or entries p d)
  pub halved : IsHalved parts k part part.halves

-- each part from a number on is one of the entries
abbrev pub AreBoxes : List Entry → ℕ → List Part → Type 0
AreBoxes entries first parts = (k : ℕ) → first ≤ k → k < length parts → IsBox entries parts k (part_at parts k)

-- the first parts of a longer list are those of another
abbrev pub Begins : List Part → List Part → Type 0
Begins parts more = (k : ℕ) → k < length parts → part_at more k ≡ part_at parts k

-- the last part has the entries from one position up to another
pub record IsWhole (from to : ℕ) (parts : List Part) : Type 0 where
  pub begin : (part_at parts (length parts - 1)).from ≡ from
  pub end : (part_at parts (length parts - 1)).to ≡ to

-- entries were put in some order behind those that are placed, and parts of them behind others
pub record IsGrown (placed entries more : List Entry) (old new : List Part) : Type 0 where
  pub added : List Entry
  pub is : more ≡ placed ++ added
  pub permutation : IsPermutation entries added
  pub longer : length old ≤ length new
  pub begins : Begins old new
  pub boxes : AreBoxes more (length old) new

-- ---- the list of points that entries are made of

-- the point at an index, as an entry
abbrev pub entry_at : List V3 → ℕ → Entry
entry_at points k = record { point = point_at points k; index = k }

-- the point of the first entry with an index
abbrev pub point_of : List Entry → ℕ → V3
point_of [] k = origin
point_of (e ∷ es) k = if e.index == k then e.point else point_of es k

-- the points in the order of their indices
unfoldable pub points_of : List Entry → List V3
points_of entries = map (point_of entries) (range_with_len 0 (length entries))

-- an entry is the point at its index
pub record IsAtIndex (points : List V3) (e : Entry) : Type 0 where
  pub within : e.index < length points
  pub point : e.point ≡ point_at points e.index

-- a candidate is the point at its index
pub record IsOf (points : List V3) (to : V3) (c : Candidate) : Type 0 where
  pub within : c.index < length points
  pub distance : c.distance ≡ distance (point_at points c.index) to

-- a candidate comes behind none of the entries of a part
abbrev pub IsFirst : List Entry → Part → V3 → Candidate → Type 0
IsFirst entries part to c = (p : ℕ) (d : Entry) → part.from ≤ p → p < part.to → rank c ≤ rank (candidate to (slice_index_or entries p d))

-- each entry is the point at its index
abbrev pub AreListed : List Entry → Type 0
AreListed entries = All (IsAtIndex (points_of entries)) entries

-- each index has an entry
abbrev pub AreAll : List Entry → Type 0
AreAll entries = (k : ℕ) → k < length entries → list_any (λ e. e.index == k) entries ≡ true

-- what holds of the two arrays of a tree
pub record IsTree (entries : List Entry) (parts : List Part) : Type 0 where
  pub short : length entries < 2 ^ 32
  pub few : length parts < 2 ^ 32
  pub listed : AreListed entries
  pub all : AreAll entries
  pub boxes : AreBoxes entries 0 parts
  pub root : 0 < length entries → 0 < length parts
  pub whole : 0 < length entries → IsWhole 0 (length entries) parts
