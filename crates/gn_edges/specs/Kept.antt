-- How different edges are kept in lists and a map, and what a search finds.
use Rattle.std.specs.Prelude.{◌≡◌, ℕ, zero, suc, ◌-◌, ◌<◌, ◌≤◌, ◌^◌, ◌==◌, ◌&&◌, nat_lt, Bool, List, [], ◌∷◌, ◌++◌, length, slice_index, slice_index_or, Option, Some, None, if◌then◌else◌}
use Rattle.std.specs.List.{list_any}
use Rattle.std.specs.declared.cmp.Ordering.{Ordering}
use Rattle.std.specs.Ordering.{nat_cmp, ordering_then}
use Rattle.std.specs.BTreeMap.{BTreeMap, get}
use Rattle.gn_edges.specs.declared.place.Place.{Place}
use Rattle.gn_edges.specs.declared.place.Place.TheVariants.{At, Nowhere, Beyond}

-- two pairs are equal
abbrev pub is_pair : ℕ × ℕ → ℕ × ℕ → Bool
is_pair a b = a.0 == b.0 && a.1 == b.1

-- the order of pairs by their first numbers, and then by their second
abbrev pub pair_cmp : ℕ × ℕ → ℕ × ℕ → Ordering
pair_cmp a b = ordering_then (nat_cmp a.0 b.0) (nat_cmp a.1 b.1)

-- one more pair behind others, unless it is one of them
abbrev pub with_pair : List (ℕ × ℕ) → ℕ × ℕ → List (ℕ × ℕ)
with_pair pairs e = if list_any (is_pair e) pairs then pairs else pairs ++ e ∷ []

-- the link to the first edge of a vertex
abbrev pub first_link : List ℕ → ℕ → ℕ
first_link first vertex = slice_index first vertex

-- where the search for a pair ends that begins at a link and looks at that number of pairs: a link is 0 at the end of a list, and otherwise one more than a number
unfoldable pub walk : List (ℕ × ℕ) → List ℕ → ℕ × ℕ → ℕ → ℕ → Place
walk pairs next e zero link = Beyond
walk pairs next e (suc left) zero = Nowhere
walk pairs next e (suc left) (suc k) =
    if is_pair e (slice_index_or pairs k (0, 0)) then At k else walk pairs next e left (slice_index next k)

-- what is found where a walk ends at a place and the map has o: with few pairs, one that would be in a list is nowhere else
abbrev pub found : Bool → Place → Option ℕ → Option ℕ
found few (At k) o = Some k
found few Nowhere o = if few then None else o
found few Beyond o = o

-- where the search ends for a pair in the list of its first number
abbrev pub place_of : List (ℕ × ℕ) → List ℕ → List ℕ → ℕ × ℕ → Place
place_of pairs first next e = walk pairs next e 8 (first_link first e.0)

-- a link to one more pair fits 32 bits
abbrev pub are_few : List (ℕ × ℕ) → Bool
are_few pairs = nat_lt (length pairs) (2 ^ 32 - 1)

-- the search in a list doesn't find the pair, and leaves open whether the map has it
abbrev pub IsUnlisted : List (ℕ × ℕ) → List ℕ → List ℕ → ℕ × ℕ → Type 0
IsUnlisted pairs first next e =
    (o : Option ℕ) → found (are_few pairs) (place_of pairs first next e) o ≡ o

-- the number of a pair
abbrev pub number_of : List (ℕ × ℕ) → List ℕ → List ℕ → BTreeMap (ℕ × ℕ) ℕ → ℕ × ℕ → Option ℕ
number_of pairs first next crowd e =
    found (are_few pairs) (place_of pairs first next e) (get pair_cmp crowd e)

-- each pair is found by its number, and nothing else is
pub record IsKept (pairs : List (ℕ × ℕ)) (first next : List ℕ) (crowd : BTreeMap (ℕ × ℕ) ℕ) : Type 0 where
  pub paired : length next ≡ length pairs
  pub firsts : (v : ℕ) → slice_index first v ≤ length pairs
  pub nexts : (k : ℕ) → slice_index next k ≤ length pairs
  pub each : (k : ℕ) → k < length pairs → number_of pairs first next crowd (slice_index_or pairs k (0, 0)) ≡ Some k
  pub crowded : (e : ℕ × ℕ) (k : ℕ) → get pair_cmp crowd e ≡ Some k → (k < length pairs) × (slice_index_or pairs k (0, 0) ≡ e)
