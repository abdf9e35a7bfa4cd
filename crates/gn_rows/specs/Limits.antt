-- The limits that the row of a node keeps.
use Rattle.std.specs.Prelude.{ℕ, ◌^◌, Bool, nat_lt, List, [], ◌∷◌, ◌++◌, map, codes, if◌then◌else◌}
use Rattle.std.specs.List.{list_any}
use Rattle.gn_value.specs.declared.value.Place.{Place}
use Rattle.gn_value.specs.declared.value.Place.TheVariants.{Point, Edge, Face, Corner, Cloud, Instance}
use Rattle.gn_node_set.specs.Paths.{Path}
use Rattle.gn_node_set.specs.Meanings.{Done}
use Rattle.gn_plain.specs.Geometry.{Geometry, count, depth}
use Rattle.gn_plain.specs.Fields.{Sources}
use Rattle.gn_plain.specs.Subtrees.{count_different}
use Rattle.gn_rows.specs.Carried.{Carried, geometries, fields, zero_like}

-- how many different subtrees the fields at a node may have together
abbrev pub subtree_limit : ℕ
subtree_limit = 4096

abbrev pub depth_limit : ℕ
depth_limit = 8

-- how many elements a geometry may have on a place
abbrev pub element_limit : ℕ
element_limit = 2 ^ 23

abbrev pub places : List Place
places = Point ∷ Edge ∷ Face ∷ Corner ∷ Cloud ∷ Instance ∷ []

abbrev pub is_deep : Geometry → Bool
is_deep g = nat_lt depth_limit (depth g)

abbrev pub is_large : Geometry → Bool
is_large g = list_any (λ p. nat_lt element_limit (count g p)) places

module _ {S : Type 0} (sources : Sources S) where
  abbrev pub is_wide : List (Carried S) → Bool
  is_wide xs = nat_lt subtree_limit (count_different (fields xs))

  -- zeros instead of the outputs, and a text as the one warning
  abbrev pub refused : Path → List ℕ → List (Carried S) → Done (Carried S)
  refused path text outputs = record { outputs = map (zero_like sources) outputs; warnings = record { path = path; text = text } ∷ [] }

  -- what a node gives for inputs; the first limit that it breaks counts
  abbrev pub limited : Path → List (Carried S) → Done (Carried S) → Done (Carried S)
  limited path inputs done =
      if is_wide (inputs ++ done.outputs) then refused path (codes "field limit") done.outputs
      else (if list_any is_deep (geometries done.outputs) then refused path (codes "depth") done.outputs
      else (if list_any is_large (geometries done.outputs) then refused path (codes "limit") done.outputs else done))
