-- What a single value is, what a switch chooses by one, and how often a repeat turns.
use Rattle.std.specs.Prelude.{ℕ, Bool, true, false, ℤ, pos, negsuc, min, nat_lt, List, [], ◌∷◌, codes, if◌then◌else◌}
use Rattle.gn_value.specs.Values.{as_truth, as_int}
use Rattle.gn_value.specs.declared.value.Value.{Value}
use Rattle.gn_value.specs.declared.value.Value.TheVariants.{Int as int}
use Rattle.gn_value.specs.declared.op.Op.TheVariants.{Select}
use Rattle.gn_kinds.specs.declared.row.SocketKind.TheVariants.{Geometry}
use Rattle.gn_tree.specs.Trees.{Settings, no_settings, and_setting, and_zone, of_kind}
use Rattle.gn_node_set.specs.Paths.{Path}
use Rattle.gn_node_set.specs.Meanings.{Choice, one_case, all_cases, no_case, Warning, Done}
use Rattle.gn_plain.specs.Contexts.{nowhere}
use Rattle.gn_plain.specs.Fields.{Expr, constant, apply, none, and_one, Sources, at, varies, kind_of_field}
use Rattle.gn_rows.specs.Carried.{Carried, a_geometry, a_field}

-- is a kind with these settings one of geometry?
abbrev pub is_of_geometry : Settings → Bool
is_of_geometry no_settings = false
is_of_geometry (and_setting (of_kind Geometry) rest) = true
is_of_geometry (and_setting x rest) = is_of_geometry rest
is_of_geometry (and_zone items nodes output rest) = is_of_geometry rest

module _ {S : Type 0} (sources : Sources S) where
  -- a field as a single value
  abbrev pub single : Expr S → Value
  single e = at sources e nowhere 0

  -- ---- switch

  -- the case for false stands before that for true
  abbrev pub case_by : Value → Choice
  case_by v = one_case (if as_truth v then 1 else 0)

  -- a condition that varies leaves the choice to each element, but not between geometries
  abbrev pub choice_by : Settings → Carried S → Choice
  choice_by set (a_geometry g) = no_case
  choice_by set (a_field e) = if is_of_geometry set then case_by (single e) else (if varies e then all_cases else case_by (single e))

  -- the case that was chosen, or a field that chooses at each element
  abbrev pub switch : List (Carried S) → List (Carried S)
  switch (condition ∷ chosen ∷ []) = chosen ∷ []
  switch (a_field condition ∷ a_field off ∷ a_field on ∷ []) =
      a_field (apply (Select (kind_of_field sources off) 2) (and_one condition (and_one off (and_one on none)))) ∷ []
  switch _ = []

  -- ---- repeat

  abbrev pub turn_limit : ℕ
  turn_limit = 65536

  -- a number of turns is at least 0 and at most the limit
  abbrev pub clamped : ℤ → ℕ
  clamped (pos n) = min turn_limit n
  clamped (negsuc n) = 0

  abbrev pub is_above : ℤ → Bool
  is_above (pos n) = nat_lt turn_limit n
  is_above (negsuc n) = false

  abbrev pub turns : Carried S → ℕ
  turns (a_geometry g) = 0
  turns (a_field e) = clamped (as_int (single e))

  abbrev pub above_limit : Path → Bool → List Warning
  above_limit path above = if above then record { path = path; text = codes "iterations" } ∷ [] else []

  -- a zone's own run reads how often it turns
  abbrev pub repeat : Path → List (Carried S) → Done (Carried S)
  repeat path (a_field e ∷ []) = record { outputs = a_field (constant (int (pos (turns (a_field e))))) ∷ []; warnings = above_limit path (is_above (as_int (single e))) }
  repeat path _ = record { outputs = []; warnings = [] }
