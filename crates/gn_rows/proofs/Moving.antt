-- Set Position of a mesh alone by constants moves its points, and nothing else.
use Rattle.std.proofs.Common.{◌≡◌, ℕ, ◌+◌, ◌≤◌, ◌^◌, Bool, true, false, ◌||◌, List, [], ◌∷◌, ◌++◌, length, map, Option, None, Some, codes, nat_lt, refl, sym, ap, ◌∙◌, arith}
use Rattle.std.proofs.lemmas.List.{length-map}
use Rattle.std.proofs.lemmas.Bool.{le-ltb}
use Rattle.gn_value.specs.declared.vector.V3.{V3}
use Rattle.gn_value.specs.declared.value.Value.{Value}
use Rattle.gn_value.specs.declared.value.Value.TheVariants.{Truth as truth, Vector as vector}
use Rattle.gn_value.specs.declared.value.Place.TheVariants.{Point}
use Rattle.gn_value.specs.Values.{as_vector}
use Rattle.gn_node_set.specs.Paths.{Path}
use Rattle.gn_node_set.specs.Meanings.{Answer, Done}
use Rattle.gn_tree.specs.NodeKinds.{Kind}
use Rattle.gn_plain.specs.Geometry.{Shape, of_shape}
use Rattle.gn_plain.specs.Contexts.{Context, context, point_at}
use Rattle.gn_plain.specs.Fields.{Expr, constant, Sources, at}
use Rattle.gn_plain.specs.Subtrees.{subtrees, count_different}
use Rattle.gn_rows.specs.Carried.{Carried, a_geometry, a_field}
use Rattle.gn_rows.specs.Limits.{is_wide, is_large, limited}
use Rattle.gn_rows.specs.SetPosition.{vector_sum, moved_points, move_in, with_moved_points, set_position}
use Rattle.gn_rows.specs.Moves.{moved_point, moved_shape, IsWorth, IsTarget}
use Rattle.gn_rows.specs.Library.{row}
use Rattle.gn_rows.proofs.Constants.{at_through, subtrees_through, different_of_three, moved_points_by}

-- one output, which is a mesh of that shape alone
abbrev pub only_shape : {S : Type 0} → Shape → Done (Carried S)
only_shape s = record { outputs = a_geometry (of_shape s) ∷ []; warnings = [] }

module _ {S : Type 0} (sources : Sources S) where
  -- a constant is worth the same everywhere
  pub worth_at : (e : Expr S) (v : Value) (n : ℕ) → IsWorth e v n → (c : Context) (i : ℕ) → at sources e c i ≡ v
  worth_at e v n w c i = ap (λ (x : Expr S). at sources x c i) w.2 ∙ (at_through sources (constant w.0) w.1 c i ∙ sym w.3)

  -- a target for a point: the position, or the point itself
  target_at : (s : Shape) (e : Expr S) (to : Option V3) (n : ℕ) → IsTarget e to n → (i : ℕ) (x : V3) → point_at s.points i ≡ x → (p : V3) → moved_point true to p x ≡ vector_sum (as_vector (at sources e (context (of_shape s) Point) i)) p
  target_at s e None n t i x here p = sym (ap (λ (y : Expr S). vector_sum (as_vector (at sources y (context (of_shape s) Point) i)) p) t.0 ∙ ap (λ y. vector_sum y p) here)
  target_at s e (Some to) n t i x here p = sym (ap (λ v. vector_sum (as_vector v) p) (worth_at e (vector to) n t (context (of_shape s) Point) i))

  moves_points : (s : Shape) (selection target offset : Expr S) (selected : Bool) (to : Option V3) (by : V3) (n m k : ℕ)
      → IsWorth selection (truth selected) n → IsTarget target to m → IsWorth offset (vector by) k
      → moved_points (move_in sources (context (of_shape s) Point) selection target offset) s.points ≡ map (moved_point selected to by) s.points
  moves_points s selection target offset selected to by n m k sel tar off =
      moved_points_by (move_in sources (context (of_shape s) Point) selection target offset) (moved_point selected to by) s.points (λ i x here. agree i x here selected (worth_at selection (truth selected) n sel (context (of_shape s) Point) i))
    where
      agree : (i : ℕ) (x : V3) → point_at s.points i ≡ x → (b : Bool) → at sources selection (context (of_shape s) Point) i ≡ truth b → move_in sources (context (of_shape s) Point) selection target offset i x ≡ moved_point b to by x
      agree i x here true e = rw (e, worth_at offset (vector by) k off (context (of_shape s) Point) i) (sym (target_at s target to m tar i x here by))
      agree i x here false e = rw e refl

  -- the other components stay empty
  pub moves_shape : (s : Shape) (selection target offset : Expr S) (selected : Bool) (to : Option V3) (by : V3) (n m k : ℕ)
      → IsWorth selection (truth selected) n → IsTarget target to m → IsWorth offset (vector by) k
      → with_moved_points sources (of_shape s) selection target offset ≡ of_shape (moved_shape selected to by s)
  moves_shape s selection target offset selected to by n m k sel tar off =
      ap (λ points. of_shape (record s { points = points })) (moves_points s selection target offset selected to by n m k sel tar off)

  -- ---- limits

  worth_subtrees : (e : Expr S) (v : Value) (n : ℕ) → IsWorth e v n → length (subtrees e) ≡ n + 1
  worth_subtrees e v n w =
      let count : length (subtrees e) ≡ 1 + length w.1 = ap (λ (x : Expr S). length (subtrees x)) w.2 ∙ subtrees_through (constant w.0) w.1 in
      let same = w.4 in
      omega (arith, count, same)

  target_subtrees : (e : Expr S) (to : Option V3) (n : ℕ) → IsTarget e to n → length (subtrees e) ≡ n + 1
  target_subtrees e None n t = let count : length (subtrees e) ≡ 1 = ap (λ (x : Expr S). length (subtrees x)) t.0 in let none = t.1 in omega (arith, count, none)
  target_subtrees e (Some to) n t = worth_subtrees e (vector to) n t

  few_subtrees : (a b c : Expr S) (n m k : ℕ) → length (subtrees a) ≡ n + 1 → length (subtrees b) ≡ m + 1 → length (subtrees c) ≡ k + 1 → n + m + k ≤ 4000 → nat_lt 4096 (count_different (a ∷ b ∷ c ∷ [])) ≡ false
  few_subtrees a b c n m k first second third few =
      let bound = different_of_three a b c in
      le-ltb 4096 (count_different (a ∷ b ∷ c ∷ [])) (omega (arith, bound, first, second, third, few))

  same_size : (selected : Bool) (to : Option V3) (by : V3) (s : Shape) → is_large (of_shape (moved_shape selected to by s)) ≡ is_large (of_shape s)
  same_size selected to by s = ap (λ n. nat_lt (2 ^ 23) n || is_large (of_shape (record s { points = [] }))) (length-map s.points (moved_point selected to by))

  row_named : (path : Path) (kind : Kind) (answer : Option Answer) (inputs : List (Carried S)) → kind.name ≡ codes "set_position"
      → row sources path kind inputs answer ≡ limited sources path inputs (record { outputs = set_position sources inputs; warnings = [] })
  row_named path kind answer inputs named = rw named refl

  unlimited : (path : Path) (inputs : List (Carried S)) (s : Shape) → is_wide sources (inputs ++ a_geometry (of_shape s) ∷ []) ≡ false → is_large (of_shape s) ≡ false
      → limited sources path inputs (only_shape s) ≡ only_shape s
  unlimited path inputs s narrow small = rw (narrow, small) refl

  -- the row of a node that moves a mesh by constants through few conversions
  pub moving_row : (path : Path) (kind : Kind) (answer : Option Answer) (s : Shape) (selection target offset : Expr S) (selected : Bool) (to : Option V3) (by : V3) (n m k : ℕ)
      → kind.name ≡ codes "set_position" → is_large (of_shape s) ≡ false
      → IsWorth selection (truth selected) n → IsTarget target to m → IsWorth offset (vector by) k → n + m + k ≤ 4000
      → row sources path kind (a_geometry (of_shape s) ∷ a_field selection ∷ a_field target ∷ a_field offset ∷ []) answer ≡ only_shape (moved_shape selected to by s)
  moving_row path kind answer s selection target offset selected to by n m k named small sel tar off few =
      let inputs : List (Carried S) = a_geometry (of_shape s) ∷ a_field selection ∷ a_field target ∷ a_field offset ∷ [] in
      let narrow = few_subtrees selection target offset n m k (worth_subtrees selection (truth selected) n sel) (target_subtrees target to m tar) (worth_subtrees offset (vector by) k off) few in
      row_named path kind answer inputs named
      ∙ (ap (λ g. limited sources path inputs (record { outputs = a_geometry g ∷ []; warnings = [] })) (moves_shape s selection target offset selected to by n m k sel tar off)
      ∙ unlimited path inputs (moved_shape selected to by s) narrow (same_size selected to by s ∙ small))
