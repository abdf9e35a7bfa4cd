-- Fields that are constants through conversions, and what Set Position does by them.
use Rattle.std.proofs.Common.{◌≡◌, ℕ, zero, suc, ◌+◌, ◌≤◌, Bool, List, [], ◌∷◌, ◌++◌, length, map, filter, drop, get_or, flat_map, not, pos, refl, ap, ◌∙◌, subst, arith, add-one}
use Rattle.std.proofs.lemmas.List.{length-append}
use Rattle.std.proofs.lemmas.List.Sums.{length-filter, count_by-le-length}
use Rattle.std.specs.List.{enumerate_from}
use Rattle.gn_value.specs.Values.{v3, converted}
use Rattle.gn_value.specs.Rows.{row}
use Rattle.gn_value.specs.declared.vector.V3.{V3}
use Rattle.gn_value.specs.declared.value.Value.{Value}
use Rattle.gn_value.specs.declared.value.ValueKind.{ValueKind}
use Rattle.gn_value.specs.declared.op.Op.TheVariants.{Convert}
use Rattle.gn_node_set.specs.Meanings.{converted as converted_by}
use Rattle.gn_plain.specs.Contexts.{Context, point_at}
use Rattle.gn_plain.specs.Fields.{Expr, Sources, at}
use Rattle.gn_plain.specs.Subtrees.{same_field, subtrees, each_once, count_different}
use Rattle.gn_rows.specs.Carried.{a_field, kind_of_number, value_through, converted_field, field_through}
use Rattle.gn_rows.specs.SetPosition.{Move, moved_points}
use Rattle.gn_rows.specs.Library.{library}

-- ---- conversions

convert_row : (kind : ValueKind) (v : Value) → row (Convert kind) (v ∷ []) ≡ converted v kind
unfolding row
convert_row kind v = refl

module _ {S : Type 0} (sources : Sources S) where
  -- links convert a field step by step
  pub through_links : (e : Expr S) (kinds : List ℕ) → converted_by (library sources) (a_field e) kinds ≡ a_field (field_through e kinds)
  through_links e [] = refl
  through_links e (kind ∷ kinds) = through_links (converted_field e (kind_of_number kind)) kinds

  -- and its value at an element
  pub at_through : (e : Expr S) (kinds : List ℕ) (c : Context) (i : ℕ) → at sources (field_through e kinds) c i ≡ value_through (at sources e c i) kinds
  at_through e [] c i = refl
  at_through e (kind ∷ kinds) c i =
      at_through (converted_field e (kind_of_number kind)) kinds c i ∙ ap (λ v. value_through v kinds) (convert_row (kind_of_number kind) (at sources e c i))

-- ---- subtrees

module _ {S : Type 0} where
  pub subtrees_through : (e : Expr S) (kinds : List ℕ) → length (subtrees (field_through e kinds)) ≡ length (subtrees e) + length kinds
  subtrees_through e [] = omega arith
  subtrees_through e (kind ∷ kinds) =
      let rest = subtrees_through (converted_field e (kind_of_number kind)) kinds in
      let more = length-append (subtrees e ++ []) (converted_field e (kind_of_number kind) ∷ []) in
      let none = length-append (subtrees e) [] in
      omega (arith, rest, more, none)

  fewer : (p : Expr S → Bool) (es : List (Expr S)) → length (filter p es) ≤ length es
  fewer p es = let same = length-filter p es in let bound = count_by-le-length p es in omega (arith, same, bound)

  pub each_once-length : (es : List (Expr S)) → length (each_once es) ≤ length es
  each_once-length [] = omega arith
  each_once-length (e ∷ es) =
      let rest = each_once-length es in
      let few = fewer (λ f. not (same_field e f)) (each_once es) in
      omega (arith, rest, few)

  -- three fields have no more different subtrees than subtrees
  pub different_of_three : (a b c : Expr S) → count_different (a ∷ b ∷ c ∷ []) ≤ length (subtrees a) + length (subtrees b) + length (subtrees c)
  different_of_three a b c =
      let same : flat_map subtrees (a ∷ b ∷ c ∷ []) ≡ subtrees a ++ (subtrees b ++ (subtrees c ++ [])) = refl in
      let bound : count_different (a ∷ b ∷ c ∷ []) ≤ length (subtrees a ++ (subtrees b ++ (subtrees c ++ []))) = subst (λ es. count_different (a ∷ b ∷ c ∷ []) ≤ length es) same (each_once-length (flat_map subtrees (a ∷ b ∷ c ∷ []))) in
      let first = length-append (subtrees a) (subtrees b ++ (subtrees c ++ [])) in
      let second = length-append (subtrees b) (subtrees c ++ []) in
      let third = length-append (subtrees c) [] in
      omega (arith, bound, first, second, third)

-- ---- points

-- what stands at a number, and behind it
at_number : (all : List V3) (i : ℕ) (x : V3) (xs : List V3) (d : V3) → drop i all ≡ x ∷ xs → (get_or all i d ≡ x) × (drop (suc i) all ≡ xs)
at_number [] zero x xs d e = cc
at_number [] (suc i) x xs d e = cc
at_number (a ∷ ps) zero x xs d e = (cc, cc)
at_number (a ∷ ps) (suc i) x xs d e = at_number ps i x xs d e

-- a move that goes by the points alone
moved_from : (move : Move) (f : V3 → V3) (all : List V3) → ((i : ℕ) (x : V3) → point_at all i ≡ x → move i x ≡ f x) → (i : ℕ) (xs : List V3) → drop i all ≡ xs → map (λ p. move p.0 p.1) (enumerate_from i xs) ≡ map f xs
moved_from move f all agree i [] e = refl
moved_from move f all agree i (x ∷ xs) e =
    let here = at_number all i x xs (v3 (pos 0) (pos 0) (pos 0)) e in
    let behind : drop (i + 1) all ≡ xs = rw add-one here.1 in
    let first : move i x ≡ f x = agree i x here.0 in
    let rest : map (λ p. move p.0 p.1) (enumerate_from (i + 1) xs) ≡ map f xs = moved_from move f all agree (i + 1) xs behind in
    cc

pub moved_points_by : (move : Move) (f : V3 → V3) (points : List V3) → ((i : ℕ) (x : V3) → point_at points i ≡ x → move i x ≡ f x) → moved_points move points ≡ map f points
moved_points_by move f points agree = moved_from move f points agree 0 points refl
