-- The tree that is made of a list of points.
use Rattle.std.proofs.Common.{◌≡◌, ◌^◌, ◌<◌, List, [], ◌∷◌, ◌++◌, length, map, refl, sym, ap, ◌∙◌, subst, arith}
use Rattle.std.specs.List.{range_with_len}
use Rattle.std.specs.List.Sorted.{IsPermutation}
use Rattle.gn_value.specs.declared.vector.V3.{V3}
use Rattle.gn_nearest.specs.Boxes.{IsGrown, IsTree, IsWhole, entry_at, points_of}
use Rattle.gn_nearest.specs.declared.candidate.Entry.{Entry}
use Rattle.gn_nearest.specs.declared.grow.Part.{Part}
use Rattle.gn_nearest.proofs.Listed.{ArePoints, no_points, points_are}

nil_of : {X : Type 0} (xs : List X) → length xs ≡ 0 → xs ≡ []
nil_of [] e = refl
nil_of (x ∷ xs) e = absurd (omega arith)

pub none_are : (points : List V3) (entries : List Entry) → length entries ≡ 0 → length points ≡ 0 → points_of entries ≡ points
none_are points entries e h = no_points entries e ∙ sym (nil_of points h)

pub grown_points : (points : List V3) (placed list more : List Entry) (old new : List Part) → length placed ≡ 0 → list ≡ map (entry_at points) (range_with_len 0 (length points)) → IsGrown placed list more old new → ArePoints points more
grown_points points placed list more old new e is g =
    let same : more ≡ g.added = g.is ∙ ap (λ (es : List Entry). es ++ g.added) (nil_of placed e) in
    points_are points more (subst (λ (es : List Entry). IsPermutation (map (entry_at points) (range_with_len 0 (length points))) es) (sym same) (subst (λ (es : List Entry). IsPermutation es g.added) is g.permutation))

pub tree_made : (points : List V3) (placed list more : List Entry) (old new : List Part) → length points < 2 ^ 32 → length placed ≡ 0 → length old ≡ 0 → length new < 2 ^ 32 → 0 < length new → list ≡ map (entry_at points) (range_with_len 0 (length points)) → IsGrown placed list more old new → IsWhole (length placed) (length more) new → IsTree more new
tree_made points placed list more old new short e none few some is g whole =
    let are = grown_points points placed list more old new e is g in
    record {
      short = omega (arith, are.count);
      few = few;
      listed = are.listed;
      all = are.all;
      boxes = λ k from below. g.boxes k (omega arith) below;
      root = λ h. some;
      whole = λ h. record { begin = whole.begin ∙ e; end = whole.end };
    }
