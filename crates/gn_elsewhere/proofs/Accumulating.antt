-- Sums over groups that numbers tell apart are those over the groups.
use Rattle.std.proofs.Common.{◌≡◌, ℕ, zero, suc, ◌+◌, ◌<◌, Bool, true, false, cond, ◌&&◌, ℤ, pos, List, ◌∷◌, length, map, filter, get_or, nat_eq, refl, sym, ap, ap₂, subst, ◌∙◌, arith}
use Rattle.std.specs.List.{All, range_with_len}
use Rattle.std.specs.Ordering.{int_eq}
use Rattle.std.proofs.lemmas.Bool.Decides.{Decides-eqb, Decides-int_eq}
use Rattle.std.proofs.lemmas.List.Elements.{All-filter}
use Rattle.std.proofs.lemmas.List.FromFn.{length-range_with_len, get_or-range_with_len}
use Rattle.gn_value.specs.Arithmetic.{sat, sat_int, total_by}
use Rattle.gn_value.specs.Registers.{register_kind, register_len, register_value}
use Rattle.gn_value.specs.Values.{v3, raw, as_int, as_fixed}
use Rattle.gn_value.specs.declared.op.Axis.TheVariants.{X, Y, Z}
use Rattle.gn_value.specs.declared.op.Register.{Register}
use Rattle.gn_value.specs.declared.op.Register.TheVariants as register
use Rattle.gn_value.specs.declared.value.Value.TheVariants as value
use Rattle.gn_plain.specs.Interpolation.{x_of, y_of, z_of}
use Rattle.gn_value.specs.declared.value.ValueKind.{ValueKind}
use Rattle.gn_value.specs.declared.value.Value.{Value}
use Rattle.gn_value.specs.declared.value.Value.TheVariants.{Int as int}
use Rattle.gn_plain.specs.Fields.{Part, is_in, same_group, total_of, accumulated}
use Rattle.gn_interp.specs.Numbers.{number_at, components, fixed_number}
use Rattle.gn_interp.proofs.ByKind.{total_mapped, raw_at, x_at, y_at, z_at}
use Rattle.gn_interp.proofs.Within.{Below, same_values}
use Rattle.gn_elsewhere.specs.Sums.{AreNumbered, members, total_at, vector_total}

same_tests : (p q : ℕ → Bool) (a n : ℕ) → ((j : ℕ) → j < a + n → p j ≡ q j) → filter p (range_with_len a n) ≡ filter q (range_with_len a n)
same_tests p q a zero same = refl
same_tests p q a (suc n) same =
    let rest = filter p (range_with_len (a + 1) n) in
    ap (λ b. cond b (a ∷ rest) rest) (same a (omega arith)) ∙ ap (λ l. cond (q a) (a ∷ l) l) (same_tests p q (a + 1) n (λ j below. same j (omega (arith, below))))

same_truths : (a b : Bool) → (a ≡ true → b ≡ true) → (b ≡ true → a ≡ true) → a ≡ b
same_truths true b f g = sym (f refl)
same_truths false true f g = g refl
same_truths false false f g = refl

-- the group of an element, as a value
abbrev pub group_value : List ℤ → ℕ → Value
group_value groups j = int (number_at groups j)

module _ (groups : List ℤ) (count : ℕ) (of : List ℕ) (numbered : AreNumbered groups count of) where
  same_number : (j k : ℕ) → j < length groups → k < length groups → nat_eq (get_or of j 0) (get_or of k 0) ≡ int_eq (number_at groups j) (number_at groups k)
  same_number j k below_j below_k =
      let both = numbered.same j k below_j below_k in
      same_truths (nat_eq (get_or of j 0) (get_or of k 0)) (int_eq (number_at groups j) (number_at groups k))
      (λ h. (Decides-int_eq (number_at groups j) (number_at groups k)).1 (both.0 ((Decides-eqb (get_or of j 0) (get_or of k 0)).0 h)))
      (λ h. (Decides-eqb (get_or of j 0) (get_or of k 0)).1 (both.1 ((Decides-int_eq (number_at groups j) (number_at groups k)).0 h)))

  same_members : (part : Part) (k : ℕ) → k < length groups → members part of (length groups) k ≡ filter (λ j. is_in part j k && same_group (group_value groups) j k) (range_with_len 0 (length groups))
  same_members part k within =
      same_tests (λ j. is_in part j k && nat_eq (get_or of j 0) (get_or of k 0)) (λ j. is_in part j k && same_group (group_value groups) j k) 0 (length groups)
      (λ j below. ap (λ b. is_in part j k && b) (same_number j k (omega (arith, below)) within))

  -- what f gives of the values adds up to the sum of the numbers
  pub total_is : (part : Part) (f : Value → ℤ) (value : ℕ → Value) (numbers : List ℤ) (n k : ℕ) → n ≡ length groups → k < n → ((j : ℕ) → f (value j) ≡ number_at numbers j)
      → total_at part numbers of k ≡ total_by f (map value (filter (λ j. is_in part j k && same_group (group_value groups) j k) (range_with_len 0 n)))
  total_is part f value numbers n k all within same =
      let passes : ℕ → Bool = λ j. is_in part j k && same_group (group_value groups) j k in
      ap (λ m. total_by (number_at numbers) (members part of m k)) numbered.long
      ∙ (ap (total_by (number_at numbers)) (same_members part k (subst (λ m. k < m) all within))
      ∙ (sym (total_mapped f value (number_at numbers) (filter passes (range_with_len 0 (length groups))) (pos 0) same) ∙ ap (λ m. total_by f (map value (filter passes (range_with_len 0 m)))) (sym all)))

-- ---- registers

-- the sum of an element, by the numbers of the groups
abbrev pub sum_at : Part → List ℕ → Register → ℕ → Value
sum_at part of (register.Truth values) k = value.Truth false
sum_at part of (register.Int values) k = value.Int (sat_int (total_at part values.items of k))
sum_at part of (register.Fixed values) k = value.Fixed (fixed_number (total_at part (map raw values.items) of k))
sum_at part of (register.Vector values) k = value.Vector (vector_total part values.items of k)

module _ (groups : List ℤ) (count : ℕ) (of : List ℕ) (numbered : AreNumbered groups count of) where
  pub sums_are : (part : Part) (r : Register) (k : ℕ) → register_len r ≡ length groups → k < register_len r
      → sum_at part of r k ≡ accumulated (register_kind r) part (register_len r) (λ j. register_value j r) (group_value groups) k
  sums_are part (register.Truth values) k all within = refl
  sums_are part (register.Int values) k all within =
      ap (λ n. value.Int (sat_int n)) (total_is groups count of numbered part as_int (λ j. register_value j (register.Int values)) values.items (length values.items) k all within (λ j. refl))
  sums_are part (register.Fixed values) k all within =
      ap (λ n. value.Fixed (fixed_number n)) (total_is groups count of numbered part as_fixed (λ j. register_value j (register.Fixed values)) (map raw values.items) (length values.items) k all within (raw_at values.items))
  sums_are part (register.Vector values) k all within =
      let at : ℕ → Value = λ j. register_value j (register.Vector values) in
      let x = total_is groups count of numbered part x_of at (components X values.items) (length values.items) k all within (x_at values.items) in
      let y = total_is groups count of numbered part y_of at (components Y values.items) (length values.items) k all within (y_at values.items) in
      let z = total_is groups count of numbered part z_of at (components Z values.items) (length values.items) k all within (z_at values.items) in
      λ i. value.Vector (v3 (sat (x i)) (sat (y i)) (sat (z i)))

-- ---- sums of values that are the same below a count

range_below : (n : ℕ) → All (Below n) (range_with_len 0 n)
range_below n i d below =
    let long = length-range_with_len 0 n in
    let within : i < n = omega (arith, below, long) in
    let at = get_or-range_with_len 0 n i d within in
    omega (arith, at, within)

pub accumulated_same : (kind : ValueKind) (part : Part) (n : ℕ) (value value' group group' : ℕ → Value) (k : ℕ) → k < n → ((j : ℕ) → j < n → value j ≡ value' j) → ((j : ℕ) → j < n → as_int (group j) ≡ as_int (group' j))
    → accumulated kind part n value group k ≡ accumulated kind part n value' group' k
accumulated_same kind part n value value' group group' k within values groups =
    let passes : (ℕ → Value) → ℕ → Bool = λ g j. is_in part j k && same_group g j k in
    let all = range_with_len 0 n in
    let tests : filter (passes group) all ≡ filter (passes group') all =
    same_tests (passes group) (passes group') 0 n (λ j below. ap₂ (λ a b. is_in part j k && int_eq a b) (groups j (omega (arith, below))) (groups k within)) in
    ap (λ js. total_of kind (map value js)) tests
    ∙ ap (total_of kind) (same_values n value value' (filter (passes group') all) values (All-filter (passes group') (Below n) all (range_below n)))
