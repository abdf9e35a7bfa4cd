-- Flags of members, and the room that is left.
use Rattle.std.proofs.Common.{◌≡◌, ◌≢◌, ◌⊎◌, inl, inr, ℕ, zero, suc, ◌+◌, ◌<◌, ◌≤◌, Bool, true, false, ◌||◌, ◌==◌, List, [], ◌∷◌, ◌++◌, length, get_or, set, map, IsTrue, refl, sym, ap, ◌∙◌, subst, true≢false, arith, if◌then◌else◌}
use Rattle.std.specs.Prelude.{nat_lt, Decides}
use Rattle.std.proofs.lemmas.List.{get_or-set_same, get_or-set_other, get_or_default, get_or_past, length-set, length-append, length_push, map-set}
use Rattle.std.proofs.lemmas.List.Sums.{sum_by-set}
use Rattle.std.proofs.lemmas.Bool.Decides.{Decides-eqb}
use Rattle.gn_uses.specs.declared.outputs.Out.{Out}
use Rattle.gn_node_set.proofs.Lists.{index_image}
use Rattle.gn_uses.specs.Sets.{has, unset, IsFlagged, same_out, has_out, with_out, row, with_flag, unset_in, sizes_of, HasFlags, IsIn}
use Rattle.gn_uses.proofs.Lists.{same_number, true_or_false, has_pushed, has_out_pushed, same_is, is_same, or_right}

abbrev left : Bool → ℕ
left flag = if flag then 0 else 1

not_same : (b c : Bool) → (IsTrue b → ⊥) → (c || b) ≡ c
not_same true c h = absurd (h refl)
not_same false true h = refl
not_same false false h = refl

or_true : (b c : Bool) → IsTrue b → (c || b) ≡ true
or_true b c h = or_right c b h

flagged_at : (flags : List Bool) (items : List ℕ) (n : ℕ) → ((k : ℕ) → get_or flags k false ≡ has items k) → n < length flags → (k : ℕ) → (k ≡ n) ⊎ (k ≢ n) → get_or (set flags n true) k false ≡ has (items ++ n ∷ []) k
flagged_at flags items n f h k (inl e) =
    subst (λ j. get_or (set flags n true) j false ≡ has (items ++ n ∷ []) j) (sym e)
    (get_or-set_same flags n true false h ∙ sym (has_pushed items n n ∙ or_true (n == n) (has items n) ((Decides-eqb n n).1 refl)))
flagged_at flags items n f h k (inr d) =
    get_or-set_other flags n k true false d ∙ (f k ∙ sym (has_pushed items n k ∙ not_same (n == k) (has items k) (λ e. d (sym ((Decides-eqb n k).0 e)))))

one_fewer : (flags : List Bool) (n : ℕ) → n < length flags → get_or flags n false ≡ false → unset (set flags n true) + 1 ≡ unset flags
one_fewer flags n h e =
    let sum = sum_by-set left flags n true false h in
    let was : left (get_or flags n false) ≡ 1 = ap left e in
    omega (arith, sum, was)

pub put_number : (flags : List Bool) (items : List ℕ) (room n : ℕ) → IsFlagged flags items room → n < length flags → get_or flags n false ≡ false → IsFlagged (set flags n true) (items ++ n ∷ []) room
put_number flags items room n f h e = record {
  flagged = λ k. flagged_at flags items n f.flagged h k (same_number k n);
  counted = omega (arith, f.counted, one_fewer flags n h e, length_push items n, length-set flags n true);
  fits = omega (arith, f.fits, length-set flags n true);
}

-- where a flag is not set, there is room for one more
pub has_room : (flags : List Bool) (items : List ℕ) (room n : ℕ) → IsFlagged flags items room → n < length flags → get_or flags n false ≡ false → length items < room
has_room flags items room n f h e = omega (arith, f.counted, f.fits, one_fewer flags n h e)

-- ---- rows

within : (xs : List Bool) (i : ℕ) → (i < length xs) ⊎ (length xs ≤ i) → get_or xs i true ≡ false → i < length xs
within xs i (inl h) e = h
within xs i (inr h) e = absurd (true≢false (sym (get_or_past xs i true h) ∙ e))

pub below_or_past : (m n : ℕ) → (m < n) ⊎ (n ≤ m)
below_or_past m n = grind arith

row_there : (rows : List (List Bool)) (n i : ℕ) → (n < length rows) ⊎ (length rows ≤ n) → i < length (row rows n) → n < length rows
row_there rows n i (inl h) r = h
row_there rows n i (inr h) r = absurd (let e : length (row rows n) ≡ 0 = ap length (get_or_past rows n [] h) in omega (arith, e, r))

-- a row that has a flag is there
pub row_in : (rows : List (List Bool)) (n i : ℕ) → i < length (row rows n) → n < length rows
row_in rows n i r = row_there rows n i (below_or_past n (length rows)) r

unchanged : (rows : List (List Bool)) (n : ℕ) → set (sizes_of rows) n (length (row rows n)) ≡ sizes_of rows
unchanged [] n = refl
unchanged (r ∷ rows) zero = refl
unchanged (r ∷ rows) (suc n) = ap (λ ns. length r ∷ ns) (unchanged rows n)

module _ (rows : List (List Bool)) (items : List Out) (x : Out) where
  abbrev after : List (List Bool)
  after = with_flag rows x.node x.output

  same_row : x.output < length (row rows x.node) → row after x.node ≡ set (row rows x.node) x.output true
  same_row r = get_or-set_same rows x.node (set (row rows x.node) x.output true) [] (row_in rows x.node x.output r)

  row_flags : x.output < length (row rows x.node) → (y : Out) → (y.node ≡ x.node) ⊎ (y.node ≢ x.node) → (y.output ≡ x.output) ⊎ (y.output ≢ x.output) → ((y : Out) → get_or (row rows y.node) y.output false ≡ has_out items y) → get_or (row after y.node) y.output false ≡ has_out (items ++ x ∷ []) y
  row_flags r y (inl n) (inl s) f =
      let same : y ≡ x = λ i. record { node = n i; output = s i } in
      subst (λ z. get_or (row after z.node) z.output false ≡ has_out (items ++ x ∷ []) z) (sym same)
      (ap (λ flags. get_or flags x.output false) (same_row r) ∙ (get_or-set_same (row rows x.node) x.output true false r ∙ sym (has_out_pushed items x x ∙ or_true (same_out x x) (has_out items x) (is_same x))))
  row_flags r y (inl n) (inr d) f =
      let here : get_or (row after x.node) y.output false ≡ get_or (row rows x.node) y.output false = ap (λ flags. get_or flags y.output false) (same_row r) ∙ get_or-set_other (row rows x.node) x.output y.output true false d in
      let there : get_or (row after y.node) y.output false ≡ get_or (row rows y.node) y.output false = subst (λ k. get_or (row after k) y.output false ≡ get_or (row rows k) y.output false) (sym n) here in
      there ∙ (f y ∙ sym (has_out_pushed items x y ∙ not_same (same_out x y) (has_out items y) (λ e. d (ap (λ z. z.output) (sym (same_is x y e))))))
  row_flags r y (inr d) w f =
      ap (λ flags. get_or flags y.output false) (get_or-set_other rows x.node y.node (set (row rows x.node) x.output true) [] d)
      ∙ (f y ∙ sym (has_out_pushed items x y ∙ not_same (same_out x y) (has_out items y) (λ e. d (ap (λ z. z.node) (sym (same_is x y e))))))

  fewer_in : x.output < length (row rows x.node) → get_or (row rows x.node) x.output false ≡ false → unset_in after + 1 ≡ unset_in rows
  fewer_in r e =
      let sum = sum_by-set unset rows x.node (set (row rows x.node) x.output true) [] (row_in rows x.node x.output r) in
      let one = one_fewer (row rows x.node) x.output r e in
      omega (arith, sum, one)

  pub put_output : (total room : ℕ) → HasFlags rows items total room → x.output < length (row rows x.node) → get_or (row rows x.node) x.output false ≡ false → HasFlags after (items ++ x ∷ []) total room
  put_output total room f r e = record {
    flagged = λ y. row_flags r y (same_number y.node x.node) (same_number y.output x.output) f.flagged;
    counted = omega (arith, f.counted, fewer_in r e, length_push items x);
    fits = f.fits;
  }

  pub room_for : (total room : ℕ) → HasFlags rows items total room → x.output < length (row rows x.node) → get_or (row rows x.node) x.output false ≡ false → length items < room
  room_for total room f r e = omega (arith, f.counted, f.fits, fewer_in r e)

  -- the rows are as long as before
  pub same_sizes : x.output < length (row rows x.node) → sizes_of after ≡ sizes_of rows
  same_sizes r =
      map-set length rows x.node (set (row rows x.node) x.output true)
      ∙ (ap (λ n. set (sizes_of rows) x.node n) (length-set (row rows x.node) x.output true) ∙ unchanged rows x.node)

pub read_unset : (flags : List Bool) (n : ℕ) (b : Bool) → b ≡ get_or flags n b → b ≡ false → get_or flags n false ≡ false
read_unset flags n b e f = subst (λ c. get_or flags n c ≡ c) f (sym e)

pub flag_there : (rows : List (List Bool)) (sizes : List ℕ) (x : Out) → sizes_of rows ≡ sizes → IsIn sizes x → x.output < length (row rows x.node)
flag_there rows sizes x e h =
    let same : get_or sizes x.node 0 ≡ length (row rows x.node) = ap (λ ns. get_or ns x.node 0) (sym e) ∙ index_image length rows x.node [] in
    omega (arith, same, h)

pub new_out : (xs : List Out) (x : Out) → has_out xs x ≡ false → xs ++ x ∷ [] ≡ with_out xs x
new_out xs x e = sym (ap (λ b. if b then xs else xs ++ x ∷ []) e)

below_or : (a b c : ℕ) → c ≡ b → nat_lt a b ≡ true → a < c
below_or a b c e h = grind arith

is_below : (a b c : ℕ) → c ≡ b → a < c → nat_lt a b ≡ true
is_below a b c e h = grind arith

pub by_size : (rows : List (List Bool)) (sizes : List ℕ) (x : Out) → sizes_of rows ≡ sizes → Decides (nat_lt x.output (length (row rows x.node))) (IsIn sizes x)
by_size rows sizes x e =
    let same : get_or sizes x.node 0 ≡ length (row rows x.node) = ap (λ ns. get_or ns x.node 0) (sym e) ∙ index_image length rows x.node [] in
    (λ h. below_or x.output (length (row rows x.node)) (get_or sizes x.node 0) same h, λ h. is_below x.output (length (row rows x.node)) (get_or sizes x.node 0) same h)
