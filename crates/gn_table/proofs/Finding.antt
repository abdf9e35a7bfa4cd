-- Sockets that are looked up by their names, with their numbers.
use Rattle.std.proofs.Common.{◌≡◌, ◌<◌, ◌+◌, ℕ, zero, suc, Bool, true, false, cond, List, [], ◌∷◌, ◌++◌, map, drop, length, get_or, Option, Some, None, bytes_eq, refl, sym, ap, ◌∙◌, arith, if◌then◌else◌}
use Rattle.std.specs.Prelude.{find, option_map, option_and_then, slice_get}
use Rattle.std.specs.List.{position_from}
use Rattle.std.specs.Option.{option_or}
use Rattle.std.proofs.lemmas.Option.{slice_get-get_or, slice_get-map}
use Rattle.gn_kinds.specs.Row.{Text, output_name}
use Rattle.gn_kinds.specs.declared.row.SocketKind.{SocketKind}
use Rattle.gn_tree.specs.Trees.{Named, Socket}
use Rattle.gn_tree.specs.Seen.{Text as CodeText, named_of, socket_of}
use Rattle.gn_tree.specs.declared.tree.TreeInput.{TreeInput}
use Rattle.std.proofs.lemmas.List.{drop_more, length-map}
use Rattle.gn_tree.specs.declared.tree.Socket.{Socket as CodeSocket}
use Rattle.gn_names.specs.First.{first_of}
use Rattle.gn_rules.specs.Sockets.{Declared, declared, one_of, output_of_row}
use Rattle.gn_kinds.specs.Seen.{output_of}
use Rattle.gn_kinds.specs.declared.row.OutputRow.{OutputRow}
use Rattle.gn_rules.specs.Things.{socket_names}
use Rattle.gn_scopes.proofs.Naming.{output_named}
use Rattle.gn_meaning.proofs.Options.{some_same}
use Rattle.gn_meaning.specs.Sites.{Site}
use Rattle.gn_meaning.specs.Reads.{number_in, passed, read_from}
use Rattle.gn_table.specs.Finding.{behind, find_in, read_found}

-- ---- counting from another number

position_shift : {A : Type 0} (p : A → Bool) (i : ℕ) (xs : List A) → position_from p (i + 1) xs ≡ option_map (λ n. n + 1) (position_from p i xs)
position_shift p i [] = refl
position_shift p i (x ∷ xs) = by_test (p x) (position_shift p (i + 1) xs)
  where
    by_test : (b : Bool) → position_from p (i + 1 + 1) xs ≡ option_map (λ n. n + 1) (position_from p (i + 1) xs) → cond b (Some (i + 1)) (position_from p (i + 1 + 1) xs) ≡ option_map (λ n. n + 1) (cond b (Some i) (position_from p (i + 1) xs))
    by_test true h = refl
    by_test false h = h

names_in : List Declared → List Text
names_in ds = map (λ d. d.name) ds

at_number : List Declared → ℕ → Option (ℕ × SocketKind)
at_number ds n = option_map (λ d. (n, d.shape.kind)) (slice_get ds n)

one_further : (d : Declared) (ds : List Declared) (n : ℕ) → at_number (d ∷ ds) (n + 1) ≡ option_map (behind 1) (at_number ds n)
unfolding at_number
one_further d ds n = ap (λ m. option_map (λ x. (n + 1, x.shape.kind)) (slice_get (d ∷ ds) m)) (let same : n + 1 ≡ suc n = omega arith in same) ∙ by_option (slice_get ds n)
  where
    by_option : (o : Option Declared) → option_map (λ x. (n + 1, x.shape.kind)) o ≡ option_map (behind 1) (option_map (λ x. (n, x.shape.kind)) o)
    by_option None = refl
    by_option (Some x) = refl

module _ (d : Declared) (ds : List Declared) (name : Text) where
  pub found_first : bytes_eq name d.name ≡ true → find_in (d ∷ ds) name ≡ Some (0, d.shape.kind)
  found_first e = rw e refl

  pub found_later : bytes_eq name d.name ≡ false → find_in (d ∷ ds) name ≡ option_map (behind 1) (find_in ds name)
  unfolding at_number names_in
  found_later e =
      let skipped : find_in (d ∷ ds) name ≡ option_and_then (at_number (d ∷ ds)) (position_from (bytes_eq name) (0 + 1) (names_in ds)) = rw e refl in
      skipped ∙ (ap (option_and_then (at_number (d ∷ ds))) (position_shift (bytes_eq name) 0 (names_in ds)) ∙ by_option (first_of (names_in ds) name))
    where
      by_option : (o : Option ℕ) → option_and_then (at_number (d ∷ ds)) (option_map (λ n. n + 1) o) ≡ option_map (behind 1) (option_and_then (at_number ds) o)
      by_option None = refl
      by_option (Some n) = one_further d ds n

-- ---- two lists behind each other

put_behind : (count : ℕ) (o p : Option (ℕ × SocketKind)) → option_map (behind 1) (option_or o (option_map (behind count) p)) ≡ option_or (option_map (behind 1) o) (option_map (behind (suc count)) p)
put_behind count None None = refl
put_behind count None (Some (n, kind)) = ap (λ m. Some (m, kind)) (let same : n + count + 1 ≡ n + suc count = omega arith in same)
put_behind count (Some x) p = refl

pub behind_none : (o : Option (ℕ × SocketKind)) → o ≡ option_map (behind 0) o
behind_none None = refl
behind_none (Some (n, kind)) = ap (λ m. Some (m, kind)) (let same : n ≡ n + 0 = omega arith in same)

pub found_behind : (ds es : List Declared) (name : Text) → find_in (ds ++ es) name ≡ option_or (find_in ds name) (option_map (behind (length ds)) (find_in es name))
found_behind [] es name = behind_none (find_in es name)
found_behind (d ∷ ds) es name = by_test (bytes_eq name d.name) refl (found_behind ds es name)
  where
    by_test : (b : Bool) → bytes_eq name d.name ≡ b → find_in (ds ++ es) name ≡ option_or (find_in ds name) (option_map (behind (length ds)) (find_in es name))
        → find_in (d ∷ (ds ++ es)) name ≡ option_or (find_in (d ∷ ds) name) (option_map (behind (suc (length ds))) (find_in es name))
    by_test true e h = found_first d (ds ++ es) name e ∙ sym (ap (λ o. option_or o (option_map (behind (suc (length ds))) (find_in es name))) (found_first d ds name e))
    by_test false e h =
        found_later d (ds ++ es) name e
        ∙ (ap (option_map (behind 1)) h
        ∙ (put_behind (length ds) (find_in ds name) (find_in es name) ∙ sym (ap (λ o. option_or o (option_map (behind (suc (length ds))) (find_in es name))) (found_later d ds name e))))

pub found_in_first : (ds es : List Declared) (name : Text) (x : ℕ × SocketKind) → find_in ds name ≡ Some x → find_in (ds ++ es) name ≡ Some x
found_in_first ds es name x e = found_behind ds es name ∙ ap (λ o. option_or o (option_map (behind (length ds)) (find_in es name))) e

pub found_behind_none : (ds es : List Declared) (name : Text) → find_in ds name ≡ None → find_in (ds ++ es) name ≡ option_map (behind (length ds)) (find_in es name)
found_behind_none ds es name e = found_behind ds es name ∙ ap (λ o. option_or o (option_map (behind (length ds)) (find_in es name))) e

pub behind_more : (i : ℕ) (o : Option (ℕ × SocketKind)) → option_map (behind i) (option_map (behind 1) o) ≡ option_map (behind (i + 1)) o
behind_more i None = refl
behind_more i (Some (n, kind)) = ap (λ m. Some (m, kind)) (let same : n + 1 + i ≡ n + (i + 1) = omega arith in same)

-- a row of the table that has another name is passed by
pub next_outputs : (of : SocketKind) (rows : List OutputRow) (name shown : Text) (i : ℕ) (d : OutputRow) → i < length rows → shown ≡ output_name (output_of (get_or rows i d)) → bytes_eq name shown ≡ false
    → option_map (behind i) (find_in (map (output_of_row of) (map output_of (drop i rows))) name) ≡ option_map (behind (i + 1)) (find_in (map (output_of_row of) (map output_of (drop (i + 1) rows))) name)
next_outputs of rows name shown i d h e is =
    let x : OutputRow = get_or rows i d in
    let rest : List Declared = map (output_of_row of) (map output_of (drop (i + 1) rows)) in
    let named : bytes_eq name (output_of_row of (output_of x)).name ≡ false = ap (bytes_eq name) (output_named of (output_of x) ∙ sym e) ∙ is in
    ap (λ ys. option_map (behind i) (find_in (map (output_of_row of) (map output_of ys)) name)) (drop_more rows i d h)
    ∙ (ap (option_map (behind i)) (found_later (output_of_row of (output_of x)) rest name named) ∙ behind_more i (find_in rest name))

-- ---- how many there are

number_same : (x y : ℕ × SocketKind) → x ≡ y → x.0 ≡ y.0
number_same x y e = ap (λ p. p.0) e

at_within : {A : Type 0} (n : ℕ) (xs : List A) (x : A) → slice_get xs n ≡ Some x → n < length xs
at_within n [] x e = cc
at_within zero (y ∷ xs) x e = omega arith
at_within (suc n) (y ∷ xs) x e = omega (arith, at_within n xs x e)

pub found_within : (ds : List Declared) (name : Text) (n : ℕ) (kind : SocketKind) → find_in ds name ≡ Some (n, kind) → n < length ds
found_within ds name n kind e = by_number (number_in ds name) e
  where
    by_entry : (m : ℕ) (o : Option Declared) → slice_get ds m ≡ o → option_map {U = ℕ × SocketKind} (λ d. (m, d.shape.kind)) o ≡ Some (n, kind) → n < length ds
    by_entry m None at h = cc
    by_entry m (Some d) at h = let same : m ≡ n = number_same (m, d.shape.kind) (n, kind) (some_same h) in omega (arith, same, at_within m ds d at)

    by_number : (o : Option ℕ) → option_and_then (λ n. option_map {U = ℕ × SocketKind} (λ d. (n, d.shape.kind)) (slice_get ds n)) o ≡ Some (n, kind) → n < length ds
    by_number None h = cc
    by_number (Some m) h = by_entry m (slice_get ds m) refl h

-- ---- what is read from what is found

pub found_read : (to : ℕ → Site) (kind : SocketKind) (ds : List Declared) (name : Text) → read_from kind (declared ds name) (option_map to (number_in ds name)) ≡ read_found to kind (find_in ds name)
unfolding names_in
found_read to kind [] name = refl
found_read to kind (d ∷ ds) name = by_test (bytes_eq name d.name) refl (found_read (λ n. to (n + 1)) kind ds name)
  where
    twice : (o : Option ℕ) → option_map to (option_map (λ n. n + 1) o) ≡ option_map (λ n. to (n + 1)) o
    twice None = refl
    twice (Some n) = refl

    further : (o : Option (ℕ × SocketKind)) → read_found (λ n. to (n + 1)) kind o ≡ read_found to kind (option_map (behind 1) o)
    further None = refl
    further (Some (n, from)) = refl

    by_test : (b : Bool) → bytes_eq name d.name ≡ b → read_from kind (declared ds name) (option_map (λ n. to (n + 1)) (number_in ds name)) ≡ read_found (λ n. to (n + 1)) kind (find_in ds name)
        → read_from kind (declared (d ∷ ds) name) (option_map to (number_in (d ∷ ds) name)) ≡ read_found to kind (find_in (d ∷ ds) name)
    by_test true e h =
        let here : read_from kind (declared (d ∷ ds) name) (option_map to (number_in (d ∷ ds) name)) ≡ record { from = to 0; through = passed d.shape.kind kind } = rw e refl in
        here ∙ sym (ap (read_found to kind) (found_first d ds name e))
    by_test false e h =
        let there : read_from kind (declared (d ∷ ds) name) (option_map to (number_in (d ∷ ds) name)) ≡ read_from kind (declared ds name) (option_map to (position_from (bytes_eq name) (0 + 1) (names_in ds))) = rw e refl in
        there
        ∙ (ap (λ o. read_from kind (declared ds name) (option_map to o)) (position_shift (bytes_eq name) 0 (names_in ds))
        ∙ (ap (read_from kind (declared ds name)) (twice (number_in ds name))
        ∙ (h ∙ (further (find_in ds name) ∙ sym (ap (read_found to kind) (found_later d ds name e))))))

-- ---- names that are there

within : (name : Text) (from n : ℕ) (xs : List Text) → position_from (bytes_eq name) from xs ≡ Some n → n < from + length xs
within name from n [] e = cc
within name from n (x ∷ xs) e = by_test (bytes_eq name x) (within name (from + 1) n xs) e
  where
    by_test : (b : Bool) → (position_from (bytes_eq name) (from + 1) xs ≡ Some n → n < (from + 1) + length xs) → (if b then Some from else position_from (bytes_eq name) (from + 1) xs) ≡ Some n → n < from + suc (length xs)
    by_test true rest h = let same : from ≡ n = cc in omega (arith, same)
    by_test false rest h = let less : n < (from + 1) + length xs = rest h in omega (arith, less)

pub first_within : (name : Text) (n : ℕ) (xs : List Text) → first_of xs name ≡ Some n → n < length xs
first_within name n xs e = omega (arith, within name 0 n xs e)

-- ---- what is written under a name

pub named_by_number : (xs : List Named) (name : Text) → find (λ x. bytes_eq name x.name) xs ≡ option_and_then (slice_get xs) (first_of (map (λ x. x.name) xs) name)
named_by_number [] name = refl
named_by_number (x ∷ xs) name = by_test (bytes_eq name x.name) refl (named_by_number xs name)
  where
    one_on : (o : Option ℕ) → option_and_then (slice_get (x ∷ xs)) (option_map (λ n. n + 1) o) ≡ option_and_then (slice_get xs) o
    one_on None = refl
    one_on (Some n) = ap (slice_get (x ∷ xs)) (let same : n + 1 ≡ suc n = omega arith in same)

    by_test : (b : Bool) → bytes_eq name x.name ≡ b → find (λ y. bytes_eq name y.name) xs ≡ option_and_then (slice_get xs) (first_of (map (λ y. y.name) xs) name)
        → find (λ y. bytes_eq name y.name) (x ∷ xs) ≡ option_and_then (slice_get (x ∷ xs)) (first_of (map (λ y. y.name) (x ∷ xs)) name)
    by_test true e h = rw e refl
    by_test false e h =
        let here : find (λ y. bytes_eq name y.name) (x ∷ xs) ≡ find (λ y. bytes_eq name y.name) xs = rw e refl in
        let there : first_of (map (λ y. y.name) (x ∷ xs)) name ≡ position_from (bytes_eq name) (0 + 1) (map (λ y. y.name) xs) = rw e refl in
        here
        ∙ (h
        ∙ (sym (one_on (first_of (map (λ y. y.name) xs) name))
        ∙ ap (option_and_then (slice_get (x ∷ xs))) (sym (there ∙ position_shift (bytes_eq name) 0 (map (λ y. y.name) xs)))))

module _ (xs : List (CodeText × TreeInput)) (name : Text) where
  pub written_within : (n : ℕ) → first_of (map (λ x. x.name) (map named_of xs)) name ≡ Some n → n < length xs
  written_within n e = omega (arith, first_within name n (map (λ x. x.name) (map named_of xs)) e, length-map (map named_of xs) (λ x. x.name), length-map xs named_of)

  pub written_at : (n : ℕ) (x : CodeText × TreeInput) → first_of (map (λ x. x.name) (map named_of xs)) name ≡ Some n → x ≡ get_or xs n x → find (λ y. bytes_eq name y.name) (map named_of xs) ≡ Some (named_of x)
  written_at n x e is =
      named_by_number (map named_of xs) name
      ∙ (ap (option_and_then (slice_get (map named_of xs))) e
      ∙ (slice_get-map named_of xs n ∙ ap (option_map named_of) (slice_get-get_or xs n x (written_within n e) ∙ ap Some (sym is))))

  pub written_nowhere : first_of (map (λ x. x.name) (map named_of xs)) name ≡ None → find (λ y. bytes_eq name y.name) (map named_of xs) ≡ None
  written_nowhere e = named_by_number (map named_of xs) name ∙ ap (option_and_then (slice_get (map named_of xs))) e

-- ---- sockets as the code has them

names_of : (xs : List Socket) → map (λ d. d.name) (map one_of xs) ≡ socket_names xs
names_of [] = refl
names_of (x ∷ xs) = ap (λ names. x.name ∷ names) (names_of xs)

module _ (xs : List CodeSocket) (name : Text) where
  number_of : number_in (map one_of (map socket_of xs)) name ≡ first_of (socket_names (map socket_of xs)) name
  number_of = ap (λ names. first_of names name) (names_of (map socket_of xs))

  pub socket_found : (n : ℕ) (x : CodeSocket) → first_of (socket_names (map socket_of xs)) name ≡ Some n → n < length xs → x ≡ get_or xs n x → find_in (map one_of (map socket_of xs)) name ≡ Some (n, x.kind)
  unfolding at_number
  socket_found n x e h is =
      let there : slice_get xs n ≡ Some x = slice_get-get_or xs n x h ∙ ap Some (sym is) in
      let seen : slice_get (map one_of (map socket_of xs)) n ≡ Some (one_of (socket_of x)) =
      slice_get-map one_of (map socket_of xs) n ∙ ap (option_map one_of) (slice_get-map socket_of xs n ∙ ap (option_map socket_of) there) in
      ap (option_and_then (at_number (map one_of (map socket_of xs)))) (number_of ∙ e) ∙ ap (option_map (λ d. (n, d.shape.kind))) seen

  pub socket_lost : first_of (socket_names (map socket_of xs)) name ≡ None → find_in (map one_of (map socket_of xs)) name ≡ None
  unfolding at_number
  socket_lost e = ap (option_and_then (at_number (map one_of (map socket_of xs)))) (number_of ∙ e)
