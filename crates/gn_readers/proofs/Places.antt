-- The places in the order in which their links are looked at.
use Rattle.std.proofs.Common.{◌≡◌, ◌≢◌, inl, inr, ℕ, zero, suc, ◌+◌, ◌<◌, ◌≤◌, ◌==◌, ◌&&◌, ◌||◌, Bool, true, false, List, [], ◌∷◌, length, replicate, Option, Some, None, refl, sym, ap, ◌∙◌, subst, true≢false, arith}
use Rattle.std.specs.Prelude.{nat_lt, slice_get, slice_index_or, option_and_then, option_map}
use Rattle.std.proofs.lemmas.List.{length-replicate}
use Rattle.gn_lazy.specs.Graphs.{Nodes}
use Rattle.gn_lazy.specs.declared.graph.Link.{Link}
use Rattle.gn_lazy.specs.declared.graph.GraphNode.{GraphNode}
use Rattle.gn_node_set.proofs.Lists.{some_same}
use Rattle.gn_readers.specs.declared.place.Place.{Place}
use Rattle.gn_readers.specs.declared.place.Place.TheVariants.{Input, Root}
use Rattle.gn_readers.specs.declared.place.Reader.{Reader}
use Rattle.gn_readers.specs.Readers.{link_at, AreReadersAt, HaveReadersAt, HaveReaders, IsOneMore, before_input, before_root}
use Rattle.gn_readers.proofs.Noting.{same_number}

-- ---- numbers

is_less : (n k : ℕ) → nat_lt n k ≡ true → n < k
is_less n k e = grind arith

less_is : (n k : ℕ) → n < k → nat_lt n k ≡ true
less_is n k h = grind arith

not_less : (n k : ℕ) → k ≤ n → nat_lt n k ≡ false
not_less n k h = grind arith

same_is : (n k : ℕ) → n ≡ k → (n == k) ≡ true
same_is n k e = grind arith

not_same : (n k : ℕ) → n ≢ k → (n == k) ≡ false
not_same n k d = by (n == k) refl
  where
    by : (b : Bool) → (n == k) ≡ b → (n == k) ≡ false
    by true e = absurd (d (grind arith))
    by false e = e

pub inside : {A : Type 0} (xs : List A) (n : ℕ) (x : A) → slice_get xs n ≡ Some x → n < length xs
inside [] n x e = cc
inside (y ∷ xs) zero x e = omega arith
inside (y ∷ xs) (suc n) x e = let rest : n < length xs = inside xs n x e in omega (arith, rest)

less_next : (n k : ℕ) → n ≢ k → nat_lt n (k + 1) ≡ nat_lt n k
less_next n k d = by (nat_lt n k) refl
  where
    by : (b : Bool) → nat_lt n k ≡ b → nat_lt n (k + 1) ≡ nat_lt n k
    by true e = let less : n < k = is_less n k e in less_is n (k + 1) (omega (arith, less)) ∙ sym e
    by false e = after (nat_lt n (k + 1)) refl
      where
        after : (b : Bool) → nat_lt n (k + 1) ≡ b → nat_lt n (k + 1) ≡ nat_lt n k
        after false f = f ∙ sym e
        after true f =
            let less : n < k + 1 = is_less n (k + 1) f in
            absurd (elim (same_number n k) [
              | inl same ↦ d same
              | inr other ↦ let before : n < k = omega (arith, less, other) in true≢false (sym (less_is n k before) ∙ e)
            ])

or_false : (a : Bool) → (a || false) ≡ a
or_false true = refl
or_false false = refl

and_false : (a : Bool) → (a && false) ≡ false
and_false true = refl
and_false false = refl

or_true : (a : Bool) → (a || true) ≡ true
or_true true = refl
or_true false = refl

-- ---- one place more

-- is an input there before another, by whether its node is the same, less, or more?
before_same : (node input n i : ℕ) → n ≡ node → before_input node input (Input n i) ≡ nat_lt i input
before_same node input n i e =
    ap (λ b. b || (n == node && nat_lt i input)) (not_less n node (omega (arith, e)))
    ∙ ap (λ b. b && nat_lt i input) (same_is n node e)

before_other : (node input n i : ℕ) → n ≢ node → before_input node input (Input n i) ≡ nat_lt n node
before_other node input n i d = ap (λ b. nat_lt n node || (b && nat_lt i input)) (not_same n node d) ∙ or_false (nat_lt n node)

pub input_more : (node input : ℕ) → IsOneMore (before_input node input) (Input node input) (before_input node (input + 1))
input_more node input = record {
  new = before_same node input node input refl ∙ not_less input input (omega arith);
  here = before_same node (input + 1) node input refl ∙ less_is input (input + 1) (omega arith);
  others = by;
}
  where
    by : (p : Place) → p ≢ Input node input → before_input node (input + 1) p ≡ before_input node input p
    by (Root r) d = refl
    by (Input n i) d = elim (same_number n node) [
      | inl e ↦ before_same node (input + 1) n i e ∙ less_next i input (λ f. d (λ t. Input (e t) (f t))) ∙ sym (before_same node input n i e)
      | inr o ↦ before_other node (input + 1) n i o ∙ sym (before_other node input n i o)
    ]

pub root_more : (root : ℕ) → IsOneMore (before_root root) (Root root) (before_root (root + 1))
root_more root = record { new = not_less root root (omega arith); here = less_is root (root + 1) (omega arith); others = by }
  where
    by : (p : Place) → p ≢ Root root → before_root (root + 1) p ≡ before_root root p
    by (Input n i) d = refl
    by (Root r) d = less_next r root (λ e. d (ap Root e))

-- ---- where only places differ that are not there

module _ {G : Type 0} (g : Nodes G) where
  abbrev AreSame : (Place → Bool) → (Place → Bool) → Type 0
  AreSame looked looked' = (p : Place) (link : Link) → link_at g p ≡ Some link → looked' p ≡ looked p

  changed : (looked looked' : Place → Bool) → AreSame looked looked' → (n : ℕ) (rs : List Reader) → AreReadersAt g looked n rs → AreReadersAt g looked' n rs
  changed looked looked' same n rs are = record {
    each = λ r. (
      λ h. let l = (are.each r).0 h in (same r.place l.1.0 l.1.1 ∙ l.0, l.1),
      λ l. (are.each r).1 (sym (same r.place l.1.0 l.1.1) ∙ l.0, l.1),
    );
    differ = are.differ;
  }

  all_changed : (looked looked' : Place → Bool) → AreSame looked looked' → (rows : List (List Reader)) → HaveReadersAt g looked rows → HaveReadersAt g looked' rows
  all_changed looked looked' same rows have = record { all = have.all; each_node = λ n below. changed looked looked' same n (slice_index_or rows n []) (have.each_node n below) }

  node_of_link : (n i : ℕ) (link : Link) → (o : Option (GraphNode G)) → slice_get g.nodes n ≡ o → option_and_then (λ at. slice_get at.inputs.items i) o ≡ Some link → (at : GraphNode G) × (slice_get g.nodes n ≡ Some at) × (slice_get at.inputs.items i ≡ Some link)
  node_of_link n i link None e f = cc
  node_of_link n i link (Some at) e f = (at, e, f)

  -- all inputs of a node
  pub node_noted : (node input : ℕ) (at : GraphNode G) (rows : List (List Reader)) → slice_get g.nodes node ≡ Some at → length at.inputs.items ≤ input → HaveReadersAt g (before_input node input) rows → HaveReadersAt g (before_input (node + 1) 0) rows
  node_noted node input at rows here past have = all_changed (before_input node input) (before_input (node + 1) 0) same rows have
    where
      same : (p : Place) (link : Link) → link_at g p ≡ Some link → before_input (node + 1) 0 p ≡ before_input node input p
      same (Root r) link e = refl
      same (Input n i) link e = elim (same_number n node) [
        | inl f ↦
            let x = node_of_link n i link (slice_get g.nodes n) refl e in
            let is : x.0 ≡ at = some_same (sym x.1 ∙ ap (slice_get g.nodes) f ∙ here) in
            let there : i < length at.inputs.items = inside at.inputs.items i link (subst (λ y. slice_get y.inputs.items i ≡ Some link) is x.2) in
            let less : n < node + 1 = omega (arith, f) in
            ap (λ b. b || (n == node + 1 && nat_lt i 0)) (less_is n (node + 1) less)
            ∙ sym (before_same node input n i f ∙ less_is i input (omega (arith, there, past)))
        | inr d ↦
            ap (λ b. nat_lt n (node + 1) || (n == node + 1 && b)) (not_less i 0 (omega arith))
            ∙ ap (λ b. nat_lt n (node + 1) || b) (and_false (n == node + 1))
            ∙ or_false (nat_lt n (node + 1))
            ∙ less_next n node d
            ∙ sym (before_other node input n i d)
      ]

  -- all inputs of all nodes
  pub inputs_noted : (node : ℕ) (rows : List (List Reader)) → length g.nodes ≤ node → HaveReadersAt g (before_input node 0) rows → HaveReadersAt g (before_root 0) rows
  inputs_noted node rows past have = all_changed (before_input node 0) (before_root 0) same rows have
    where
      same : (p : Place) (link : Link) → link_at g p ≡ Some link → before_root 0 p ≡ before_input node 0 p
      same (Root r) link e = not_less r 0 (omega arith)
      same (Input n i) link e =
          let x = node_of_link n i link (slice_get g.nodes n) refl e in
          let there : n < length g.nodes = inside g.nodes n x.0 x.1 in
          sym (ap (λ b. b || (n == node && nat_lt i 0)) (less_is n node (omega (arith, there, past))))

  -- and all roots
  pub roots_noted : (root : ℕ) (rows : List (List Reader)) → length g.roots ≤ root → HaveReadersAt g (before_root root) rows → HaveReaders g rows
  roots_noted root rows past have = record {
    all = have.all;
    each_node = λ n below. let are = have.each_node n below in record { each = λ r. (λ h. ((are.each r).0 h).1, λ l. (are.each r).1 (all_looked r.place l.0 l.1, l)); differ = are.differ };
  }
    where
      all_looked : (p : Place) (link : Link) → link_at g p ≡ Some link → before_root root p ≡ true
      all_looked (Input n i) link e = refl
      all_looked (Root r) link e = let there : r < length g.roots = inside g.roots r link e in less_is r root (omega (arith, there, past))

  -- ---- before any link

  no_other : {A : Type 0} (d : A) (n count : ℕ) → slice_index_or (replicate count d) n d ≡ d
  no_other d n zero = refl
  no_other d zero (suc count) = refl
  no_other d (suc n) (suc count) = no_other d n count

  none_before : (p : Place) → before_input 0 0 p ≡ false
  none_before (Root r) = refl
  none_before (Input n i) =
      ap (λ b. b || (n == 0 && nat_lt i 0)) (not_less n 0 (omega arith))
      ∙ ap (λ b. n == 0 && b) (not_less i 0 (omega arith))
      ∙ and_false (n == 0)

  pub none_yet : (rows : List (List Reader)) → rows ≡ replicate (length g.nodes) [] → HaveReadersAt g (before_input 0 0) rows
  none_yet rows e = record {
    all = ap length e ∙ length-replicate (length g.nodes) [];
    each_node = λ n below. subst (AreReadersAt g (before_input 0 0) n) (sym (ap (λ rs. slice_index_or rs n []) e ∙ no_other [] n (length g.nodes)))
        (record { each = λ r. (λ h. absurd h, λ l. true≢false (sym l.0 ∙ none_before r.place)); differ = tt });
  }

-- ---- links at places

pub no_place : {A : Type 0} (xs : List A) (n : ℕ) → n < length xs → slice_get xs n ≡ None → ⊥
no_place [] n h e = omega (arith, h)
no_place (x ∷ xs) zero h e = cc
no_place (x ∷ xs) (suc n) h e = no_place xs n (omega (arith, h)) e

is_at : {A : Type 0} (xs : List A) (n : ℕ) (d : A) → n < length xs → slice_get xs n ≡ Some (slice_index_or xs n d)
is_at [] n d h = absurd (omega (arith, h))
is_at (x ∷ xs) zero d h = refl
is_at (x ∷ xs) (suc n) d h = is_at xs n d (omega (arith, h))

-- a node behind a reference
pub node_at : {A B : Type 0} (f : B → A) (xs : List A) (n : ℕ) (o : Option B) (x : B) → o ≡ Some x → option_map f o ≡ slice_get xs n → slice_get xs n ≡ Some (f x)
node_at f xs n o x is e = sym e ∙ ap (option_map f) is

pub input_link : {G : Type 0} (g : Nodes G) (n i : ℕ) (at : GraphNode G) (links : List Link) (link : Link) → slice_get g.nodes n ≡ Some at → links ≡ at.inputs.items → i < length links → link ≡ slice_index_or links i link → link_at g (Input n i) ≡ Some link
input_link g n i at links link here are below is =
    ap (option_and_then (λ y. slice_get y.inputs.items i)) here ∙ ap (λ ls. slice_get ls i) (sym are) ∙ is_at links i link below ∙ ap Some (sym is)

pub root_link : {G : Type 0} (g : Nodes G) (r : ℕ) (links : List Link) (link : Link) → links ≡ g.roots → r < length links → link ≡ slice_index_or links r link → link_at g (Root r) ≡ Some link
root_link g r links link are below is = ap (λ ls. slice_get ls r) (sym are) ∙ is_at links r link below ∙ ap Some (sym is)
