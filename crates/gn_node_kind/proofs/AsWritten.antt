-- The kind of a name with settings is written by that name and these settings.
use Rattle.std.proofs.Common.{◌≡◌, Bool, true, false, List, [], ◌∷◌, Option, Some, None, bytes_eq, refl, sym, ap, subst, ◌∙◌}
use Rattle.std.specs.Prelude.{option_map, option_and_then, codes, if◌then◌else◌}
use Rattle.std.proofs.lemmas.Slice.Eq.{bytes_eq-Decides}
use Rattle.gn_value.specs.declared.value.Value.{Value}
use Rattle.gn_value.specs.declared.value.Value.TheVariants as value
use Rattle.gn_value.specs.declared.value.ValueKind.{ValueKind}
use Rattle.gn_value.specs.declared.value.Place.{Place}
use Rattle.gn_value.specs.declared.op.CompareKind.{CompareKind}
use Rattle.gn_value.specs.declared.op.MixKind.{MixKind}
use Rattle.gn_kinds.specs.declared.row.SocketKind.{SocketKind}
use Rattle.gn_kinds.specs.declared.row.SocketKind.TheVariants as socket
use Rattle.gn_kinds.specs.Row.{Text}
use Rattle.gn_tree.specs.Trees as trees
use Rattle.gn_tree.specs.Trees.{Group, Setting, Settings, no_settings, and_setting, and_zone}
use Rattle.gn_node_kind.specs.Named.{named_in, math_ops, integer_math_ops, vector_math_ops, boolean_math_ops, compare_ops, round_modes}
use Rattle.gn_node_kind.specs.Kinds as k
use Rattle.gn_node_kind.specs.Kinds.{NodeKind, kind_with, kind_by_value, only, value_kind_in, compare_kind_in, mix_kind_in, bare_kinds, kinds_by_place, kinds_by_type_and_place, readers_of_op, readers_of_type}
use Rattle.gn_node_kind.specs.Written.{one, two, three, of_value, socket_of, socket_of_compare, socket_of_mix, math_name, integer_math_name, vector_math_name, boolean_math_name, compare_name, round_name}
use Rattle.gn_node_kind.specs.Claims.{IsWritten}

-- ---- tables by names

-- of each name and what is beside it, this holds
abbrev pub Each : {A : Type 0} → (Text → A → Type 0) → List (Text × A) → Type 0
Each P [] = Unit {0}
Each P ((word, a) ∷ rest) = P word a × Each P rest

some_same : {A : Type 0} (b a : A) → ◌≡◌ {A = Option A} (Some b) (Some a) → b ≡ a
some_same b a e = cc

named_if : {A : Type 0} (P : Text → A → Type 0) (same : Bool) (word name : Text) (b a : A) (rest : Option A) → bytes_eq word name ≡ same → P word b → (rest ≡ Some a → P name a) → (if same then Some b else rest) ≡ Some a → P name a
named_if P true word name b a rest is here more e = subst (λ c. P name c) (some_same b a e) (subst (λ w. P w b) ((bytes_eq-Decides word name).0 is) here)
named_if P false word name b a rest is here more e = more e

named_one : {A : Type 0} (P : Text → A → Type 0) (xs : List (Text × A)) (name : Text) (a : A) → Each P xs → named_in xs name ≡ Some a → P name a
named_one P [] name a all e = absurd (cc)
named_one P ((word, b) ∷ xs) name a all e = named_if P (bytes_eq word name) word name b a (named_in xs name) refl all.0 (named_one P xs name a all.1) e

-- what an option that was mapped came of
came_of : {A B : Type 0} (f : A → B) (o : Option A) (b : B) → option_map f o ≡ Some b → (a : A) × (o ≡ Some a) × (f a ≡ b)
came_of f None b e = absurd (cc)
came_of f (Some a) b e = (a, refl, cc)

taken_from : {A B : Type 0} (f : A → Option B) (o : Option A) (b : B) → option_and_then f o ≡ Some b → (a : A) × (o ≡ Some a) × (f a ≡ Some b)
taken_from f None b e = absurd (cc)
taken_from f (Some a) b e = (a, refl, e)

only_so : (word name : Text) (kind : Option NodeKind) (k : NodeKind) → only word name kind ≡ Some k → (word ≡ name) × (kind ≡ Some k)
only_so word name kind k e = only_if (bytes_eq word name) word name kind k refl e
  where
    only_if : (same : Bool) (word name : Text) (kind : Option NodeKind) (k : NodeKind) → bytes_eq word name ≡ same → (if same then kind else None) ≡ Some k → (word ≡ name) × (kind ≡ Some k)
    only_if true word name kind k is e = ((bytes_eq-Decides word name).0 is, e)
    only_if false word name kind k is e = absurd (cc)

-- ---- the setting `type`

value_so : (of : SocketKind) (v : ValueKind) → value_kind_in of ≡ Some v → socket_of v ≡ of
value_so socket.Truth v e = ap socket_of (sym (some_same _ v e))
value_so socket.Int v e = ap socket_of (sym (some_same _ v e))
value_so socket.Fixed v e = ap socket_of (sym (some_same _ v e))
value_so socket.Vector v e = ap socket_of (sym (some_same _ v e))
value_so socket.Geometry v e = absurd (cc)

compare_so : (of : SocketKind) (v : CompareKind) → compare_kind_in of ≡ Some v → socket_of_compare v ≡ of
compare_so socket.Truth v e = absurd (cc)
compare_so socket.Int v e = ap socket_of_compare (sym (some_same _ v e))
compare_so socket.Fixed v e = ap socket_of_compare (sym (some_same _ v e))
compare_so socket.Vector v e = absurd (cc)
compare_so socket.Geometry v e = absurd (cc)

mix_so : (of : SocketKind) (v : MixKind) → mix_kind_in of ≡ Some v → socket_of_mix v ≡ of
mix_so socket.Truth v e = absurd (cc)
mix_so socket.Int v e = absurd (cc)
mix_so socket.Fixed v e = ap socket_of_mix (sym (some_same _ v e))
mix_so socket.Vector v e = ap socket_of_mix (sym (some_same _ v e))
mix_so socket.Geometry v e = absurd (cc)

-- ---- operations

math_ops_so : Each (λ name op. math_name op ≡ name) math_ops
math_ops_so = (refl, (refl, (refl, (refl, (refl, (refl, (refl, (refl, (refl, (refl, (refl, (refl, (refl, (refl, (refl, tt)))))))))))))))

integer_math_ops_so : Each (λ name op. integer_math_name op ≡ name) integer_math_ops
integer_math_ops_so = (refl, (refl, (refl, (refl, (refl, (refl, (refl, (refl, (refl, (refl, tt))))))))))

vector_math_ops_so : Each (λ name op. vector_math_name op ≡ name) vector_math_ops
vector_math_ops_so = (refl, (refl, (refl, (refl, (refl, (refl, (refl, (refl, (refl, (refl, (refl, (refl, (refl, tt)))))))))))))

boolean_math_ops_so : Each (λ name op. boolean_math_name op ≡ name) boolean_math_ops
boolean_math_ops_so = (refl, (refl, (refl, (refl, (refl, (refl, tt))))))

compare_ops_so : Each (λ name op. compare_name op ≡ name) compare_ops
compare_ops_so = (refl, (refl, (refl, (refl, (refl, (refl, tt))))))

round_modes_so : Each (λ name op. round_name op ≡ name) round_modes
round_modes_so = (refl, (refl, (refl, (refl, tt))))

module _ (groups : List Group) where
  -- what is made of an operation is written by its name
  op_reader : {O : Type 0} (wrap : O → NodeKind) (ops : List (Text × O)) (word_of : O → Text) (name : Text) → Each (λ word o. word_of o ≡ word) ops
      → ((o : O) → IsWritten groups name (one (trees.op (word_of o))) (wrap o)) → (op : Text) (kind : NodeKind) → option_map wrap (named_in ops op) ≡ Some kind → IsWritten groups name (one (trees.op op)) kind
  op_reader wrap ops word_of name all is op kind e =
      let c = came_of wrap (named_in ops op) kind e in
      let word : word_of c.0 ≡ op = named_one (λ word o. word_of o ≡ word) ops op c.0 all c.1 in
      subst (IsWritten groups name (one (trees.op op))) c.2 (subst (λ t. IsWritten groups name (one (trees.op t)) (wrap c.0)) word (is c.0))

  abbrev ReadsOp : Text → (Text → Option NodeKind) → Type 0
  ReadsOp name read = (op : Text) (kind : NodeKind) → read op ≡ Some kind → IsWritten groups name (one (trees.op op)) kind

  ops_read : Each ReadsOp readers_of_op
  ops_read = (
    op_reader k.math math_ops math_name (codes "math") math_ops_so (λ o. (refl, refl, refl)),
    (
      op_reader k.integer_math integer_math_ops integer_math_name (codes "integer_math") integer_math_ops_so (λ o. (refl, refl, refl)),
      (
        op_reader k.vector_math vector_math_ops vector_math_name (codes "vector_math") vector_math_ops_so (λ o. (refl, refl, refl)),
        (
          op_reader k.boolean_math boolean_math_ops boolean_math_name (codes "boolean_math") boolean_math_ops_so (λ o. (refl, refl, refl)),
          (op_reader k.float_to_integer round_modes round_name (codes "float_to_integer") round_modes_so (λ o. (refl, refl, refl)), tt),
        ),
      ),
    ),
  )

  abbrev ReadsType : Text → (SocketKind → Option NodeKind) → Type 0
  ReadsType name read = (of : SocketKind) (kind : NodeKind) → read of ≡ Some kind → IsWritten groups name (one (trees.of_kind of)) kind

  types_read : Each ReadsType readers_of_type
  types_read = (
    λ of kind e. (let c = came_of k.mix (mix_kind_in of) kind e in
        subst (IsWritten groups (codes "mix") (one (trees.of_kind of))) c.2 (refl, ap (λ s. one (trees.of_kind s)) (mix_so of c.0 c.1), refl)),
    (
      λ of kind e. (let c = came_of k.random_value (value_kind_in of) kind e in
          subst (IsWritten groups (codes "random_value") (one (trees.of_kind of))) c.2 (refl, ap (λ s. one (trees.of_kind s)) (value_so of c.0 c.1), refl)),
      (λ of kind e. subst (IsWritten groups (codes "switch") (one (trees.of_kind of))) (some_same (k.switch of) kind e) (refl, refl, refl), tt),
    ),
  )

  bare_read : Each (λ name kind. IsWritten groups name no_settings kind) bare_kinds
  bare_read = ((refl, refl, refl), ((refl, refl, refl), ((refl, refl, refl), ((refl, refl, refl), ((refl, refl, refl), ((refl, refl, refl), ((refl, refl, refl), ((refl, refl, refl), ((refl, refl, refl), ((refl, refl, refl), ((refl, refl, refl), ((refl, refl, refl), ((refl, refl, refl), ((refl, refl, refl), ((refl, refl, refl), ((refl, refl, refl), ((refl, refl, refl), ((refl, refl, refl), ((refl, refl, refl), ((refl, refl, refl), ((refl, refl, refl), ((refl, refl, refl), ((refl, refl, refl), ((refl, refl, refl), ((refl, refl, refl), ((refl, refl, refl), ((refl, refl, refl), ((refl, refl, refl), ((refl, refl, refl), tt)))))))))))))))))))))))))))))

  abbrev ReadsPlace : Text → (Place → NodeKind) → Type 0
  ReadsPlace name kind = (p : Place) → IsWritten groups name (one (trees.place p)) (kind p)

  places_read : Each ReadsPlace kinds_by_place
  places_read = (λ p. (refl, refl, refl), (λ p. (refl, refl, refl), (λ p. (refl, refl, refl), (λ p. (refl, refl, refl), (λ p. (refl, refl, refl), tt)))))

  abbrev ReadsBoth : Text → (ValueKind → Place → NodeKind) → Type 0
  ReadsBoth name kind = (of : ValueKind) (p : Place) → IsWritten groups name (two (of_value of) (trees.place p)) (kind of p)

  both_read : Each ReadsBoth kinds_by_type_and_place
  both_read = (λ of p. (refl, refl, refl), (λ of p. (refl, refl, refl), (λ of p. (refl, refl, refl), (λ of p. (refl, refl, refl), tt))))

  -- the kind of that name alone is written so
  only_written : (word name : Text) (found : Option NodeKind) (set : Settings) (kind : NodeKind) → only word name found ≡ Some kind → (found ≡ Some kind → IsWritten groups word set kind) → IsWritten groups name set kind
  only_written word name found set kind e is =
      let c = only_so word name found kind e in
      subst (λ n. IsWritten groups n set kind) c.0 (is c.1)

  value_written : (name : Text) (v : Value) (kind : NodeKind) → kind_by_value name v ≡ Some kind → IsWritten groups name (one (trees.value v)) kind
  value_written name (value.Truth v) kind e = only_written (codes "boolean") name _ _ kind e (λ f. subst (IsWritten groups (codes "boolean") (one (trees.value (value.Truth v)))) (some_same _ kind f) (refl, refl, refl))
  value_written name (value.Int v) kind e = only_written (codes "integer") name _ _ kind e (λ f. subst (IsWritten groups (codes "integer") (one (trees.value (value.Int v)))) (some_same _ kind f) (refl, refl, refl))
  value_written name (value.Fixed v) kind e = only_written (codes "float") name _ _ kind e (λ f. subst (IsWritten groups (codes "float") (one (trees.value (value.Fixed v)))) (some_same _ kind f) (refl, refl, refl))
  value_written name (value.Vector v) kind e = only_written (codes "vector") name _ _ kind e (λ f. subst (IsWritten groups (codes "vector") (one (trees.value (value.Vector v)))) (some_same _ kind f) (refl, refl, refl))

  one_written : (name : Text) (a : Setting) (kind : NodeKind) → k.kind_by_one name a ≡ Some kind → IsWritten groups name (one a) kind
  one_written name (trees.value v) kind e = value_written name v kind e
  one_written name (trees.op op) kind e =
      let c = taken_from (λ read. read op) (named_in readers_of_op name) kind e in
      named_one ReadsOp readers_of_op name c.0 ops_read c.1 op kind c.2
  one_written name (trees.of_kind of) kind e =
      let c = taken_from (λ read. read of) (named_in readers_of_type name) kind e in
      named_one ReadsType readers_of_type name c.0 types_read c.1 of kind c.2
  one_written name (trees.place p) kind e =
      let c = came_of (λ kind. kind p) (named_in kinds_by_place name) kind e in
      subst (IsWritten groups name (one (trees.place p))) c.2 (named_one ReadsPlace kinds_by_place name c.0 places_read c.1 p)
  one_written name (trees.clamp on) kind e = only_written (codes "map_range") name _ _ kind e (λ f. subst (IsWritten groups (codes "map_range") (one (trees.clamp on))) (some_same _ kind f) (refl, refl, refl))
  one_written name (trees.a_name t) kind e = only_written (codes "remove_named_attribute") name _ _ kind e (λ f. subst (IsWritten groups (codes "remove_named_attribute") (one (trees.a_name t))) (some_same _ kind f) (refl, refl, refl))
  one_written name (trees.file t) kind e = only_written (codes "import_obj") name _ _ kind e (λ f. subst (IsWritten groups (codes "import_obj") (one (trees.file t))) (some_same _ kind f) (refl, refl, refl))
  one_written name (trees.of_group t) kind e = absurd (cc)

  comparison_written : (of : SocketKind) (op : Text) (kind : NodeKind) → option_and_then (λ c. option_map (k.compare c) (named_in compare_ops op)) (compare_kind_in of) ≡ Some kind → IsWritten groups (codes "compare") (two (trees.of_kind of) (trees.op op)) kind
  comparison_written of op kind e =
      let c = taken_from (λ c. option_map (k.compare c) (named_in compare_ops op)) (compare_kind_in of) kind e in
      let o = came_of (k.compare c.0) (named_in compare_ops op) kind c.2 in
      let word : compare_name o.0 ≡ op = named_one (λ word o. compare_name o ≡ word) compare_ops op o.0 compare_ops_so o.1 in
      subst (IsWritten groups (codes "compare") (two (trees.of_kind of) (trees.op op))) o.2 (refl, ap (λ s. two (trees.of_kind s) (trees.op (compare_name o.0))) (compare_so of c.0 c.1) ∙ ap (λ t. two (trees.of_kind of) (trees.op t)) word, refl)

  both_written : (name : Text) (of : SocketKind) (p : Place) (kind : NodeKind) → k.kind_by_type_and_place name of p ≡ Some kind → IsWritten groups name (two (trees.of_kind of) (trees.place p)) kind
  both_written name of p kind e =
      let v = taken_from (λ v. option_map (λ make. make v p) (named_in kinds_by_type_and_place name)) (value_kind_in of) kind e in
      let c = came_of (λ make. make v.0 p) (named_in kinds_by_type_and_place name) kind v.2 in
      subst (λ s. IsWritten groups name (two (trees.of_kind s) (trees.place p)) kind) (value_so of v.0 v.1)
      (subst (IsWritten groups name (two (of_value v.0) (trees.place p))) c.2 (named_one ReadsBoth kinds_by_type_and_place name c.0 both_read c.1 v.0 p))

  -- what is made of a kind of values, by the setting `type`
  by_type : (name : Text) (make : ValueKind → NodeKind) (of : SocketKind) (set : Setting → Settings) (kind : NodeKind) → option_map make (value_kind_in of) ≡ Some kind
      → ((v : ValueKind) → IsWritten groups name (set (of_value v)) (make v)) → IsWritten groups name (set (trees.of_kind of)) kind
  by_type name make of set kind e is =
      let c = came_of make (value_kind_in of) kind e in
      subst (λ s. IsWritten groups name (set (trees.of_kind s)) kind) (value_so of c.0 c.1) (subst (IsWritten groups name (set (of_value c.0))) c.2 (is c.0))

  two_written : (name : Text) (a b : Setting) (kind : NodeKind) → k.kind_by_two name a b ≡ Some kind → IsWritten groups name (two a b) kind
  two_written name (trees.value v) (trees.value v2) kind e = absurd (cc)
  two_written name (trees.value v) (trees.op t) kind e = absurd (cc)
  two_written name (trees.value v) (trees.of_kind of) kind e = absurd (cc)
  two_written name (trees.value v) (trees.place p) kind e = absurd (cc)
  two_written name (trees.value v) (trees.clamp on) kind e = absurd (cc)
  two_written name (trees.value v) (trees.a_name t) kind e = absurd (cc)
  two_written name (trees.value v) (trees.file t) kind e = absurd (cc)
  two_written name (trees.value v) (trees.of_group t) kind e = absurd (cc)
  two_written name (trees.op t) (trees.value v) kind e = absurd (cc)
  two_written name (trees.op t) (trees.op u) kind e = absurd (cc)
  two_written name (trees.op t) (trees.of_kind of) kind e = absurd (cc)
  two_written name (trees.op t) (trees.place p) kind e = absurd (cc)
  two_written name (trees.op t) (trees.clamp on) kind e = absurd (cc)
  two_written name (trees.op t) (trees.a_name u) kind e = absurd (cc)
  two_written name (trees.op t) (trees.file u) kind e = absurd (cc)
  two_written name (trees.op t) (trees.of_group u) kind e = absurd (cc)
  two_written name (trees.of_kind of) (trees.value v) kind e = absurd (cc)
  two_written name (trees.of_kind of) (trees.op u) kind e = only_written (codes "compare") name _ _ kind e (comparison_written of u kind)
  two_written name (trees.of_kind of) (trees.of_kind of2) kind e = absurd (cc)
  two_written name (trees.of_kind of) (trees.place p) kind e = both_written name of p kind e
  two_written name (trees.of_kind of) (trees.clamp on) kind e = absurd (cc)
  two_written name (trees.of_kind of) (trees.a_name t) kind e = absurd (cc)
  two_written name (trees.of_kind of) (trees.file t) kind e = absurd (cc)
  two_written name (trees.of_kind of) (trees.of_group t) kind e = absurd (cc)
  two_written name (trees.place p) (trees.value v) kind e = absurd (cc)
  two_written name (trees.place p) (trees.op t) kind e = absurd (cc)
  two_written name (trees.place p) (trees.of_kind of) kind e = absurd (cc)
  two_written name (trees.place p) (trees.place p2) kind e = absurd (cc)
  two_written name (trees.place p) (trees.clamp on) kind e = absurd (cc)
  two_written name (trees.place p) (trees.a_name t) kind e = absurd (cc)
  two_written name (trees.place p) (trees.file t) kind e = absurd (cc)
  two_written name (trees.place p) (trees.of_group t) kind e = absurd (cc)
  two_written name (trees.clamp on) (trees.value v) kind e = absurd (cc)
  two_written name (trees.clamp on) (trees.op t) kind e = absurd (cc)
  two_written name (trees.clamp on) (trees.of_kind of) kind e = absurd (cc)
  two_written name (trees.clamp on) (trees.place p) kind e = absurd (cc)
  two_written name (trees.clamp on) (trees.clamp on2) kind e = absurd (cc)
  two_written name (trees.clamp on) (trees.a_name t) kind e = absurd (cc)
  two_written name (trees.clamp on) (trees.file t) kind e = absurd (cc)
  two_written name (trees.clamp on) (trees.of_group t) kind e = absurd (cc)
  two_written name (trees.a_name t) (trees.value v) kind e = absurd (cc)
  two_written name (trees.a_name t) (trees.op u) kind e = absurd (cc)
  two_written name (trees.a_name t) (trees.of_kind of) kind e = only_written (codes "named_attribute") name _ _ kind e (λ f. by_type (codes "named_attribute") (k.named_attribute t) of (λ x. two (trees.a_name t) x) kind f (λ v. (refl, refl, refl)))
  two_written name (trees.a_name t) (trees.place p) kind e = absurd (cc)
  two_written name (trees.a_name t) (trees.clamp on) kind e = absurd (cc)
  two_written name (trees.a_name t) (trees.a_name u) kind e = absurd (cc)
  two_written name (trees.a_name t) (trees.file u) kind e = absurd (cc)
  two_written name (trees.a_name t) (trees.of_group u) kind e = absurd (cc)
  two_written name (trees.file t) (trees.value v) kind e = absurd (cc)
  two_written name (trees.file t) (trees.op u) kind e = absurd (cc)
  two_written name (trees.file t) (trees.of_kind of) kind e = absurd (cc)
  two_written name (trees.file t) (trees.place p) kind e = absurd (cc)
  two_written name (trees.file t) (trees.clamp on) kind e = absurd (cc)
  two_written name (trees.file t) (trees.a_name u) kind e = absurd (cc)
  two_written name (trees.file t) (trees.file u) kind e = absurd (cc)
  two_written name (trees.file t) (trees.of_group u) kind e = absurd (cc)
  two_written name (trees.of_group t) (trees.value v) kind e = absurd (cc)
  two_written name (trees.of_group t) (trees.op u) kind e = absurd (cc)
  two_written name (trees.of_group t) (trees.of_kind of) kind e = absurd (cc)
  two_written name (trees.of_group t) (trees.place p) kind e = absurd (cc)
  two_written name (trees.of_group t) (trees.clamp on) kind e = absurd (cc)
  two_written name (trees.of_group t) (trees.a_name u) kind e = absurd (cc)
  two_written name (trees.of_group t) (trees.file u) kind e = absurd (cc)
  two_written name (trees.of_group t) (trees.of_group u) kind e = absurd (cc)

  three_written : (name : Text) (a b c : Setting) (kind : NodeKind) → k.kind_by_three name a b c ≡ Some kind → IsWritten groups name (three a b c) kind
  three_written name (trees.value v) second third kind e = absurd (cc)
  three_written name (trees.op t) second third kind e = absurd (cc)
  three_written name (trees.of_kind of) (trees.value v) third kind e = absurd (cc)
  three_written name (trees.of_kind of) (trees.op t) third kind e = absurd (cc)
  three_written name (trees.of_kind of) (trees.of_kind of2) third kind e = absurd (cc)
  three_written name (trees.of_kind of) (trees.place p) (trees.value v) kind e = absurd (cc)
  three_written name (trees.of_kind of) (trees.place p) (trees.op t) kind e = absurd (cc)
  three_written name (trees.of_kind of) (trees.place p) (trees.of_kind of2) kind e = absurd (cc)
  three_written name (trees.of_kind of) (trees.place p) (trees.place p2) kind e = absurd (cc)
  three_written name (trees.of_kind of) (trees.place p) (trees.clamp on) kind e = only_written (codes "sample_index") name _ _ kind e (λ f. by_type (codes "sample_index") (λ v. k.sample_index v p on) of (λ x. three x (trees.place p) (trees.clamp on)) kind f (λ v. (refl, refl, refl)))
  three_written name (trees.of_kind of) (trees.place p) (trees.a_name t) kind e = absurd (cc)
  three_written name (trees.of_kind of) (trees.place p) (trees.file t) kind e = absurd (cc)
  three_written name (trees.of_kind of) (trees.place p) (trees.of_group t) kind e = absurd (cc)
  three_written name (trees.of_kind of) (trees.clamp on) third kind e = absurd (cc)
  three_written name (trees.of_kind of) (trees.a_name t) third kind e = absurd (cc)
  three_written name (trees.of_kind of) (trees.file t) third kind e = absurd (cc)
  three_written name (trees.of_kind of) (trees.of_group t) third kind e = absurd (cc)
  three_written name (trees.place p) second third kind e = absurd (cc)
  three_written name (trees.clamp on) second third kind e = absurd (cc)
  three_written name (trees.a_name t) (trees.value v) third kind e = absurd (cc)
  three_written name (trees.a_name t) (trees.op u) third kind e = absurd (cc)
  three_written name (trees.a_name t) (trees.of_kind of) (trees.value v) kind e = absurd (cc)
  three_written name (trees.a_name t) (trees.of_kind of) (trees.op u) kind e = absurd (cc)
  three_written name (trees.a_name t) (trees.of_kind of) (trees.of_kind of2) kind e = absurd (cc)
  three_written name (trees.a_name t) (trees.of_kind of) (trees.place p) kind e = only_written (codes "store_named_attribute") name _ _ kind e (λ f. by_type (codes "store_named_attribute") (λ v. k.store_named_attribute t v p) of (λ x. three (trees.a_name t) x (trees.place p)) kind f (λ v. (refl, refl, refl)))
  three_written name (trees.a_name t) (trees.of_kind of) (trees.clamp on) kind e = absurd (cc)
  three_written name (trees.a_name t) (trees.of_kind of) (trees.a_name u) kind e = absurd (cc)
  three_written name (trees.a_name t) (trees.of_kind of) (trees.file u) kind e = absurd (cc)
  three_written name (trees.a_name t) (trees.of_kind of) (trees.of_group u) kind e = absurd (cc)
  three_written name (trees.a_name t) (trees.place p) third kind e = absurd (cc)
  three_written name (trees.a_name t) (trees.clamp on) third kind e = absurd (cc)
  three_written name (trees.a_name t) (trees.a_name u) third kind e = absurd (cc)
  three_written name (trees.a_name t) (trees.file u) third kind e = absurd (cc)
  three_written name (trees.a_name t) (trees.of_group u) third kind e = absurd (cc)
  three_written name (trees.file t) second third kind e = absurd (cc)
  three_written name (trees.of_group t) second third kind e = absurd (cc)

-- the kind of a name with settings is written by that name and these settings
pub as_written : (groups : List Group) (name : Text) (set : Settings) (kind : NodeKind) → kind_with groups name set ≡ Some kind → IsWritten groups name set kind
as_written groups name no_settings kind e = named_one (λ name kind. IsWritten groups name no_settings kind) bare_kinds name kind (bare_read groups) e
as_written groups name (and_setting a no_settings) kind e = one_written groups name a kind e
as_written groups name (and_setting a (and_setting b no_settings)) kind e = two_written groups name a b kind e
as_written groups name (and_setting a (and_setting b (and_setting c no_settings))) kind e = three_written groups name a b c kind e
as_written groups name (and_setting a (and_setting b (and_setting c (and_setting d rest)))) kind e = absurd (cc)
as_written groups name (and_setting a (and_setting b (and_setting c (and_zone items nodes output rest)))) kind e = absurd (cc)
as_written groups name (and_setting a (and_setting b (and_zone items nodes output rest))) kind e = absurd (cc)
as_written groups name (and_setting a (and_zone items nodes output rest)) kind e = absurd (cc)
as_written groups name (and_zone items nodes output no_settings) kind e =
    only_written groups (codes "repeat") name _ _ kind e (λ f. subst (IsWritten groups (codes "repeat") (and_zone items nodes output no_settings)) (some_same (k.repeat items nodes output groups) kind f) (refl, refl, refl))
as_written groups name (and_zone items nodes output (and_setting a rest)) kind e = absurd (cc)
as_written groups name (and_zone items nodes output (and_zone items' nodes' output' rest)) kind e = absurd (cc)
