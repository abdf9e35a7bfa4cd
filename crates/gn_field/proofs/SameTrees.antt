-- The test of equality on trees answers exactly where two are the same.
use Rattle.std.proofs.Common.{◌≡◌, true, ◌&&◌, ◌==◌, refl, ap}
use Rattle.std.proofs.lemmas.Bool.Decides.{Decides-eqb}
use Rattle.std.proofs.lemmas.Slice.Eq.{bytes_eq-Decides}
use Rattle.gn_value.specs.declared.value.ValueKind.{ValueKind}
use Rattle.gn_node_set.specs.Paths.{same_path}
use Rattle.gn_plain.specs.Equality.{same_kind, same_place, same_op}
use Rattle.gn_plain.specs.Columns.{Name, same_name, named, anonymous}
use Rattle.gn_plain.specs.Contexts.{Input, position, index, id, normal, column, exists, edge_index_1, edge_index_2, edge_position_1, edge_position_2, vertex_edges, vertex_faces}
use Rattle.gn_plain.specs.Fields.{Part, leading, trailing, total, Step, accumulate, at_index, on_domain, constant, input, apply, elsewhere, sampled, Exprs, none, and_one}
use Rattle.gn_plain.specs.Subtrees.{same_input, same_part, same_step, same_field, same_fields}
use Rattle.gn_field.specs.Trees.{Tree}
use Rattle.gn_field.proofs.Same.{both, both_true, value_decides, op_decides, kind_decides, place_decides, plain_path_decides}

name_is : (a b : Name) → same_name a b ≡ true → a ≡ b
name_is (named x) (named y) e = ap named ((bytes_eq-Decides x y).0 e)
name_is (anonymous p m) (anonymous q n) e =
    let t = both (same_path p q) (m == n) e in
    let f = (plain_path_decides p q).0 t.0 in
    let g = (Decides-eqb m n).0 t.1 in
    λ i. anonymous (f i) (g i)
name_is _ _ e = cc

name_self : (a : Name) → same_name a a ≡ true
name_self (named x) = (bytes_eq-Decides x x).1 refl
name_self (anonymous p m) = both_true (same_path p p) (m == m) ((plain_path_decides p p).1 refl) ((Decides-eqb m m).1 refl)

kind_self : (a : ValueKind) → same_kind a a ≡ true
kind_self a = (kind_decides a a).1 refl

input_is : (a b : Input) → same_input a b ≡ true → a ≡ b
input_is position position e = refl
input_is index index e = refl
input_is id id e = refl
input_is normal normal e = refl
input_is (column x a) (column y b) e =
    let t = both (same_name x y) (same_kind a b) e in
    let f = name_is x y t.0 in
    let g = (kind_decides a b).0 t.1 in
    λ i. column (f i) (g i)
input_is (exists x) (exists y) e = ap exists ((bytes_eq-Decides x y).0 e)
input_is edge_index_1 edge_index_1 e = refl
input_is edge_index_2 edge_index_2 e = refl
input_is edge_position_1 edge_position_1 e = refl
input_is edge_position_2 edge_position_2 e = refl
input_is vertex_edges vertex_edges e = refl
input_is vertex_faces vertex_faces e = refl
input_is _ _ e = cc

input_self : (a : Input) → same_input a a ≡ true
input_self (column x a) = both_true (same_name x x) (same_kind a a) (name_self x) (kind_self a)
input_self (exists x) = (bytes_eq-Decides x x).1 refl
input_self _ = refl

part_is : (a b : Part) → same_part a b ≡ true → a ≡ b
part_is leading leading e = refl
part_is trailing trailing e = refl
part_is total total e = refl
part_is _ _ e = cc

part_self : (a : Part) → same_part a a ≡ true
part_self leading = refl
part_self trailing = refl
part_self total = refl

step_is : (a b : Step) → same_step a b ≡ true → a ≡ b
step_is (accumulate a c x) (accumulate b d y) e =
    let t = both (same_kind a b && same_place c d) (same_part x y) e in
    let u = both (same_kind a b) (same_place c d) t.0 in
    let f = (kind_decides a b).0 u.0 in
    let g = (place_decides c d).0 u.1 in
    let h = part_is x y t.1 in
    λ i. accumulate (f i) (g i) (h i)
step_is (at_index a c) (at_index b d) e =
    let t = both (same_kind a b) (same_place c d) e in
    let f = (kind_decides a b).0 t.0 in
    let g = (place_decides c d).0 t.1 in
    λ i. at_index (f i) (g i)
step_is (on_domain a c) (on_domain b d) e =
    let t = both (same_kind a b) (same_place c d) e in
    let f = (kind_decides a b).0 t.0 in
    let g = (place_decides c d).0 t.1 in
    λ i. on_domain (f i) (g i)
step_is _ _ e = cc

step_self : (a : Step) → same_step a a ≡ true
step_self (accumulate a c x) =
    both_true (same_kind a a && same_place c c) (same_part x x) (both_true (same_kind a a) (same_place c c) (kind_self a) ((place_decides c c).1 refl)) (part_self x)
step_self (at_index a c) = both_true (same_kind a a) (same_place c c) (kind_self a) ((place_decides c c).1 refl)
step_self (on_domain a c) = both_true (same_kind a a) (same_place c c) (kind_self a) ((place_decides c c).1 refl)

mutual
  pub field_is : (a b : Tree) → same_field a b ≡ true → a ≡ b
  field_is (constant v) (constant w) e = ap constant ((value_decides v w).0 e)
  field_is (input x) (input y) e = ap input (input_is x y e)
  field_is (apply f es) (apply g fs) e =
      let t = both (same_op f g) (same_fields es fs) e in
      let p = (op_decides f g).0 t.0 in
      let q = fields_are es fs t.1 in
      λ i. apply (p i) (q i)
  field_is (elsewhere f es) (elsewhere g fs) e =
      let t = both (same_step f g) (same_fields es fs) e in
      let p = step_is f g t.0 in
      let q = fields_are es fs t.1 in
      λ i. elsewhere (p i) (q i)
  field_is (sampled p s x) (sampled q r y) e =
      let t = both (same_path p q) (same_field x y) e in
      let f = (plain_path_decides p q).0 t.0 in
      let g = field_is x y t.1 in
      λ i. sampled (f i) tt (g i)
  field_is _ _ e = cc

  fields_are : (es fs : Exprs (Unit {0})) → same_fields es fs ≡ true → es ≡ fs
  fields_are none none e = refl
  fields_are (and_one x es) (and_one y fs) e =
      let t = both (same_field x y) (same_fields es fs) e in
      let p = field_is x y t.0 in
      let q = fields_are es fs t.1 in
      λ i. and_one (p i) (q i)
  fields_are _ _ e = cc

mutual
  pub field_self : (a : Tree) → same_field a a ≡ true
  field_self (constant v) = (value_decides v v).1 refl
  field_self (input x) = input_self x
  field_self (apply f es) = both_true (same_op f f) (same_fields es es) ((op_decides f f).1 refl) (fields_self es)
  field_self (elsewhere f es) = both_true (same_step f f) (same_fields es es) (step_self f) (fields_self es)
  field_self (sampled p s x) = both_true (same_path p p) (same_field x x) ((plain_path_decides p p).1 refl) (field_self x)

  fields_self : (es : Exprs (Unit {0})) → same_fields es es ≡ true
  fields_self none = refl
  fields_self (and_one x es) = both_true (same_field x x) (same_fields es es) (field_self x) (fields_self es)
