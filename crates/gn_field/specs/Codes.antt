-- How the logic stores a field.
use Rattle.std.specs.Prelude.{◌≡◌, ◌==◌, ◌⊎◌, ℕ, List, refl, if◌then◌else◌}
use Rattle.std.proofs.Common.{ap, inl, inr}
use Rattle.std.specs.Coded.{Coded, code_by, coded×, coded⊎, coded_ℕ, coded_list}
use base.Stored.{Gv, gnil, gnum, gcons}
use Rattle.gn_value.specs.declared.value.Value.{Value}
use Rattle.gn_value.specs.declared.value.ValueKind.{ValueKind}
use Rattle.gn_value.specs.declared.value.Place.{Place}
use Rattle.gn_value.specs.declared.op.Op.{Op}
use Rattle.gn_value.specs.contracts.value.Value as value_row
use Rattle.gn_value.specs.contracts.value.ValueKind as kind_row
use Rattle.gn_value.specs.contracts.value.Place as place_row
use Rattle.gn_value.specs.contracts.op.Op as op_row
use Rattle.gn_lazy.specs.contracts.path.PathStep as path_step_row
use Rattle.gn_node_set.specs.Paths.{Path}
use Rattle.gn_plain.specs.Columns.{Name, named, anonymous}
use Rattle.gn_plain.specs.Contexts.{Input, position, index, id, normal, column, exists, edge_index_1, edge_index_2, edge_position_1, edge_position_2, vertex_edges, vertex_faces}
use Rattle.gn_plain.specs.Fields.{leading, trailing, total, Step, accumulate, at_index, on_domain, Expr, constant, input, apply, elsewhere, sampled, Exprs, none, and_one}

abbrev head : Gv → Gv
head gnil = gnil
head (gnum n) = gnil
head (gcons a b) = a

abbrev tail : Gv → Gv
tail gnil = gnil
tail (gnum n) = gnil
tail (gcons a b) = b

abbrev path_code : Coded Path
path_code = coded_list path_step_row.the_row.coded

-- ---- names and inputs

abbrev NameParts : Type 0
NameParts = List ℕ ⊎ (Path × ℕ)

abbrev name_parts : Name → NameParts
name_parts (named text) = inl text
name_parts (anonymous path socket) = inr (path, socket)

abbrev name_of_parts : NameParts → Name
name_of_parts (inl text) = named text
name_of_parts (inr p) = anonymous p.0 p.1

pub name_back : (x : Name) → name_of_parts (name_parts x) ≡ x
name_back (named text) = refl
name_back (anonymous path socket) = refl

abbrev name_code : Coded Name
name_code = code_by NameParts (coded⊎ (coded_list coded_ℕ) (coded× path_code coded_ℕ)) name_parts name_of_parts name_back

-- a number, a column or the name of one
abbrev InputParts : Type 0
InputParts = ℕ ⊎ ((Name × ValueKind) ⊎ List ℕ)

abbrev input_parts : Input → InputParts
input_parts position = inl 0
input_parts index = inl 1
input_parts id = inl 2
input_parts normal = inl 3
input_parts edge_index_1 = inl 4
input_parts edge_index_2 = inl 5
input_parts edge_position_1 = inl 6
input_parts edge_position_2 = inl 7
input_parts vertex_edges = inl 8
input_parts vertex_faces = inl 9
input_parts (column name kind) = inr (inl (name, kind))
input_parts (exists name) = inr (inr name)

abbrev numbered_input : ℕ → Input
numbered_input n = if n == 0 then position else (if n == 1 then index else (if n == 2 then id else (if n == 3 then normal else (if n == 4 then edge_index_1 else (if n == 5 then edge_index_2 else (if n == 6 then edge_position_1 else (if n == 7 then edge_position_2 else (if n == 8 then vertex_edges else vertex_faces))))))))

abbrev input_of_parts : InputParts → Input
input_of_parts (inl n) = numbered_input n
input_of_parts (inr (inl p)) = column p.0 p.1
input_of_parts (inr (inr name)) = exists name

pub input_back : (x : Input) → input_of_parts (input_parts x) ≡ x
input_back position = refl
input_back index = refl
input_back id = refl
input_back normal = refl
input_back edge_index_1 = refl
input_back edge_index_2 = refl
input_back edge_position_1 = refl
input_back edge_position_2 = refl
input_back vertex_edges = refl
input_back vertex_faces = refl
input_back (column name kind) = refl
input_back (exists name) = refl

abbrev input_code : Coded Input
input_code = code_by InputParts (coded⊎ coded_ℕ (coded⊎ (coded× name_code kind_row.the_row.coded) (coded_list coded_ℕ))) input_parts input_of_parts input_back

-- ---- steps: a number for what they do, the kind and the place

abbrev StepParts : Type 0
StepParts = ℕ × (ValueKind × Place)

abbrev step_parts : Step → StepParts
step_parts (accumulate kind place leading) = (0, (kind, place))
step_parts (accumulate kind place trailing) = (1, (kind, place))
step_parts (accumulate kind place total) = (2, (kind, place))
step_parts (at_index kind place) = (3, (kind, place))
step_parts (on_domain kind place) = (4, (kind, place))

abbrev step_of_parts : StepParts → Step
step_of_parts p =
    if p.0 == 0 then accumulate p.1.0 p.1.1 leading else (if p.0 == 1 then accumulate p.1.0 p.1.1 trailing else (if p.0 == 2 then accumulate p.1.0 p.1.1 total else (if p.0 == 3 then at_index p.1.0 p.1.1 else on_domain p.1.0 p.1.1)))

pub step_back : (x : Step) → step_of_parts (step_parts x) ≡ x
step_back (accumulate kind place leading) = refl
step_back (accumulate kind place trailing) = refl
step_back (accumulate kind place total) = refl
step_back (at_index kind place) = refl
step_back (on_domain kind place) = refl

abbrev step_code : Coded Step
step_code = code_by StepParts (coded× coded_ℕ (coded× kind_row.the_row.coded place_row.the_row.coded)) step_parts step_of_parts step_back

-- ---- fields

abbrev value_code : Coded Value
value_code = value_row.the_row.coded

abbrev op_code : Coded Op
op_code = op_row.the_row.coded

module _ {S : Type 0} (s : Coded S) where
  abbrev mutual
    pub expr_gv : Expr S → Gv
    expr_gv (constant v) = gcons (gnum 0) (value_code.code v)
    expr_gv (input x) = gcons (gnum 1) (input_code.code x)
    expr_gv (apply op es) = gcons (gnum 2) (gcons (op_code.code op) (exprs_gv es))
    expr_gv (elsewhere x es) = gcons (gnum 3) (gcons (step_code.code x) (exprs_gv es))
    expr_gv (sampled path source e) = gcons (gnum 4) (gcons (path_code.code path) (gcons (s.code source) (expr_gv e)))

    pub exprs_gv : Exprs S → Gv
    exprs_gv none = gnil
    exprs_gv (and_one e es) = gcons (expr_gv e) (exprs_gv es)

  mutual
    pub expr_inj : (x y : Expr S) → expr_gv x ≡ expr_gv y → x ≡ y
    expr_inj (constant v) (constant w) e = ap constant (value_code.inj v w (ap tail e))
    expr_inj (input v) (input w) e = ap input (input_code.inj v w (ap tail e))
    expr_inj (apply f xs) (apply g ys) e = λ i. apply (op_code.inj f g (ap (λ v. head (tail v)) e) i) (exprs_inj xs ys (ap (λ v. tail (tail v)) e) i)
    expr_inj (elsewhere f xs) (elsewhere g ys) e = λ i. elsewhere (step_code.inj f g (ap (λ v. head (tail v)) e) i) (exprs_inj xs ys (ap (λ v. tail (tail v)) e) i)
    expr_inj (sampled p a x) (sampled q b y) e =
        λ i. sampled (path_code.inj p q (ap (λ v. head (tail v)) e) i) (s.inj a b (ap (λ v. head (tail (tail v))) e) i) (expr_inj x y (ap (λ v. tail (tail (tail v))) e) i)
    expr_inj _ _ e = cc

    pub exprs_inj : (x y : Exprs S) → exprs_gv x ≡ exprs_gv y → x ≡ y
    exprs_inj none none e = refl
    exprs_inj (and_one x xs) (and_one y ys) e = λ i. and_one (expr_inj x y (ap head e) i) (exprs_inj xs ys (ap tail e) i)
    exprs_inj _ _ e = cc

  abbrev pub expr_code : Coded (Expr S)
  expr_code = record { code = expr_gv; inj = expr_inj }
