-- The different subtrees of fields.
use Rattle.std.specs.Prelude.{ℕ, ◌&&◌, not, Bool, true, false, List, [], ◌∷◌, ◌++◌, length, filter, flat_map, bytes_eq}
use Rattle.gn_node_set.specs.Paths.{same_path}
use Rattle.gn_plain.specs.Equality.{same_value, same_kind, same_place, same_op}
use Rattle.gn_plain.specs.Columns.{same_name}
use Rattle.gn_plain.specs.Contexts.{Input, position, index, id, normal, column, exists, edge_index_1, edge_index_2, edge_position_1, edge_position_2, vertex_edges, vertex_faces}
use Rattle.gn_plain.specs.Fields.{Part, leading, trailing, total, Step, accumulate, at_index, on_domain, Expr, constant, input, apply, elsewhere, sampled, Exprs, none, and_one}

abbrev pub same_input : Input → Input → Bool
same_input position position = true
same_input index index = true
same_input id id = true
same_input normal normal = true
same_input (column name kind) (column other to) = same_name name other && same_kind kind to
same_input (exists name) (exists other) = bytes_eq name other
same_input edge_index_1 edge_index_1 = true
same_input edge_index_2 edge_index_2 = true
same_input edge_position_1 edge_position_1 = true
same_input edge_position_2 edge_position_2 = true
same_input vertex_edges vertex_edges = true
same_input vertex_faces vertex_faces = true
same_input _ _ = false

abbrev pub same_part : Part → Part → Bool
same_part leading leading = true
same_part trailing trailing = true
same_part total total = true
same_part _ _ = false

abbrev pub same_step : Step → Step → Bool
same_step (accumulate kind p part) (accumulate to q other) = same_kind kind to && same_place p q && same_part part other
same_step (at_index kind p) (at_index to q) = same_kind kind to && same_place p q
same_step (on_domain kind p) (on_domain to q) = same_kind kind to && same_place p q
same_step _ _ = false

module _ {S : Type 0} where
  abbrev mutual
    -- the same operation on the same arguments; sampled fields go by the path of the node that made them, not by their sources
    pub same_field : Expr S → Expr S → Bool
    same_field (constant v) (constant w) = same_value v w
    same_field (input x) (input y) = same_input x y
    same_field (apply op es) (apply other fs) = same_op op other && same_fields es fs
    same_field (elsewhere step es) (elsewhere other fs) = same_step step other && same_fields es fs
    same_field (sampled p source e) (sampled q other f) = same_path p q && same_field e f
    same_field _ _ = false

    pub same_fields : Exprs S → Exprs S → Bool
    same_fields none none = true
    same_fields (and_one e es) (and_one f fs) = same_field e f && same_fields es fs
    same_fields _ _ = false

  abbrev mutual
    -- those of its arguments, and the field itself
    pub subtrees : Expr S → List (Expr S)
    subtrees (constant v) = constant v ∷ []
    subtrees (input x) = input x ∷ []
    subtrees (apply op es) = subtrees_in es ++ apply op es ∷ []
    subtrees (elsewhere step es) = subtrees_in es ++ elsewhere step es ∷ []
    subtrees (sampled p source e) = subtrees e ++ sampled p source e ∷ []

    pub subtrees_in : Exprs S → List (Expr S)
    subtrees_in none = []
    subtrees_in (and_one e es) = subtrees e ++ subtrees_in es

  -- each field once
  abbrev pub each_once : List (Expr S) → List (Expr S)
  each_once [] = []
  each_once (e ∷ es) = e ∷ filter (λ f. not (same_field e f)) (each_once es)

  -- the different subtrees of fields, and their number
  abbrev pub different : List (Expr S) → List (Expr S)
  different es = each_once (flat_map subtrees es)

  abbrev pub count_different : List (Expr S) → ℕ
  count_different es = length (different es)
