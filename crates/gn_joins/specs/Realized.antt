-- Geometry whose instances are realised: what each places is there itself.
use Rattle.std.specs.Prelude.{ℕ, suc, ◌==◌, List, [], ◌∷◌, ◌++◌, length, replicate, is_some, if◌then◌else◌}
use Rattle.gn_value.specs.declared.value.Place.{Place}
use Rattle.gn_value.specs.declared.value.Place.TheVariants as place
use Rattle.gn_plain.specs.Columns.{Column, Values, entry_named, kind_of_values, value_of}
use Rattle.gn_plain.specs.Geometry.{Mesh, Cloud, Geometry, Instances, with_columns, Placed, none_placed, and_placed, no_instances}
use Rattle.gn_joins.specs.Joins.{joined, values_in}
use Rattle.gn_joins.specs.Transforms.{moved}

-- the value of an instance, `count` times
abbrev pub repeated : ℕ → ℕ → Values → Values
repeated count k values = values_in (kind_of_values values) (replicate count (value_of values k))

-- columns, and behind them those of an instance by whose names there is none
abbrev pub with_handed : Place → ℕ → ℕ → List Column → List Column → List Column
with_handed p count k own [] = own
with_handed p count k own (c ∷ cs) =
    with_handed p count k (if is_some (entry_named c.name own) then own else own ++ record { name = c.name; place = p; column = repeated count k c.column } ∷ []) cs

-- where there is an element the instance's columns are handed on
abbrev pub handed_to : Place → ℕ → ℕ → List Column → List Column → List Column
handed_to p count k own columns = if count == 0 then own else with_handed p count k own columns

-- a part, to whose vertices and points instance k hands its columns
abbrev pub with_columns_of : ℕ → List Column → Geometry → Geometry
with_columns_of k columns g = record {
  mesh = record { shape = g.mesh.shape; columns = handed_to place.Point (length g.mesh.shape.points) k g.mesh.columns columns };
  cloud = record { points = g.cloud.points; columns = handed_to place.Cloud (length g.cloud.points) k g.cloud.columns columns };
  instances = g.instances;
}

abbrev mutual
  -- the join of what is there itself and of what the instances place, realised and then moved
  pub realized_of : Mesh → Cloud → Instances → Geometry
  realized_of mesh cloud (with_columns placed columns) = joined (record { mesh = mesh; cloud = cloud; instances = no_instances } ∷ realized_parts columns 0 placed)

  -- of instances from a number on
  pub realized_parts : List Column → ℕ → Placed → List Geometry
  realized_parts columns k none_placed = []
  realized_parts columns k (and_placed t mesh cloud instances placed) = with_columns_of k columns (moved t (realized_of mesh cloud instances)) ∷ realized_parts columns (suc k) placed

abbrev pub realized : Geometry → Geometry
realized g = realized_of g.mesh g.cloud g.instances
