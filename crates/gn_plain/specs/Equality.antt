-- Which values, places and operations are the same.
use Rattle.std.specs.Prelude.{Bool}
use Rattle.gn_value.specs.declared.value.Place.{Place}
use Rattle.gn_value.specs.declared.value.Value.{Value}
use Rattle.gn_value.specs.declared.value.ValueKind.{ValueKind}
use Rattle.gn_value.specs.declared.op.Op.{Op}
use Rattle.gn_value.specs.contracts.value.PlacePartialEq.TheImpl as place_equality
use Rattle.gn_value.specs.contracts.value.ValuePartialEq.TheImpl as value_equality
use Rattle.gn_value.specs.contracts.value.ValueKindPartialEq.TheImpl as kind_equality
use Rattle.gn_value.specs.contracts.op.OpPartialEq.TheImpl as op_equality

abbrev pub same_place : Place → Place → Bool
same_place = place_equality.ghosts.eq

abbrev pub same_value : Value → Value → Bool
same_value = value_equality.ghosts.eq

abbrev pub same_kind : ValueKind → ValueKind → Bool
same_kind = kind_equality.ghosts.eq

-- with the same settings
abbrev pub same_op : Op → Op → Bool
same_op = op_equality.ghosts.eq
