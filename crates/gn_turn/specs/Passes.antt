-- What clauses see of a pass and of the turn that it belongs to.
use Rattle.std.specs.Prelude.{◌≡◌}
use Rattle.gn_turn.specs.declared.view.View.{View}
use Rattle.gn_turn.specs.declared.pass.Pass.{Pass}
use Rattle.gn_turn.specs.declared.pass.Turn.{Turn}

abbrev pub view_of : {S J E : Type 0} {g : _} → Pass S J E g → View J E
view_of p = p.seat.me.0

-- the pass is of this turn
abbrev pub IsOf : {S J E : Type 0} {g : _} → Turn S J E → Pass S J E g → Type 0
IsOf t p = p.seat.table_id ≡ t.table.shared.table_id

-- the pass is still of the turn that it was of
abbrev pub IsSame : {S J E : Type 0} {g : _} → Pass S J E g → Pass S J E g → Type 0
IsSame old new = new.seat.table_id ≡ old.seat.table_id
