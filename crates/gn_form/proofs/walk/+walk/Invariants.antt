use Rattle.std.proofs.Common.{◌≡◌, drop, option_map}
use Rattle.gn_kinds.specs.Seen.{row_of}
use Rattle.serde_json.specs.View.{items_view, members_view}
use Rattle.gn_form.specs.Form as is
use Rattle.gn_form.specs.Walk as walk
use Rattle.gn_form.specs.Seen.{form_of}
use Rattle.gn_form.proofs.walk.+walk.Given as goal

abbrev pub invariant-first_item-loop-item : goal.invariant-first_item-loop-item
invariant-first_item-loop-item l =
    (l.index ≡ l.item-index)
    × (walk.first_item (form_of l.form) l.item-index (items_view (drop l.item-index l.item-items)) ≡ walk.first_item (form_of l.form) 0 (items_view l.item-items))

abbrev pub invariant-first_member-loop-key : goal.invariant-first_member-loop-key
invariant-first_member-loop-key l =
    walk.first_member (is.member_form (form_of l.form) (option_map (λ row. row_of row.now) l.row)) (members_view l.key-iterator)
    ≡ walk.first_member (is.member_form (form_of l.form) (option_map (λ row. row_of row.now) l.row)) (members_view l.members.entries)
