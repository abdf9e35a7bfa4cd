use Rattle.std.proofs.Common.{◌≡◌, option_map, is_some}
use Rattle.gn_kinds.specs.Seen.{row_of}
use Rattle.serde_json.specs.View.{members_view}
use Rattle.gn_form.specs.Form as is
use Rattle.gn_form.specs.Seen.{form_of}
use Rattle.gn_form.proofs.key.is_known.Given as goal

abbrev pub invariant-loop-key : goal.invariant-loop-key
invariant-loop-key l =
    is.all_keys (λ k. is_some (is.member_form (form_of l.form) (option_map (λ row. row_of row.now) l.row) k)) (members_view l.key-iterator)
    ≡ is.all_keys (λ k. is_some (is.member_form (form_of l.form) (option_map (λ row. row_of row.now) l.row) k)) (members_view l.members.entries)
