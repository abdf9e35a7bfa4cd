use Rattle.std.proofs.Common.{◌<◌, ◌∙◌, Some, sym, ap, subst}
use Rattle.std.proofs.lemmas.Option.{slice_get-get_or}
use Rattle.gn_lower.proofs.Granted.{row_there}
use Rattle.gn_lower.proofs.unfold.Unfolding.unfold.Goals as goal

pub index-row-requires : goal.index-row-requires
index-row-requires c = subst (λ k. c.args.number < k) (sym c.args.self.now.visit.table.now.rows.ok.0) (row_there c.args.self.now c.requires.stands c.args.number c.requires.next)

pub add-requires-clause-next : goal.add-requires-clause-next
add-requires-clause-next c =
    let within = row_there c.args.self.now c.requires.stands c.args.number c.requires.next in
    ((c.requires.next, slice_get-get_or c.args.self.now.visit.table.now.rows.items c.args.number c.index-row.result.now within ∙ ap Some (sym c.index-row.ensures)), c.in-Run.is)

pub enter-requires-clause-next : goal.enter-requires-clause-next
enter-requires-clause-next c =
    let within = row_there c.args.self.now c.requires.stands c.args.number c.requires.next in
    ((c.requires.next, slice_get-get_or c.args.self.now.visit.table.now.rows.items c.args.number c.index-row.result.now within ∙ ap Some (sym c.index-row.ensures)), c.in-Group.is)
