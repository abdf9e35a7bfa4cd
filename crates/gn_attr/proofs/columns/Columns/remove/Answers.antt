use Rattle.std.proofs.Common.{map, is_some, ap, ◌∙◌}
use Rattle.gn_plain.specs.Columns.{entry_named, without_entry}
use Rattle.gn_attr.specs.Names.{plain_name}
use Rattle.gn_attr.specs.Members.{entry_of}
use Rattle.gn_attr.proofs.Entries.{is_there, removed_is}
use Rattle.gn_attr.proofs.columns.Columns.remove.Goals as goal

pub returns-clause-found : goal.returns-clause-found
returns-clause-found c =
    c.is_some.ensures ∙ (ap is_some c.shift_remove.ensures.value ∙ (is_there c.args.name.now c.self.inside.members.entries ∙ ap (λ es. is_some (entry_named (plain_name c.args.name.now) es)) c.self.view_is))

pub returns-clause-removed : goal.returns-clause-removed
returns-clause-removed c = ap (map entry_of) c.shift_remove.ensures.entries ∙ (removed_is c.args.name.now c.self.inside.members.entries ∙ ap (without_entry (plain_name c.args.name.now)) c.self.view_is)
