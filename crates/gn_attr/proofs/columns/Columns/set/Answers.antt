use Rattle.std.proofs.Common.{◌≡◌, map, None, ap, ◌∙◌, subst}
use Rattle.gn_plain.specs.Columns.{entry_named, with_entry}
use Rattle.gn_attr.specs.Names.{plain_name}
use Rattle.gn_attr.specs.Members.{entry_of}
use Rattle.gn_attr.proofs.Entries.{inserted_is, is_absent}
use Rattle.gn_attr.proofs.columns.Columns.set.Goals as goal

pub returns-in-Ok-clause-ok : goal.returns-in-Ok-clause-ok
returns-in-Ok-clause-ok c =
    ap (map entry_of) c.in-Ok.ensures.entries
    ∙ (inserted_is c.args.name (record { place = c.args.place; column = c.args.column }) c.self.inside.members.entries
    ∙ ap (with_entry (record { name = plain_name c.args.name; place = c.args.place; column = c.args.column })) c.self.view_is)

pub returns-clause-is_new : goal.returns-clause-is_new
returns-clause-is_new c = subst (λ es. entry_named (plain_name c.args.name) es ≡ None) c.self.view_is (is_absent c.args.name c.self.inside.members.entries c.in-Err.ensures.absent)
