use Rattle.std.proofs.Common.{option_map, ap, ◌∙◌}
use Rattle.gn_plain.specs.Columns.{entry_named}
use Rattle.gn_attr.specs.Names.{plain_name}
use Rattle.gn_attr.specs.Columns.{found_of}
use Rattle.gn_attr.proofs.Entries.{shown, found_is}
use Rattle.gn_attr.proofs.columns.Columns.get.Goals as goal

pub returns-in_err-member : goal.returns-in_err-member
returns-in_err-member c =
    rw c.from_residual.ensures (ap (option_map shown) c.in_err-member.ensures.value ∙ (found_is c.args.name.now c.self.inside.members.entries ∙ ap (λ es. option_map found_of (entry_named (plain_name c.args.name.now) es)) c.self.view_is))

pub returns : goal.returns
returns c = ap (option_map shown) c.in_ok-member.ensures.value ∙ (found_is c.args.name.now c.self.inside.members.entries ∙ ap (λ es. option_map found_of (entry_named (plain_name c.args.name.now) es)) c.self.view_is)
