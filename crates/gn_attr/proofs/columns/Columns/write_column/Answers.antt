use Rattle.std.proofs.Common.{is_some, option_map, ap, ◌∙◌, Result, Ok, Err, OnOk, OnErr, refl}
use Rattle.gn_plain.specs.Columns.{entry_named}
use Rattle.gn_attr.specs.Names.{plain_name}
use Rattle.gn_attr.specs.Columns.{values_of, found_of}
use Rattle.gn_attr.specs.Writing.{AreAlike}
use Rattle.gn_attr.specs.declared.columns.Member.{Member}
use Rattle.gn_attr.proofs.Entries.{shown, found_is, is_there, of_found, is_written, is_unwritten}
use Rattle.gn_attr.proofs.columns.Columns.write_column.Goals as goal

pub returns-in_err-member-clause-found : goal.returns-in_err-member-clause-found
returns-in_err-member-clause-found g c =
    rw c.from_residual.ensures (ap is_some c.in_err-member.ensures.value ∙ (is_there c.args.name.now c.self.inside.members.entries ∙ ap (λ es. is_some (entry_named (plain_name c.args.name.now) es)) c.self.view_is))

pub write-requires-clause-alike : goal.write-requires-clause-alike
write-requires-clause-alike g c =
    let n = plain_name c.args.name.now in
    let found = ap (option_map shown) c.in_ok-member.ensures.value ∙ (found_is c.args.name.now c.self.inside.members.entries ∙ ap (λ es. option_map found_of (entry_named n es)) c.self.view_is) in
    of_found (λ column. AreAlike (values_of c.args.values.now) (values_of column)) (entry_named n c.args.self.now) (shown c.in_ok-member.member.now) found c.requires.alike

pub returns-clause-found : goal.returns-clause-found
returns-clause-found g c = ap is_some c.in_ok-member.ensures.value ∙ (is_there c.args.name.now c.self.inside.members.entries ∙ ap (λ es. is_some (entry_named (plain_name c.args.name.now) es)) c.self.view_is)

on_ok : {A E : Type 0} (P Q R S : Type 0) (r : Result A E) → OnOk r P → OnOk r Q → OnOk r R → (P → Q → R → S) → OnOk r S
on_ok P Q R S (Ok x) p q r all = all p q r
on_ok P Q R S (Err e) p q r all = tt

on_err : {A E : Type 0} (P Q : Type 0) (r : Result A E) → OnErr r P → (P → Q) → OnErr r Q
on_err P Q (Ok x) p all = tt
on_err P Q (Err e) p all = all p

pub returns-clause-written : goal.returns-clause-written
returns-clause-written g c =
    let m = c.in_ok-member.member.now in
    let w : Member = record { place = m.place; column = c.write.new.self } in
    on_ok _ _ _ _ c.write.result c.write.ensures.values c.write.ensures.sole c.write.ensures.noted (λ chosen sole noted.
    rw (← c.self.view_is) (is_written c.args.name.now m w c.self.inside.members.entries (c.get_mut.follows.lender w).entries c.args.selected.now (values_of c.args.values.now) c.args.meter.now c.write.new.meter
    c.in_ok-member.ensures.value (c.get_mut.follows.holds w).0 refl chosen sole noted))

pub returns-clause-refused : goal.returns-clause-refused
returns-clause-refused g c =
    let m = c.in_ok-member.member.now in
    let w : Member = record { place = m.place; column = c.write.new.self } in
    on_err _ _ c.write.result c.write.ensures.refused (λ same.
    (is_unwritten c.args.name.now m w c.self.inside.members.entries (c.get_mut.follows.lender w).entries c.in_ok-member.ensures.value (c.get_mut.follows.holds w).0 refl same.0 ∙ c.self.view_is, same.1))
