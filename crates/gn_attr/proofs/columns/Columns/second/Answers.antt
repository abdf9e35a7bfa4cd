use Rattle.std.proofs.Common.{◌≡◌, length, refl, ap, sym, ◌∙◌, arith, Result, Ok, Err, OnErr}
use Rattle.std.proofs.lemmas.List.{length-map}
use Rattle.std.proofs.lemmas.List.Elements.{length_all_zip}
use Rattle.gn_attr.specs.Columns.{KeepsEntry}
use Rattle.gn_attr.specs.Members.{entry_of}
use Rattle.gn_attr.proofs.Twins.{keeps_all}
use Rattle.gn_attr.proofs.MemberTwins.{member_kept, member_noted, one_more_member}
use Rattle.gn_attr.proofs.columns.Columns.second.Goals as goal

pub returns-in_err-members-clause-kept : goal.returns-in_err-members-clause-kept
returns-in_err-members-clause-kept g c = keeps_all c.args.self.now

pub loop-at-init : goal.loop-at-init
loop-at-init g c = rw (c.self.view_is, c.in_ok-members.ensures.empty) (record { kept = keeps_all _; left = refl; made = tt; counts = refl })

pub pair_mut-member-requires : goal.pair_mut-member-requires
pair_mut-member-requires g c =
    let long : length c.args.self.now ≡ length c.self.inside.members.entries = ap length (sym c.self.view_is) ∙ length-map c.self.inside.members.entries entry_of in
    let same : length c.args.self.now ≡ length c.loop-at.self-inside.members.entries = length_all_zip KeepsEntry _ _ c.loop-at.invariant.kept ∙ length-map c.loop-at.self-inside.members.entries entry_of in
    omega (arith, long, same, c.loop-at-test.true, c.len-at-end.ensures.len)

pub returns-in_err-name-clause-kept : goal.returns-in_err-name-clause-kept
returns-in_err-name-clause-kept g c = member_kept _ _ _ _ _ _ _ _ _ c.loop-at.invariant c.pair_mut-member.ensures.value c.second_member.ensures.kept

pub returns-in_err-insert-clause-kept : goal.returns-in_err-insert-clause-kept
returns-in_err-insert-clause-kept g c = member_kept _ _ _ _ _ _ _ _ _ c.loop-at.invariant c.pair_mut-member.ensures.value c.second_member.ensures.kept

on_err : {A E : Type 0} (P : Type 0) (r : Result A E) → P → OnErr r P
on_err P (Ok x) h = tt
on_err P (Err e) h = h

pub returns-in_err-insert-clause-refused : goal.returns-in_err-insert-clause-refused
returns-in_err-insert-clause-refused g c =
    on_err _ _ (member_noted _ _ _ _ _ _ _ _ _ c.loop-at.invariant c.pair_mut-member.ensures.value c.second_member.ensures.kept _ c.in_ok-name.ensures.noted)

pub loop-at-preserved : goal.loop-at-preserved
loop-at-preserved g c =
    rw c.in_ok-insert.ensures.entries (one_more_member _ _ _ _ _ _ _ _ _ c.loop-at.invariant c.pair_mut-member.ensures.value c.second_member.ensures.kept _ (c.in_ok-name.name, c.in_ok-name.twin) c.pair_mut-member.ensures.unique c.in_ok-name.ensures.twin c.in_ok-name.ensures.noted)
