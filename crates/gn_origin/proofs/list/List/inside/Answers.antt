use Rattle.std.proofs.Common.{◌+◌, drop, Some, None, refl, sym, subst}
use Rattle.std.proofs.lemmas.List.{drop_all}
use Rattle.gn_tree.specs.Seen.{settings_of}
use Rattle.gn_origin.specs.Nodes.{Holds, HoldsFirst}
use Rattle.gn_origin.specs.Reading.{scope_of}
use Rattle.gn_origin.specs.declared.list.Inside.TheVariants as inside
use Rattle.gn_origin.proofs.Parts.{settings_next}
use Rattle.gn_origin.proofs.list.List.inside.Goals as goal

pub returns-in-Some : goal.returns-in-Some
returns-in-Some c has above kind =
    let sc = scope_of c.args.self above in
    let xs = c.args.settings.now in
    let i = c.loop-setting.setting-index in
    let x = c.setting-item.result in
    let first : HoldsFirst sc x (Some c.in-Some.found) = subst (HoldsFirst sc x) c.in-Some.is (c.inside_setting.ensures has above) in
    c.loop-setting.invariant has above kind c.in-Some.found
    (subst (λ set. Holds sc kind set c.in-Some.found) (sym (settings_next xs i x c.loop-setting-test.true c.setting-item.is)) (first kind (settings_of (drop (i + 1) xs))))

pub loop-setting-preserved : goal.loop-setting-preserved
loop-setting-preserved c has above kind found h =
    let sc = scope_of c.args.self above in
    let xs = c.args.settings.now in
    let i = c.loop-setting.setting-index in
    let x = c.setting-item.result in
    let first : HoldsFirst sc x None = subst (HoldsFirst sc x) c.in_default.is (c.inside_setting.ensures has above) in
    c.loop-setting.invariant has above kind found
    (subst (λ set. Holds sc kind set found) (sym (settings_next xs i x c.loop-setting-test.true c.setting-item.is)) (first kind (settings_of (drop (i + 1) xs)) found h))

pub returns : goal.returns
returns c has above kind =
    let sc = scope_of c.args.self above in
    let none = drop_all c.loop-setting.setting-index c.args.settings.now c.loop-setting-test.false in
    c.loop-setting.invariant has above kind inside.Nothing (subst (λ xs. Holds sc kind (settings_of xs) inside.Nothing) (sym none) (refl, λ side. refl))
