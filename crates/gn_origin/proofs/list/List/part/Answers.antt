use Rattle.std.proofs.Common.{codes, sym, ◌∙◌, ap, subst}
use Rattle.std.specs.Prelude.{bytes_eq}
use Rattle.gn_tree.specs.Nodes.{kind_in, settings_in}
use Rattle.gn_origin.specs.Nodes.{Holds}
use Rattle.gn_origin.specs.Reading.{scope_of}
use Rattle.gn_origin.specs.declared.list.Inside.TheVariants as inside
use Rattle.gn_origin.proofs.Others.{settings_form, not_group, a_zone, is_text}
use Rattle.gn_origin.proofs.list.List.part.Goals as goal

pub returns-then-eq : goal.returns-then-eq
returns-then-eq c has above form =
    let sc = scope_of c.args.self above in
    let x = c.args.node.now in
    let held : Holds sc (kind_in x) (settings_in x) c.inside.result = subst (λ set. Holds sc (kind_in x) set c.inside.result) c.settings.ensures (c.inside.ensures has above (kind_in x)) in
    (sym c.kind.ensures ∙ is_text c.kind.result.now (codes "group") (sym c.eq.ensures ∙ c.if-eq.true), subst (Holds sc (kind_in x) (settings_in x)) c.in-Group.is held)

pub returns-then-eq-2 : goal.returns-then-eq-2
returns-then-eq-2 c has above form =
    let sc = scope_of c.args.self above in
    let x = c.args.node.now in
    let held : Holds sc (kind_in x) (settings_in x) c.inside.result = subst (λ set. Holds sc (kind_in x) set c.inside.result) c.settings.ensures (c.inside.ensures has above (kind_in x)) in
    (sym c.kind-in-Nothing.ensures ∙ is_text c.kind-in-Nothing.result.now (codes "set_position") (sym c.eq-in-Nothing.ensures ∙ c.if-eq-2.true), subst (Holds sc (kind_in x) (settings_in x)) c.in-Nothing.is held)

pub returns-else-eq : goal.returns-else-eq
returns-else-eq c has above form way i =
    let sc = scope_of c.args.self above in
    let x = c.args.node.now in
    let held : Holds sc (kind_in x) (settings_in x) (inside.Group c.in-Group.group) = subst (Holds sc (kind_in x) (settings_in x)) c.in-Group.is (subst (λ set. Holds sc (kind_in x) set c.inside.result) c.settings.ensures (c.inside.ensures has above (kind_in x))) in
    not_group sc way i x _ (ap (λ k. bytes_eq k (codes "group")) (sym c.kind.ensures) ∙ (sym c.eq.ensures ∙ c.if-eq.false)) held.2

pub returns-in-Zone : goal.returns-in-Zone
returns-in-Zone c has above form way i =
    let sc = scope_of c.args.self above in
    let x = c.args.node.now in
    let held : Holds sc (kind_in x) (settings_in x) inside.Zone = subst (Holds sc (kind_in x) (settings_in x)) c.in-Zone.is (subst (λ set. Holds sc (kind_in x) set c.inside.result) c.settings.ensures (c.inside.ensures has above (kind_in x))) in
    a_zone sc way i x held.0 (held.2 (settings_form x form)) held.1
