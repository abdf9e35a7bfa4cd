use Rattle.std.proofs.Common.{◌≡◌, ap, length, arith}
use Rattle.gn_plain.specs.Subtrees.{count_different}
use Rattle.gn_field.proofs.Joining.{count_of_all}
use Rattle.gn_field.proofs.field.Field.together.Goals as goal

pub returns : goal.returns
returns g c =
    let made = c.in_ok-steps.field-0 in
    let n : length made.steps.items ≡ count_different c.args.fields.now = count_of_all g.S.Source.sources g.S.Source.taken c.args.fields.now made.steps.items made.roots.items c.in_ok-steps.ensures in
    let same : length made.steps.items ≡ length c.in_ok-steps.steps.items = ap (λ v. length v.items) c.in_ok-steps.steps-is in
    omega (arith, n, same, c.len.ensures)
