use Rattle.std.proofs.Common.{◌≡◌, Some, None, map, sym, ap, ◌∙◌, arith}
use Rattle.std.specs.Prelude.{option_map}
use Rattle.gn_tree.specs.Seen.{named_of}
use Rattle.gn_names.specs.First.{first_of}
use Rattle.gn_table.proofs.Finding.{written_at, written_nowhere, written_within}
use Rattle.gn_table.proofs.inputs.Written.find.Goals as goal

pub returns-in-Some-get : goal.returns-in-Some-get
returns-in-Some-get c =
    let list = c.args.self.now.list.now in
    let number : first_of (map (λ x. x.name) (map named_of list)) c.args.name.now ≡ Some c.in-Some.number = ap (λ ns. first_of ns c.args.name.now) (sym c.args.self.now.named) ∙ (sym c.first.ensures ∙ c.in-Some.is) in
    sym (ap (option_map (λ x. x.input)) (written_at list c.args.name.now c.in-Some.number c.in-Some-get.field-0.now number c.in-Some-get.ensures.lookup.1))

pub returns-in-None-get : goal.returns-in-None-get
returns-in-None-get c =
    let list = c.args.self.now.list.now in
    let number : first_of (map (λ x. x.name) (map named_of list)) c.args.name.now ≡ Some c.in-Some.number = ap (λ ns. first_of ns c.args.name.now) (sym c.args.self.now.named) ∙ (sym c.first.ensures ∙ c.in-Some.is) in
    let past = c.in-None-get.ensures.lookup in
    absurd (omega (arith, written_within list c.args.name.now c.in-Some.number number, past.3))

pub returns-in-None : goal.returns-in-None
returns-in-None c =
    let list = c.args.self.now.list.now in
    sym (ap (option_map (λ x. x.input)) (written_nowhere list c.args.name.now (ap (λ ns. first_of ns c.args.name.now) (sym c.args.self.now.named) ∙ (sym c.first.ensures ∙ c.in-None.is))))
