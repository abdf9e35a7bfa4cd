use Rattle.std.proofs.Common.{◌≡◌, Some, map, length, sym, ap, ◌∙◌, arith}
use Rattle.std.specs.Prelude.{slice_get}
use Rattle.std.proofs.lemmas.List.{length-map}
use Rattle.std.proofs.lemmas.Option.{slice_get-get_or}
use Rattle.gn_tree.specs.Seen.{group_of}
use Rattle.gn_names.specs.First.{first_of}
use Rattle.gn_rules.specs.Sockets.{group_names}
use Rattle.gn_origin.proofs.Inner.{group_at, first_within}
use Rattle.gn_origin.proofs.groups.Lists.group.Goals as goal

pub returns-in_err-list : goal.returns-in_err-list
returns-in_err-list c has =
    let gs = c.args.self.now.tree.now.groups.items in
    let n = c.in_ok-number.number in
    let number : first_of (group_names (map group_of gs)) c.args.name.now ≡ Some n = ap (λ ns. first_of ns c.args.name.now) (sym c.args.self.now.with_names) ∙ (sym c.first.ensures ∙ c.in_ok-number.was) in
    let inside = first_within c.args.name.now n (group_names (map group_of gs)) number in
    let as_many : length (map (λ l. l.group.now) c.args.self.now.groups.items) ≡ length gs = ap length has in
    absurd (omega (arith, simp length-map at inside, simp length-map at as_many, ap length c.deref.ensures.value, c.in_err-list.ensures.lookup.3))

pub returns : goal.returns
returns c has =
    let gs = c.args.self.now.tree.now.groups.items in
    let n = c.in_ok-number.number in
    let x = c.in_ok-list.list.now in
    let number : first_of (group_names (map group_of gs)) c.args.name.now ≡ Some n = ap (λ ns. first_of ns c.args.name.now) (sym c.args.self.now.with_names) ∙ (sym c.first.ensures ∙ c.in_ok-number.was) in (
      n,
      number,
      group_at gs c.args.self.now.groups.items n x has
          (ap (λ xs. slice_get xs n) (sym c.deref.ensures.value) ∙ (slice_get-get_or c.deref.result.now n x (c.in_ok-list.ensures.lookup.3).0 ∙ ap Some (sym c.in_ok-list.ensures.lookup.1))),
    )
