use Rattle.std.proofs.Common.{◌≡◌, ◌+◌, map, drop, option_map, sym, ap, ◌∙◌, arith}
use Rattle.gn_pointers.specs.Pointers.{index, joined}
use Rattle.gn_pointers.specs.Seen.{pointer_of}
use Rattle.gn_tree.specs.Seen.{group_of}
use Rattle.gn_rules.specs.Walk.{breaks, in_group, first_group}
use Rattle.gn_check.proofs.Walking.{in_first, rest_alone, group_next}
use Rattle.gn_check.proofs.walk.first_group.Goals as goal

pub returns-then-is_some : goal.returns-then-is_some
returns-then-is_some c =
    let list = c.args.groups.now.list.now in
    let all = map group_of list in
    let i = c.loop-group.number in
    let here = in_group (breaks c.args.sought) all i (group_of c.group-item.result) in
    let rest = first_group (breaks c.args.sought) all (c.loop-group.group-index + 1) (map group_of (drop (c.loop-group.group-index + 1) list)) in
    let way = sym c.loop-group.invariant.1 ∙ (group_next c.args.sought all list c.loop-group.group-index c.group-item.result c.loop-group-test.true c.group-item.is
    ∙ ap (λ n. joined (index n) (in_group (breaks c.args.sought) all n (group_of c.group-item.result)) rest) (sym c.loop-group.invariant.0)) in
    in_first (index i) c.in_ok-found.found here rest (first_group (breaks c.args.sought) all 0 all) c.at_number.result (sym c.is_some.ensures ∙ c.if-is_some.true) c.in_ok-found.ensures way c.at_number.ensures

pub loop-group-preserved : goal.loop-group-preserved
loop-group-preserved c =
    let list = c.args.groups.now.list.now in
    let all = map group_of list in
    let i = c.loop-group.group-index in
    let here = in_group (breaks c.args.sought) all i (group_of c.group-item.result) in
    let rest = first_group (breaks c.args.sought) all (i + 1) (map group_of (drop (i + 1) list)) in
    let found : option_map pointer_of c.in_ok-found.found ≡ here = c.in_ok-found.ensures ∙ ap (λ n. in_group (breaks c.args.sought) all n (group_of c.group-item.result)) c.loop-group.invariant.0 in (
      omega arith,
      sym (rest_alone (index i) c.in_ok-found.found here rest (sym c.is_some.ensures ∙ c.if-is_some.false) found)
          ∙ (sym (group_next c.args.sought all list i c.group-item.result c.loop-group-test.true c.group-item.is) ∙ c.loop-group.invariant.1),
    )
