use Rattle.std.proofs.Common.{◌≡◌, ◌<◌, true, false, sym, ◌∙◌, ap, subst, arith}
use Rattle.gn_tree.specs.Seen.{tree_of}
use Rattle.gn_meaning.specs.Reads.{read_at}
use Rattle.gn_meaning.specs.Sites.{plain_read, at_input, the_tree}
use Rattle.gn_origin.specs.Moves.{EndsAt}
use Rattle.gn_origin.proofs.Moving.{on_ok}
use Rattle.gn_origin.proofs.Moved.{are_read, move_kind, input_only, input_from, moves_are}
use Rattle.gn_origin.proofs.plans.moved.Goals as goal

pub end_of-requires : goal.end_of-requires
end_of-requires g c =
    let t = tree_of c.args.lists.now.tree.now in
    let fs = c.args.frames.now.items in
    let node = c.requires.1 in
    let rules = c.requires.0 in
    let at = c.at_end.ensures.1 in
    let are = are_read t rules.keeps rules.form fs rules.ways node.0 c.args.node.now node.1 node.2 c.at_end.result (ap (λ l. tree_of l.tree.now) c.at_end.ensures.0) at c.inputs_read-inputs.result (c.inputs_read-inputs.ensures fs at) in
    (rules, (read_at node.1.reads 0, are.geometry, node.3 0 (let less : 0 < 4 = omega arith in less)))

pub returns-in_default : goal.returns-in_default
returns-in_default g c n run is selected to by moves =
    let t = tree_of c.args.lists.now.tree.now in
    let fs = c.args.frames.now.items in
    let rules = c.requires.0 in
    let at = c.at_end.ensures.1 in
    let are = are_read t rules.keeps rules.form fs rules.ways n c.args.node.now run is c.at_end.result (ap (λ l. tree_of l.tree.now) c.at_end.ensures.0) at c.inputs_read-inputs.result (c.inputs_read-inputs.ensures fs at) in
    subst (EndsAt t (read_at run.reads 0)) c.in_default.is (c.in_ok-end.ensures (read_at run.reads 0) are.geometry) (plain_read (at_input the_tree 0)) moves.geometry tt

pub returns-then-not-is_input : goal.returns-then-not-is_input
returns-then-not-is_input g c n run is selected to by moves =
    let t = tree_of c.args.lists.now.tree.now in
    let fs = c.args.frames.now.items in
    let rules = c.requires.0 in
    let at = c.at_end.ensures.1 in
    let are = are_read t rules.keeps rules.form fs rules.ways n c.args.node.now run is c.at_end.result (ap (λ l. tree_of l.tree.now) c.at_end.ensures.0) at c.inputs_read-inputs.result (c.inputs_read-inputs.ensures fs at) in
    let ends = subst (EndsAt t (read_at run.reads 0)) c.in-Some.is (c.in_ok-end.ensures (read_at run.reads 0) are.geometry) in
    let yes = input_only t (read_at run.reads 0) c.in-Some.end ends moves.geometry in
    let bad : false ≡ true = c.if-not-is_input.ensures ∙ yes in
    cc

pub constants-requires : goal.constants-requires
constants-requires g c =
    let t = tree_of c.args.lists.now.tree.now in
    let fs = c.args.frames.now.items in
    let node = c.requires.1 in
    let rules = c.requires.0 in
    let at = c.at_end.ensures.1 in
    (rules, (node.1, are_read t rules.keeps rules.form fs rules.ways node.0 c.args.node.now node.1 node.2 c.at_end.result (ap (λ l. tree_of l.tree.now) c.at_end.ensures.0) at c.inputs_read-inputs.result (c.inputs_read-inputs.ensures fs at), node.3))

pub returns : goal.returns
returns g c n run is =
    let t = tree_of c.args.lists.now.tree.now in
    let fs = c.args.frames.now.items in
    let rules = c.requires.0 in
    let at = c.at_end.ensures.1 in
    let are = are_read t rules.keeps rules.form fs rules.ways n c.args.node.now run is c.at_end.result (ap (λ l. tree_of l.tree.now) c.at_end.ensures.0) at c.inputs_read-inputs.result (c.inputs_read-inputs.ensures fs at) in
    let ends = subst (EndsAt t (read_at run.reads 0)) c.in-Some.is (c.in_ok-end.ensures (read_at run.reads 0) are.geometry) in
    let kind = move_kind t rules.keeps rules.form fs rules.ways n c.args.node.now run is in
    let geometry = input_from t (read_at run.reads 0) c.in-Some.end ends (sym c.if-not-is_input.ensures) in
    on_ok c.constants.result (λ found so. moves_are t run kind found geometry so) (c.constants.ensures run are)
