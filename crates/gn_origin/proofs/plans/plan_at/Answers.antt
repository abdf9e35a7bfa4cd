use Rattle.std.proofs.Common.{sym, subst}
use Rattle.gn_tree.specs.Seen.{tree_of}
use Rattle.gn_meaning.specs.Demand.{output_read}
use Rattle.gn_plans.specs.Answers.{Answers}
use Rattle.gn_origin.proofs.Moved.{ways_open}
use Rattle.gn_origin.proofs.Moving.{on_ok}
use Rattle.gn_origin.proofs.Planned.{some_conversions, no_conversions, none_converted, constant_answers, input_answers, not_group, move_there, move_run, from_move, move_answers}
use Rattle.gn_origin.proofs.plans.plan_at.Goals as goal

pub returns-then-not-is_plain : goal.returns-then-not-is_plain
returns-then-not-is_plain g c = none_converted (tree_of c.args.lists.now.tree.now) c.args.end c.requires.1.1 (some_conversions c.args.end.conversions.items (sym c.if-not-is_plain.ensures))

pub returns-in-Constant : goal.returns-in-Constant
returns-in-Constant g c =
    let plain = no_conversions c.args.end.conversions.items (sym c.if-not-is_plain.ensures) in
    subst (Answers (tree_of c.args.lists.now.tree.now)) (sym c.constant_plan.ensures) (constant_answers (tree_of c.args.lists.now.tree.now) c.args.end c.requires.1.1 c.in-Constant.constant c.in-Constant.is plain)

pub returns-in-Entry : goal.returns-in-Entry
returns-in-Entry g c = input_answers (tree_of c.args.lists.now.tree.now) c.args.end c.requires.1.1 c.in-Entry.number c.in-Entry.socket c.in-Entry.is (no_conversions c.args.end.conversions.items (sym c.if-not-is_plain.ensures))

pub moved-requires : goal.moved-requires
moved-requires g c =
    let t = tree_of c.args.lists.now.tree.now in
    let ends = c.requires.1.1 in
    let rules = c.requires.0 in
    let n = c.in-Moved.number in
    let x = c.in-Moved.node in
    let plain = no_conversions c.args.end.conversions.items (sym c.if-not-is_plain.ensures) in
    let there = move_there t c.args.end ends n x c.in-Moved.is in
    let run = move_run t c.args.end ends n x c.in-Moved.is in
    let ways = ways_open t (output_read t) c.args.end ends in
    (record { keeps = rules.keeps; form = rules.form; groups = rules.groups; ways = ways }, (n, run.0, (there, run.1), c.requires.1.0.inputs c.args.end.frames.items ways n x.now run.0 (from_move t c.args.end ends n x c.in-Moved.is plain) (there, run.1)))

pub returns-in-Moved : goal.returns-in-Moved
returns-in-Moved g c =
    let t = tree_of c.args.lists.now.tree.now in
    let ends = c.requires.1.1 in
    let n = c.in-Moved.number in
    let x = c.in-Moved.node in
    let plain = no_conversions c.args.end.conversions.items (sym c.if-not-is_plain.ensures) in
    let there = move_there t c.args.end ends n x c.in-Moved.is in
    let run = move_run t c.args.end ends n x c.in-Moved.is in
    on_ok c.moved.result (move_answers t c.args.end ends n x c.in-Moved.is plain run.0 run.1) (c.moved.ensures n run.0 (there, run.1))

pub returns : goal.returns
returns g c = absurd (not_group (tree_of c.args.lists.now.tree.now) c.args.end c.requires.1.1 c.in-Group.frame c.in-Group.output c.in-Group.socket c.in-Group.is)
