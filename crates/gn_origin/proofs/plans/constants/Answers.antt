use Rattle.std.proofs.Common.{Some, sym, ◌∙◌, subst}
use Rattle.gn_tree.specs.Seen.{tree_of}
use Rattle.gn_value.specs.declared.value.Value.TheVariants.{Truth as truth, Vector as vector}
use Rattle.gn_meaning.specs.Reads.{read_at}
use Rattle.gn_origin.specs.Moves.{EndsAt}
use Rattle.gn_origin.proofs.Carrying.{none_carried, none_moved, truth_only, position_only, vector_only, constants_are, both_ways}
use Rattle.gn_origin.proofs.plans.constants.Goals as goal

pub returns-in_default : goal.returns-in_default
returns-in_default g c run reads selected to by has =
    let t = tree_of c.args.lists.now.tree.now in
    none_carried t (read_at run.reads 1) (subst (EndsAt t (read_at run.reads 1)) c.in_default.is (c.in_ok-end.ensures (read_at run.reads 1) reads.selection)) (truth selected) has.selections has.selection

pub returns-in_default-truth_of : goal.returns-in_default-truth_of
returns-in_default-truth_of g c run reads selected to by has =
    let t = tree_of c.args.lists.now.tree.now in
    let ends : EndsAt (tree_of c.args.lists.now.tree.now) (read_at run.reads 1) (Some c.in-Some.end) = subst (EndsAt t (read_at run.reads 1)) c.in-Some.is (c.in_ok-end.ensures (read_at run.reads 1) reads.selection) in
    both_ways (sym c.truth_of.ensures ∙ c.in_default-truth_of.is) (truth_only t (read_at run.reads 1) c.in-Some.end ends selected has.selections has.selection)

pub returns-in_default-2 : goal.returns-in_default-2
returns-in_default-2 g c run reads selected to by has =
    let t = tree_of c.args.lists.now.tree.now in
    none_moved t (read_at run.reads 2) (subst (EndsAt t (read_at run.reads 2)) c.in_default-2.is (c.in_ok-end-2.ensures (read_at run.reads 2) reads.position)) to has.positions has.position

pub returns-in_default-position_of : goal.returns-in_default-position_of
returns-in_default-position_of g c run reads selected to by has =
    let t = tree_of c.args.lists.now.tree.now in
    let ends : EndsAt (tree_of c.args.lists.now.tree.now) (read_at run.reads 2) (Some c.in-Some-2.end) = subst (EndsAt t (read_at run.reads 2)) c.in-Some-2.is (c.in_ok-end-2.ensures (read_at run.reads 2) reads.position) in
    both_ways (sym c.position_of.ensures ∙ c.in_default-position_of.is) (position_only t (read_at run.reads 2) c.in-Some-2.end ends to has.positions has.position)

pub returns-in_default-3 : goal.returns-in_default-3
returns-in_default-3 g c run reads selected to by has =
    let t = tree_of c.args.lists.now.tree.now in
    none_carried t (read_at run.reads 3) (subst (EndsAt t (read_at run.reads 3)) c.in_default-3.is (c.in_ok-end-3.ensures (read_at run.reads 3) reads.offset)) (vector by) has.offsets has.offset

pub returns-in_default-vector_of : goal.returns-in_default-vector_of
returns-in_default-vector_of g c run reads selected to by has =
    let t = tree_of c.args.lists.now.tree.now in
    let ends : EndsAt (tree_of c.args.lists.now.tree.now) (read_at run.reads 3) (Some c.in-Some-3.end) = subst (EndsAt t (read_at run.reads 3)) c.in-Some-3.is (c.in_ok-end-3.ensures (read_at run.reads 3) reads.offset) in
    both_ways (sym c.vector_of.ensures ∙ c.in_default-vector_of.is) (vector_only t (read_at run.reads 3) c.in-Some-3.end ends by has.offsets has.offset)

pub returns : goal.returns
returns g c run reads =
    let t = tree_of c.args.lists.now.tree.now in
    let selection : EndsAt (tree_of c.args.lists.now.tree.now) (read_at run.reads 1) (Some c.in-Some.end) = subst (EndsAt t (read_at run.reads 1)) c.in-Some.is (c.in_ok-end.ensures (read_at run.reads 1) reads.selection) in
    let position : EndsAt (tree_of c.args.lists.now.tree.now) (read_at run.reads 2) (Some c.in-Some-2.end) = subst (EndsAt t (read_at run.reads 2)) c.in-Some-2.is (c.in_ok-end-2.ensures (read_at run.reads 2) reads.position) in
    let offset : EndsAt (tree_of c.args.lists.now.tree.now) (read_at run.reads 3) (Some c.in-Some-3.end) = subst (EndsAt t (read_at run.reads 3)) c.in-Some-3.is (c.in_ok-end-3.ensures (read_at run.reads 3) reads.offset) in
    constants_are t run c.in-Some.end c.in-Some-2.end c.in-Some-3.end selection position offset c.in-Some-truth_of.selection c.in-Some-position_of.position c.in-Some-vector_of.offset
    (sym c.truth_of.ensures ∙ c.in-Some-truth_of.is) (sym c.position_of.ensures ∙ c.in-Some-position_of.is) (sym c.vector_of.ensures ∙ c.in-Some-vector_of.is) c.limited.result c.limited.ensures
