use Rattle.std.proofs.Common.{◌∷◌, sym, subst}
use Rattle.gn_tree.specs.Seen.{tree_of}
use Rattle.gn_meaning.specs.Forms.{HasForm}
use Rattle.gn_origin.specs.Nodes.{HasGroups}
use Rattle.gn_origin.specs.Frames.{AreOpen}
use Rattle.gn_origin.specs.Reading.{IsAt}
use Rattle.gn_origin.proofs.Inner.{inside_at, front_of}
use Rattle.gn_origin.proofs.groups.Lists.at_end.Goals as goal

pub returns-in-Some : goal.returns-in-Some
returns-in-Some c =
    let frames = c.args.frames.now.items in
    let front = front_of frames c.in-Some.frame.now (c.in-Some.ensures.item.3).0 (sym c.in-Some.ensures.lookup) in
    let ways = subst (AreOpen (tree_of c.args.self.now.tree.now)) front.1 c.requires.0 in
    let lists = c.inside.ensures.same in
    let at : IsAt c.inside.result (c.in-Some.frame.now ∷ front.0) = inside_at c.inside.result c.in-Some.frame.now front.0 (subst (λ l. AreOpen (tree_of l.tree.now) (c.in-Some.frame.now ∷ front.0)) (sym lists) ways) (subst (λ l. HasForm (tree_of l.tree.now)) (sym lists) c.requires.1) (subst HasGroups (sym lists) c.requires.2) c.inside.ensures.nodes c.inside.ensures.entries in
    (lists, subst (IsAt c.inside.result) (sym front.1) at)
