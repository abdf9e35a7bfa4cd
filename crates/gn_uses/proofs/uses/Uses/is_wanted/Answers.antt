use Rattle.std.proofs.Common.{◌∙◌, sym, subst}
use Rattle.gn_uses.specs.Nodes.{Wanted}
use Rattle.gn_uses.specs.Parts.{nodes_of}
use Rattle.gn_uses.specs.Progress.{marks_of}
use Rattle.gn_uses.proofs.Lists.{is_out, out_is}
use Rattle.gn_uses.proofs.Following.{complete}
use Rattle.gn_uses.proofs.uses.Uses.is_wanted.Goals as goal

pub returns : goal.returns
returns c =
    let p = c.self.inside.progress in
    let g = nodes_of c.self.inside.parts p.wanted.sizes in
    let right = c.self.invariant.right in (
      λ e. subst (λ u. Wanted u.nodes c.args.out) c.self.view_is (right.sound c.args.out (out_is p.wanted.items c.args.out (sym c.has.ensures ∙ e))),
      λ w. c.has.ensures ∙ is_out p.wanted.items c.args.out (complete g (marks_of p) right (subst (λ u. Wanted u.nodes c.args.out) (sym c.self.view_is) w)),
    )
