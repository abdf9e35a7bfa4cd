use Rattle.std.proofs.Common.{map, Some, sym, ap, subst, ◌∙◌}
use Rattle.gn_uses.specs.Nodes.{HasRoom}
use Rattle.gn_exec_core.specs.Holds.{input_of}
use Rattle.gn_exec_core.proofs.Starting.{is_at}
use Rattle.gn_exec_core.proofs.Adding.{root_room, roots_more}
use Rattle.gn_exec_core.proofs.start.want_all.Goals as goal

pub want_root-requires : goal.want_root-requires
want_root-requires c =
    let at = is_at c.args.roots.now c.loop-root.root-index c.root-item.result c.loop-root-test.true ∙ ap Some (sym c.root-item.is) in
    let sizes = ap (λ g. g.sizes) c.loop-root.invariant.nodes in
    root_room c.loop-root.uses.nodes.sizes c.args.roots.now c.loop-root.root-index c.root-item.result (subst (λ ss. HasRoom ss (map input_of c.args.roots.now)) (sym sizes) c.requires) at

pub loop-root-preserved : goal.loop-root-preserved
loop-root-preserved c =
    let at = is_at c.args.roots.now c.loop-root.root-index c.root-item.result c.loop-root-test.true ∙ ap Some (sym c.root-item.is) in
    record {
      taken = c.in_ok-want_root.ensures.taken ∙ c.loop-root.invariant.taken;
      nodes = roots_more c.args.uses.now.nodes c.loop-root.uses.nodes c.want_root.new.uses.nodes c.args.roots.now c.loop-root.root-index c.root-item.result at c.loop-root.invariant.nodes c.in_ok-want_root.ensures.nodes;
    }
