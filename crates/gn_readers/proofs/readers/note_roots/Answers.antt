use Rattle.std.proofs.Common.{◌≡◌, ◌≤◌, ◌+◌, length, ap, arith}
use Rattle.gn_readers.specs.Readers.{lists_of, before_root}
use Rattle.gn_readers.proofs.Places.{root_link, root_more, roots_noted}
use Rattle.gn_readers.proofs.readers.note_roots.Goals as goal

pub note-requires : goal.note-requires
note-requires g c =
    root_link c.args.graph.now c.loop-root.root c.roots-link-items.result.now c.link-item.result c.roots-link-items.ensures.links c.loop-root-test.true c.link-item.is

pub loop-root-preserved : goal.loop-root-preserved
loop-root-preserved g c = record {
  noted = c.in_ok-note.ensures (before_root c.loop-root.root) (before_root (c.loop-root.root + 1)) (root_more c.loop-root.root) c.loop-root.invariant.noted;
}

pub returns : goal.returns
returns g c =
    let same : length c.roots-link-items.result.now ≡ length c.args.graph.now.roots = ap length c.roots-link-items.ensures.links in
    let past : length c.args.graph.now.roots ≤ c.loop-root.root = omega (arith, same, c.loop-root-test.false) in
    roots_noted c.args.graph.now c.loop-root.root (lists_of c.loop-root.readers.items) past c.loop-root.invariant.noted
