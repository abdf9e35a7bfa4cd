use Rattle.std.proofs.Common.{◌∷◌, map, refl, ap, subst}
use Rattle.gn_tree.specs.Seen.{named_of}
use Rattle.gn_meaning.specs.Sites.{at_output}
use Rattle.gn_origin.specs.Frames.{way_of, site_of, IsThere}
use Rattle.gn_origin.specs.Walking.{tree_by}
use Rattle.gn_origin.proofs.Moving.{goes_on, on_ok, entered}
use Rattle.gn_origin.proofs.walk.Walk.enter.Goals as goal

pub returns : goal.returns
returns c =
    let old = c.args.self.now in
    let f = c.args.frame in
    let stands = c.requires.stands in
    let pushed = c.in_ok-push_front.ensures.items in
    let o = c.requires.at.0 in
    let at = c.requires.at.1 in
    let given = entered old stands f o c.args.socket at c.at_end-list.result c.at_end-list.ensures.0 c.push_front.new.self.items pushed c.at_end-list.ensures.1 (map named_of c.deref.result.now) (ap (map named_of) c.deref.ensures.value) c.socket_read.result c.socket_read.ensures in
    let there = subst (λ s. IsThere (tree_by old) old.frames.items s) at stands.there in
    on_ok c.go_on.result (λ progress on. goes_on old (record { lists = old.lists; frames = c.push_front.new.self; site = old.site; conversions = old.conversions }) c.go_on.new.self stands (at_output (way_of old.frames.items) f.number o) (f ∷ old.frames.items) (ap (site_of (way_of old.frames.items)) at) (there.0, stands.ways) refl pushed refl c.socket_read.result given progress on) c.go_on.ensures
