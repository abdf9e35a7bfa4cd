use Rattle.std.proofs.Common.{◌∷◌, map, subst}
use Rattle.gn_tree.specs.Seen.{named_of}
use Rattle.gn_meaning.specs.Sites.{at_input}
use Rattle.gn_meaning.specs.Reads.{kind_number}
use Rattle.gn_origin.specs.Frames.{way_of, site_of, AreOpen}
use Rattle.gn_origin.specs.Walking.{tree_by}
use Rattle.gn_origin.proofs.Moving.{goes_on, on_ok, left}
use Rattle.gn_origin.proofs.walk.Walk.leave.Goals as goal

pub returns : goal.returns
returns c =
    let old = c.args.self.now in
    let f = c.in-Some.frame in
    let fs = c.pop_front.new.self.items in
    let stands = c.requires.stands in
    let items = c.in-Some.ensures.items in
    let i = c.requires.at.0 in
    let at = c.requires.at.1 in
    let given = left old stands f fs items i c.args.socket at c.at_end-list.result c.at_end-list.ensures.0 fs (λ j. fs) c.at_end-list.ensures.1 (map named_of c.inputs.result.now) c.inputs.ensures c.socket_read.result c.socket_read.ensures in
    let ways = subst (AreOpen (tree_by old)) items stands.ways in
    on_ok c.go_on.result (λ progress on. goes_on old (record { lists = old.lists; frames = c.pop_front.new.self; site = old.site; conversions = old.conversions }) c.go_on.new.self stands (at_input (way_of (f ∷ fs)) i) fs (λ j. site_of (way_of (items j)) (at j)) ways.1 (λ j. old.lists) (λ j. fs) (λ j. map kind_number old.conversions.items) c.socket_read.result given progress on) c.go_on.ensures
