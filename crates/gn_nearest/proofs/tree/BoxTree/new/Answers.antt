use Rattle.std.proofs.Common.{◌≡◌, ◌∙◌, List, map, length, ap, arith}
use Rattle.std.specs.List.{range_with_len}
use Rattle.std.proofs.lemmas.Bool.Decides.{nat_tests}
use Rattle.std.proofs.lemmas.List.FromFn.{length-map-range_with_len}
use Rattle.gn_nearest.specs.Boxes.{entry_at}
use Rattle.gn_nearest.specs.declared.candidate.Entry.{Entry}
use Rattle.gn_nearest.specs.declared.grow.Part.{Part}
use Rattle.gn_nearest.proofs.Trees.{grown_points, none_are, tree_made}
use Rattle.gn_nearest.proofs.tree.BoxTree.new.Goals as goal

pub returns-then-is_empty : goal.returns-then-is_empty
returns-then-is_empty c =
    let none : length c.args.points.now ≡ 0 = grind (arith, nat_tests, c.is_empty.ensures, c.if-is_empty.true) in
    none_are c.args.points.now c.new-entries.result.items (ap (λ (es : List Entry). length es) c.new-entries.ensures.items) none

pub grow-requires-clause-room : goal.grow-requires-clause-room
grow-requires-clause-room c =
    let points = c.args.points.now in
    let list : c.deref_mut.result.now ≡ map (entry_at points) (range_with_len 0 (length points)) = c.deref_mut.ensures.value ∙ c.in_ok-list.ensures in
    let many : length c.deref_mut.result.now ≡ length points = ap (λ (es : List Entry). length es) list ∙ length-map-range_with_len (entry_at points) 0 (length points) in
    let none : length c.reserve.new.self.items ≡ 0 = ap (λ (es : List Entry). length es) (c.in_ok-reserve.ensures.items ∙ c.new-entries.ensures.items) in
    omega arith

pub grow-requires-clause-few : goal.grow-requires-clause-few
grow-requires-clause-few c =
    let points = c.args.points.now in
    let list : c.deref_mut.result.now ≡ map (entry_at points) (range_with_len 0 (length points)) = c.deref_mut.ensures.value ∙ c.in_ok-list.ensures in
    let many : length c.deref_mut.result.now ≡ length points = ap (λ (es : List Entry). length es) list ∙ length-map-range_with_len (entry_at points) 0 (length points) in
    let none : length c.new-parts.result.items ≡ 0 = ap (λ (ps : List Part). length ps) c.new-parts.ensures.items in
    omega arith

pub invariant_of-result-2 : goal.invariant_of-result-2
invariant_of-result-2 c =
    let points = c.args.points.now in
    let list : c.deref_mut.result.now ≡ map (entry_at points) (range_with_len 0 (length points)) = c.deref_mut.ensures.value ∙ c.in_ok-list.ensures in
    let many : length c.deref_mut.result.now ≡ length points = ap (λ (es : List Entry). length es) list ∙ length-map-range_with_len (entry_at points) 0 (length points) in
    let none : length c.reserve.new.self.items ≡ 0 = ap (λ (es : List Entry). length es) (c.in_ok-reserve.ensures.items ∙ c.new-entries.ensures.items) in
    let old : length c.new-parts.result.items ≡ 0 = ap (λ (ps : List Part). length ps) c.new-parts.ensures.items in
    tree_made points c.reserve.new.self.items c.deref_mut.result.now c.grow.new.placed.items c.new-parts.result.items c.grow.new.parts.items c.requires none old (omega (arith, c.in_ok-grow.ensures.count)) (omega (arith, c.in_ok-grow.ensures.more)) list c.in_ok-grow.ensures.grown c.in_ok-grow.ensures.whole

pub returns : goal.returns
returns c =
    let points = c.args.points.now in
    let list : c.deref_mut.result.now ≡ map (entry_at points) (range_with_len 0 (length points)) = c.deref_mut.ensures.value ∙ c.in_ok-list.ensures in
    let none : length c.reserve.new.self.items ≡ 0 = ap (λ (es : List Entry). length es) (c.in_ok-reserve.ensures.items ∙ c.new-entries.ensures.items) in
    (grown_points points c.reserve.new.self.items c.deref_mut.result.now c.grow.new.placed.items c.new-parts.result.items c.grow.new.parts.items none list c.in_ok-grow.ensures.grown).same
