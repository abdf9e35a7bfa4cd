use Rattle.std.proofs.Common.{ℕ, map, refl, sym, ◌∙◌, subst}
use Rattle.gn_tree.specs.Seen.{socket_of}
use Rattle.gn_origin.specs.Looking.{IsFound}
use Rattle.gn_origin.specs.Nodes.{IsPart, group_in}
use Rattle.gn_origin.specs.Frames.{way_of}
use Rattle.gn_origin.specs.Reading.{scope_of, tree_by, IsRead, node_read}
use Rattle.gn_origin.specs.declared.list.Part.TheVariants as part
use Rattle.gn_origin.specs.declared.read.Site.TheVariants as site
use Rattle.gn_origin.proofs.Lists.{form_here, group_found, group_lost, move_found, move_lost, other_found, read_so}
use Rattle.gn_origin.proofs.list.List.node_read.Goals as goal

pub returns-in_err-output-in-Group : goal.returns-in_err-output-in-Group
returns-in_err-output-in-Group c fs at =
    let l = c.args.self in
    let x = c.args.node in
    let g = c.in-Group.group in
    let is : (above : ℕ) → IsPart (scope_of l above) x.now (part.Group g) = λ above. subst (IsPart (scope_of l above) x.now) c.in-Group.is (c.part.ensures at.groups above (form_here l fs at c.args.number x.now c.requires)) in
    let looked : IsFound (group_in g.now).outputs c.args.name.now c.find.result = subst (λ xs. IsFound (map socket_of xs) c.args.name.now c.find.result) g.now.with_outputs c.find.ensures in
    subst (λ r. IsRead (tree_by l) fs r (node_read at.body.scope (way_of fs) c.args.kind c.args.number x.now c.args.name.now)) (sym c.from_residual.ensures)
    (group_lost l fs at c.args.number x c.args.kind c.args.name.now c.requires g is (subst (IsFound (group_in g.now).outputs c.args.name.now) c.in_err-output-in-Group.was looked))

pub returns-then-eq : goal.returns-then-eq
returns-then-eq c fs at =
    let l = c.args.self in
    let x = c.args.node in
    let is : (above : ℕ) → IsPart (scope_of l above) x.now part.SetPosition = λ above. subst (IsPart (scope_of l above) x.now) c.in-SetPosition.is (c.part.ensures at.groups above (form_here l fs at c.args.number x.now c.requires)) in
    read_so (tree_by l) fs c.passed-then-eq.result (site.Moved c.args.number x) (node_read at.body.scope (way_of fs) c.args.kind c.args.number x.now c.args.name.now) c.passed-then-eq.ensures.site
    (move_found l fs at c.args.number x c.args.kind c.args.name.now c.requires is c.passed-then-eq.result.conversion (sym c.eq.ensures ∙ c.if-eq.true) c.passed-then-eq.ensures.through)

pub returns-in_ok-output-in-Group : goal.returns-in_ok-output-in-Group
returns-in_ok-output-in-Group c fs at =
    let l = c.args.self in
    let x = c.args.node in
    let g = c.in-Group.group in
    let o = c.in_ok-output-in-Group.output in
    let socket = c.in_ok-output-in-Group.socket in
    let is : (above : ℕ) → IsPart (scope_of l above) x.now (part.Group g) = λ above. subst (IsPart (scope_of l above) x.now) c.in-Group.is (c.part.ensures at.groups above (form_here l fs at c.args.number x.now c.requires)) in
    let looked : IsFound (group_in g.now).outputs c.args.name.now c.find.result = subst (λ xs. IsFound (map socket_of xs) c.args.name.now c.find.result) g.now.with_outputs c.find.ensures in
    read_so (tree_by l) fs c.passed.result (site.Group (record { number = c.args.number; node = x; group = g }) o socket) (node_read at.body.scope (way_of fs) c.args.kind c.args.number x.now c.args.name.now) c.passed.ensures.site
    (group_found l fs at c.args.number x c.args.kind c.args.name.now c.requires g is (record { number = c.args.number; node = x; group = g }) o socket c.passed.result.conversion refl refl refl
    (subst (IsFound (group_in g.now).outputs c.args.name.now) c.in_ok-output-in-Group.was looked) c.passed.ensures.through)

pub returns-else-eq : goal.returns-else-eq
returns-else-eq c fs at =
    let l = c.args.self in
    let x = c.args.node in
    let is : (above : ℕ) → IsPart (scope_of l above) x.now part.SetPosition = λ above. subst (IsPart (scope_of l above) x.now) c.in-SetPosition.is (c.part.ensures at.groups above (form_here l fs at c.args.number x.now c.requires)) in
    move_lost l fs at c.args.number x c.args.kind c.args.name.now c.requires is (sym c.eq.ensures ∙ c.if-eq.false)

pub returns-in-Other : goal.returns-in-Other
returns-in-Other c fs at =
    let l = c.args.self in
    let x = c.args.node in
    let is : (above : ℕ) → IsPart (scope_of l above) x.now part.Other = λ above. subst (IsPart (scope_of l above) x.now) c.in-Other.is (c.part.ensures at.groups above (form_here l fs at c.args.number x.now c.requires)) in
    other_found l fs at c.args.number x c.args.kind c.args.name.now c.requires is
