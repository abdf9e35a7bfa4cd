use Rattle.std.proofs.Common.{◌≡◌, ◌+◌, ◌<◌, ◌≤◌, suc, List, ◌∷◌, map, length, set, sym, ◌∙◌, ap, subst, arith}
use Rattle.std.specs.Prelude.{slice_index}
use Rattle.gn_cycle.specs.Graph.{Graph, lists, targets}
use Rattle.gn_stands.specs.Order.{greatest, rank}
use Rattle.gn_order.specs.declared.heights.Visit.{Visit}
use Rattle.gn_order.specs.Heights.{at, AreKnown}
use Rattle.gn_order.specs.Walk.{Goes}
use Rattle.gn_stands.proofs.Ranked.{rank_bounded}
use Rattle.gn_order.proofs.Steps.{greatest_is, settles, enters}
use Rattle.gn_order.proofs.heights.step.Goals as goal

pub overflow_add-heights : goal.overflow_add-heights
overflow_add-heights c =
    let graph : Graph = lists c.args.targets.now in
    let heights = c.args.heights.now in
    let node = c.args.visit.node in
    let list : c.targets_of-list.result.now ≡ targets graph node = c.targets_of-list.ensures in
    let passed : AreKnown heights c.targets_of-list.result.now c.args.visit.next = subst (λ xs. AreKnown heights xs c.args.visit.next) (sym list) c.requires.«open».1.passed in
    let known : AreKnown heights (targets graph node) (length (targets graph node)) = subst (λ xs. AreKnown heights xs (length xs)) list (c.in-None.ensures passed) in
    let is : c.greatest_height.result ≡ rank graph node = c.greatest_height.ensures ∙ (ap (λ xs. greatest (map (at heights) xs)) list ∙ greatest_is graph c.requires.acyclic heights node c.requires.found known) in
    let low : rank graph node ≤ length graph = rank_bounded graph (length graph) node in
    let sized : length heights ≡ length graph = c.requires.found.sized in
    omega (arith, is, low, sized)

pub returns-in-None : goal.returns-in-None
returns-in-None c =
    let graph : Graph = lists c.args.targets.now in
    let heights = c.args.heights.now in
    let node = c.args.visit.node in
    let way = c.args.way.now.items in
    let list : c.targets_of-list.result.now ≡ targets graph node = c.targets_of-list.ensures in
    let passed : AreKnown heights c.targets_of-list.result.now c.args.visit.next = subst (λ xs. AreKnown heights xs c.args.visit.next) (sym list) c.requires.«open».1.passed in
    let known : AreKnown heights (targets graph node) (length (targets graph node)) = subst (λ xs. AreKnown heights xs (length xs)) list (c.in-None.ensures passed) in
    let is : c.greatest_height.result ≡ rank graph node = c.greatest_height.ensures ∙ (ap (λ xs. greatest (map (at heights) xs)) list ∙ greatest_is graph c.requires.acyclic heights node c.requires.found known) in
    let more : c.greatest_height.result + 1 ≡ suc (rank graph node) = omega (arith, is) in
    subst (λ h. Goes graph heights (c.args.visit ∷ way) (set heights node h) way) (sym more) (settles graph c.requires.acyclic heights c.requires.found c.args.visit c.requires.«open».1 way c.requires.«open».2)

pub returns-in_ok-push_front-in-Some-2 : goal.returns-in_ok-push_front-in-Some-2
returns-in_ok-push_front-in-Some-2 c =
    let graph : Graph = lists c.args.targets.now in
    let heights = c.args.heights.now in
    let visit = c.args.visit in
    let way = c.args.way.now.items in
    let list : c.targets_of-list.result.now ≡ targets graph visit.node = c.targets_of-list.ensures in
    let passed : AreKnown heights c.targets_of-list.result.now visit.next = subst (λ xs. AreKnown heights xs visit.next) (sym list) c.requires.«open».1.passed in
    let found : AreKnown heights (targets graph visit.node) c.in-Some.next × (c.in-Some.next < length (targets graph visit.node)) × (at heights (slice_index (targets graph visit.node) c.in-Some.next) ≡ 0)
    = subst (λ xs. AreKnown heights xs c.in-Some.next × (c.in-Some.next < length xs) × (at heights (slice_index xs c.in-Some.next) ≡ 0)) list (c.in-Some.ensures passed) in
    let gone = enters graph c.requires.acyclic heights c.requires.found visit way c.requires.«open» c.in-Some.next found.0 found.1 found.2 in
    let pushed : c.push_front-in-Some.new.self.items ≡ record { node = slice_index (targets graph visit.node) c.in-Some.next; next = 0 } ∷ record { node = visit.node; next = c.in-Some.next } ∷ way =
    ◌∙◌ {A = List Visit} c.in_ok-push_front-in-Some-2.ensures.items
    (◌∙◌ {A = List Visit} (ap (λ w. record { node = slice_index c.targets_of-list.result.now c.in-Some.next; next = 0 } ∷ w) c.in_ok-push_front-in-Some.ensures.items)
    (ap (λ xs. record { node = slice_index xs c.in-Some.next; next = 0 } ∷ record { node = visit.node; next = c.in-Some.next } ∷ way) list)) in
    subst (Goes graph heights (visit ∷ way) heights) (sym pushed) gone
