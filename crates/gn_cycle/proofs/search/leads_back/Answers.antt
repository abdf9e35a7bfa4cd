use Rattle.std.proofs.Common.{◌≡◌, ◌+◌, ◌<◌, true, false, length, get_or, refl, sym, ap, ◌∙◌, subst, arith}
use Rattle.gn_cycle.specs.Graph.{Graph, lists, has, targets}
use Rattle.gn_cycle.specs.Search.{State, Reached, with_nodes, unmet}
use Rattle.gn_cycle.proofs.Searching.{led_here, step, ends, counted, longer, read_at}
use Rattle.gn_cycle.proofs.search.leads_back.Goals as goal

pub returns-then-has_node : goal.returns-then-has_node
returns-then-has_node c =
    let graph : Graph = lists c.args.targets.now in
    let inside : c.loop-at.at < length c.loop-at.queue.items = omega arith in
    let node : c.index.result.now ≡ get_or c.loop-at.queue.items c.loop-at.at 0 = read_at c.loop-at.queue.items c.loop-at.at c.index.result.now inside c.index.ensures in
    let next : c.targets_of-next.result.now ≡ targets graph (get_or c.loop-at.queue.items c.loop-at.at 0) = c.targets_of-next.ensures ∙ ap (targets graph) node in
    let found : has (targets graph (get_or c.loop-at.queue.items c.loop-at.at 0)) c.args.start ≡ true = ap (λ xs. has xs c.args.start) (sym next) ∙ (sym c.has_node.ensures ∙ c.if-has_node.true) in
    (λ e. led_here graph c.args.start (c.loop-at.met.items, c.loop-at.queue.items) c.loop-at.at c.loop-at.invariant.reached inside c.args.start found, λ l. refl)

pub loop-at-smaller : goal.loop-at-smaller
loop-at-smaller c =
    let s : State = (c.loop-at.met.items, c.loop-at.queue.items) in
    let same : length c.meet_all.new.queue.items ≡ length (with_nodes s c.targets_of-next.result.now).1 = ap (λ t. length t.1) c.in_ok-meet_all.ensures in
    let left : unmet c.meet_all.new.met.items ≡ unmet (with_nodes s c.targets_of-next.result.now).0 = ap (λ t. unmet t.0) c.in_ok-meet_all.ensures in
    let inside : c.loop-at.at < length c.loop-at.queue.items = omega arith in
    omega (arith, counted c.targets_of-next.result.now s)

pub loop-at-preserved : goal.loop-at-preserved
loop-at-preserved c =
    let graph : Graph = lists c.args.targets.now in
    let s : State = (c.loop-at.met.items, c.loop-at.queue.items) in
    let inside : c.loop-at.at < length c.loop-at.queue.items = omega arith in
    let node : c.index.result.now ≡ get_or c.loop-at.queue.items c.loop-at.at 0 = read_at c.loop-at.queue.items c.loop-at.at c.index.result.now inside c.index.ensures in
    let next : c.targets_of-next.result.now ≡ targets graph (get_or c.loop-at.queue.items c.loop-at.at 0) = c.targets_of-next.ensures ∙ ap (targets graph) node in
    let not_found : has (targets graph (get_or c.loop-at.queue.items c.loop-at.at 0)) c.args.start ≡ false = ap (λ xs. has xs c.args.start) (sym next) ∙ (sym c.has_node.ensures ∙ c.if-has_node.false) in
    let after = c.in_ok-meet_all.ensures ∙ ap (with_nodes s) next in
    let same : length c.meet_all.new.queue.items ≡ length (with_nodes s c.targets_of-next.result.now).1 = ap (λ t. length t.1) c.in_ok-meet_all.ensures in
    record {
      reached = subst (λ t. Reached graph c.args.start t (c.loop-at.at + 1)) (sym after) (step graph c.args.start s c.loop-at.at c.loop-at.invariant.reached inside not_found);
      within = omega (arith, longer c.targets_of-next.result.now s);
    }

pub returns : goal.returns
returns c = (λ e. absurd (cc), λ l. absurd (ends (lists c.args.targets.now) c.args.start (c.loop-at.met.items, c.loop-at.queue.items) c.loop-at.at c.loop-at.invariant.reached (omega arith) l))
