use Rattle.std.proofs.Common.{◌≡◌, ◌<◌, inl, inr, Some, [], ◌∷◌, length, map, refl, sym, ap, subst, ◌∙◌, arith}
use Rattle.std.proofs.lemmas.List.{length-map}
use Rattle.std.specs.Prelude.{option_map, slice_get}
use Rattle.gn_node_set.proofs.Lists.{some_same, append_nil}
use Rattle.gn_readers.specs.Readers.{link_at}
use Rattle.gn_delivery.specs.Plans.{MayChooseBy, carried}
use Rattle.gn_delivery.proofs.Planning.{due_reader, carried_plain, only_second, one_planned}
use Rattle.gn_delivery.proofs.plan.plan_one.Goals as goal

pub chosen_at-requires-after_bounds : goal.chosen_at-requires-after_bounds
chosen_at-requires-after_bounds g c κs within =
    let m = g.N.NodeSet.meanings in
    let is : link_at c.args.graph.now c.args.reader.now.place ≡ Some c.in-Some.link.now = sym c.link_at.ensures ∙ ap (option_map (λ x. x.now)) c.in-Some.is in
    let yes : slice_get c.args.plan.now.itself.items c.args.reader.now.output ≡ Some (Some c.args.reader.now.place) = ap (λ xs. slice_get xs c.args.reader.now.output) (sym c.deref.ensures.value) ∙ c.if-gets_itself.ensures refl in
    let inside : c.args.reader.now.output < length c.args.outputs.now.items = omega (arith, c.requires.can.there, length-map c.args.outputs.now.items g.N.NodeSet.content) in
    let value = carried_plain m g.N.NodeSet.kind_of c.args.graph.now (map g.N.NodeSet.content c.args.outputs.now.items) 0 g.N.NodeSet.content c.args.outputs.now.items c.args.reader.now.output c.index.result.now c.in-Some.link.now.through.items refl inside c.index.ensures (c.requires.plain c.args.reader.now.output c.args.reader.now.place yes c.in-Some.link.now is) in
    subst (λ x. MayChooseBy m g.N.NodeSet.kind_of c.args.graph.now c.args.reader.now.place (m.sort x)) value (c.requires.can.chooses c.in-Some.link.now is)

pub returns-then-gets_itself-clause-planned : goal.returns-then-gets_itself-clause-planned
returns-then-gets_itself-clause-planned g c n rs leads before =
    let m = g.N.NodeSet.meanings in
    let outs = map g.N.NodeSet.content c.args.outputs.now.items in
    let yes : slice_get c.args.plan.now.itself.items c.args.reader.now.output ≡ Some (Some c.args.reader.now.place) = ap (λ xs. slice_get xs c.args.reader.now.output) (sym c.deref.ensures.value) ∙ c.if-gets_itself.ensures refl in
    let inside : c.args.reader.now.output < length c.args.outputs.now.items = omega (arith, c.requires.can.there, length-map c.args.outputs.now.items g.N.NodeSet.content) in
    let value = carried_plain m g.N.NodeSet.kind_of c.args.graph.now (map g.N.NodeSet.content c.args.outputs.now.items) n g.N.NodeSet.content c.args.outputs.now.items c.args.reader.now.output c.index.result.now leads.0.through.items refl inside c.index.ensures (c.requires.plain c.args.reader.now.output c.args.reader.now.place yes leads.0 leads.1) in
    one_planned m g.N.NodeSet.kind_of c.args.graph.now (map g.N.NodeSet.content c.args.outputs.now.items) n g.N.NodeSet.content rs c.args.reader.now c.args.plan.now _ (g.N.NodeSet.content c.index.result.now) c.in_ok-made.made [] before
    refl (sym (append_nil c.args.plan.now.seconds.items)) c.in_ok-note_choice.ensures
    (due_reader m g.N.NodeSet.kind_of c.args.graph.now (map g.N.NodeSet.content c.args.outputs.now.items) n c.args.reader.now leads.0 leads.1 leads.2 ∙ ap Some value)
    c.in_ok-made.ensures (λ x h. absurd h) (inr yes)

pub chosen_at-requires-2-after_bounds : goal.chosen_at-requires-2-after_bounds
chosen_at-requires-2-after_bounds g c κs within =
    let m = g.N.NodeSet.meanings in
    let is : link_at c.args.graph.now c.args.reader.now.place ≡ Some c.in-Some.link.now = sym c.link_at.ensures ∙ ap (option_map (λ x. x.now)) c.in-Some.is in
    subst (λ x. MayChooseBy m g.N.NodeSet.kind_of c.args.graph.now c.args.reader.now.place (m.sort x)) (sym c.in_ok-second.ensures.value) (c.requires.can.chooses c.in-Some.link.now is)

pub returns-clause-planned : goal.returns-clause-planned
returns-clause-planned g c n rs leads before =
    let m = g.N.NodeSet.meanings in
    let is : link_at c.args.graph.now c.args.reader.now.place ≡ Some c.in-Some.link.now = sym c.link_at.ensures ∙ ap (option_map (λ x. x.now)) c.in-Some.is in
    let same : leads.0 ≡ c.in-Some.link.now = some_same (sym leads.1 ∙ is) in
    let value = due_reader m g.N.NodeSet.kind_of c.args.graph.now (map g.N.NodeSet.content c.args.outputs.now.items) n c.args.reader.now leads.0 leads.1 leads.2
    ∙ ap (λ l. Some (carried m g.N.NodeSet.kind_of c.args.graph.now (map g.N.NodeSet.content c.args.outputs.now.items) c.args.reader.now.output l.through.items)) same
    ∙ ap Some (sym c.in_ok-second.ensures.value) in
    let right = only_second m g.N.NodeSet.kind_of c.args.graph.now (map g.N.NodeSet.content c.args.outputs.now.items) n g.N.NodeSet.content c.in_ok-second.second c.args.reader.now.place c.in_ok-second.ensures.place value in
    one_planned m g.N.NodeSet.kind_of c.args.graph.now (map g.N.NodeSet.content c.args.outputs.now.items) n g.N.NodeSet.content rs c.args.reader.now c.args.plan.now _ (g.N.NodeSet.content c.in_ok-second.second.value) c.in_ok-made-2.made (c.in_ok-second.second ∷ []) before
    refl c.in_ok-push.ensures.items c.in_ok-note_choice-2.ensures value c.in_ok-made-2.ensures right (inl (c.in_ok-second.second, inl refl, c.in_ok-second.ensures.place))
