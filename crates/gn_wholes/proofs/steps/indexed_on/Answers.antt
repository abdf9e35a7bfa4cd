use Rattle.std.proofs.Common.{◌≡◌, ◌∙◌, ◌<◌, ◌-◌, ℕ, pos, List, length, map, take, drop, sym, subst, arith, length-drop}
use Rattle.std.specs.List.{range_with_len}
use Rattle.std.proofs.lemmas.List.{take_all}
use Rattle.gn_value.specs.Registers.{register_kind, register_len, register_value}
use Rattle.gn_value.specs.Values.{as_int}
use Rattle.gn_value.specs.declared.value.ValueKind.TheVariants.{Int}
use Rattle.gn_plain.specs.Contexts.{length_of}
use Rattle.gn_plain.specs.Fields.{Expr, elsewhere, at_index}
use Rattle.gn_field.specs.Steps.{built, named}
use Rattle.gn_interp.specs.Numbers.{number_at}
use Rattle.gn_slots.specs.Registers.{AllGive}
use Rattle.gn_wholes.specs.Covers.{CoversRoots, GivesWhole}
use Rattle.gn_wholes.proofs.Arguments.{are_two, one_given, len_is, index_gives, integer_in}
use Rattle.gn_wholes.proofs.steps.indexed_on.Goals as goal

-- what is behind the first argument
rest : (args : List ℕ) → take (length args - 1) (drop 1 args) ≡ drop 1 args
rest args = take_all (length args - 1) (drop 1 args) (omega (arith, length-drop 1 args))

pub values_on-requires-2-clause-covers : goal.values_on-requires-2-clause-covers
values_on-requires-2-clause-covers g c κs within =
    subst (λ (js : List ℕ). CoversRoots (g.C.Context.meaning c.args.context.now) c.args.steps.now js c.args.wholes.now) (sym (rest c.args.args.now)) c.requires.covers_index

pub index-requires-2 : goal.index-requires-2
index-requires-2 g c =
    let src = g.S.Source.sources in
    let here = g.C.Context.meaning c.args.context.now in
    let make : ℕ → Expr g.row.S.Denot = named (built c.args.steps.now) in
    let args = c.args.args.now in
    let two = are_two src make c.args.step.0 Int args c.requires.kinds in
    let give = subst (λ (js : List ℕ). AllGive src here (range_with_len 0 (length_of here)) (map make js) c.in_ok-indices.indices.items) (rest args) c.in_ok-indices.ensures.give in
    let one = one_given src here (range_with_len 0 (length_of here)) Int (map make (drop 1 args)) c.in_ok-indices.indices.items two.second give in
    omega (arith, one.0)

pub pick_at-requires-clause-long : goal.pick_at-requires-clause-long
pick_at-requires-clause-long g c =
    let src = g.S.Source.sources in
    let here = g.C.Context.meaning c.args.context.now in
    let make : ℕ → Expr g.row.S.Denot = named (built c.args.steps.now) in
    let args = c.args.args.now in
    let w = c.index-2.result.now in
    let two = are_two src make c.args.step.0 Int args c.requires.kinds in
    let give = subst (λ (js : List ℕ). AllGive src here (range_with_len 0 (length_of here)) (map make js) c.in_ok-indices.indices.items) (rest args) c.in_ok-indices.ensures.give in
    let one = one_given src here (range_with_len 0 (length_of here)) Int (map make (drop 1 args)) c.in_ok-indices.indices.items two.second give in
    let t = one.1 w c.index-2.ensures in
    let long : length c.list.result.now ≡ length_of here = c.list.ensures.len (t.gives.kind ∙ t.kind) ∙ len_is src here t.e w t.gives in
    omega (arith, long, c.in_ok-register.ensures.len, c.len.ensures)

pub returns : goal.returns
returns g c =
    let src = g.S.Source.sources in
    let here = g.C.Context.meaning c.args.context.now in
    let there = g.C.Context.meaning c.args.source.now in
    let kind = c.args.step.0 in
    let place = c.args.step.1 in
    let make : ℕ → Expr g.row.S.Denot = named (built c.args.steps.now) in
    let args = c.args.args.now in
    let v = c.index.result.now in
    let w = c.index-2.result.now in
    let r = c.pick_at.new.into in
    let indices = c.list.result.now in
    let two = are_two src make kind Int args c.requires.kinds in
    let give = subst (λ (js : List ℕ). AllGive src here (range_with_len 0 (length_of here)) (map make js) c.in_ok-indices.indices.items) (rest args) c.in_ok-indices.ensures.give in
    let one_v = one_given src there (range_with_len 0 (length_of there)) kind (map make (take 1 args)) c.in_ok-values.values.items two.first c.in_ok-values.ensures.give in
    let one_w = one_given src here (range_with_len 0 (length_of here)) Int (map make (drop 1 args)) c.in_ok-indices.indices.items two.second give in
    let t = one_v.1 v c.index.ensures in
    let u = one_w.1 w c.index-2.ensures in
    let kind_w : register_kind w ≡ Int = u.gives.kind ∙ u.kind in
    let numbers : (j : ℕ) → j < register_len w → number_at indices j ≡ as_int (register_value j w) =
    λ j below. c.list.ensures.values kind_w j (pos 0) (subst (λ n. j < n) (sym (c.list.ensures.len kind_w)) below) ∙ integer_in w kind_w j in
    let long : register_len c.in_ok-register.register ≡ length_of here = omega (arith, c.in_ok-register.ensures.len, c.len.ensures) in
    subst (λ as'. GivesWhole src here (elsewhere (at_index kind place) as') r) (sym (two.joined t.e u.e t.es_are u.es_are))
    (index_gives src here kind place t.e u.e v w r indices c.requires.has t.kind (subst (λ d. GivesWhole src d t.e v) c.requires.source t.gives) u.gives numbers (c.pick_at.ensures.kind ∙ c.in_ok-register.ensures.kind) (c.pick_at.ensures.len ∙ long)
    (λ k below. c.pick_at.ensures.values k (subst (λ n. k < n) c.pick_at.ensures.len below)))
