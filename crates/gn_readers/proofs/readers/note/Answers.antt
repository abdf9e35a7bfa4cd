use Rattle.std.proofs.Common.{◌<◌, ◌++◌, ◌∷◌, [], length, set, sym, ap, ◌∙◌, arith}
use Rattle.std.proofs.lemmas.List.{length-set}
use Rattle.gn_readers.specs.Readers.{lists_of}
use Rattle.gn_readers.proofs.Noting.{one_noted, row_set, other_row, row_there, lists_counted}
use Rattle.gn_readers.proofs.readers.note.Goals as goal

pub returns : goal.returns
returns g c looked looked2 more have =
    let below : c.in-Out.node < length c.args.readers.now.items = omega (arith, c.if-len-number.false, c.len.ensures) in
    let len = lists_counted (set c.args.readers.now.items c.in-Out.node c.push.new.self) ∙ length-set c.args.readers.now.items c.in-Out.node c.push.new.self ∙ sym (lists_counted c.args.readers.now.items) in
    let row = ap (λ v. v.items) c.index_mut.ensures.value ∙ sym (row_there c.args.readers.now.items c.in-Out.node c.index_mut.result.now below) in
    let here = row_set c.args.readers.now.items c.in-Out.node c.push.new.self below ∙ c.in_ok-push.ensures.items ∙ ap (λ xs. xs ++ record { output = c.in-Out.socket; place = c.args.place } ∷ []) row in
    one_noted c.args.graph.now looked looked2 c.args.place more c.args.link.now c.requires (lists_of c.args.readers.now.items) (lists_of (set c.args.readers.now.items c.in-Out.node c.push.new.self)) c.in-Out.node c.in-Out.socket have c.in-Out.is len here
    (λ n d. other_row c.args.readers.now.items c.in-Out.node n c.push.new.self d)
