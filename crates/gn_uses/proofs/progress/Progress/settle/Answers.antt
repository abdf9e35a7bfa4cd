use Rattle.std.proofs.Common.{◌≡◌, ◌+◌, ◌<◌, length, get_or, refl, sym, ap, ◌∙◌, subst, arith}
use Rattle.gn_uses.specs.declared.progress.Progress.{Progress}
use Rattle.gn_uses.proofs.Marking.{goes_further}
use Rattle.gn_uses.proofs.Settling.{no_out, out_there, one_more, OneMore}
use Rattle.gn_uses.proofs.progress.Progress.settle.Goals as goal

pub follow-requires-clause-there : goal.follow-requires-clause-there
follow-requires-clause-there c =
    let p : Progress = c.loop-self.self in
    let more : p.followed < length p.wanted.items = let e = ap (λ xs. length xs) c.items.ensures.list in omega (arith, e, c.loop-self-test.true) in
    subst (λ xs. (get_or xs p.followed no_out).node < length p.wanted.sizes) (sym c.items-in-loop-self.ensures.list)
    (out_there c.args.parts.now p c.loop-self.invariant.can c.loop-self.invariant.right more)

pub loop-self-preserved : goal.loop-self-preserved
loop-self-preserved c =
    let p : Progress = c.loop-self.self in
    let before : Progress = record p { followed = p.followed + 1 } in
    let more : p.followed < length p.wanted.items = let e = ap (λ xs. length xs) c.items.ensures.list in omega (arith, e, c.loop-self-test.true) in
    let one : OneMore c.args.parts.now p c.loop-self.invariant.can c.loop-self.invariant.right more c.follow.new.self =
    one_more c.args.parts.now p c.loop-self.invariant.can c.loop-self.invariant.right more c.follow.new.self before
    (get_or c.items-in-loop-self.result.now p.followed no_out) (ap (λ xs. get_or xs p.followed no_out) c.items-in-loop-self.ensures.list)
    c.follow.ensures refl refl refl refl in
    record {
      can = one.can;
      right = one.right;
      sizes = one.sizes ∙ c.loop-self.invariant.sizes;
      used = goes_further c.args.self.now.used.items p.used.items c.follow.new.self.used.items c.loop-self.invariant.used one.used;
      line = goes_further c.args.self.now.line.items p.line.items c.follow.new.self.line.items c.loop-self.invariant.line one.line;
    }
