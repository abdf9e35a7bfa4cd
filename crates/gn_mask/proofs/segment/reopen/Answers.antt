use Rattle.std.proofs.Common.{◌≡◌, ◌-◌, length, Some, arith}
use Rattle.std.specs.Vec.{vec_len}
use Rattle.std.specs.List.{slice_get}
use Rattle.gn_mask.proofs.Segments.{apart, before_last}
use Rattle.gn_mask.proofs.segment.reopen.Goals as goal

pub returns-then-last-end-clause-rises : goal.returns-then-last-end-clause-rises
returns-then-last-end-clause-rises c =
    let ss = c.args.segments.now.items in
    let at : slice_get ss (length ss - 1) ≡ Some c.in-Some.last.now = grind (arith, c.last.ensures.value, c.in-Some.is, c.deref.ensures.value) in
    apart c.args.end ss c.in-Some.last.now c.requires at c.if-last-end.true

pub returns-clause-rises : goal.returns-clause-rises
returns-clause-rises c =
    let ss = c.args.segments.now.items in
    let at : slice_get ss (length ss - 1) ≡ Some c.in-Some.last.now = grind (arith, c.last.ensures.value, c.in-Some.is, c.deref.ensures.value) in
    let last : vec_len c.args.segments.now - 1 ≡ length ss - 1 = grind (arith, c.deref.ensures.value, c.deref.ensures.len) in
    rw (c.pop.ensures.rest, last) (before_last _ ss c.in-Some.last.now c.requires at).0

pub returns-clause-start : goal.returns-clause-start
returns-clause-start c =
    let ss = c.args.segments.now.items in
    let at : slice_get ss (length ss - 1) ≡ Some c.in-Some.last.now = grind (arith, c.last.ensures.value, c.in-Some.is, c.deref.ensures.value) in
    let starts = (before_last _ ss c.in-Some.last.now c.requires at).1 in
    omega (arith, starts, c.if-last-end.false)
