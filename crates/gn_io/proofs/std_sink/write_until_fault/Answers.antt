use Rattle.std.proofs.Common.{◌≤◌, ◌-◌, arith, length, take, drop, length-drop}
use Rattle.std.specs.Io.KnownBytes.{Appends}
use Rattle.std.proofs.KnownBytes.{Appends-trans}
use Rattle.std.proofs.Math.Seq.{take-add}
use Rattle.std.proofs.lemmas.List.{take_rest}
use Rattle.gn_io.proofs.std_sink.write_until_fault.Goals as goal

pub loop-preserved : goal.loop-preserved
loop-preserved g c =
    let bytes = c.args.bytes.now in
    let taken = c.loop.taken in
    let more = c.in-Some.more in
    let rest = take (length bytes - taken) (drop taken bytes) in
    let in_rest : more ≤ length rest = c.in-Some.ensures.bound in
    let grows : Appends (g.W.Write.contents c.loop.to) (g.W.Write.contents c.write_once.new.to) (take more rest) = c.in-Some.ensures.writes in
    record {
      bound = omega (arith, simp (take_rest, length-drop) at in_rest);
      writes =
          rw (take-add taken more bytes, ← take_rest bytes taken)
          (Appends-trans _ _ _ _ _ c.loop.invariant.writes grows);
    }
