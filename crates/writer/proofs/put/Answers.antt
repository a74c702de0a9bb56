-- One byte more at its place. Assumes nothing.
use mathlib.Core.Path.{refl}
use native.Mathlib.Omega.{arith}
use lib.Seq.{paste-zero}
use Rattle.writer.proofs.Laws.{put_turn, put_done}
use Rattle.writer.proofs.put.Goals as goal

pub loop-i-init : goal.loop-i-init
loop-i-init c = paste-zero c.args.out.now c.args.at c.args.part.now

pub loop-i-preserved : goal.loop-i-preserved
loop-i-preserved c =
    let l = c.loop-i in
    let a = c.args in
    put_turn a.at l.i a.part.now a.out.now l.out c.requires (omega arith) l.invariant

pub returns : goal.returns
returns c =
    let l = c.loop-i in
    let a = c.args in
    record { next_is = refl; now_is = put_done a.at l.i a.part.now a.out.now l.out (omega arith) l.invariant }
