use mathlib.Core.Path.{refl}
use native.Mathlib.Omega.{arith}
use borrow.Author.Rules.{rules}
use Rattle.xor.proofs.Laws.{length-xors}
use Rattle.xor.proofs.Writing.{next_byte, all_written}
use Rattle.xor.proofs.xor_into.Goals as goal

pub loop-i-preserved : goal.loop-i-preserved
loop-i-preserved c =
    let l = c.loop-i in
    next_byte l.out _ _ l.i _ c.requires (omega arith) l.invariant (search rules) (search rules) refl

pub returns : goal.returns
returns c =
    let a = c.args in
    all_written c.loop-i.out _ a.out.now c.loop-i.i (length-xors a.out.now a.row.now c.requires) (omega arith) c.loop-i.invariant
