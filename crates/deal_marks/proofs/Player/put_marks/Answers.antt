use Rattle.std.proofs.Common.{arith}
use Rattle.keys.specs.Keys.{packed}
use Rattle.writer.proofs.Laws.{wrote_nothing}
use Rattle.deal_marks.proofs.PackedMarks.{packed_long, marks_turn}
use Rattle.deal_marks.proofs.Player.put_marks.Goals as goal

pub loop-byte-init : goal.loop-byte-init
unfolding packed
loop-byte-init c = wrote_nothing _ _

pub put_byte-next-requires : goal.put_byte-next-requires
put_byte-next-requires c =
    let a = c.args in
    let l = c.loop-byte in
    omega (arith, l.invariant.next_is, packed_long l.byte a.self.bit a.array.now)

pub loop-byte-preserved : goal.loop-byte-preserved
loop-byte-preserved c =
    let a = c.args in
    let l = c.loop-byte in
    marks_turn a.at a.count l.byte a.self.bit _ a.array.now (omega arith) c.requires.1 c.mark_byte.ensures l.invariant c.put_byte-next.ensures
