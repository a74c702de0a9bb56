-- `Player::mark_byte` meets its contract. Assumes nothing.
use native.Mathlib.Omega.{arith}
use Rattle.deal_marks.proofs.PackedMarks.{packed_small, eight_packed, last_four}
use Rattle.deal_marks.proofs.Player.mark_byte.Goals as goal

pub overflow_mul-result : goal.overflow_mul-result
overflow_mul-result c = omega (arith, packed_small 4 _ _ c.four_marks-then-from-array.ensures)

pub overflow_add-result : goal.overflow_add-result
overflow_add-result c = omega (arith, packed_small 4 _ _ c.four_marks-then-from-array.ensures, packed_small 4 _ _ c.four_marks.ensures)

pub returns-then-from-array : goal.returns-then-from-array
returns-then-from-array c =
    let a = c.args in
    eight_packed a.self.bit a.from a.array.now c.four_marks.ensures c.four_marks-then-from-array.ensures

pub returns-then-from-array-2 : goal.returns-then-from-array-2
returns-then-from-array-2 c =
    let a = c.args in
    last_four a.self.bit a.from a.array.now c.four_marks-then-from-array-2.ensures c.if-from-array-2.true
