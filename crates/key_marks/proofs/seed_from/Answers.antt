-- `key_marks::seed_from` meets its contract. Assumes nothing.
use native.Mathlib.Nat.{sub-zero}
use native.Mathlib.Omega.{arith}
use Rattle.keys.specs.Held.{seed_from}
use Rattle.key_lengths.proofs.Lengths.{columns_in, mark_bytes_in}
use Rattle.keys.proofs.Counting.{count_short}
use Rattle.key_marks.proofs.seed_from.Goals as goal

pub overflow_mul-result : goal.overflow_mul-result
overflow_mul-result c = omega (arith, count_short _ _ c.marks_between.ensures, columns_in _ c.args.board.accepted)

pub overflow_add-result : goal.overflow_add-result
overflow_add-result c =
    omega (arith, count_short _ _ c.marks_between.ensures, columns_in _ c.args.board.accepted, mark_bytes_in _ c.args.board.accepted)

pub returns : goal.returns
unfolding seed_from
returns c = rw (c.marks_between.ensures, c.mark_bytes.ensures, sub-zero)
