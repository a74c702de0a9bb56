-- `key_marks::grid_row_fits` meets its contract: both counts are those of the definition. Assumes nothing.
use native.Mathlib.Omega.{arith}
use Rattle.grid.specs.Code.{board_of}
use Rattle.key_lengths.proofs.Lengths.{mark_bytes_in}
use Rattle.keys.proofs.Counting.{row_unfit, row_fit}
use Rattle.key_marks.proofs.grid_row_fits.Goals as goal

pub returns : goal.returns
returns c =
    row_fit _ _ _ _ _ _ c.columns-columns.ensures c.mark_bytes-bits.ensures c.marks_between-marks.ensures (omega (arith, c.if-marks-columns))
    c.marks_between.ensures

pub returns-then-marks-columns : goal.returns-then-marks-columns
returns-then-marks-columns c =
    row_unfit _ _ _ _ c.columns-columns.ensures c.marks_between-marks.ensures (omega (arith, c.if-marks-columns))

pub overflow_mul-bits : goal.overflow_mul-bits
overflow_mul-bits c =
    let size = mark_bytes_in (board_of c.args.board) c.args.board.accepted in omega arith
