-- `key_lengths::body_length` meets its contract: no product of an accepted board's sizes overflows. Assumes nothing.
use native.Mathlib.Omega.{arith}
use Rattle.grid.specs.Code.{board_of}
use Rattle.key_lengths.proofs.Lengths.{product_in, rows_in, words_in}
use Rattle.key_lengths.proofs.body_length.Goals as goal

pub overflow_mul-result : goal.overflow_mul-result
overflow_mul-result c =
    let rows = product_in c.grid_rows.ensures c.stride.ensures (rows_in (board_of c.args.board) c.args.board.accepted) in omega arith

pub overflow_mul-result-2 : goal.overflow_mul-result-2
overflow_mul-result-2 c =
    let words = product_in c.columns.ensures c.row_length.ensures (words_in (board_of c.args.board) c.args.board.accepted) in omega arith

pub overflow_add-result : goal.overflow_add-result
overflow_add-result c =
    let b = board_of c.args.board in
    let rows = product_in c.grid_rows.ensures c.stride.ensures (rows_in b c.args.board.accepted) in
    let words = product_in c.columns.ensures c.row_length.ensures (words_in b c.args.board.accepted) in omega arith
