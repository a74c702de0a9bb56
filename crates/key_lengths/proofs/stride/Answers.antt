-- `key_lengths::stride` meets its contract. Assumes nothing.
use native.Mathlib.Omega.{arith}
use Rattle.grid.specs.Code.{board_of}
use Rattle.keys.specs.Keys.{stride}
use Rattle.key_lengths.proofs.Lengths.{columns_in, mark_bytes_in}
use Rattle.key_lengths.proofs.stride.Goals as goal

pub overflow_mul-result : goal.overflow_mul-result
overflow_mul-result c =
    let size = columns_in (board_of c.args.board) c.args.board.accepted in omega arith

pub overflow_add-result : goal.overflow_add-result
overflow_add-result c =
    let size = columns_in (board_of c.args.board) c.args.board.accepted in
    let marks = mark_bytes_in (board_of c.args.board) c.args.board.accepted in omega arith

pub returns : goal.returns
unfolding stride
returns c = rw (c.columns.ensures, c.mark_bytes.ensures)
