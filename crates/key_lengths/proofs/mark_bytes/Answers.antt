-- `key_lengths::mark_bytes` meets its contract. Assumes nothing.
use native.Mathlib.Omega.{arith}
use Rattle.grid.specs.Code.{board_of}
use Rattle.keys.specs.Keys.{mark_bytes}
use Rattle.key_lengths.proofs.Lengths.{columns_in}
use Rattle.key_lengths.proofs.mark_bytes.Goals as goal

pub overflow_add-result : goal.overflow_add-result
overflow_add-result c =
    let size = columns_in (board_of c.args.board) c.args.board.accepted in omega arith

pub returns : goal.returns
unfolding mark_bytes
returns c = rw c.columns.ensures
