-- `Board::seeds_length` meets its contract. Assumes nothing.
use native.Mathlib.Omega.{arith}
use Rattle.grid.proofs.Facts.{board_in}
use Rattle.grid.proofs.Sizes.{arrays_most}
use Rattle.grid.proofs.board.Board.seeds_length.Goals as goal

pub overflow_mul-result : goal.overflow_mul-result
overflow_mul-result c = omega (arith, c.arrays_length.ensures, arrays_most _ (board_in _ c.args.self.accepted))
