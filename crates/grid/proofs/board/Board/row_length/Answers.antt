-- `Board::row_length` meets its contract: an accepted board's row has at most 256 cells of at most 16 bytes.
-- Assumes nothing.
use mathlib.Core.Path.{refl}
use native.Mathlib.Omega.{arith}
use Rattle.grid.specs.Grid.{board, row_long}
use Rattle.grid.proofs.Facts.{board_in}
use Rattle.grid.proofs.Sizes.{row_most}
use Rattle.grid.proofs.board.Board.row_length.Goals as goal

pub overflow_mul-result : goal.overflow_mul-result
unfolding board row_long
overflow_mul-result c = omega (arith, row_most _ (board_in _ c.args.self.accepted))

pub overflow_cast-result : goal.overflow_cast-result
unfolding board row_long
overflow_cast-result c = omega (arith, row_most _ (board_in _ c.args.self.accepted))

pub returns : goal.returns
unfolding board row_long
returns c = refl
