-- `Board::table_length` meets its contract: an accepted board has at most 65,536 positions of at most 16 bytes.
-- Assumes nothing.
use mathlib.Core.Path.{refl}
use native.Mathlib.Omega.{arith}
use Rattle.grid.specs.Grid.{board}
use Rattle.grid.proofs.Facts.{board_in}
use Rattle.grid.proofs.Sizes.{table_most}
use Rattle.grid.proofs.board.Board.table_length.Goals as goal

pub returns : goal.returns
returns c = refl

pub overflow_mul-result : goal.overflow_mul-result
unfolding board
overflow_mul-result c = omega (arith, table_most _ (board_in _ c.args.self.accepted))
