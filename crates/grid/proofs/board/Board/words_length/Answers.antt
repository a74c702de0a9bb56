-- `Board::words_length` meets its contract: an accepted board has a column at least, and at most 31 lent words of 4,096 bytes. Assumes nothing.
use mathlib.Core.Path.{◌≡◌}
use Prim.Native.Nat.{◌*◌, ◌-◌}
use native.Mathlib.Omega.{arith}
use Rattle.grid.specs.Grid.{words_long}
use Rattle.grid.specs.Code.{board_of}
use Rattle.grid.proofs.Facts.{board_in, columns_pos}
use Rattle.grid.proofs.Sizes.{words_most}
use Rattle.grid.proofs.board.Board.words_length.Goals as goal

pub returns : goal.returns
returns c = rw (c.columns.ensures, c.row_length.ensures)

pub overflow_sub-result : goal.overflow_sub-result
overflow_sub-result c = omega (arith, c.columns.ensures, columns_pos (board_of c.args.self))

pub overflow_mul-result : goal.overflow_mul-result
overflow_mul-result c =
    let same : (c.columns.result - 1) * c.row_length.result ≡ words_long (board_of c.args.self) = rw (c.columns.ensures, c.row_length.ensures) in
    omega (arith, same, words_most _ (board_in _ c.args.self.accepted))
