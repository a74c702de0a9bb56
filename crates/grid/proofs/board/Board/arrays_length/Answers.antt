-- `Board::arrays_length` meets its contract: an accepted board has at most 256 grid rows of at most 32 columns. Assumes nothing.
use mathlib.Core.Path.{◌≡◌}
use Prim.Native.Nat.{◌*◌}
use native.Mathlib.Omega.{arith}
use Rattle.grid.specs.Grid.{arrays_long}
use Rattle.grid.specs.Code.{board_of}
use Rattle.grid.proofs.Facts.{board_in}
use Rattle.grid.proofs.Sizes.{arrays_most}
use Rattle.grid.proofs.board.Board.arrays_length.Goals as goal

pub returns : goal.returns
returns c = rw (c.grid_rows.ensures, c.columns.ensures)

pub overflow_mul-result : goal.overflow_mul-result
overflow_mul-result c =
    let same : c.grid_rows.result * c.columns.result ≡ arrays_long (board_of c.args.self) = rw (c.grid_rows.ensures, c.columns.ensures) in
    omega (arith, same, arrays_most _ (board_in _ c.args.self.accepted))
