-- `Board::grid_rows` meets its contract: an accepted board's positions and width are in their ranges.
-- Assumes nothing.
use Rattle.grid.specs.Grid.{board, grid_rows}
use Rattle.grid.proofs.Facts.{board_in}
use Rattle.grid.proofs.board.Board.grid_rows.Goals as goal

pub grid_rows_for-requires : goal.grid_rows_for-requires
unfolding board
grid_rows_for-requires c =
    let a = board_in _ c.args.self.accepted in (a.positions_most, a.wide_least, a.wide_most)

pub returns : goal.returns
unfolding board grid_rows
returns c = c.grid_rows_for.ensures
