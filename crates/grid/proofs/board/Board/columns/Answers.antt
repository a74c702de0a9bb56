-- `Board::columns` meets its contract: an accepted board has 2 to 6 players.
-- Assumes nothing.
use Rattle.grid.specs.Grid.{board, columns}
use Rattle.grid.proofs.Facts.{board_in}
use Rattle.grid.proofs.board.Board.columns.Goals as goal

pub columns_for-requires : goal.columns_for-requires
unfolding board
columns_for-requires c = let a = board_in _ c.args.self.accepted in (a.players_least, a.players_most)

pub returns : goal.returns
unfolding board columns
returns c = c.columns_for.ensures
