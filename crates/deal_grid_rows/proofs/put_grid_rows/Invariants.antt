-- `deal_grid_rows::put_grid_rows` meets its contract. The loop's invariant: the grid rows before this one are written. Assumes nothing.
use Rattle.grid.specs.Code.{board_of}
use Rattle.keys.specs.Keys.{body_from}
use Rattle.writer.specs.Written.{Wrote}
use Rattle.deal_grid_rows.proofs.put_grid_rows.Given as goal

abbrev pub invariant-loop-grid_row : goal.invariant-loop-grid_row
invariant-loop-grid_row l =
    Wrote l.at (body_from l.grid_row (board_of l.dealing.board) l.player.bit l.dealing.arrays.now l.dealing.seeds.now) l.next l.initial.out l.out
