-- `board::grid_rows_for` meets its contract: it is the quotient that the contract names. Assumes nothing.
use mathlib.Core.Path.{refl}
use Rattle.grid.proofs.board.grid_rows_for.Goals as goal

pub returns : goal.returns
returns c = refl
