-- `board::columns_for` meets its contract: the shift loses no bit.
-- Assumes nothing.
use borrow.Author.Rules.{rules}
use Rattle.grid.proofs.Powers.{shifted_one}
use Rattle.grid.proofs.board.columns_for.Goals as goal

pub returns : goal.returns
returns c = shifted_one 32 _ (search rules)
