-- `board::within` meets its contract: each test is the definition's own.
-- Assumes nothing.
use borrow.Author.Tests.{le-leb, lt-leb}
use Rattle.grid.proofs.board.within.Goals as goal

pub returns-then-low-number : goal.returns-then-low-number
returns-then-low-number c = simp (le-leb _ _ c.if-low-number.true)

pub returns-else-low-number : goal.returns-else-low-number
returns-else-low-number c = simp (lt-leb _ _ c.if-low-number.false)
