-- `program_deal::asked_refusal` meets its contract. Assumes nothing.
use native.Mathlib.Omega.{arith}
use Rattle.grid.specs.Grid.{board}
use Rattle.program_deal.proofs.Dealings.{asked_point, asked_most, asked_length, asked_none}
use Rattle.program_deal.proofs.asked_refusal.Goals as goal

pub returns-then-board-point : goal.returns-then-board-point
unfolding board
returns-then-board-point c = asked_point _ _ _ _ c.args.board.accepted c.if-board-point.true

pub returns-then-whole-gt-MOST_BYTES : goal.returns-then-whole-gt-MOST_BYTES
unfolding board
returns-then-whole-gt-MOST_BYTES c = asked_most _ _ _ _ c.args.board.accepted c.if-board-point.false (omega arith)

pub returns-then-rest-asked_bytes : goal.returns-then-rest-asked_bytes
unfolding board
returns-then-rest-asked_bytes c =
    asked_length _ _ _ _ c.args.board.accepted c.if-board-point.false (omega arith) _ c.asked_bytes.ensures c.if-rest-asked_bytes.true

pub returns : goal.returns
unfolding board
returns c = asked_none _ _ _ _ c.args.board.accepted c.if-board-point.false (omega arith) _ c.asked_bytes.ensures c.if-rest-asked_bytes.false
