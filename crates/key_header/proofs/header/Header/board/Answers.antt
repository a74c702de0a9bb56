-- `key_header::header::Header::board` meets its contract: each answer is the number due. Assumes nothing.
use mathlib.Core.Path.{◌≡◌}
use native.Mathlib.Omega.{arith}
use borrow.Author.Rules.{rules}
use Rattle.std.proofs.Common.{Err}
use Rattle.refusal.proofs.Numbers.{number_some}
use Rattle.grid.specs.Grid.{board}
use Rattle.keys.proofs.Accepted.{numbers_due}
use Rattle.key_header.proofs.header.Header.board.Goals as goal

pub returns-in_err-board-clause-refusal : goal.returns-in_err-board-clause-refusal
unfolding board
returns-in_err-board-clause-refusal c =
    let refusal = c.in_err-board.field-0.0 in
    let is : c.from_residual.result ≡ Err refusal = search rules in
    rw is (numbers_due _ _ _ _ c.in_err-board.ensures.refusal (omega (arith, number_some refusal)))

pub returns-then-self-clause-refusal : goal.returns-then-self-clause-refusal
unfolding board
returns-then-self-clause-refusal c = numbers_due _ _ _ _ c.in_ok-board.ensures.refusal (omega (arith, c.if-self.true))

pub returns-clause-refusal : goal.returns-clause-refusal
unfolding board
returns-clause-refusal c = numbers_due _ _ _ _ c.in_ok-board.ensures.refusal (omega (arith, c.if-self.false))

pub returns-clause-numbers : goal.returns-clause-numbers
returns-clause-numbers c = c.in_ok-board.ensures.numbers
