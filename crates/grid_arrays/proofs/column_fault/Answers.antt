-- `grid_arrays::column_fault` meets its contract: three tests, and the number of the first that holds, whichever columns stood before.
-- Assumes nothing.
use mathlib.Core.Path.{◌≡◌, sym, ◌∙◌}
use Prim.Native.Nat.{◌*◌, ◌%◌, ◌^◌, ◌<◌}
use native.Mathlib.Omega.{arith}
use borrow.Author.Tests.{eq-eqb, ne_eqb}
use Rattle.grid.specs.Grid.{board, bit}
use Rattle.grid.proofs.Facts.{board_in}
use Rattle.grid.proofs.Powers.{shifted_one}
use Rattle.grid_arrays.proofs.Faulting.{bit_first, then_parity, then_twice, or_none, shift_fits}
use Rattle.grid_arrays.proofs.column_fault.Goals as goal
use Rattle.grid_arrays.proofs.column_fault.Goals.{Else-past-column, Start}

pub overflow_shr-stood : goal.overflow_shr-stood
unfolding board
overflow_shr-stood c = shift_fits _ _ c.args.board.accepted (omega arith)

few : (c : Start) → c.args.board.players < 32
unfolding board
few c = omega (arith, (board_in _ c.args.board.accepted).players_most)

-- one past the last column, as the code shifts it
past_is : (c : Start) → 1 * 2 ^ c.args.board.players % 2 ^ 32 ≡ 2 ^ c.args.board.players
past_is c = shifted_one 32 _ (few c)

pub returns-then-past-column : goal.returns-then-past-column
unfolding board
returns-then-past-column c before so_far = bit_first _ _ before _ (omega (arith, past_is (goal.at.returns-then-past-column c).Start))

-- behind the first test
low : (c : Else-past-column) → c.args.column < 2 ^ c.args.board.players
low c = omega (arith, past_is c.before.before)

pub returns-then-wrong_parity : goal.returns-then-wrong_parity
unfolding board
returns-then-wrong_parity c before so_far = then_parity _ _ before _ _ (low (goal.at.returns-then-wrong_parity c).Else-past-column) c.wrong_parity.ensures c.if-wrong_parity.true

pub returns-then-stood : goal.returns-then-stood
unfolding board bit
returns-then-stood c before so_far =
    then_twice _ _ before _ _ (low (goal.at.returns-then-stood c).Else-past-column) c.wrong_parity.ensures c.if-wrong_parity.false (sym (so_far _) ∙ eq-eqb _ _ c.if-stood.true)

pub returns : goal.returns
unfolding board bit
returns c before so_far =
    or_none _ _ before _ _ (low (goal.at.returns c).Else-past-column) c.wrong_parity.ensures c.if-wrong_parity.false (sym (so_far _) ∙ ne_eqb _ _ c.if-stood.false)

pub overflow_shl-past : goal.overflow_shl-past
overflow_shl-past c = few (goal.at.overflow_shl-past c).Start
