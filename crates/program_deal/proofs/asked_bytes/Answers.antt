-- `program_deal::asked_bytes` meets its contract. Assumes nothing.
use Prim.Native.Nat.{◌≤◌}
use native.Mathlib.Omega.{arith}
use Rattle.grid.specs.Grid.{board, arrays_long, words_long}
use Rattle.grid.specs.Code.{board_of}
use Rattle.grid.proofs.Facts.{board_in}
use Rattle.grid.proofs.Sizes.{arrays_most, words_most}
use Rattle.program_deal.specs.Dealing.{asked_bytes}
use Rattle.program_deal.proofs.asked_bytes.Goals as goal
use Rattle.program_deal.proofs.asked_bytes.Goals.{Start}

-- the lengths are small
small : (s : Start) → let b = s.args.board in (b.value_bytes ≤ 16) × (arrays_long (board_of b) ≤ 8192) × (words_long (board_of b) ≤ 131072)
unfolding board
small s = let f = board_in _ s.args.board.accepted in (f.value_most, arrays_most _ f, words_most _ f)

pub overflow_add-result : goal.overflow_add-result
overflow_add-result c = omega (arith, c.arrays_length.ensures, small (goal.at.overflow_add-result c).Start)

pub overflow_add-result-2 : goal.overflow_add-result-2
overflow_add-result-2 c = omega (arith, c.seeds_length.ensures, c.arrays_length.ensures, small (goal.at.overflow_add-result-2 c).Start)

pub overflow_add-result-3 : goal.overflow_add-result-3
overflow_add-result-3 c =
    omega (arith, c.words_length.ensures, c.seeds_length.ensures, c.arrays_length.ensures, small (goal.at.overflow_add-result-3 c).Start)

pub returns : goal.returns
unfolding asked_bytes board
returns c = rw (c.words_length.ensures, c.seeds_length.ensures, c.arrays_length.ensures)
