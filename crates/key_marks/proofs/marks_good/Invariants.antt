-- `key_marks::marks_good` meets its contract. The invariant: the grid rows left to see decide what all of them do. Assumes nothing.
use mathlib.Core.Path.{◌≡◌}
use Prim.Native.Nat.{◌-◌}
use Rattle.grid.specs.Grid.{grid_rows}
use Rattle.grid.specs.Code.{board_of}
use Rattle.keys.specs.Keys.{marks_good}
use Rattle.key_marks.proofs.marks_good.Given as goal

abbrev pub invariant-loop : goal.invariant-loop
invariant-loop l =
    marks_good (l.end - l.counter) (board_of l.board) l.part ≡ marks_good (grid_rows (board_of l.board)) (board_of l.board) l.body
