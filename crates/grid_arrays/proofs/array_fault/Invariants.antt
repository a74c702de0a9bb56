-- `grid_arrays::array_fault` meets its contract. The loop's invariant: `ColumnsSeen` of the columns before the present one, and what is found
-- from the present one on is what is found from the first.
-- Assumes nothing.
use mathlib.Core.Path.{◌≡◌}
use Prim.Native.Nat.{◌+◌, ◌*◌, ◌-◌}
use Rattle.grid.specs.Grid.{columns}
use Rattle.grid.specs.Faults.{columns_before, fault_from}
use Rattle.grid.specs.Code.{board_of}
use Rattle.grid_arrays.specs.Seen.{ColumnsSeen}
use Rattle.grid_arrays.proofs.array_fault.Given as goal

abbrev pub invariant-loop-place : goal.invariant-loop-place
invariant-loop-place l =
    let array = l.grid_row * columns (board_of l.board) in
    ColumnsSeen (columns_before (board_of l.board) l.arrays l.grid_row l.place) l.seen
    × (fault_from (l.columns - l.place) (array + l.place) (board_of l.board) l.point l.arrays
    ≡ fault_from (columns (board_of l.board)) array (board_of l.board) l.point l.arrays)
