-- `grid_arrays::first_fault` meets its contract. The loop's invariant: what is found from the present grid row on is what is found from the
-- first.
-- Assumes nothing.
use mathlib.Core.Path.{◌≡◌}
use Prim.Native.Nat.{◌*◌, ◌-◌}
use Rattle.grid.specs.Grid.{columns}
use Rattle.grid.specs.Faults.{fault_from, arrays_fault}
use Rattle.grid.specs.Code.{board_of}
use Rattle.grid_arrays.proofs.first_fault.Given as goal

abbrev pub invariant-loop-grid_row : goal.invariant-loop-grid_row
invariant-loop-grid_row l =
    let wide = columns (board_of l.board) in
    fault_from ((l.grid_row-end - l.grid_row) * wide) (l.grid_row * wide) (board_of l.board) l.point l.arrays
    ≡ arrays_fault (board_of l.board) l.point l.arrays
