-- `open_grid_row::grid_row_seeds` meets its contract. Assumes nothing.
use Prim.Native.Nat.{◌+◌, ◌*◌, ◌/◌, ◌≤◌}
use native.Mathlib.Omega.{arith}
use lib.ListN.{length}
use Rattle.grid.specs.Code.{board_of}
use Rattle.open_grid_row.proofs.Columns.{seeds_fit}
use Rattle.open_grid_row.proofs.grid_row_seeds.Goals as goal
use Rattle.open_grid_row.proofs.grid_row_seeds.Goals.{After-columns}

-- the seeds lie in the part
there : (c : After-columns) → c.mark_bytes-from.result + 32 * (c.columns.result / 2) ≤ length c.args.part.now
there c = seeds_fit (board_of c.args.board) _ _ c.args.part.now c.mark_bytes-from.ensures c.columns.ensures c.requires

pub overflow_mul-end : goal.overflow_mul-end
overflow_mul-end c = omega (arith, there c)

pub overflow_add-end : goal.overflow_add-end
overflow_add-end c = omega (arith, there c)

pub slice_bounds-result-end : goal.slice_bounds-result-end
slice_bounds-result-end c = omega (arith, there c)
