use Prim.Native.Nat.{◌≤◌}
use native.Mathlib.Omega.{arith}
use Rattle.key_width.proofs.Shortest.{width_accepted, begun, turn_taken, turn_longer, turn_higher, all_tried}
use Rattle.key_width.proofs.shortest_width.Goals as goal
use Rattle.key_width.proofs.shortest_width.Goals.{then-grid_rows_for-le-MOST_GRID_ROWS+then-length-least, then-grid_rows_for-le-MOST_GRID_ROWS+else-length-least, else-grid_rows_for-le-MOST_GRID_ROWS}

pub returns : goal.returns
returns c = all_tried _ _ _ c.loop-width.invariant (omega arith) (omega arith)

pub loop-width-init : goal.loop-width-init
loop-width-init c = begun _ _ _ c.requires (omega arith) (omega arith)

pub loop-width-preserved : goal.loop-width-preserved
loop-width-preserved c =
    let so_far = c.loop-width.invariant in
    let some : 1 ≤ c.loop-width.width = omega arith in
    let most : c.loop-width.width ≤ 256 = omega arith in
    let is = c.grid_rows_for.ensures in
    elim c.if-grid_rows_for-le-MOST_GRID_ROWS.branch [
      | then-grid_rows_for-le-MOST_GRID_ROWS+then-length-least w ↦
          rw (w.best-is, w.least-is)
          (turn_taken _ _ _ so_far some most is w.if-grid_rows_for-le-MOST_GRID_ROWS.true w.key_length-length.ensures w.if-length-least.true)
      | then-grid_rows_for-le-MOST_GRID_ROWS+else-length-least w ↦
          rw (w.best-is, w.least-is)
          (turn_longer _ _ _ so_far some most is w.if-grid_rows_for-le-MOST_GRID_ROWS.true w.key_length-length.ensures w.if-length-least.false)
      | else-grid_rows_for-le-MOST_GRID_ROWS w ↦
          rw (w.best-is, w.least-is) (turn_higher _ _ _ so_far some most is w.if-grid_rows_for-le-MOST_GRID_ROWS.false)
    ]

pub invariant_of-board : goal.invariant_of-board
invariant_of-board c = record { accepted = width_accepted _ _ _ _ c.requires (omega arith) (omega arith) (omega arith) }
