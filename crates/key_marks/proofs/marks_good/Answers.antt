use mathlib.Core.Path.{◌≡◌, ap, ◌∙◌}
use mathlib.Core.Bool.{not}
use Prim.Native.Nat.{ℕ, ◌+◌, ◌-◌}
use native.Mathlib.Omega.{arith}
use Rattle.grid.specs.Code.{board_of}
use Rattle.keys.specs.Keys.{marks_good}
use Rattle.keys.proofs.Counting.{rows_broken, rows_next, rows_done}
use Rattle.key_marks.proofs.marks_good.Goals as goal

pub returns-then-not-grid_row_fits : goal.returns-then-not-grid_row_fits
returns-then-not-grid_row_fits c =
    rows_broken _ _ _ _ c.loop.invariant _ (omega (arith, c.loop-test.true)) c.grid_row_fits.ensures (ap not c.if-not-grid_row_fits.true)

pub loop-preserved : goal.loop-preserved
loop-preserved c =
    let left : c.grid_rows-end.result - (c.loop.counter + 1) ≡ c.grid_rows-end.result - c.loop.counter - 1 = omega arith in
    ap (λ (k : ℕ). marks_good k (board_of c.args.board) c.part_from-part.result.now) left
    ∙ rows_next _ _ _ _ c.loop.invariant _ _ _ (omega (arith, c.loop-test.true)) c.grid_row_fits.ensures (ap not c.if-not-grid_row_fits.false)
    c.stride-row.ensures c.part_from-part.ensures

pub returns : goal.returns
returns c = rows_done _ _ _ _ c.loop.invariant (omega (arith, c.loop-test.false))
