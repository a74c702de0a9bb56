-- `deal_grid_rows::put_grid_row` meets its contract: four columns at once, or marks, and held seeds behind them. Assumes nothing.
use native.Mathlib.Omega.{arith}
use Rattle.keys.specs.Keys.{packed, held_seeds}
use Rattle.writer.proofs.Laws.{wrote_then}
use Rattle.deal_grid_rows.specs.Rows.{row_bytes}
use Rattle.deal_marks.proofs.PackedMarks.{packed_long}
use Rattle.deal_grid_rows.proofs.RowBytes.{row_parts}
use Rattle.deal_grid_rows.proofs.put_grid_row.Goals as goal
use Rattle.deal_grid_rows.proofs.put_grid_row.Goals.{Then-array-eq4}

pub put_marks-next-requires : goal.put_marks-next-requires
put_marks-next-requires c =
    let a = c.args in
    let long = row_parts a.mark_bytes a.player.bit a.array.now a.seeds.now in
    (omega arith, omega (arith, c.requires.3))

pub put_held-requires : goal.put_held-requires
put_held-requires c =
    let a = c.args in
    let p = c.put_marks-next in
    let long = row_parts a.mark_bytes a.player.bit a.array.now a.seeds.now in
    (omega arith, omega (arith, c.requires.3, p.ensures.next_is, packed_long a.mark_bytes a.player.bit a.array.now, p.auto.out))

pub returns : goal.returns
unfolding row_bytes
returns c =
    let a = c.args in
    let long = row_parts a.mark_bytes a.player.bit a.array.now a.seeds.now in
    wrote_then (packed a.mark_bytes a.player.bit a.array.now) (held_seeds a.player.bit a.array.now a.seeds.now)
    (omega (arith, c.requires.3, packed_long a.mark_bytes a.player.bit a.array.now)) c.put_marks-next.ensures c.put_held.ensures
