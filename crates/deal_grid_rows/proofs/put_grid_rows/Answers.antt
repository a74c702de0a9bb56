use mathlib.Core.Path.{◌≡◌, ap}
use Prim.Native.Nat.{◌+◌, ◌*◌, ◌≤◌, ◌<◌}
use native.Mathlib.Omega.{arith}
use lib.ListN.{length}
use Rattle.grid.specs.Grid.{grid_rows}
use Rattle.grid.specs.Code.{board_of}
use Rattle.grid.proofs.Facts.{board_in}
use Rattle.keys.specs.Keys.{body_from}
use Rattle.writer.proofs.Laws.{wrote_nothing}
use Rattle.dealing.specs.declared.Dealing as code
use Rattle.dealing.proofs.Facts.{facts}
use Rattle.deal_grid_rows.proofs.RowBytes.{row_here, row_room, grid_row_seeds, row_marks, mark_bytes_most, body_within, cut_turn}
use Rattle.deal_grid_rows.proofs.put_grid_rows.Goals as goal
use Rattle.deal_grid_rows.proofs.put_grid_rows.Goals.{In-loop-grid_row}

-- the array of this grid row is there
room : (c : In-loop-grid_row) → let d = c.args.dealing.now in
    c.loop-grid_row.grid_row * c.columns-columns.result + c.columns-columns.result ≤ length d.arrays.now
room c =
    let d = c.args.dealing.now in
    row_room c.loop-grid_row.grid_row c.columns-columns.result c.grid_rows-grid_row-end.result (board_of d.board) d.arrays.now
    c.columns-columns.ensures c.grid_rows-grid_row-end.ensures c.loop-grid_row-test.true (facts d).sizes.arrays

-- and all seeds are 32 times as many bytes
all_seeds : (d : code.Dealing) → length d.seeds.now ≡ 32 * length d.arrays.now
all_seeds d = let f = (facts d).sizes in omega (arith, f.arrays, f.seeds)

pub loop-grid_row-init : goal.loop-grid_row-init
unfolding body_from
loop-grid_row-init c = wrote_nothing _ _

pub loop-grid_row-preserved : goal.loop-grid_row-preserved
loop-grid_row-preserved c =
    let a = c.args in
    let d = a.dealing.now in
    let b = board_of d.board in
    let l = c.loop-grid_row in
    let within : l.grid_row < grid_rows b = omega (arith, c.grid_rows-grid_row-end.ensures) in
    cut_turn a.at l.grid_row (grid_rows b) a.player.bit c.columns-columns.result b d.arrays.now d.seeds.now within c.requires c.columns-columns.ensures
    l.invariant c.put_grid_row-next.ensures c.mark_bytes.ensures (omega arith)

pub overflow_mul-from : goal.overflow_mul-from
overflow_mul-from c = omega (arith, room c)

pub overflow_add-end : goal.overflow_add-end
overflow_add-end c = omega (arith, room c)

pub overflow_mul-seed : goal.overflow_mul-seed
overflow_mul-seed c = omega (arith, room c, all_seeds c.args.dealing.now)

pub slice_bounds-put_grid_row-end : goal.slice_bounds-put_grid_row-end
slice_bounds-put_grid_row-end c = omega (arith, room (goal.at.slice_bounds-put_grid_row-end c).In-loop-grid_row)

-- its seeds begin within them
seeds_begin : (c : In-loop-grid_row) → let d = c.args.dealing.now in
    32 * (c.loop-grid_row.grid_row * c.columns-columns.result) ≤ length d.seeds.now
seeds_begin c = omega (arith, room c, all_seeds c.args.dealing.now)

pub slice_bounds-put_grid_row-count-in-loop-grid_row : goal.slice_bounds-put_grid_row-count-in-loop-grid_row
slice_bounds-put_grid_row-count-in-loop-grid_row c = omega (arith, seeds_begin (goal.at.slice_bounds-put_grid_row-count-in-loop-grid_row c).In-loop-grid_row)

pub slice_bounds-put_grid_row-start-in-loop-grid_row : goal.slice_bounds-put_grid_row-start-in-loop-grid_row
slice_bounds-put_grid_row-start-in-loop-grid_row c = omega (arith, seeds_begin (goal.at.slice_bounds-put_grid_row-start-in-loop-grid_row c).In-loop-grid_row)

pub put_grid_row-next-requires : goal.put_grid_row-next-requires
put_grid_row-next-requires c =
    let a = c.args in
    let d = a.dealing.now in
    let b = board_of d.board in
    let l = c.loop-grid_row in
    let J = c.columns-columns in
    let m = c.mark_bytes in
    let here = room (goal.at.put_grid_row-next-requires c).In-loop-grid_row in
    let row = ap length (row_here l.grid_row J.result m.result a.player.bit b d.arrays.now d.seeds.now J.ensures m.ensures) in
    let within : l.grid_row < grid_rows b = omega (arith, c.grid_rows-grid_row-end.ensures) in (
      omega (arith, m.ensures, mark_bytes_most b (board_in b d.board.accepted)),
      row_marks _ J.result m.result b d.arrays.now J.ensures m.ensures (omega (arith, here)),
      grid_row_seeds _ J.result d.arrays.now d.seeds.now (omega (arith, here)) (all_seeds d),
      omega (arith, row, l.invariant.next_is, c.requires, body_within l.grid_row (grid_rows b) b a.player.bit d.arrays.now d.seeds.now within),
    )
