use mathlib.Core.Path.{◌≡◌, sym, ap, ◌∙◌}
use mathlib.Core.List.{List}
use Prim.Native.Nat.{ℕ, ◌≤◌, ◌<◌, ◌+◌, ◌*◌, ◌-◌, min}
use native.Mathlib.Omega.{arith}
use lib.ListN.{length, take, drop}
use borrow.Rule.Slice.PartMut.{mid_of, mid_len}
use Rattle.seed_rows.specs.Rows.{rule}
use Rattle.xor.specs.Xor.{xors}
use Rattle.xor.proofs.Walks.{none_gone, all_gone, xored_long, next_xored}
use Rattle.grid.specs.Grid.{Board, board, grid_rows, row_long}
use Rattle.grid.specs.Code.{board_of}
use Rattle.open_key.specs.Opened.{table_of, entries_long}
use Rattle.open_key.proofs.Bodies.{board_known, body_known}
use Rattle.open_key.proofs.GridRows.{row_in_table, rows_past, count_is, entries_cut, expansion, table_word}
use Rattle.open_key.proofs.add_table.Goals as goal
use Rattle.open_key.proofs.add_table.Goals.{After-min, In-loop-grid_row, Start}

abbrev its_board : Start → Board
its_board s = board_of s.args.body.now.board

abbrev its_table : Start → List ℕ
its_table s = table_of (its_board s) (rule (its_board s)) s.args.body.now.bytes.now

out_long : (s : Start) → length s.args.out.now ≡ (its_board s).n * (its_board s).w
unfolding board
out_long s = s.requires

-- the table's length is the output's
table_long : (s : Start) → length (its_table s) ≡ length s.args.out.now
table_long s =
    let b = its_board s in
    let body = s.args.body.now in
    (table_word b (rule b) body.bytes.now (board_known body) (expansion b) (body_known body)).long ∙ sym (out_long s)

pub returns : goal.returns
returns c =
    let s = (goal.at.returns c).Start in
    let l = c.loop-grid_row in
    let old = s.args.out.now in
    let last : l.grid_row ≡ grid_rows (its_board s) = omega (arith, c.loop-grid_row-test.false, l.auto.grid_row-end, c.grid_rows-grid_rows.ensures) in
    let covered = rows_past (its_board s) (board_known s.args.body.now) l.grid_row _ (length old) last c.row_length-row_bytes.ensures (out_long s) in
    all_gone _ old l.out _ (xored_long _ old (table_long s)) l.invariant (omega (arith, l.auto.out))

-- in a turn: the grid row exists, where it begins in the body and in the table, and how many bytes the table has of it
inside : (c : In-loop-grid_row) → c.loop-grid_row.grid_row < grid_rows (its_board (goal.at.In-loop-grid_row c).Start)
inside c = omega (arith, c.loop-grid_row-test.true, c.grid_rows-grid_rows.ensures)

at_is : (c : In-loop-grid_row) → let g = c.loop-grid_row.grid_row in
    g * c.row_length-row_bytes.result ≡ g * row_long (its_board (goal.at.In-loop-grid_row c).Start)
at_is c = ap (λ (n : ℕ). c.loop-grid_row.grid_row * n) c.row_length-row_bytes.ensures

at_within : (c : In-loop-grid_row) → c.loop-grid_row.grid_row * c.row_length-row_bytes.result ≤ length c.loop-grid_row.out
at_within c =
    let l = c.loop-grid_row in
    let s = (goal.at.In-loop-grid_row c).Start in
    omega (arith, at_is c, row_in_table (its_board s) (board_known s.args.body.now) l.grid_row (inside c), l.auto.out, out_long s)

end_within : (c : After-min) → c.loop-grid_row.grid_row * c.row_length-row_bytes.result + c.min.result ≤ length c.loop-grid_row.out
end_within c = omega (arith, c.min.ensures, at_within (goal.at.After-min c).In-loop-grid_row)

-- the bytes of a turn are as many as the table has of the grid row
entries_count : (c : After-min) → c.min.result ≡ entries_long (its_board (goal.at.After-min c).Start) c.loop-grid_row.grid_row
entries_count c =
    let l = c.loop-grid_row in
    let long = l.auto.out ∙ out_long (goal.at.After-min c).Start in
    count_is _ l.grid_row c.row_length-row_bytes.result (length l.out) _ c.row_length-row_bytes.ensures long c.min.ensures

pub loop-grid_row-preserved : goal.loop-grid_row-preserved
loop-grid_row-preserved c =
    let done = c.add_entries in
    let l = c.loop-grid_row in
    let turn = goal.at.loop-grid_row-preserved c in
    let s = turn.Start in
    let b = its_board s in
    let old = s.args.out.now in
    let table = its_table s in
    let row = c.row_length-row_bytes.result in
    let at = l.grid_row * row in
    let size = c.min.result in
    let end = at + size in
    let same = l.auto.out in
    let begun : min at (length old) ≡ at = omega (arith, at_within turn.In-loop-grid_row) in
    let ended : min ((l.grid_row + 1) * row) (length old) ≡ end = omega (arith, c.min.ensures, at_within turn.In-loop-grid_row) in
    let bytes : end - at ≡ entries_long b l.grid_row = (let cut : end - at ≡ size = omega arith in cut ∙ entries_count turn.After-min) in
    let new = done.new.out in
    let cut = entries_cut b (rule b) s.args.body.now.bytes.now l.grid_row at (end - at) (at_is turn.In-loop-grid_row) bytes in
    let new_is : new ≡ xors (mid_of at (end - at) l.out) (take (end - at) (drop at table)) =
    done.ensures ∙ ap (λ (row : List ℕ). xors (mid_of at (end - at) l.out) row) cut in
    rw ended (next_xored table old l.out at (table_long s) (rw begun at l.invariant) end new (omega arith) (end_within turn.After-min) done.auto.out new_is)

pub loop-grid_row-init : goal.loop-grid_row-init
loop-grid_row-init c =
    let none : (row out : ℕ) → min (0 * row) out ≡ 0 = λ row out. omega arith in
    rw none (none_gone _ _)

pub overflow_mul-at : goal.overflow_mul-at
overflow_mul-at c = omega (arith, at_within c)

pub overflow_sub-out : goal.overflow_sub-out
overflow_sub-out c = at_within c

pub overflow_add-end : goal.overflow_add-end
overflow_add-end c = omega (arith, end_within c)

pub slice_bounds-add_entries-end : goal.slice_bounds-add_entries-end
slice_bounds-add_entries-end c = end_within c

pub add_entries-requires : goal.add_entries-requires
add_entries-requires c =
    let l = c.loop-grid_row in
    let turn = goal.at.add_entries-requires c in
    let at = l.grid_row * c.row_length-row_bytes.result in
    let end = at + c.min.result in
    let cut : end - at ≡ c.min.result = omega arith in
    (inside turn.In-loop-grid_row, mid_len at end l.out (end_within turn.After-min) ∙ cut ∙ entries_count turn.After-min)
