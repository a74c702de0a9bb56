-- `open_key::add_table` meets its contract. The loop's invariant: into the bytes of the grid rows that are done the table's are XORed, and the
-- rest is as it was lent. Assumes nothing.
use Prim.Native.Nat.{◌*◌, min}
use lib.ListN.{length}
use Rattle.seed_rows.specs.Rows.{rule}
use Rattle.xor.specs.Xor.{xors}
use Rattle.xor.proofs.Walks.{Gone}
use Rattle.grid.specs.Code.{board_of}
use Rattle.open_key.specs.Opened.{table_of}
use Rattle.open_key.proofs.add_table.Given as goal

abbrev pub invariant-loop-grid_row : goal.invariant-loop-grid_row
invariant-loop-grid_row l =
    let b = board_of l.body.board in
    Gone (xors l.initial.out (table_of b (rule b) l.body.bytes.now)) l.initial.out l.out (min (l.grid_row * l.row_bytes) (length l.initial.out))
