-- `open_grid_row::add_shares` meets its contract: rows and words, one after the other, are the shares. Assumes nothing.
use Prim.Native.Nat.{◌≤◌}
use native.Mathlib.Omega.{arith}
use lib.ListN.{length}
use Rattle.grid.specs.Code.{board_of}
use Rattle.grid.proofs.Facts.{board_in}
use Rattle.grid.proofs.Sizes.{row_most}
use Rattle.keys.specs.Keys.{stride}
use Rattle.open_grid_row.proofs.Columns.{row_there}
use Rattle.open_grid_row.proofs.Halves.{shares_added}
use Rattle.open_grid_row.proofs.add_shares.Goals as goal
use Rattle.open_grid_row.proofs.add_shares.Goals.{Start}

-- the grid row is there
there : (s : Start) → stride (board_of s.args.board) ≤ length s.args.part.now
there s = row_there (board_of s.args.board) s.args.part.now s.args.grid_row s.requires.1 s.requires.0

pub grid_row_seeds-requires : goal.grid_row_seeds-requires
grid_row_seeds-requires c = there (goal.at.grid_row_seeds-requires c).Start

pub xor_rows-requires : goal.xor_rows-requires
xor_rows-requires c = omega (arith, c.requires.3, row_most _ (board_in _ c.args.board.accepted))

pub add_grid_row_words-requires : goal.add_grid_row_words-requires
add_grid_row_words-requires c = (c.requires.0, c.requires.1, omega (arith, c.xor_rows.auto.out, c.requires.3))

pub returns : goal.returns
returns c =
    let rows = c.xor_rows in
    shares_added (board_of c.args.board) c.args.part.now c.args.grid_row c.requires.2 (there (goal.at.returns c).Start) _
    c.grid_row_seeds.ensures c.args.from c.args.out.now _ _
    rows.auto.out c.requires.3
    rows.ensures c.add_grid_row_words.ensures
