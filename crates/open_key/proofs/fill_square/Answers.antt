-- `open_key::fill_square` meets its contract. Assumes nothing.
use mathlib.Core.Path.{refl}
use Prim.Native.Nat.{◌+◌, ◌*◌, ◌/◌, ◌%◌, ◌≤◌, ◌<◌}
use native.Mathlib.Omega.{arith}
use Rattle.xor.specs.Xor.{zeros}
use Rattle.grid.specs.Grid.{board, grid_rows, row_long}
use Rattle.grid.specs.Code.{board_of}
use Rattle.grid.proofs.Facts.{grid_row_in}
use Rattle.grid.proofs.Sizes.{row_most}
use Rattle.open_key.proofs.Bodies.{board_known, cell_within, square_added}
use Rattle.open_key.proofs.Parts.{part_length, part_marks}
use Rattle.open_key.proofs.fill_square.Goals as goal
use Rattle.open_key.proofs.fill_square.Goals.{Start}

-- the square's grid row is one, and its cell lies in a row
width_least : (c : Start) → 1 ≤ c.args.body.now.board.width
unfolding board
width_least c = (board_known c.args.body.now).wide_least

inside : (c : Start) → let board = c.args.body.now.board in c.args.position / board.width < grid_rows (board_of board)
unfolding board
inside c = grid_row_in (board_of c.args.body.now.board) (board_known c.args.body.now) c.args.position c.requires.0

cell_room : (c : Start) → let board = c.args.body.now.board in
    c.args.position % board.width * board.value_bytes + board.value_bytes ≤ row_long (board_of board)
unfolding board
cell_room c = cell_within (board_of c.args.body.now.board) (board_known c.args.body.now) c.args.position

pub returns : goal.returns
unfolding board zeros
returns c =
    let s = (goal.at.returns c).Start in
    let body = c.args.body.now in
    let cleared = c.fill.ensures.after (λ y same. same) in
    let part = c.grid_row_part.ensures in
    square_added (board_of body.board) body.bytes.now c.args.out.now _ _ _ c.args.position _ _ cleared c.add_shares.ensures part
    (part_marks (board_of body.board) body.bytes.now body.accepted _ (inside s) _ part) (omega (arith, cell_room s)) refl refl c.requires.1

pub nonzero_div-grid_row : goal.nonzero_div-grid_row
nonzero_div-grid_row c = width_least (goal.at.nonzero_div-grid_row c).Start

pub nonzero_rem-from : goal.nonzero_rem-from
nonzero_rem-from c = width_least (goal.at.nonzero_rem-from c).Start

pub overflow_mul-from : goal.overflow_mul-from
overflow_mul-from c = omega (arith, cell_room (goal.at.overflow_mul-from c).Start, row_most _ (board_known c.args.body.now))

pub grid_row_part-requires : goal.grid_row_part-requires
grid_row_part-requires c = omega (arith, inside (goal.at.grid_row_part-requires c).Start)

pub add_shares-requires : goal.add_shares-requires
add_shares-requires c =
    let s = (goal.at.add_shares-requires c).Start in
    let body = c.args.body.now in
    let b = board_of body.board in
    let part = c.grid_row_part.ensures in (
      omega (arith, inside s),
      part_length b body.bytes.now body.accepted _ (inside s) _ part,
      part_marks b body.bytes.now body.accepted _ (inside s) _ part,
      omega (arith, c.fill.ensures.len, c.requires.1, cell_room s),
    )
