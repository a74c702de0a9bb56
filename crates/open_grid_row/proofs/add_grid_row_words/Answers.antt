-- `open_grid_row::add_grid_row_words` meets its contract. Assumes nothing.
use mathlib.Core.Path.{◌≡◌, ap, ◌∙◌}
use Prim.Native.Nat.{ℕ, ◌*◌, ◌-◌, ◌<◌}
use native.Mathlib.Omega.{arith}
use lib.ListN.{drop}
use Rattle.grid.specs.Grid.{grid_rows, row_long}
use Rattle.grid.specs.Code.{board_of}
use Rattle.grid.proofs.Facts.{board_in}
use Rattle.keys.specs.Keys.{stride}
use Rattle.open_grid_row.proofs.Columns.{products, row_least, words_counted, words_added}
use Rattle.open_grid_row.proofs.add_grid_row_words.Goals as goal
use Rattle.open_grid_row.proofs.add_grid_row_words.Goals.{Start, After-part_from-words}

-- the words begin where the definition has them
words_are : (c : After-part_from-words) → let a = c.args in
    c.part_from-words.result.now ≡ drop ((grid_rows (board_of a.board) - a.grid_row) * stride (board_of a.board)) a.part.now
words_are c =
    let from = products (c.grid_rows.result - c.args.grid_row) c.stride.result _ _ (ap (λ (n : ℕ). n - c.args.grid_row) c.grid_rows.ensures) c.stride.ensures in
    c.part_from-words.ensures ∙ ap (λ (n : ℕ). drop n c.args.part.now) from

-- a word has a byte at least
some : (c : Start) → 0 < row_long (board_of c.args.board)
some c = row_least (board_of c.args.board) (board_in _ c.args.board.accepted)

pub add_words-requires : goal.add_words-requires
add_words-requires c =
    let row = c.row_length.ensures in
    (omega (arith, row, some (goal.at.add_words-requires c).Start), omega (arith, row, c.requires.2))

pub returns : goal.returns
returns c =
    let a = c.args in
    let b = board_of a.board in
    let words = words_are (goal.at.returns c).After-part_from-words in
    let all = words_counted b a.part.now a.grid_row c.requires.1 (some (goal.at.returns c).Start) in
    words_added b a.part.now a.grid_row a.from a.out.now _ _ _ words all c.row_length.ensures c.add_words.ensures
