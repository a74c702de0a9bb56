-- The last word of a dealing, in document 03's words. Assumes nothing: these are definitions.
use Rattle.std.specs.Prelude.{List, ℕ, ◌*◌, ◌-◌, ◌/◌}
use Rattle.grid.specs.Grid.{Board, columns, grid_rows, row_long, piece, xor_rows, xor_all}
use Rattle.keys.specs.Keys.{rows_from, words_from}

-- the last word of a dealing, which its arrays do not go into
unfoldable pub dealt_word : Board → (rule : List ℕ → List ℕ) → (point : ℕ) → (value seeds words : List ℕ) → List ℕ
dealt_word b f a v ss ws =
    xor_rows (columns b) 0 b (rows_from (grid_rows b * columns b) f ss) (a / b.wide)
    (xor_all (words_from (columns b - 1) (row_long b) ws) (piece b a v))
