-- What is opened of an accepted key, by its board and what stands behind its header: document 03's table, and its opening of a square from the
-- part that begins at the square's grid row. Assumes nothing: these are definitions.
use Rattle.std.specs.Prelude.{List, ℕ, ◌*◌, ◌-◌, ◌/◌, min, take, drop}
use Rattle.grid.specs.Grid.{Board, row_long}
use Rattle.keys.specs.Keys.{grid_row_part, opened_part, parts_of, table_from}

unfoldable pub square_of : Board → (rule : List ℕ → List ℕ) → (body : List ℕ) → (a : ℕ) → List ℕ
square_of b f bs a = opened_part b f (grid_row_part b bs (a / b.wide)) a

unfoldable pub table_of : Board → (rule : List ℕ → List ℕ) → (body : List ℕ) → List ℕ
table_of b f bs = table_from b.n 0 b f (parts_of b bs)

-- the table's bytes that are of one grid row: how many, and which
unfoldable pub entries_long : Board → (g : ℕ) → ℕ
entries_long b g = min (row_long b) (b.n * b.w - g * row_long b)

unfoldable pub entries_of : Board → (rule : List ℕ → List ℕ) → (body : List ℕ) → (g : ℕ) → List ℕ
entries_of b f bs g = take (entries_long b g) (drop (g * row_long b) (table_of b f bs))
