-- THE BOARD ON A PAGE: a table as lines of text, document 02, (iv), whose sentences are quoted. Assumes nothing: these
-- are definitions.
use Rattle.std.specs.Prelude.{◌≡◌, cond, List, [], ◌∷◌, ◌++◌, ℕ, ◌+◌, ◌*◌, ◌/◌, ◌%◌, ◌≤◌, ltb, length, take, drop}
use Rattle.writer.specs.InARow.{in_a_row}
use Rattle.digits.specs.Digits.{hex, spaces, right_aligned}

-- 01: "entry a of a table is the w bytes from a × w on", for a width alone; `entry` of the crate keys takes a board
unfoldable pub entry_at : (w : ℕ) → (table : List ℕ) → (a : ℕ) → List ℕ
entry_at w ts a = take w (drop (a * w) ts)

-- a value's cell: "one space and 2 × w upper-case hexadecimal digits"
unfoldable pub value_cell : (w : ℕ) → (table : List ℕ) → (a : ℕ) → List ℕ
value_cell w ts a = 32 ∷ hex (entry_at w ts a)

-- those of so many positions from `first` on
abbrev pub value_cells : (count first w : ℕ) → (table : List ℕ) → List ℕ
value_cells k first w ts = in_a_row k first (λ a. value_cell w ts a)

-- each cell: a value's, and "spaces for cells past N"
unfoldable pub page_cell : (n w : ℕ) → (table : List ℕ) → (a : ℕ) → List ℕ
page_cell n w ts a = cond (ltb a n) (value_cell w ts a) (spaces (2 * w + 1))

-- "lines of eight cells: the first position in five places, right-aligned with spaces; then for each cell ..; one line
-- feed"
unfoldable pub page_line : (n w : ℕ) → (table : List ℕ) → (line : ℕ) → List ℕ
page_line n w ts l = right_aligned 5 (8 * l) ++ in_a_row 8 (8 * l) (λ a. page_cell n w ts a) ++ (10 ∷ [])

-- as many lines as hold N cells
unfoldable pub page_lines : (n : ℕ) → ℕ
page_lines n = (n + 7) / 8

-- "Given N, w and N × w bytes, write lines of eight cells"
unfoldable pub page : (n w : ℕ) → (table : List ℕ) → List ℕ
page n w ts = in_a_row (page_lines n) 0 (λ l. page_line n w ts l)

-- "Every line is 6 + 8 × (2 × w + 1) bytes"
unfoldable pub line_long : (w : ℕ) → ℕ
line_long w = 6 + 8 * (2 * w + 1)

unfoldable pub page_long : (n w : ℕ) → ℕ
page_long n w = page_lines n * line_long w

-- where the digits of a cell begin, "by its line and column alone"
unfoldable pub digits_place : (w a : ℕ) → ℕ
digits_place w a = a / 8 * line_long w + 6 + a % 8 * (2 * w + 1)

-- WHAT WRITERS ASK FOR: values that stand in the table and room for their cells, from place `at` on
pub record CellsFit (first count w : ℕ) (table : List ℕ) (at : ℕ) (out : List ℕ) : Type 0 where
  pub stand : (first + count) * w ≤ length table
  pub room : at + count * (2 * w + 1) ≤ length out

-- and a table that is whole, with numbers that are not too large, as every one is that nothing refuses
pub record Pageable (n w : ℕ) (table : List ℕ) : Type 0 where
  pub positions_few : n ≤ 65536
  pub bytes_few : w ≤ 16
  pub whole : length table ≡ n * w
