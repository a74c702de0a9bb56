-- What a grid row of a key holds, in document 03's words: marks, and the seeds of marked columns; and what is promised of a held seed and of
-- its place. Assumes nothing: these are definitions and statements.
use Rattle.std.specs.Prelude.{◌≡◌, Bool, true, cond, ◌&&◌, List, [], ℕ, ◌+◌, ◌*◌, ◌-◌, ◌/◌, ◌%◌, ◌≤◌, ◌<◌, ltb, eqb, length, get_or, take, drop}
use Rattle.xor.specs.Xor.{bytes_good}
use Rattle.grid.specs.Grid.{Board, columns, grid_rows, bit, column}
use Rattle.keys.specs.Keys.{Lent, key, header, head_in, mark_bytes, count_marks, spare_from, stride, key_refusal, grid_row_part}
use Rattle.keys.specs.Promise.{RuleGood, lent_good}

-- "column j is bit j mod 8 of byte j div 8"
unfoldable pub marked : (part : List ℕ) → (column : ℕ) → Bool
marked ps j = bit (get_or ps (j / 8) 0) (j % 8)

-- "A player marks exactly J/2 columns", and "spare bits zero": what 13 asks of one grid row
unfoldable pub grid_row_fits : Board → (part : List ℕ) → Bool
grid_row_fits b ps =
    eqb (count_marks (columns b) 0 ps) (columns b / 2)
    && spare_from (8 * mark_bytes b - columns b) (columns b) ps

-- "then the seeds of marked columns in column order": where a marked column's seed stands in its grid row
unfoldable pub seed_from : Board → (part : List ℕ) → (column : ℕ) → ℕ
seed_from b ps j = mark_bytes b + 32 * count_marks j 0 ps

-- HELD SEED. "The part is empty if Check key refuses, the row or column doesn't exist, or the mark is zero"
unfoldable pub holds : (key : List ℕ) → (g j : ℕ) → Bool
holds ks g j =
    let h = head_in ks in
    let b = h.board in
    eqb (key_refusal ks) 0 && (ltb g (grid_rows b) && (ltb j (columns b) && marked (grid_row_part b h.rest g) j))

-- "the 32 bytes of the caller's key itself for a grid row and column"
unfoldable pub held_seed : (key : List ℕ) → (g j : ℕ) → List ℕ
held_seed ks g j =
    let h = head_in ks in
    let b = h.board in
    let part = grid_row_part b h.rest g in cond (holds ks g j) (take 32 (drop (seed_from b part j) part)) []

-- where these bytes begin in the key, or 0
unfoldable pub held_seed_place : (key : List ℕ) → (g j : ℕ) → ℕ
held_seed_place ks g j =
    let h = head_in ks in
    let b = h.board in
    cond (holds ks g j) (length (header b h.player) + g * stride b + seed_from b (grid_row_part b h.rest g) j) 0

-- what stands at a place that is told for a held seed: where it is not 0, the 32 bytes of the held seed, inside the key; where it is 0, none is held
pub record HeldAt (key : List ℕ) (g j place : ℕ) : Type 0 where
  pub inside : (place ≡ 0 → ⊥) → place + 32 ≤ length key
  pub there : (place ≡ 0 → ⊥) → take 32 (drop place key) ≡ held_seed key g j
  pub none : place ≡ 0 → held_seed key g j ≡ []

-- THE PLACE IS WHERE THE SEED STANDS, in bytes of every kind
unfoldable pub PlaceHolds : Type 0
PlaceHolds = (ks : List ℕ) (g j : ℕ) → bytes_good ks ≡ true → HeldAt ks g j (held_seed_place ks g j)

-- OF A DEALT KEY the held seed is the one lent for that grid row and column, where the column has the player's mark
unfoldable pub HeldAsDealt : Type 0
HeldAsDealt =
    (b : Board) (f : List ℕ → List ℕ) (l : Lent) (i g j : ℕ) → lent_good b l ≡ true → RuleGood b f → i < b.p → g < grid_rows b → j < columns b →
    held_seed (key b f l i) g j ≡ cond (bit (column b l.arrays g j) i) (take 32 (drop (32 * (g * columns b + j)) l.seeds)) []
