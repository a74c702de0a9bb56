-- What the writers of a grid row write, in the terms of document 03's `body_from`. Assumes nothing: these are definitions.
use Rattle.std.specs.Prelude.{cond, List, [], ◌++◌, ℕ, ◌*◌, get_or, take, drop}
use Rattle.grid.specs.Grid.{bit}
use Rattle.keys.specs.Keys.{packed, held_seeds}

-- the seed of column j where the player marks it, and nothing where not
unfoldable pub column_seed : (player column : ℕ) → (array seeds : List ℕ) → List ℕ
column_seed i j cs ss = cond (bit (get_or cs j 0) i) (take 32 (drop (32 * j) ss)) []

-- one grid row of a player's key: "J/8 bytes rounded up of marks, then the seeds of marked columns in column order"
unfoldable pub row_bytes : (mark_bytes player : ℕ) → (array seeds : List ℕ) → List ℕ
row_bytes m i cs ss = packed m i cs ++ held_seeds i cs ss
