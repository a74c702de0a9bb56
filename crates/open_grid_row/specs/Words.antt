-- The words' half of a grid row's shares. Assumes nothing: these are definitions.
use Rattle.std.specs.Prelude.{cond, List, ℕ, zero, suc, ◌+◌, ◌*◌, ◌-◌, drop}
use Rattle.xor.specs.Xor.{xors, zeros}
use Rattle.grid.specs.Grid.{Board, columns, grid_rows, row_long}
use Rattle.keys.specs.Keys.{stride}
use Rattle.keys.specs.Held.{marked}
use Rattle.open_grid_row.specs.Shares.{stretch}

-- the XOR of the words of the columns from j on that are marked in `part`, n bytes of each from byte s on; words of l bytes stand one after another
unfoldable pub marked_words : (left j : ℕ) → (part words : List ℕ) → (l s n : ℕ) → List ℕ
marked_words zero j ps ws l s n = zeros n
marked_words (suc k) j ps ws l s n =
    cond (marked ps j) (xors (stretch (j * l + s) n ws) (marked_words k (suc j) ps ws l s n)) (marked_words k (suc j) ps ws l s n)

-- the same of all columns, out of the part that begins at grid row g: the words stand behind that grid row and all after it
unfoldable pub grid_row_words : Board → (part : List ℕ) → (g s n : ℕ) → List ℕ
grid_row_words b ps g s n = marked_words (columns b) 0 ps (drop ((grid_rows b - g) * stride b) ps) (row_long b) s n
