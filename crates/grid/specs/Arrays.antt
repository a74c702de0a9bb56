-- What an accepted array is, as theorems: sentences of document 01, "The board as a grid", "Bytes of a key" and "What demand 3 speaks of".
-- Each statement is a type whose proof is owed, for all players, positions and widths at once. Assumes nothing.
use Rattle.std.specs.Prelude.{◌≡◌, Bool, true, false, cond, List, [], ◌∷◌, ℕ, ◌+◌, ◌*◌, ◌/◌, ◌^◌, ◌<◌, length, get_or, take, drop}
use Rattle.grid.specs.Grid.{Board, board_refusal, columns, grid_rows, bit, Dealing, column, is_odd, array_good, dealing_good, unheld_from}

-- an array that Deal accepts, on a board that it accepts, for a grid row of this parity
pub record Accepted (b : Board) (odd : Bool) (cs : List ℕ) : Type 0 where
  pub board : board_refusal b ≡ 0
  pub long : length cs ≡ columns b
  pub good : array_good b odd cs ≡ true

-- "An even array holds every column of p bits with an even count of ones exactly once; an odd array every column with an odd count."
unfoldable pub EachColumnOnce : Type 0
EachColumnOnce =
    (b : Board) (odd : Bool) (cs : List ℕ) → Accepted b odd cs → (c : ℕ) → c < 2 ^ b.p → is_odd c ≡ odd →
    (j : ℕ) × (j < columns b) × (get_or cs j 0 ≡ c) × ((k : ℕ) → k < columns b → get_or cs k 0 ≡ c → k ≡ j)

-- how many columns of an array a player marks
unfoldable pub count_marked : (player : ℕ) → List ℕ → ℕ
count_marked i [] = 0
count_marked i (c ∷ cs) = cond (bit c i) 1 0 + count_marked i cs

-- "A player marks exactly J/2 columns."
unfoldable pub HalfIsMarked : Type 0
HalfIsMarked =
    (b : Board) (odd : Bool) (cs : List ℕ) → Accepted b odd cs → (i : ℕ) → i < b.p → count_marked i cs ≡ columns b / 2

-- the same of each grid row of a good dealing
unfoldable pub HalfOfEachGridRow : Type 0
HalfOfEachGridRow =
    (b : Board) (d : Dealing) (i g : ℕ) → dealing_good b d ≡ true → i < b.p → g < grid_rows b →
    count_marked i (take (columns b) (drop (g * columns b) d.arrays)) ≡ columns b / 2

-- no player but one marks a column
unfoldable pub LeftAlone : Board → (player column : ℕ) → Type 0
LeftAlone b i c = (k : ℕ) → k < b.p → (k ≡ i → ⊥) → bit c k ≡ false

-- where the row of a grid row stands that nobody but one player can hold
abbrev pub unheld_column : Board → (player : ℕ) → (arrays : List ℕ) → (g : ℕ) → ℕ
unheld_column b i cs g = unheld_from (columns b) 0 b i cs g

-- "Each grid row has exactly one row not so held": the column that `unheld_from` finds is the one that nobody else marks, so its falling
-- back to column 0 is never used
unfoldable pub OneRowUnheld : Type 0
OneRowUnheld =
    (b : Board) (d : Dealing) (i g : ℕ) → dealing_good b d ≡ true → i < b.p → g < grid_rows b →
    (unheld_column b i d.arrays g < columns b) × LeftAlone b i (column b d.arrays g (unheld_column b i d.arrays g))
    × ((k : ℕ) → k < columns b → LeftAlone b i (column b d.arrays g k) → k ≡ unheld_column b i d.arrays g)
