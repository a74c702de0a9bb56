-- The grid width that Choose width gives: document 02, (vi), whose words are quoted, and what is promised of it. Keys
-- are as long as Key length says, the header with them. Assumes nothing: these are definitions and one statement, whose
-- term is in proofs/Shortest.antt.
use Rattle.std.specs.Prelude.{◌≡◌, Bool, true, ◌&&◌, ◌||◌, cond, ℕ, zero, suc, ◌≤◌, ◌<◌, ltb, leb, eqb}
use Rattle.grid.specs.Grid.{players_fit, positions_fit, value_fits, board, board_refusal, grid_rows}
use Rattle.keys.specs.Keys.{key_long}

-- K on a grid of width m
abbrev pub long_at : (p n w m : ℕ) → ℕ
long_at p n w m = key_long (board p n m w)

-- whether the width m is better than the best of the smaller ones, which is 0 where there is none: it has "at most 256
-- grid rows" and a shorter key, so that "the smaller μ when two tie" stays
unfoldable pub better : (p n w best m : ℕ) → Bool
better p n w best m =
    leb (grid_rows (board p n m w)) 256 && (eqb best 0 || ltb (long_at p n w m) (long_at p n w best))

-- the best of the widths 1 to m
unfoldable pub shortest : (p n w m : ℕ) → ℕ
shortest p n w zero = 0
shortest p n w (suc m) = cond (better p n w (shortest p n w m) (suc m)) (suc m) (shortest p n w m)

-- Choose width: "the μ, among those with at most 256 grid rows, whose K is least, the smaller μ when two tie"
unfoldable pub width : (p n w : ℕ) → ℕ
width p n w = shortest p n w 256

-- what Choose width accepts
pub record InRange (p n w : ℕ) : Type 0 where
  pub players : players_fit p ≡ true
  pub positions : positions_fit n ≡ true
  pub value : value_fits w ≡ true

-- a width as that sentence says it: the board accepts it, no width that the board accepts has a shorter key, and every
-- smaller one that it accepts has a longer one
pub record ShortestWidth (p n w m : ℕ) : Type 0 where
  pub accepted : board_refusal (board p n m w) ≡ 0
  pub none_shorter : (k : ℕ) → board_refusal (board p n k w) ≡ 0 → long_at p n w m ≤ long_at p n w k
  pub smaller_longer : (k : ℕ) → k < m → board_refusal (board p n k w) ≡ 0 → long_at p n w m < long_at p n w k

-- THE WIDTH MAKES THE SHORTEST KEY, and it is the only such width: the sentence names just one
unfoldable pub WidthIsShortest : Type 0
WidthIsShortest =
    (p n w : ℕ) → InRange p n w →
    ShortestWidth p n w (width p n w) × ((m : ℕ) → ShortestWidth p n w m → m ≡ width p n w)
