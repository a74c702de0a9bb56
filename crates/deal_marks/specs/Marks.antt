-- A player's marks as digits, the terms in which the packers of marks speak. Assumes nothing: these are definitions.
use Rattle.std.specs.Prelude.{cond, ℕ, ◌+◌, ◌*◌}
use Rattle.grid.specs.Grid.{bit}

-- a player's mark in a column as a digit
unfoldable pub mark_digit : (column player : ℕ) → ℕ
mark_digit c i = cond (bit c i) 1 0

-- the marks of four columns, each in a byte of its own, the first column's in the lowest
unfoldable pub spread_marks : (first second third fourth player : ℕ) → ℕ
spread_marks a b c d i = mark_digit a i + 256 * (mark_digit b i + 256 * (mark_digit c i + 256 * mark_digit d i))
