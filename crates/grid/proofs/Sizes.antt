-- How large the grid of an accepted board can be, so that a caller's products fit.
-- Assumes nothing.
use Prim.Native.Nat.{◌*◌, ◌-◌, ◌≤◌}
use native.Mathlib.Nat.{mul-le-mul}
use native.Mathlib.Omega.{arith}
use lib.Pow.{pow_mono}
use Rattle.grid.specs.Grid.{Board, columns, row_long, arrays_long, words_long}
use Rattle.grid.proofs.Facts.{BoardIn}

pub columns_few : (b : Board) → BoardIn b → columns b ≤ 32
unfolding columns
columns_few b f = let five : b.p - 1 ≤ 5 = omega arith in pow_mono five

pub row_most : (b : Board) → BoardIn b → row_long b ≤ 4096
unfolding row_long
row_most b f = mul-le-mul f.wide_most f.value_most

pub table_most : (b : Board) → BoardIn b → b.n * b.w ≤ 1048576
table_most b f = mul-le-mul f.positions_most f.value_most

pub arrays_most : (b : Board) → BoardIn b → arrays_long b ≤ 8192
arrays_most b f = mul-le-mul f.rows_most (columns_few b f)

pub words_most : (b : Board) → BoardIn b → words_long b ≤ 131072
words_most b f = let fewer : columns b - 1 ≤ 32 = omega (arith, columns_few b f) in mul-le-mul fewer (row_most b f)
