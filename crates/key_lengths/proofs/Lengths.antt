-- How long grid rows and keys are. Assumes nothing.
use mathlib.Core.Path.{◌≡◌}
use Prim.Native.Nat.{ℕ, ◌+◌, ◌*◌, ◌≤◌, ◌<◌}
use native.Mathlib.Omega.{arith}
use lib.ListN.{length}
use native.Mathlib.Nat.{mul-le-mul, mul-le-mul_right, le_trans}
use Rattle.grid.specs.Grid.{Board, board_refusal, columns, grid_rows, row_long}
use Rattle.grid.proofs.Facts.{board_in, columns_pos, columns_most}
use Rattle.grid.proofs.Sizes.{row_most}
use Rattle.keys.specs.Keys.{header, mark_bytes, stride, body_long, key_long}
use Rattle.keys.proofs.Numbers.{header_long}
use Rattle.key_header.proofs.Lengths.{header_most}

-- a product of two results, where the numbers that they are have it
pub product_in : {a b x y most : ℕ} → a ≡ x → b ≡ y → x * y ≤ most → a * b ≤ most
product_in e f h = rw (e, f) h

-- the length that 12 asks is K
pub long_is : (b : Board) (i : ℕ) → i < 128 → length (header b i) + grid_rows b * stride b + columns b * row_long b ≡ key_long b
unfolding key_long stride
long_is b i h = rw (header_long b i h)

pub body_most : (b : Board) → body_long b ≤ key_long b
body_most b = omega (arith, long_is b 0 (omega arith))

-- THE SIZES OF AN ACCEPTED BOARD, so that no product overflows
module _ (b : Board) (accepted : board_refusal b ≡ 0) where
  pub columns_in : (1 ≤ columns b) × (columns b ≤ 32)
  columns_in = (columns_pos b, columns_most b (board_in b accepted))

  pub mark_bytes_in : (1 ≤ mark_bytes b) × (mark_bytes b ≤ 4)
  unfolding mark_bytes
  mark_bytes_in = let c = columns_in in (omega arith, omega arith)

  pub stride_in : stride b ≤ 516
  unfolding stride
  stride_in = omega (arith, columns_in, mark_bytes_in)

  pub rows_in : grid_rows b * stride b ≤ 132096
  rows_in = mul-le-mul (board_in b accepted).rows_most stride_in

  pub row_in : (g : ℕ) → g ≤ grid_rows b → g * stride b ≤ 132096
  row_in g h = le_trans (mul-le-mul_right (stride b) h) rows_in

  pub words_in : columns b * row_long b ≤ 131072
  words_in = mul-le-mul columns_in.1 (row_most b (board_in b accepted))

  pub key_most : key_long b ≤ 263183
  unfolding key_long stride
  key_most = omega (arith, header_most b 0, rows_in, words_in)
