-- How long a deal and a table can be, so that a caller's numbers fit. Assumes nothing.
use mathlib.Core.Path.{◌≡◌}
use Prim.Native.Nat.{ℕ, ◌*◌, ◌≤◌}
use native.Mathlib.Nat.{mul-le-mul}
use Rattle.grid.specs.Grid.{Board, board_refusal}
use Rattle.grid.proofs.Facts.{board_in}
use Rattle.keys.specs.Keys.{key_long}
use Rattle.key_lengths.proofs.Lengths.{key_most}

module _ (b : Board) (accepted : board_refusal b ≡ 0) where
  pub keys_most : b.p * key_long b ≤ 1579098
  keys_most = mul-le-mul (board_in b accepted).players_most (key_most b accepted)

  pub keys_short : {long : ℕ} → long ≡ key_long b → b.p * long ≤ 1579098
  keys_short e = rw e keys_most

  pub table_most : b.n * b.w ≤ 1048576
  table_most = let f = board_in b accepted in mul-le-mul f.positions_most f.value_most

-- room by the code's length is room by the definition's
pub room_for : (p : ℕ) {long key room : ℕ} → long ≡ key → p * long ≤ room → p * key ≤ room
room_for p e h = rw e at h
