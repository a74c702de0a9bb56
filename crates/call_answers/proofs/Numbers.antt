-- The numbers that go without a grid: the chain of 1, 2 and 4, and what is known where none fits. Assumes nothing.
use mathlib.Core.Path.{◌≡◌}
use mathlib.Core.Bool.{not}
use Prim.Native.Nat.{ℕ, ◌*◌, ◌≤◌}
use native.Mathlib.Nat.{mul-le-mul}
use native.Mathlib.Omega.{arith}
use borrow.Author.Tests.{not-false}
use Rattle.grid.specs.Grid.{players_fit, positions_fit, value_fits}
use Rattle.grid.proofs.Refusing.{In, in_range}
use Rattle.keys.proofs.Accepted.{passed}
use Rattle.call_answers.specs.Answers.{width_refusal}

module _ (p n w : ℕ) where
  -- what is left where none fits
  pub sizes_fit : width_refusal p n w ≡ 0 → In 2 p 6 × In 1 n 65536 × In 1 w 16
  unfolding width_refusal
  sizes_fit h =
      let players = passed (not (players_fit p)) 1 _ (λ t e. omega arith) h in
      let positions = passed (not (positions_fit n)) 2 _ (λ t e. omega arith) players.1 in
      let bytes = passed (not (value_fits w)) 4 0 (λ t e. omega arith) positions.1 in
      (not-false (players_fit p) players.0, not-false (positions_fit n) positions.0, not-false (value_fits w) bytes.0)

  -- positions and value bytes are few, and so are the bytes of all values
  pub sizes_most : width_refusal p n w ≡ 0 → (n ≤ 65536) × (w ≤ 16) × (n * w ≤ 1048576)
  sizes_most none =
      let fit = sizes_fit none in
      let positions = (in_range 1 n 65536 fit.1).1 in
      let bytes = (in_range 1 w 16 fit.2).1 in (positions, bytes, omega (arith, mul-le-mul positions bytes))
