-- A loop that counts up to a number, beside a definition that counts down what is left of it.
-- Assumes nothing.
use mathlib.Core.Path.{◌≡◌}
use Prim.Native.Nat.{ℕ, suc, ◌+◌, ◌-◌, ◌<◌}
use native.Mathlib.Omega.{arith}

-- before the last turn, something is left
pub one_left : (most i : ℕ) → i < most → most - i ≡ suc (most - (i + 1))
one_left most i h = omega arith
