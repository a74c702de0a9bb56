-- Powers of two as the code makes them, by a shift.
-- Assumes nothing.
use mathlib.Core.Path.{◌≡◌}
use Prim.Native.Nat.{ℕ, ◌*◌, ◌%◌, ◌^◌, ◌<◌}
use native.Mathlib.Nat.{mod-eq_of_lt, one-mul}
use lib.Pow.{pow-lt}

-- one shifted by less than the width is the power
pub shifted_one : (bits k : ℕ) → k < bits → 1 * 2 ^ k % 2 ^ bits ≡ 2 ^ k
shifted_one bits k h = rw one-mul (mod-eq_of_lt (pow-lt h))
