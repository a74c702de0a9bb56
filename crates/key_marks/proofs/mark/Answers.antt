-- `key_marks::mark` meets its contract: a shift to the right divides by a power of two. Assumes nothing.
use mathlib.Core.Path.{ap}
use Prim.Native.Nat.{ℕ, ◌%◌}
use Rattle.grid.specs.Grid.{bit}
use Rattle.keys.specs.Held.{marked}
use Rattle.key_marks.proofs.mark.Goals as goal

pub returns : goal.returns
unfolding marked bit
returns c = ap (λ (byte : ℕ). bit byte (c.args.column % 8)) c.byte-marks.ensures
