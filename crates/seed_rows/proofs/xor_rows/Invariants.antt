-- `seed_rows::xor_rows` meets its contract. The loop's invariant: the rows of the fours before this one are XORed in. Assumes nothing.
use mathlib.Core.Path.{◌≡◌}
use Prim.Native.Nat.{◌*◌}
use lib.ListN.{length}
use Rattle.xor.specs.Xor.{xors}
use Rattle.seed_rows.specs.Rows.{rows_joined}
use Rattle.seed_rows.proofs.xor_rows.Given as goal

abbrev pub invariant-loop-four : goal.invariant-loop-four
invariant-loop-four l = l.out ≡ xors l.initial.out (rows_joined (4 * l.four-index) l.start (length l.initial.out) l.seeds)
