-- `seed_rows::xor_four` meets its contract. The loop's invariant: into the bytes before `done` the rows' are XORed, the rest is as it was. Assumes nothing.
use Prim.Native.Nat.{◌-◌}
use lib.ListN.{length}
use Rattle.xor.specs.Xor.{xors}
use Rattle.xor.proofs.Walks.{Gone}
use Rattle.seed_rows.specs.Rows.{rows_joined}
use Rattle.seed_rows.proofs.xor_four.Given as goal

abbrev pub invariant-loop-done : goal.invariant-loop-done
invariant-loop-done l = Gone (xors l.initial.out (rows_joined 4 l.start (length l.initial.out) l.seeds)) l.initial.out l.out l.done

abbrev pub decreases-loop-done : goal.decreases-loop-done
decreases-loop-done l = length l.initial.out - l.done
