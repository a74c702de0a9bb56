-- `seed_row::xor_row` meets its contract. The loop's invariant: into the bytes before `done` the row's are XORed, the rest is as it was. Assumes nothing.
use Prim.Native.Nat.{◌-◌}
use lib.ListN.{length}
use Rattle.xor.specs.Xor.{xors}
use Rattle.chacha20.specs.From.{expand_from}
use Rattle.xor.proofs.Walks.{Gone}
use Rattle.seed_row.proofs.xor_row.Given as goal

abbrev pub invariant-loop-done : goal.invariant-loop-done
invariant-loop-done l = Gone (xors l.initial.out (expand_from l.start (length l.initial.out) l.seed)) l.initial.out l.out l.done

abbrev pub decreases-loop-done : goal.decreases-loop-done
decreases-loop-done l = length l.initial.out - l.done
