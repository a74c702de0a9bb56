-- `seed_row::expand` meets its contract. The loop's invariant: the bytes before `done` are the row's, the rest is as it was lent. Assumes nothing.
use Prim.Native.Nat.{◌-◌}
use lib.ListN.{length}
use Rattle.chacha20.specs.From.{expand_from}
use Rattle.xor.proofs.Walks.{Gone}
use Rattle.seed_row.proofs.expand.Given as goal

abbrev pub invariant-loop-done : goal.invariant-loop-done
invariant-loop-done l = Gone (expand_from l.start (length l.initial.out) l.fn.seed) l.initial.out l.out l.done

abbrev pub decreases-loop-done : goal.decreases-loop-done
decreases-loop-done l = length l.initial.out - l.done
