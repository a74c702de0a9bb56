-- `chacha20_words::add_into` meets its contract. The loop's invariant: the first i places hold the sums, the rest is as it was lent. Assumes nothing.
use Rattle.std.proofs.Common.{◌≡◌, ◌++◌, take, drop}
use Rattle.chacha20.specs.Expand.{sums}
use Rattle.chacha20_words.proofs.add_into.Given as goal

abbrev pub invariant-loop-i : goal.invariant-loop-i
invariant-loop-i l = l.out ≡ take l.i (sums l.initial.out l.input) ++ drop l.i l.initial.out
