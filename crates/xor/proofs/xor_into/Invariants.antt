-- `xor::xor_into` meets its contract. The loop's invariant: the first i places hold the XOR, the rest is as it was lent. Assumes nothing.
use mathlib.Core.Path.{◌≡◌}
use mathlib.Core.List.{◌++◌}
use lib.ListN.{take, drop}
use Rattle.xor.specs.Xor.{xors}
use Rattle.xor.proofs.xor_into.Given as goal

abbrev pub invariant-loop-i : goal.invariant-loop-i
invariant-loop-i l = l.out ≡ take l.i (xors l.initial.out l.row) ++ drop l.i l.initial.out
