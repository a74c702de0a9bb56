-- What is read so far is no more than the longest.
use Rattle.std.proofs.Common.{◌≤◌}
use Rattle.test_programs.proofs.length_in.Given as goal

abbrev pub invariant-loop-byte : goal.invariant-loop-byte
invariant-loop-byte l = l.value ≤ 200000
