-- Both sums stay below 65521.
use Rattle.std.proofs.Common.{◌<◌}
use Rattle.test_case_file.proofs.checksum.Given as goal

abbrev pub invariant-loop-byte : goal.invariant-loop-byte
invariant-loop-byte l = (l.sum < 65521) × (l.sums < 65521)
