-- Each line ends behind its beginning.
use Rattle.std.proofs.Common.{length, ◌-◌}
use Rattle.test_programs.proofs.run.Given as goal

abbrev pub decreases-loop-at : goal.decreases-loop-at
decreases-loop-at g l = length l.list - l.at
