-- No count is above the number of cases passed.
use Rattle.std.proofs.Common.{◌≤◌}
use Rattle.test_compare.proofs.cases.compare.Given as goal

abbrev pub invariant-loop-number : goal.invariant-loop-number
invariant-loop-number g l = (l.tally.cases ≤ l.number-counter) × (l.tally.refused ≤ l.number-counter) × (l.tally.equal ≤ l.number-counter)
