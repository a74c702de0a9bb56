-- `chacha20::twenty_rounds` meets its contract. The loop's invariant: the double rounds that are left lead to the end. Assumes nothing.
use Rattle.std.proofs.Common.{◌≡◌, ◌-◌}
use Rattle.chacha20.specs.Expand.{rounds}
use Rattle.chacha20.proofs.twenty_rounds.Given as goal

abbrev pub invariant-loop-done : goal.invariant-loop-done
invariant-loop-done l = rounds (10 - l._done) l.state ≡ rounds 10 l.initial.state
