-- `chacha20_lanes::twenty_rounds` meets its contract. The loop's invariant: the double rounds that are left lead each lane to its end. Assumes nothing.
use Rattle.chacha20_lanes.proofs.Laid.{Going}
use Rattle.chacha20_lanes.proofs.twenty_rounds.Given as goal

abbrev pub invariant-loop-done : goal.invariant-loop-done
invariant-loop-done l = Going l._done l.initial.states l.states
