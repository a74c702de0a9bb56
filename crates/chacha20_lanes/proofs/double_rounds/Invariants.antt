-- `chacha20_lanes::double_rounds` meets its contract. The loop's invariant: the lanes before l are a double round on, the others are as they were. Assumes nothing.
use Rattle.chacha20.specs.Expand.{double_round}
use Rattle.chacha20_lanes.specs.Lanes.{lane_of}
use Rattle.chacha20_lanes.proofs.Places.{Done}
use Rattle.chacha20_lanes.proofs.double_rounds.Given as goal

abbrev pub invariant-loop-l : goal.invariant-loop-l
invariant-loop-l l = Done (λ m. double_round (lane_of m l.initial.states)) l.l l.initial.states l.states
