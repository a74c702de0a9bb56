-- `chacha20_lanes::put_lane` meets its contract. The loop's invariant: the words before w are put, and the other lanes are as they were. Assumes nothing.
use Rattle.chacha20_lanes.proofs.Places.{Putting}
use Rattle.chacha20_lanes.proofs.put_lane.Given as goal

abbrev pub invariant-loop-w : goal.invariant-loop-w
invariant-loop-w l = Putting l.l l.w l.words l.initial.states l.states
