-- `chacha20_lane_blocks::serialize` meets its contract. The loop's invariant: the lanes before l are written, the rest is as it was lent. Assumes nothing.
use Rattle.std.proofs.Common.{◌≡◌, ◌*◌, ◌++◌, drop}
use Rattle.chacha20_lanes.specs.Lanes.{lanes_bytes}
use Rattle.chacha20_lane_blocks.proofs.serialize.Given as goal

abbrev pub invariant-loop-l : goal.invariant-loop-l
invariant-loop-l l = l.out ≡ lanes_bytes l.l l.states ++ drop (64 * l.l) l.initial.out
