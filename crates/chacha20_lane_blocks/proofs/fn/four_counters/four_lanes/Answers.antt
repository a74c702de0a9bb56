-- The state of a counter. Assumes nothing.
use Rattle.std.proofs.Common.{arith}
use Rattle.xor.specs.Xor.{zeros}
use Rattle.chacha20_lanes.proofs.Laid.{counter_opened}
use Rattle.chacha20_lane_blocks.proofs.fn.four_counters.four_lanes.Goals as goal

pub returns : goal.returns
unfolding zeros
returns c = counter_opened _ _ _ _ _ (omega arith) c.initial_state.ensures
