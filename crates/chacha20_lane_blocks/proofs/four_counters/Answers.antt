-- `chacha20_lane_blocks::four_counters` meets its contract. Four states of one seed, and their blocks. Assumes nothing.
use Rattle.chacha20_lanes.proofs.Laid.{four_counters}
use Rattle.chacha20_lane_blocks.proofs.four_counters.Goals as goal

pub returns : goal.returns
returns c = let a = c.args in four_counters a.counter a.seed.now _ _ c.four_lanes-initial.ensures c.blocks_beside.ensures
