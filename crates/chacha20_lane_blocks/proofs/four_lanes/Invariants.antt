-- `chacha20_lane_blocks::four_lanes` meets its contract. The invariant: the lanes before l are what was made for them. Assumes nothing.
use Rattle.std.proofs.Common.{◌≡◌, ℕ, ◌<◌, length}
use Rattle.chacha20_lanes.specs.Lanes.{lane_of}
use Rattle.chacha20_lane_blocks.proofs.four_lanes.Given as goal

abbrev pub invariant-loop-l : goal.invariant-loop-l
invariant-loop-l g l = (length l.states ≡ 64) × ((m : ℕ) → m < l.l → goal.F-post g l.state m (lane_of m l.states))
