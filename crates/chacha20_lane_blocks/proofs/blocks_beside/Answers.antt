-- `chacha20_lane_blocks::blocks_beside` meets its contract. The rounds, the sums, and their bytes. Assumes nothing.
use native.Mathlib.Omega.{arith}
use Rattle.chacha20_lanes.proofs.Laid.{blocks_laid}
use Rattle.chacha20_lane_blocks.proofs.blocks_beside.Goals as goal

pub returns : goal.returns
returns c =
    blocks_laid c.args.initial _ _ _ (omega arith) c.twenty_rounds.ensures c.add_into.ensures c.serialize.ensures
