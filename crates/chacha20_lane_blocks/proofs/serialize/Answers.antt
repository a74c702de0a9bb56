use Rattle.std.proofs.Common.{ℕ, List, refl, ap, ◌∙◌}
use Rattle.chacha20.specs.Expand.{low_bytes}
use Rattle.chacha20_lanes.specs.Lanes.{lanes_bytes}
use Rattle.chacha20_lanes.proofs.Laid.{next_lane}
use Rattle.chacha20_lane_blocks.proofs.serialize.Goals as goal

pub loop-l-init : goal.loop-l-init
unfolding lanes_bytes
loop-l-init c = refl

pub loop-l-preserved : goal.loop-l-preserved
loop-l-preserved c =
    let l = c.loop-l in
    let a = c.args in
    next_lane a.states.now a.out.now l.out l.l l.invariant _
    (c.serialize.ensures ∙ ap (λ (words : List ℕ). low_bytes words) c.lane-state.ensures)
