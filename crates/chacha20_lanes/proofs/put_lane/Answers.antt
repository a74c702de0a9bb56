use Rattle.std.proofs.Common.{arith, rules}
use Rattle.chacha20_lanes.proofs.Places.{one_put, all_put}
use Rattle.chacha20_lanes.proofs.put_lane.Goals as goal

pub loop-w-preserved : goal.loop-w-preserved
loop-w-preserved c =
    let l = c.loop-w in
    let a = c.args in
    one_put a.l l.w a.words a.states.now l.states c.requires l.invariant _ (omega arith) (omega arith)

pub returns : goal.returns
returns c =
    let l = c.loop-w in
    let a = c.args in
    all_put a.l l.w a.words a.states.now l.states c.requires l.invariant (omega arith) (search rules)
