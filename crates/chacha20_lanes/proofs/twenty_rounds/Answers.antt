use native.Mathlib.Omega.{arith}
use Rattle.chacha20_lanes.proofs.Laid.{one_going, all_gone}
use Rattle.chacha20_lanes.proofs.twenty_rounds.Goals as goal

pub loop-done-preserved : goal.loop-done-preserved
loop-done-preserved c =
    let l = c.loop-done in
    one_going l._done c.args.states.now l.states c.double_rounds.new.states (omega arith) l.invariant c.double_rounds.ensures

pub returns : goal.returns
returns c = let l = c.loop-done in all_gone l._done c.args.states.now l.states (omega arith) l.invariant
