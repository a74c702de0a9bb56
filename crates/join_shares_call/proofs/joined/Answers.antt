use Rattle.std.proofs.Common.{◌∙◌, ◌*◌, length, sym, ap, ℕ, arith}
use Rattle.join_shares_call.proofs.Joining.{joined_none, share_more}
use Rattle.join_shares_call.proofs.joined.Goals as goal

pub loop-player-init : goal.loop-player-init
loop-player-init c = joined_none _ _ _ c.args.out.now c.clear.ensures c.clear.auto.out

pub loop-player-preserved : goal.loop-player-preserved
loop-player-preserved c =
    let l = c.loop-player in
    c.xor_into.ensures ∙ share_more c.args.players l.player (length c.clear.new.out) c.args.shares.now l.out (omega arith) (omega arith) l.invariant
