-- `join_shares_call::joined` meets its contract. The loop goes down from the last share; its invariant: the shares from this one on are joined.
-- Assumes nothing.
use Rattle.std.proofs.Common.{◌≡◌, ◌*◌, ◌-◌, drop}
use Rattle.call_answers.specs.Answers.{joined_shares}
use Rattle.join_shares_call.proofs.joined.Given as goal

abbrev pub invariant-loop-player : goal.invariant-loop-player
invariant-loop-player l = l.out ≡ joined_shares (l.players - l.player) l.share (drop (l.player * l.share) l.shares)
