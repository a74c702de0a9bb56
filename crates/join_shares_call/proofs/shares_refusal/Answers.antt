-- `join_shares_call::shares_refusal` meets its contract: 9 is the number where the output is shorter than a share. Assumes nothing.
-- The check finds this alone; it stands here so that the edit join_room_of_one_more is refused with numbers and not where a search gives up.
use native.Mathlib.Omega.{arith}
use Rattle.grid.proofs.Refusing.{passed}
use Rattle.call_answers.proofs.Sharing.{shares_9}
use Rattle.join_shares_call.proofs.shares_refusal.Goals as goal

pub returns-then-room-share : goal.returns-then-room-share
returns-then-room-share c =
    shares_9 _ _ _ _ (passed c.players_fit.ensures c.if-not-players_fit.false) (passed c.share_bytes_fit.ensures c.if-not-share_bytes_fit.false)
    c.if-shares-players.false (omega (arith, c.if-room-share))
