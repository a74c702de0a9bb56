-- `deal_last_word::put_piece` meets its contract. Assumes nothing.
use native.Mathlib.Omega.{arith}
use lib.ListN.{length}
use Rattle.deal_last_word.proofs.LastWord.{piece_put}
use Rattle.deal_last_word.proofs.put_piece.Goals as goal

pub returns : goal.returns
returns c =
    let a = c.args in
    piece_put a.from (length a.out.now) a.value.now c.requires c.put.ensures.now_is
    c.clear.ensures (omega arith)
