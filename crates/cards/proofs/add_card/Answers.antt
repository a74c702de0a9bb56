use Rattle.std.proofs.Common.{◌≡◌, ◌<◌, length, get_or, refl, sym, arith}
use lib.Bits.{and_le_l}
use Rattle.xor.proofs.Laws.{length-xors}
use Rattle.xor.proofs.Writing.{next_byte, all_written}
use Rattle.cards.specs.Cards.{at_share}
use Rattle.cards.proofs.Decks.{at_share_long}
use Rattle.cards.proofs.Bytes.{card_byte}
use Rattle.cards.proofs.add_card.Goals as goal
use Rattle.cards.proofs.add_card.Goals.{Start}

-- what is added is as long as the sum
row_long : (c : Start) → let a = c.args in let n = length a.sum.now in length (at_share n a.wanted a.card.now) ≡ n
row_long c = let a = c.args in at_share_long (length a.sum.now) a.wanted a.card.now (sym c.requires.1)

pub loop-i-init : goal.loop-i-init
loop-i-init c = refl

pub loop-i-preserved : goal.loop-i-preserved
loop-i-preserved c =
    let l = c.loop-i in
    let a = c.args in
    let old = a.sum.now in
    let byte : get_or a.card.now l.i 0 < 256 = omega arith in
    next_byte l.sum old _ l.i _ (sym (row_long (goal.at.loop-i-preserved c).Start)) c.loop-i-test.true l.invariant (omega arith)
    (omega (arith, and_le_l)) (card_byte (length old) a.wanted a.card.now l.i c.loop-i-test.true byte c.requires.0)

pub returns : goal.returns
returns c =
    let l = c.loop-i in
    let old = c.args.sum.now in
    all_written l.sum _ old l.i (length-xors old _ (sym (row_long (goal.at.returns c).Start))) c.loop-i-test.false l.invariant
