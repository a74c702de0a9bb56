-- `cards::add_card` meets its contract. The loop's invariant: into the first bytes the card's are XORed, the rest is as it was lent.
-- Assumes nothing.
use Rattle.std.proofs.Common.{◌≡◌, ◌++◌, length, take, drop}
use Rattle.xor.specs.Xor.{xors}
use Rattle.cards.specs.Cards.{at_share}
use Rattle.cards.proofs.add_card.Given as goal

abbrev pub invariant-loop-i : goal.invariant-loop-i
invariant-loop-i l =
    l.sum ≡ take l.i (xors l.initial.sum (at_share (length l.initial.sum) l.wanted l.card)) ++ drop l.i l.initial.sum
