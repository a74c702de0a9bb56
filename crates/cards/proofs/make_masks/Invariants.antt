-- `cards::make_masks` meets its contract. The loop's invariant: the first shares are masks, the rest is as it was lent. Assumes nothing.
use Rattle.std.proofs.Common.{◌≡◌, ◌++◌, take, drop}
use Rattle.cards.specs.Cards.{masks}
use Rattle.cards.proofs.make_masks.Given as goal

abbrev pub invariant-loop-share : goal.invariant-loop-share
invariant-loop-share l = l.shares ≡ take l.share-index (masks l.initial.shares) ++ drop l.share-index l.initial.shares
