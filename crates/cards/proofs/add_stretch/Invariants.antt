-- `cards::add_stretch` meets its contract. The loop's invariant: into the first i bytes those of the stretch are XORed, the rest is as it was
-- lent. Assumes nothing.
use Rattle.std.proofs.Common.{◌≡◌, ◌++◌, ℕ, List, length, take, drop}
use Rattle.xor.specs.Xor.{xors}
use Rattle.cards.specs.Cards.{picked}
use Rattle.cards.proofs.add_stretch.Given as goal

-- the bytes that are added
abbrev pub row : (wanted cards : List ℕ) (card from n : ℕ) → List ℕ
row wanted cards card from n = take n (drop from (picked card wanted cards))

abbrev pub invariant-loop-i : goal.invariant-loop-i
invariant-loop-i l =
    l.sum ≡ take l.i (xors l.initial.sum (row l.wanted l.cards l.card l.from (length l.initial.sum))) ++ drop l.i l.initial.sum
