-- Decks of cards, and what shares pick of them: document 02, (iii), whose sentences are quoted. A deck is its cards one
-- after another. Assumes nothing: these are definitions.
use Rattle.std.specs.Prelude.{cond, List, [], ◌∷◌, ℕ, ◌*◌, take, drop}
use Rattle.xor.specs.Xor.{xors, zeros}
use Rattle.grid.specs.Grid.{bit}

-- "one deck of N cards, each L bytes": the card of a position
unfoldable pub card : (long : ℕ) → (deck : List ℕ) → (a : ℕ) → List ℕ
card l deck a = take l (drop (a * l) deck)

-- a card at a share that "has its lowest bit set", and zeros at any other
unfoldable pub at_share : (long share : ℕ) → (card : List ℕ) → List ℕ
at_share l s xs = cond (bit s 0) xs (zeros l)

-- "the XOR of the cards at which its share has its lowest bit set": shares of one byte, each beside the next card
unfoldable pub picked : (long : ℕ) → (shares deck : List ℕ) → List ℕ
picked l [] deck = zeros l
picked l (s ∷ ss) deck = xors (at_share l s (take l deck)) (picked l ss (drop l deck))

-- a mask in a share's place, which picks what the share picks: all bits where the share's lowest is set, else none
unfoldable pub mask : (share : ℕ) → ℕ
mask s = cond (bit s 0) 255 0

unfoldable pub masks : (shares : List ℕ) → List ℕ
masks [] = []
masks (s ∷ ss) = mask s ∷ masks ss
