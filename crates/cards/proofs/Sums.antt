-- What XORed shares pick is the XOR of what each picks: so the tables of all players together pick what their XOR picks, and a table with a
-- value at a point and zeros elsewhere picks the card at the point, or zeros. Assumes nothing.
use mathlib.Core.Path.{◌≡◌, refl, sym, ap, ◌∙◌}
use mathlib.Core.Bool.{Bool, true, false, not, cond}
use mathlib.Core.List.{List, [], ◌∷◌, ◌++◌}
use Prim.Native.Nat.{ℕ, zero, suc, ◌+◌, ◌*◌, ◌%◌, ◌≤◌, ◌<◌}
use native.Mathlib.Omega.{arith}
use lib.ListN.{length, take, drop, length-drop}
use lib.Seq.{length-take-le, drop-drop}
use Rattle.xor.specs.Xor.{xor_from, xors, zeros, bytes_good}
use Rattle.xor.proofs.Laws.{Word, good_take, good_drop, word_zeros, xors_self, xors_zeros_left, xors_zeros_right}
use Rattle.grid.specs.Grid.{bit}
use Rattle.grid.specs.Joining.{over}
use Rattle.grid.proofs.Sums.{over_word, xors_exchange}
use Rattle.cards.specs.Cards.{card, at_share, picked}
use Rattle.cards.proofs.Masks.{even_or_odd, bit_even, bit_odd}
use Rattle.cards.proofs.Decks.{at_share_word, first_card, rest_cards}

-- the lowest bit of an XOR is set where that of just one is
low_xor : (x y : ℕ) → xor_from 8 x y % 2 ≡ (x + y) % 2
unfolding xor_from
low_xor x y = omega arith

bit_xor : (x y : ℕ) → bit (xor_from 8 x y) 0 ≡ cond (bit x 0) (not (bit y 0)) (bit y 0)
bit_xor x y =
    let low = low_xor x y in
    even_or_odd x
    (λ ex bx. even_or_odd y (λ ey by. rw (bx, by) (bit_even (xor_from 8 x y) (omega arith))) (λ ey by. rw (bx, by) (bit_odd (xor_from 8 x y) (omega arith))))
    (λ ex bx. even_or_odd y (λ ey by. rw (bx, by) (bit_odd (xor_from 8 x y) (omega arith))) (λ ey by. rw (bx, by) (bit_even (xor_from 8 x y) (omega arith))))

module _ (l : ℕ) where
  -- ONE CARD

  -- the first of a deck
  first_word : (n : ℕ) (deck : List ℕ) → suc n * l ≤ length deck → bytes_good deck ≡ true → Word l (take l deck)
  first_word n deck room good = record { long = first_card l n deck room; good = good_take l deck good }

  at_xor : (x y : ℕ) (xs : List ℕ) → Word l xs → at_share l (xor_from 8 x y) xs ≡ xors (at_share l x xs) (at_share l y xs)
  unfolding at_share
  at_xor x y xs w = rw (bit_xor x y) (go (bit x 0) (bit y 0))
    where
      go : (p q : Bool) → cond (cond p (not q) q) xs (zeros l) ≡ xors (cond p xs (zeros l)) (cond q xs (zeros l))
      go true true = sym (xors_self xs ∙ ap zeros w.long)
      go true false = sym (xors_zeros_right l xs w)
      go false true = sym (xors_zeros_left l xs w)
      go false false = sym (xors_zeros_right l (zeros l) (word_zeros l))

  -- MANY

  pub picked_xors : (ts us deck : List ℕ) → length ts ≡ length us → length ts * l ≤ length deck → bytes_good deck ≡ true →
      picked l (xors ts us) deck ≡ xors (picked l ts deck) (picked l us deck)
  unfolding picked xors
  picked_xors [] [] deck same room good = sym (xors_zeros_right l (zeros l) (word_zeros l))
  picked_xors [] (u ∷ us) deck same room good = let none : ⊥ = omega arith in absurd none
  picked_xors (t ∷ ts) [] deck same room good = let none : ⊥ = omega arith in absurd none
  picked_xors (t ∷ ts) (u ∷ us) deck same room good =
      let first = take l deck in
      let rest = drop l deck in
      let more = picked_xors ts us rest (omega arith) (rest_cards l (length ts) deck room) (good_drop l deck good) in
      rw (at_xor t u first (first_word (length ts) deck room good), more)
      (xors_exchange (at_share l t first) (at_share l u first) (picked l ts rest) (picked l us rest))

  picked_zeros : (k : ℕ) (deck : List ℕ) → picked l (zeros k) deck ≡ zeros l
  unfolding picked zeros at_share bit
  picked_zeros zero deck = refl
  picked_zeros (suc k) deck = rw (picked_zeros k (drop l deck)) (xors_zeros_right l (zeros l) (word_zeros l))

  pub picked_over : (k i n : ℕ) (t : ℕ → List ℕ) (deck : List ℕ) → ((m : ℕ) → i ≤ m → m < i + k → Word n (t m)) → n * l ≤ length deck → bytes_good deck ≡ true →
      over k i l (λ m. picked l (t m) deck) ≡ picked l (over k i n t) deck
  unfolding over
  picked_over zero i n t deck words room good = sym (picked_zeros n deck)
  picked_over (suc k) i n t deck words room good =
      let here = words i (omega arith) (omega arith) in
      let later : (m : ℕ) → suc i ≤ m → m < suc i + k → Word n (t m) = λ m p q. words m (omega arith) (omega arith) in
      let rest = over_word k (suc i) n t later in
      let enough : length (t i) * l ≤ length deck = rw here.long room in
      rw (picked_over k (suc i) n t deck later room good)
      (sym (picked_xors (t i) (over k (suc i) n t) deck (here.long ∙ sym rest.long) enough good))

  -- nothing is picked at 0
  at_zero : (xs : List ℕ) → at_share l 0 xs ≡ zeros l
  unfolding at_share bit
  at_zero xs = refl

  -- a value at one place, and zeros elsewhere
  pub picked_point : (a v k : ℕ) (deck : List ℕ) → suc a * l ≤ length deck → bytes_good deck ≡ true →
      picked l (zeros a ++ v ∷ zeros k) deck ≡ at_share l v (card l deck a)
  unfolding picked zeros card
  picked_point zero v k deck room good =
      let none : zero * l ≡ 0 = omega arith in
      rw (picked_zeros k (drop l deck), none) (xors_zeros_right l _ (at_share_word l v (take l deck) (first_word 0 deck room good)))
  picked_point (suc a) v k deck room good =
      let next : l + a * l ≡ suc a * l = omega arith in
      let rest = drop l deck in
      let there = picked_point a v k rest (rest_cards l (suc a) deck room) (good_drop l deck good) in
      let wanted : take l (drop (a * l) rest) ≡ take l (drop (suc a * l) deck) = rw (drop-drop (a * l) l deck, next) in
      let long = length-take-le l (drop (a * l) rest) (rw (length-drop (a * l) rest, length-drop l deck) (omega arith)) in
      let bytes = good_take l _ (good_drop (a * l) rest (good_drop l deck good)) in
      let word = at_share_word l v (take l (drop (a * l) rest)) (record { long = long; good = bytes }) in
      rw (at_zero (take l deck), there) (xors_zeros_left l _ word ∙ ap (λ (xs : List ℕ). at_share l v xs) wanted)
