-- Byte by byte: what a mask makes of a card's byte, and what two masks make of two cards' bytes at one place. Assumes nothing.
use mathlib.Core.Path.{◌≡◌, refl, sym, ap, ◌∙◌}
use mathlib.Core.Bool.{Bool, true, false, cond}
use mathlib.Core.List.{List, [], ◌∷◌}
use Prim.Native.Nat.{ℕ, suc, ◌+◌, ◌*◌, ◌-◌, ◌≤◌, ◌<◌, ◌^◌}
use native.Mathlib.Omega.{arith}
use lib.Bits.{bit_and, bit_xor, and_le_l}
use lib.ListN.{length, get_or, take, drop, get_or-replicate, length-drop}
use lib.Seq.{get_or-take, get_or-drop, length-take-le}
use Rattle.xor.specs.Xor.{xor_from, zeros}
use Rattle.xor.proofs.Laws.{xor_is, xor_from_lt, xor_from_assoc, xor_from_zero, get_or-xors, good_at, good_take, good_drop}
use Rattle.grid.specs.Grid.{bit}
use Rattle.cards.specs.Cards.{at_share, picked, mask, masks}
use Rattle.cards.proofs.Masks.{masked, mask_at}
use Rattle.cards.proofs.Decks.{at_share_long, picked_word}

-- ONE CARD
get_or-at_share : (l s : ℕ) (xs : List ℕ) (i : ℕ) → i < l → get_or (at_share l s xs) i 0 ≡ cond (bit s 0) (get_or xs i 0) 0
unfolding at_share zeros
get_or-at_share l s xs i h = go (bit s 0)
  where
    go : (t : Bool) → get_or (cond t xs (zeros l)) i 0 ≡ cond t (get_or xs i 0) 0
    go true = refl
    go false = get_or-replicate l i 0 0 h

pub card_byte : (l m : ℕ) (xs : List ℕ) (i : ℕ) → i < l → get_or xs i 0 < 256 → mask m ≡ m → bit_and (get_or xs i 0) m ≡ get_or (at_share l m xs) i 0
card_byte l m xs i h byte is = masked (get_or xs i 0) m byte is ∙ sym (get_or-at_share l m xs i h)

-- TWO

-- the next of some cards, at a place
get_d_picked : (l s : ℕ) (ss deck : List ℕ) (j : ℕ) → suc (length ss) * l ≤ length deck → j < l → get_or deck j 0 < 256 → mask s ≡ s →
    get_or (picked l (s ∷ ss) deck) j 0 ≡ xor_from 8 (bit_and (get_or deck j 0) s) (get_or (picked l ss (drop l deck)) j 0)
unfolding picked
get_d_picked l s ss deck j room h byte is =
    let card_long : length (take l deck) ≡ l = length-take-le l deck (omega arith) in
    let one = at_share_long l s (take l deck) card_long in
    let rest = picked_word l ss (drop l deck) (rw length-drop (omega arith)) in
    let there : get_or (take l deck) j 0 ≡ get_or deck j 0 = get_or-take l deck j 0 h in
    get_or-xors (at_share l s (take l deck)) (picked l ss (drop l deck)) j (one ∙ sym rest.long) (omega (arith, one))
    ∙ ap (λ (x : ℕ). xor_from 8 x (get_or (picked l ss (drop l deck)) j 0)) (sym (card_byte l s (take l deck) j h (rw there byte) is) ∙ rw there)

-- a list of two
two_of : (ms : List ℕ) → length ms ≡ 2 → ms ≡ get_or ms 0 0 ∷ get_or ms 1 0 ∷ []
two_of [] h = let none : ⊥ = omega arith in absurd none
two_of (a ∷ []) h = let none : ⊥ = omega arith in absurd none
two_of (a ∷ b ∷ []) h = refl
two_of (a ∷ b ∷ c ∷ ms) h = let none : ⊥ = omega arith in absurd none

-- the machine's XOR of a byte with two
xor_two : (o a b : ℕ) → o < 2 ^ 8 → a < 2 ^ 8 → b < 2 ^ 8 → bit_xor (bit_xor o a) b ≡ bit_xor o (xor_from 8 a (xor_from 8 b 0))
xor_two o a b ho ha hb =
    let first : bit_xor o a ≡ xor_from 8 o a = xor_is 8 o a ho ha in
    let second : bit_xor (xor_from 8 o a) b ≡ xor_from 8 (xor_from 8 o a) b = xor_is 8 _ b (xor_from_lt 8 o a) hb in
    let last : xor_from 8 b 0 ≡ b = xor_from_zero 8 b hb in
    let both : bit_xor o (xor_from 8 a b) ≡ xor_from 8 o (xor_from 8 a b) = xor_is 8 o _ ho (xor_from_lt 8 a b) in
    rw (first, second, last, both) (xor_from_assoc 8 o a b)

-- the bytes of a stretch are those of what is picked, and bytes they are
module _ (l from i n : ℕ) (ms cards : List ℕ) (long : length ms ≡ 2) (room : 2 * l ≤ length cards) where
  pub stretch_long : from + n ≤ l → length (take n (drop from (picked l ms cards))) ≡ n
  stretch_long fits =
      let whole = (picked_word l ms cards (rw long room)).long in
      length-take-le n (drop from (picked l ms cards)) (rw length-drop (omega arith))

  pub stretch_byte : get_or (take n (drop from (picked l ms cards))) i 0 < 2 ^ 8
  stretch_byte = good_at _ i (good_take n _ (good_drop from _ (picked_word l ms cards (rw long room)).good))

  -- what the code writes, by its places
  pub two_bytes : (o x y : ℕ) → masks ms ≡ ms → from + i < l → i < n → o < 2 ^ 8 → ((k : ℕ) → get_or cards k 0 < 2 ^ 8) → x ≡ from + i → y ≡ l + (from + i) →
      bit_xor (bit_xor o (bit_and (get_or cards x 0) (get_or ms 0 0))) (bit_and (get_or cards y 0) (get_or ms 1 0)) ≡
      bit_xor o (get_or (take n (drop from (picked l ms cards))) i 0)
  unfolding picked zeros
  two_bytes o x y are within in_part byte bytes at_x at_y =
      let j = from + i in
      let m = get_or ms 0 0 in
      let k = get_or ms 1 0 in
      let behind = drop l cards in
      let behind_long : length behind ≡ length cards - l = length-drop l cards in
      let here : get_or cards j 0 ≡ get_or cards x 0 = rw at_x in
      let next : get_or behind j 0 ≡ get_or cards y 0 = get_or-drop l cards j 0 ∙ rw at_y in
      let none : get_or (picked l [] (drop l behind)) j 0 ≡ 0 = get_or-replicate l j 0 0 within in
      let second = get_d_picked l k [] behind j (omega arith) within (rw next (bytes y)) (mask_at ms 1 are (omega arith)) in
      let first = get_d_picked l m (k ∷ []) cards j (omega arith) within (bytes j) (mask_at ms 0 are (omega arith)) in
      let whole : get_or (picked l ms cards) j 0 ≡ xor_from 8 (bit_and (get_or cards x 0) m) (xor_from 8 (bit_and (get_or cards y 0) k) 0) =
      ap (λ (list : List ℕ). get_or (picked l list cards) j 0) (two_of ms long) ∙ first ∙ rw (here, second, next, none) in
      let there : get_or (take n (drop from (picked l ms cards))) i 0 ≡ get_or (picked l ms cards) j 0 =
      get_or-take n (drop from (picked l ms cards)) i 0 in_part ∙ get_or-drop from (picked l ms cards) i 0 in
      xor_two o (bit_and (get_or cards x 0) m) (bit_and (get_or cards y 0) k) byte (omega (arith, and_le_l (get_or cards x 0) m, bytes x))
      (omega (arith, and_le_l (get_or cards y 0) k, bytes y))
      ∙ ap (λ (b : ℕ). bit_xor o b) (sym (there ∙ whole))
