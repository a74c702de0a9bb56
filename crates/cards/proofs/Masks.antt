-- Shares as masks: a mask has its share's lowest bit, so it picks what its share picks; a byte under a mask is the byte or zero. Assumes
-- nothing.
use mathlib.Core.Path.{◌≡◌, refl, sym, ap, ◌∙◌}
use mathlib.Core.Bool.{Bool, true, false, cond}
use mathlib.Core.List.{List, [], ◌∷◌}
use Prim.Native.Nat.{ℕ, zero, suc, ◌*◌, ◌/◌, ◌%◌, ◌≤◌, ◌<◌, ◌^◌}
use native.Mathlib.Decide.{dec_le}
use native.Mathlib.Nat.{not-suc-le-zero}
use native.Mathlib.Omega.{arith}
use borrow.Author.Tests.{eq-eqb, ne_eqb}
use lib.Bits.{bit_and, and_mask, and_zero_r}
use lib.ListN.{length, get_or, take, drop}
use Rattle.grid.specs.Grid.{bit}
use Rattle.cards.specs.Cards.{at_share, picked, mask, masks}

-- ONE SHARE

-- a number is even or odd, and its lowest bit says which
pub bit_even : (s : ℕ) → s % 2 ≡ 0 → bit s 0 ≡ false
unfolding bit
bit_even s e = ne_eqb (s / 2 ^ 0 % 2) 1 (λ one. omega arith)

pub bit_odd : (s : ℕ) → s % 2 ≡ 1 → bit s 0 ≡ true
unfolding bit
bit_odd s e = eq-eqb (s / 2 ^ 0 % 2) 1 (omega arith)

pub even_or_odd : (s : ℕ) {A : Type 0} → (s % 2 ≡ 0 → bit s 0 ≡ false → A) → (s % 2 ≡ 1 → bit s 0 ≡ true → A) → A
even_or_odd s {A} even odd = go (dec_le 1 (s % 2))
  where
    go : Dec (1 ≤ s % 2) → A
    go (yes h) = odd (omega arith) (bit_odd s (omega arith))
    go (no h) = even (omega arith) (bit_even s (omega arith))

-- the code's mask
pub mask_made : (s : ℕ) → bit_and s 1 * 255 ≡ mask s
unfolding mask
mask_made s =
    let low : bit_and s 1 ≡ s % 2 = and_mask s 1 in
    rw low (even_or_odd s (λ e b. rw (e, b)) (λ e b. rw (e, b)))

mask_bit : (s : ℕ) → bit (mask s) 0 ≡ bit s 0
unfolding mask bit
mask_bit s = even_or_odd s (λ e b. rw b) (λ e b. rw b)

-- a byte under a mask
pub masked : (x m : ℕ) → x < 256 → mask m ≡ m → bit_and x m ≡ cond (bit m 0) x 0
unfolding mask
masked x m h is =
    ap (λ (k : ℕ). bit_and x k) (sym is) ∙ go (bit m 0)
  where
    go : (t : Bool) → bit_and x (cond t 255 0) ≡ cond t x 0
    go true = and_mask x 8 ∙ omega arith
    go false = and_zero_r x

-- MANY

pub length-masks : (ss : List ℕ) → length (masks ss) ≡ length ss
unfolding masks
length-masks [] = refl
length-masks (s ∷ ss) = ap suc (length-masks ss)

pub get_or-masks : (ss : List ℕ) (i : ℕ) → i < length ss → get_or (masks ss) i 0 ≡ mask (get_or ss i 0)
unfolding masks
get_or-masks [] i h = absurd (not-suc-le-zero h)
get_or-masks (s ∷ ss) zero h = refl
get_or-masks (s ∷ ss) (suc i) h = get_or-masks ss i (omega arith)

-- masks are masks already
pub masks_are : (ss : List ℕ) → masks (masks ss) ≡ masks ss
unfolding masks mask
masks_are [] = refl
masks_are (s ∷ ss) = rw (mask_bit s, masks_are ss)

-- and so is each of them, and any part of them
pub mask_at : (ms : List ℕ) (i : ℕ) → masks ms ≡ ms → i < length ms → mask (get_or ms i 0) ≡ get_or ms i 0
mask_at ms i are h = sym (get_or-masks ms i h) ∙ ap (λ (l : List ℕ). get_or l i 0) are

take-masks : (k : ℕ) (ss : List ℕ) → masks (take k ss) ≡ take k (masks ss)
unfolding masks
take-masks zero ss = refl
take-masks (suc k) [] = refl
take-masks (suc k) (s ∷ ss) = ap (λ (l : List ℕ). mask s ∷ l) (take-masks k ss)

drop-masks : (k : ℕ) (ss : List ℕ) → masks (drop k ss) ≡ drop k (masks ss)
unfolding masks
drop-masks zero ss = refl
drop-masks (suc k) [] = refl
drop-masks (suc k) (s ∷ ss) = drop-masks k ss

pub masks_part : (from n : ℕ) (ms : List ℕ) → masks ms ≡ ms → masks (take n (drop from ms)) ≡ take n (drop from ms)
masks_part from n ms are = take-masks n (drop from ms) ∙ rw (drop-masks from ms, are)

-- what masks pick is what their shares pick
pub picked_masks : (l : ℕ) (ss deck : List ℕ) → picked l (masks ss) deck ≡ picked l ss deck
unfolding picked masks at_share
picked_masks l [] deck = refl
picked_masks l (s ∷ ss) deck = rw (mask_bit s, picked_masks l ss (drop l deck))
