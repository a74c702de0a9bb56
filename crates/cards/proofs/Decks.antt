-- What is picked of a deck is picked part by part: the shares before a place pick of the cards before it, those behind of the cards behind, and
-- the two are XORed. One law for one card, for two at once, and for grid rows. Assumes nothing.
use mathlib.Core.Path.{◌≡◌, refl, sym, ap, ◌∙◌}
use mathlib.Core.Bool.{Bool, true, false, cond}
use mathlib.Core.List.{List, [], ◌∷◌}
use Prim.Native.Nat.{ℕ, zero, suc, ◌+◌, ◌*◌, ◌-◌, ◌≤◌, ◌<◌}
use native.Mathlib.Omega.{arith}
use lib.ListN.{length, get_or, take, drop, length-drop, drop_of_length-le}
use lib.Seq.{length-take-le, drop-drop, drop-cons}
use Rattle.xor.specs.Xor.{xors, zeros}
use Rattle.xor.proofs.Laws.{Word, length-xors, good_xors, word_zeros, xors_assoc, xors_zeros_left, xors_zeros_right}
use Rattle.grid.specs.Grid.{bit}
use Rattle.cards.specs.Cards.{at_share, picked}

-- A CARD, OR ZEROS, of so many bytes
pub at_share_long : (l s : ℕ) (xs : List ℕ) → length xs ≡ l → length (at_share l s xs) ≡ l
unfolding at_share
at_share_long l s xs e = go (bit s 0)
  where
    go : (t : Bool) → length (cond t xs (zeros l)) ≡ l
    go true = e
    go false = (word_zeros l).long

pub at_share_word : (l s : ℕ) (xs : List ℕ) → Word l xs → Word l (at_share l s xs)
unfolding at_share
at_share_word l s xs w = go (bit s 0)
  where
    go : (t : Bool) → Word l (cond t xs (zeros l))
    go true = w
    go false = word_zeros l

-- the first card of a deck that has one
pub first_card : (l n : ℕ) (deck : List ℕ) → suc n * l ≤ length deck → length (take l deck) ≡ l
first_card l n deck h = length-take-le l deck (omega arith)

pub rest_cards : (l n : ℕ) (deck : List ℕ) → suc n * l ≤ length deck → n * l ≤ length (drop l deck)
rest_cards l n deck h = rw length-drop (omega arith)

pub picked_word : (l : ℕ) (ss deck : List ℕ) → length ss * l ≤ length deck → Word l (picked l ss deck)
unfolding picked
picked_word l [] deck h = word_zeros l
picked_word l (s ∷ ss) deck h =
    let one = at_share_long l s (take l deck) (first_card l (length ss) deck h) in
    let rest = picked_word l ss (drop l deck) (rest_cards l (length ss) deck h) in
    record { long = length-xors _ _ (one ∙ sym rest.long) ∙ one; good = good_xors (at_share l s (take l deck)) (picked l ss (drop l deck)) }

-- IN TWO PARTS
picked_parts : (l k : ℕ) (ss deck : List ℕ) → k ≤ length ss → length ss * l ≤ length deck →
    picked l ss deck ≡ xors (picked l (take k ss) deck) (picked l (drop k ss) (drop (k * l) deck))
unfolding picked
picked_parts l zero ss deck h room =
    let none : zero * l ≡ 0 = omega arith in
    rw none (sym (xors_zeros_left l (picked l ss deck) (picked_word l ss deck room)))
picked_parts l (suc k) [] deck h room = let none : ⊥ = omega arith in absurd none
picked_parts l (suc k) (s ∷ ss) deck h room =
    let next : l + k * l ≡ suc k * l = omega arith in
    let rest = picked_parts l k ss (drop l deck) (omega arith) (rest_cards l (length ss) deck room) in
    let one = at_share l s (take l deck) in
    ap (λ (xs : List ℕ). xors one xs) rest
    ∙ rw (drop-drop (k * l) l deck, next) (sym (xors_assoc one (picked l (take k ss) (drop l deck)) (picked l (drop k ss) (drop (suc k * l) deck))))

-- A LOOP over shares and cards: what is picked before `at` is in the sum, and with what is left it makes the whole
pub record Remaining (l : ℕ) (old ss deck out : List ℕ) (at : ℕ) : Type 0 where
  pub within : at ≤ length ss
  pub word : Word l out
  pub left : xors out (picked l (drop at ss) (drop (at * l) deck)) ≡ xors old (picked l ss deck)

pub none_picked : (l : ℕ) (old ss deck : List ℕ) → Word l old → Remaining l old ss deck old 0
none_picked l old ss deck w =
    let none : 0 * l ≡ 0 = omega arith in
    record { within = omega arith; word = w; left = rw none }

module _ (l : ℕ) (old ss deck out : List ℕ) (at : ℕ) (room : length ss * l ≤ length deck) (so_far : Remaining l old ss deck out at) where
  -- a turn that picks up to another place
  pub next_picked : (end : ℕ) (new part cards : List ℕ) → at ≤ end → end ≤ length ss → length new ≡ length out →
      part ≡ take (end - at) (drop at ss) → cards ≡ drop (at * l) deck → new ≡ xors out (picked l part cards) → Remaining l old ss deck new end
  next_picked end new part cards on within same is of_these made =
      let k = end - at in
      let more : at + k ≡ end = omega arith in
      let bytes : at * l + k * l ≡ end * l = (let both : at * l + k * l ≡ (at + k) * l = omega arith in both ∙ ap (λ (n : ℕ). n * l) more) in
      let tail = drop at ss in
      let behind = drop (at * l) deck in
      let tail_long : length tail ≡ length ss - at = length-drop at ss in
      let all : at + (length ss - at) ≡ length ss = omega arith in
      let cards_long : at * l + (length ss - at) * l ≡ length ss * l =
      (let both : at * l + (length ss - at) * l ≡ (at + (length ss - at)) * l = omega arith in both ∙ ap (λ (n : ℕ). n * l) all) in
      let left_bytes : length tail * l ≤ length behind = rw (tail_long, length-drop (at * l) deck) (omega arith) in
      let parts = picked_parts l k tail behind (omega arith) left_bytes in
      let front = picked l (take k tail) behind in
      let rest = picked l (drop end ss) (drop (end * l) deck) in
      let new_is : new ≡ xors out front = made ∙ rw (is, of_these) in
      let whole : xors front rest ≡ picked l tail behind = sym (parts ∙ rw (drop-drop k at ss, drop-drop (k * l) (at * l) deck, more, bytes)) in
      record {
        within = within;
        word = record { long = same ∙ so_far.word.long; good = rw new_is (good_xors out front) };
        left = rw new_is (xors_assoc out front rest ∙ rw whole so_far.left);
      }

  -- a turn that picks one card
  pub next_card : (share : ℕ) (new card : List ℕ) → at < length ss → length new ≡ length out → share ≡ get_or ss at 0 →
      card ≡ take l (drop (at * l) deck) → new ≡ xors out (at_share l share card) → Remaining l old ss deck new (at + 1)
  unfolding picked
  next_card share new card within same is of_these made =
      let behind = drop (at * l) deck in
      let one = at_share l share card in
      let word : Word l new = record { long = same ∙ so_far.word.long; good = rw made (good_xors out one) } in
      let alone : take (at + 1 - at) (drop at ss) ≡ share ∷ [] =
      (let one_more : at + 1 - at ≡ 1 = omega arith in rw (one_more, drop-cons ss at 0 within, is)) in
      let padded : xors out (xors one (zeros l)) ≡ new = sym (xors_assoc out one (zeros l)) ∙ rw (← made) (xors_zeros_right l new word) in
      next_picked (at + 1) new (share ∷ []) behind (omega arith) (omega arith) same (sym alone) refl
      (sym padded ∙ rw of_these)

  -- where the shares end, all is picked
  pub all_picked : at ≡ length ss → out ≡ xors old (picked l ss deck)
  unfolding picked
  all_picked end =
      let none : drop at ss ≡ [] = drop_of_length-le ss {i = at} (omega arith) in
      sym (xors_zeros_right l out so_far.word) ∙ (rw none at so_far.left)
