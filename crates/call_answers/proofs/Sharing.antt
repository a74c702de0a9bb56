-- The numbers of Join shares: the chain of 1, 4, 7 and 9, and what is known where none fits. Assumes nothing.
use mathlib.Core.Path.{◌≡◌, sym, ◌∙◌}
use mathlib.Core.Bool.{not}
use mathlib.Core.List.{List}
use Prim.Native.Nat.{ℕ, zero, suc, ◌+◌, ◌*◌, ◌≤◌, ◌<◌}
use native.Mathlib.Omega.{arith}
use borrow.Author.Tests.{eq-eqb, le-ltb, lt-ltb, eqb-true, ltb-false, not-false}
use lib.Dec.{eqb, ltb}
use lib.ListN.{length, take, drop, length-drop}
use lib.Seq.{length-take-le}
use Rattle.xor.proofs.Laws.{length-xors, word_zeros}
use Rattle.grid.specs.Grid.{players_fit}
use Rattle.grid.proofs.Refusing.{In}
use Rattle.keys.proofs.Accepted.{passed}
use Rattle.call_answers.specs.Answers.{share_fits, shares_refusal, joined_shares}

module _ (p w l o : ℕ) where
  pub shares_9 : In 2 p 6 → In 1 w 256 → l ≡ p * w → o < w → 9 ≡ shares_refusal p w l o
  unfolding shares_refusal
  shares_9 players bytes long room = simp (players, bytes, eq-eqb l (p * w) long, lt-ltb o w room)

  pub shares_0 : In 2 p 6 → In 1 w 256 → l ≡ p * w → w ≤ o → 0 ≡ shares_refusal p w l o
  unfolding shares_refusal
  shares_0 players bytes long room = simp (players, bytes, eq-eqb l (p * w) long, le-ltb o w room)

  -- what is left where none fits
  pub shares_fit : shares_refusal p w l o ≡ 0 → (l ≡ p * w) × (w ≤ o)
  unfolding shares_refusal
  shares_fit h =
      let players = passed (not (players_fit p)) 1 _ (λ t n. omega arith) h in
      let bytes = passed (not (share_fits w)) 4 _ (λ t n. omega arith) players.1 in
      let long = passed (not (eqb l (p * w))) 7 _ (λ t n. omega arith) bytes.1 in
      let room = passed (ltb o w) 9 0 (λ t n. omega arith) long.1 in
      (eqb-true l (p * w) (not-false (eqb l (p * w)) long.0), ltb-false o w room.0)

-- the XOR of shares has the length of one
pub length-joined : (k w : ℕ) (bs : List ℕ) → k * w ≤ length bs → length (joined_shares k w bs) ≡ w
unfolding joined_shares
length-joined zero w bs h = (word_zeros w).long
length-joined (suc k) w bs h =
    let first : suc k * w ≡ w + k * w = omega arith in
    let front = length-take-le w bs (omega arith) in
    let others = length-joined k w (drop w bs) (rw length-drop (omega arith)) in
    length-xors (take w bs) (joined_shares k w (drop w bs)) (front ∙ sym others) ∙ front
