-- The numbers of Draw card behind Check key's: the chain of 21, 22 and 9, and what is known where none fits. Assumes nothing.
use mathlib.Core.Path.{◌≡◌}
use mathlib.Core.Bool.{◌&&◌, not}
use Prim.Native.Nat.{ℕ, ◌*◌, ◌≤◌, ◌<◌}
use native.Mathlib.Omega.{arith}
use borrow.Author.Tests.{eq-eqb, ne_eqb, le-ltb, lt-ltb, eqb-true, ltb-false, leb-true, not-false}
use lib.Dec.{eqb, leb, ltb}
use Rattle.xor.proofs.Laws.{and_left, and_right}
use Rattle.grid.specs.Grid.{Board}
use Rattle.grid.proofs.Refusing.{In, Out}
use Rattle.keys.proofs.Accepted.{passed}
use Rattle.call_answers.specs.Answers.{share_fits, draw_refusal}

module _ (b : Board) (l d o : ℕ) where
  pub draw_21 : (b.w ≡ 1 → ⊥) → 21 ≡ draw_refusal b l d o
  unfolding draw_refusal
  draw_21 wide = simp (ne_eqb b.w 1 wide)

  pub draw_22_long : b.w ≡ 1 → Out 1 l 256 → 22 ≡ draw_refusal b l d o
  unfolding draw_refusal
  draw_22_long one long = simp (eq-eqb b.w 1 one, long)

  pub draw_22_deck : b.w ≡ 1 → In 1 l 256 → (d ≡ b.n * l → ⊥) → 22 ≡ draw_refusal b l d o
  unfolding draw_refusal
  draw_22_deck one long deck = simp (eq-eqb b.w 1 one, long, ne_eqb d (b.n * l) deck)

  pub draw_9 : b.w ≡ 1 → In 1 l 256 → d ≡ b.n * l → o < l → 9 ≡ draw_refusal b l d o
  unfolding draw_refusal
  draw_9 one long deck room = simp (eq-eqb b.w 1 one, long, eq-eqb d (b.n * l) deck, lt-ltb o l room)

  pub draw_0 : b.w ≡ 1 → In 1 l 256 → d ≡ b.n * l → l ≤ o → 0 ≡ draw_refusal b l d o
  unfolding draw_refusal
  draw_0 one long deck room = simp (eq-eqb b.w 1 one, long, eq-eqb d (b.n * l) deck, le-ltb o l room)

  -- what is left where none fits
  pub draw_fits : draw_refusal b l d o ≡ 0 → (b.w ≡ 1) × (l ≤ 256) × (d ≡ b.n * l) × (l ≤ o)
  unfolding draw_refusal
  draw_fits h =
      let key = passed (not (eqb b.w 1)) 21 _ (λ t n. omega arith) h in
      let deck = passed (not (share_fits l && eqb d (b.n * l))) 22 _ (λ t n. omega arith) key.1 in
      let room = passed (ltb o l) 9 0 (λ t n. omega arith) deck.1 in
      let both = not-false (share_fits l && eqb d (b.n * l)) deck.0 in
      let long = and_right (leb 1 l) (leb l 256) (and_left (share_fits l) (eqb d (b.n * l)) both) in (
        eqb-true b.w 1 (not-false (eqb b.w 1) key.0),
        leb-true l 256 long,
        eqb-true d (b.n * l) (and_right (share_fits l) (eqb d (b.n * l)) both),
        ltb-false o l room.0,
      )
