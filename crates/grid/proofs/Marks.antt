-- The marks of a column: bit i of a column v is player i's mark, `ones k v` counts the marks of the first k players. What a column's
-- parity is for: a string that each player adds who marks the column is, over all players, added once or not at all. Assumes nothing.
use mathlib.Core.Path.{◌≡◌, refl, sym, ap, ◌∙◌}
use mathlib.Core.Bool.{Bool, true, false, cond}
use mathlib.Core.List.{List}
use Prim.Native.Nat.{ℕ, zero, suc, ◌+◌, ◌/◌, ◌%◌, ◌^◌, ◌≤◌, ◌<◌}
use native.Mathlib.Numerals.{add-one}
use native.Mathlib.Omega.{arith}
use lib.Pow.{shr-shr}
use borrow.Author.Tests.{eqb-true, eqb-false}
use Rattle.xor.specs.Xor.{xors, zeros}
use Rattle.xor.proofs.Laws.{Word, xors_assoc, xors_zeros_right, word_zeros}
use Rattle.grid.specs.Grid.{bit, ones, is_odd}
use Rattle.grid.specs.Joining.{over}
use Rattle.grid.proofs.Sums.{times, times_parity, xors_exchange}

pub mark_set : (v i : ℕ) → bit v i ≡ true → v / 2 ^ i % 2 ≡ 1
unfolding bit
mark_set v i h = eqb-true (v / 2 ^ i % 2) 1 h

pub mark_clear : (v i : ℕ) → bit v i ≡ false → v / 2 ^ i % 2 ≡ 0
unfolding bit
mark_clear v i h =
    let other : v / 2 ^ i % 2 ≡ 1 → ⊥ = eqb-false (v / 2 ^ i % 2) 1 h in
    omega arith

-- bits past the players' are zero, so they add no ones
pub ones_beyond : (k m v : ℕ) → k ≤ m → v < 2 ^ k → ones m v ≡ ones k v
unfolding ones
ones_beyond zero zero v l h = refl
ones_beyond zero (suc m) v l h = omega (arith, ones_beyond zero m (v / 2) (omega arith) (omega arith))
ones_beyond (suc k) zero v l h = let none : ⊥ = omega arith in absurd none
ones_beyond (suc k) (suc m) v l h =
    ap (λ (x : ℕ). v % 2 + x) (ones_beyond k m (v / 2) (omega arith) (omega arith))

next_bit : (v i : ℕ) → v / 2 ^ i / 2 ≡ v / 2 ^ suc i
next_bit v i = rw add-one at (shr-shr v i 1)

-- a string that each player adds who marks the column is added as many times as the column has marks
pub marks_add : (k i n v : ℕ) (t : List ℕ) (f : ℕ → List ℕ)
    → over k i n (λ m. cond (bit v m) (xors (f m) t) (f m)) ≡ xors (over k i n f) (times n (ones k (v / 2 ^ i)) t)
unfolding over ones times
marks_add zero i n v t f = sym (xors_zeros_right n (zeros n) (word_zeros n))
marks_add (suc k) i n v t f =
    rw (marks_add k (suc i) n v t f, ← (next_bit v i)) (split (bit v i) refl)
  where
    later : List ℕ
    later = over k (suc i) n f

    count : ℕ
    count = ones k (v / 2 ^ i / 2)

    split : (o : Bool) → bit v i ≡ o
        → xors (cond o (xors (f i) t) (f i)) (xors later (times n count t)) ≡ xors (xors (f i) later) (times n (v / 2 ^ i % 2 + count) t)
    split true e =
        let one : v / 2 ^ i % 2 + count ≡ suc count = omega (arith, mark_set v i e) in
        rw one (xors_exchange (f i) t later (times n count t))
    split false e =
        let none : v / 2 ^ i % 2 + count ≡ count = omega (arith, mark_clear v i e) in
        rw none (sym (xors_assoc (f i) later (times n count t)))

-- so all players together add it once where the column's parity is odd, and not at all where it is even
pub parity_adds : (p n v : ℕ) (odd : Bool) (t : List ℕ) (f : ℕ → List ℕ) → p ≤ 8 → v < 2 ^ p → is_odd v ≡ odd → Word n t
    → over p 0 n (λ m. cond (bit v m) (xors (f m) t) (f m)) ≡ xors (over p 0 n f) (cond odd t (zeros n))
unfolding is_odd
parity_adds p n v odd t f l h parity g =
    let whole : v / 2 ^ 0 ≡ v = omega arith in
    marks_add p 0 n v t f ∙ rw (whole, times_parity n (ones p v) t g, ← (ones_beyond p 8 v l h), parity)
