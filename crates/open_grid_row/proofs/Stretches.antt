-- Stretches of bytes under XOR, and the shares of a grid row: any stretch of them is what the same stretch of words and rows XORs to. So
-- the bytes of one cell, worked out alone, are those that the whole grid row has at that cell. Assumes nothing.
use mathlib.Core.Path.{◌≡◌, refl, sym, ap, ◌∙◌}
use mathlib.Core.Bool.{Bool, true, false, cond}
use mathlib.Core.List.{List, [], ◌∷◌}
use Prim.Native.Nat.{ℕ, zero, suc, ◌+◌, ◌*◌, ◌-◌, ◌≤◌}
use native.Mathlib.Omega.{arith}
use lib.ListN.{take, drop}
use lib.Seq.{take-take}
use Rattle.xor.specs.Xor.{xors, zeros}
use Rattle.xor.proofs.Laws.{take-xors, drop-xors}
use Rattle.grid.proofs.Cells.{take-zeros, drop-zeros}
use Rattle.grid.specs.Grid.{Board, columns, row_long}
use Rattle.keys.specs.Keys.{mark_bytes, word_behind}
use Rattle.keys.specs.Held.{marked}
use Rattle.open_grid_row.specs.Shares.{stretch, shares, shares_from}

-- a stretch of an XOR is the XOR of the stretches
pub stretch_xors : (s n : ℕ) (xs ys : List ℕ) → stretch s n (xors xs ys) ≡ xors (stretch s n xs) (stretch s n ys)
unfolding stretch
stretch_xors s n xs ys = rw (drop-xors s xs ys) (take-xors n (drop s xs) (drop s ys))

-- a stretch within the first l bytes is one of the whole
pub stretch_within : (s n l : ℕ) (xs : List ℕ) → s + n ≤ l → stretch s n (stretch 0 l xs) ≡ stretch s n xs
unfolding stretch
stretch_within zero n l xs h = take-take n l xs (omega arith)
stretch_within (suc s) n zero xs h = let none : ⊥ = omega arith in absurd none
stretch_within (suc s) n (suc l) [] h = refl
stretch_within (suc s) n (suc l) (x ∷ xs) h = stretch_within s n l xs (omega arith)

pub stretch_zeros : (s n l : ℕ) → s + n ≤ l → stretch s n (zeros l) ≡ zeros n
unfolding stretch
stretch_zeros s n l h = rw (drop-zeros s l (l - s) (omega arith)) (take-zeros n (l - s) (omega arith))

-- a stretch of what one of two ways gives
stretch_either : (s n : ℕ) (t : Bool) (xs ys us vs : List ℕ) → stretch s n xs ≡ us → stretch s n ys ≡ vs → stretch s n (cond t xs ys) ≡ cond t us vs
stretch_either s n true xs ys us vs p q = p
stretch_either s n false xs ys us vs p q = q

module _ (b : Board) (f : List ℕ → List ℕ) (ps : List ℕ) (g s n : ℕ) (within : s + n ≤ row_long b) where
  -- what a column adds, in a stretch
  column_stretch : (xs word row : List ℕ) → let l = row_long b in
      stretch s n (xors xs (xors (stretch 0 l word) (stretch 0 l row))) ≡ xors (stretch s n xs) (xors (stretch s n word) (stretch s n row))
  column_stretch xs word row =
      let l = row_long b in
      stretch_xors s n xs (xors (stretch 0 l word) (stretch 0 l row))
      ∙ ap (λ (one : List ℕ). xors (stretch s n xs) one)
      (stretch_xors s n (stretch 0 l word) (stretch 0 l row) ∙ rw (stretch_within s n l word within, stretch_within s n l row within))

  shares_from_stretch : (k j q : ℕ) (xs : List ℕ) →
      stretch s n (shares_from k j q b f ps g 0 (row_long b) xs) ≡ shares_from k j q b f ps g s n (stretch s n xs)
  unfolding shares_from
  shares_from_stretch zero j q xs = refl
  shares_from_stretch (suc k) j q xs =
      let l = row_long b in
      let seed = take 32 (drop (mark_bytes b + 32 * q) ps) in
      let word = word_behind b ps g j in
      stretch_either s n (marked ps j) _ _ _ _
      (shares_from_stretch k (suc j) (suc q) (xors xs (xors (stretch 0 l word) (stretch 0 l (f seed))))
      ∙ ap (λ (ys : List ℕ). shares_from k (suc j) (suc q) b f ps g s n ys) (column_stretch xs word (f seed)))
      (shares_from_stretch k (suc j) q xs)

  -- a stretch of a grid row's shares is that stretch of the whole row of them
  pub shares_stretch : shares b f ps g s n ≡ stretch s n (shares b f ps g 0 (row_long b))
  unfolding shares
  shares_stretch =
      sym (shares_from_stretch (columns b) 0 0 (zeros (row_long b))
      ∙ ap (λ (ys : List ℕ). shares_from (columns b) 0 0 b f ps g s n ys) (stretch_zeros s n (row_long b) within))
