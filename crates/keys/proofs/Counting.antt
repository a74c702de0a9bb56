-- Counting marks: spare bits as a count, and grid row by grid row.
-- Assumes nothing.
use mathlib.Core.Path.{◌≡◌, refl, sym, ap, ◌∙◌}
use mathlib.Core.Bool.{Bool, true, false, ◌&&◌, not, cond}
use mathlib.Core.List.{List}
use Prim.Native.Nat.{ℕ, zero, suc, ◌+◌, ◌*◌, ◌-◌, ◌/◌, ◌%◌, ◌≤◌, ◌<◌}
use native.Mathlib.Omega.{arith}
use native.Mathlib.Nat.{zero-add}
use borrow.Author.Tests.{eq-eqb, ne_eqb, not-true, not-false}
use lib.Dec.{eqb}
use lib.ListN.{get_or, drop}
use Rattle.grid.specs.Grid.{Board, columns, bit}
use Rattle.keys.specs.Keys.{mark_bytes, count_marks, spare_from, stride, marks_good}
use Rattle.keys.specs.Held.{grid_row_fits}

-- no spare bit is set where none is counted
pub spare_is : (k j : ℕ) (ps : List ℕ) → spare_from k j ps ≡ eqb (count_marks k j ps) 0
unfolding spare_from count_marks
spare_is zero j ps = refl
spare_is (suc k) j ps = go (bit (get_or ps (j / 8) 0) (j % 8)) (spare_is k (suc j) ps)
  where
    go : (t : Bool) → spare_from k (suc j) ps ≡ eqb (count_marks k (suc j) ps) 0
        → (not t && spare_from k (suc j) ps) ≡ eqb (cond t 1 0 + count_marks k (suc j) ps) 0
    go true e = sym (ne_eqb (1 + count_marks k (suc j) ps) 0 (λ q. omega arith))
    go false e = rw zero-add e

-- at most all are marked
pub count_most : (k j : ℕ) (ps : List ℕ) → count_marks k j ps ≤ k
unfolding count_marks
count_most zero j ps = omega arith
count_most (suc k) j ps = go (bit (get_or ps (j / 8) 0) (j % 8)) (count_most k (suc j) ps)
  where
    go : (t : Bool) → count_marks k (suc j) ps ≤ k → cond t 1 0 + count_marks k (suc j) ps ≤ suc k
    go true h = omega arith
    go false h = omega arith

pub count_short : {r : ℕ} (ps : List ℕ) (column : ℕ) → r ≡ count_marks (column - 0) 0 ps → r ≤ column
count_short ps column e = omega (arith, count_most (column - 0) 0 ps)

-- a grid row by its two counts
pub row_unfit : (b : Board) (ps : List ℕ) (columns_now marks : ℕ) → columns_now ≡ columns b → marks ≡ count_marks (columns_now - 0) 0 ps
    → (marks ≡ columns_now / 2 → ⊥) → false ≡ grid_row_fits b ps
unfolding grid_row_fits
row_unfit b ps j marks e f h =
    let whole : columns b - 0 ≡ columns b = omega arith in
    let count : count_marks (columns b) 0 ps ≡ marks = cc in
    rw (count, ← e, ne_eqb marks (j / 2) h)

pub row_fit : (b : Board) (ps : List ℕ) (columns_now marks bytes spare : ℕ) → columns_now ≡ columns b → bytes ≡ mark_bytes b
    → marks ≡ count_marks (columns_now - 0) 0 ps → marks ≡ columns_now / 2 → spare ≡ count_marks (8 * bytes - columns_now) columns_now ps
    → eqb spare 0 ≡ grid_row_fits b ps
unfolding grid_row_fits
row_fit b ps j marks bytes spare e m f h g =
    let whole : columns b - 0 ≡ columns b = omega arith in
    let count : count_marks (columns b) 0 ps ≡ marks = cc in
    rw (count, ← e, ← m, eq-eqb marks (j / 2) h, spare_is, g)

-- GRID ROW BY GRID ROW: what is left to see decides the same, until a row does not fit
module _ (b : Board) (ps : List ℕ) (left : ℕ) (all : Bool) (same : marks_good left b ps ≡ all) where
  first_row : 0 < left → all ≡ (grid_row_fits b ps && marks_good (left - 1) b (drop (stride b) ps))
  unfolding marks_good grid_row_fits
  first_row h = let one : left ≡ suc (left - 1) = omega arith in sym same ∙ ap (λ (k : ℕ). marks_good k b ps) one

  pub rows_broken : (fits : Bool) → 0 < left → fits ≡ grid_row_fits b ps → not fits ≡ true → false ≡ all
  rows_broken fits h e f = let no : fits ≡ false = not-true fits f in sym (first_row h ∙ rw (← e, no))

  pub rows_next : (fits : Bool) (step : ℕ) (next : List ℕ) → 0 < left → fits ≡ grid_row_fits b ps → not fits ≡ false → step ≡ stride b → next ≡ drop step ps
      → marks_good (left - 1) b next ≡ all
  rows_next fits step next h e f g d = let yes : fits ≡ true = not-false fits f in sym (first_row h ∙ rw (← e, yes, ← g, ← d))

  pub rows_done : left ≤ 0 → true ≡ all
  unfolding marks_good
  rows_done h = let none : left ≡ 0 = omega arith in sym (ap (λ (k : ℕ). marks_good k b ps) none) ∙ same
