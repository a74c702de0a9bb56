-- The chain of a board's refusals, 1 to 5: what each failed test answers, those before it passed, and what is left where none fails.
-- Assumes nothing.
use mathlib.Core.Path.{◌≡◌, sym, ◌∙◌}
use mathlib.Core.Bool.{Bool, true, false, ◌&&◌}
use Prim.Native.Nat.{ℕ, ◌≤◌}
use lib.Dec.{leb, ltb}
use borrow.Author.Tests.{leb-true, le-leb}
use Rattle.xor.proofs.Laws.{and_left, and_right, and_both}
use Rattle.grid.specs.Grid.{Board, grid_rows, board_refusal}

-- A number's range, as the definition tests it

abbrev pub In : (low x high : ℕ) → Type 0
In low x high = (leb low x && leb x high) ≡ true

abbrev pub Out : (low x high : ℕ) → Type 0
Out low x high = (leb low x && leb x high) ≡ false

pub in_range : (low x high : ℕ) → In low x high → (low ≤ x) × (x ≤ high)
in_range low x high h =
    (leb-true low x (and_left (leb low x) (leb x high) h), leb-true x high (and_right (leb low x) (leb x high) h))

pub within : (low x high : ℕ) → low ≤ x → x ≤ high → In low x high
within low x high least most = and_both (leb low x) (leb x high) (le-leb low x least) (le-leb x high most)

-- a test that the code makes by a call, and refuses where it fails
pub passed : {r t : Bool} → r ≡ t → r ≡ true → t ≡ true
passed e h = sym e ∙ h

pub failed : {r t : Bool} → r ≡ t → r ≡ false → t ≡ false
failed e h = sym e ∙ h

-- WHAT EACH FAILED TEST ANSWERS

module _ (b : Board) where
  pub refused_1 : Out 2 b.p 6 → 1 ≡ board_refusal b
  unfolding board_refusal
  refused_1 p = simp p

  pub refused_2 : In 2 b.p 6 → Out 1 b.n 65536 → 2 ≡ board_refusal b
  unfolding board_refusal
  refused_2 p n = simp (p, n)

  pub refused_3 : In 2 b.p 6 → In 1 b.n 65536 → Out 1 b.wide 256 → 3 ≡ board_refusal b
  unfolding board_refusal
  refused_3 p n m = simp (p, n, m)

  pub refused_4 : In 2 b.p 6 → In 1 b.n 65536 → In 1 b.wide 256 → Out 1 b.w 16 → 4 ≡ board_refusal b
  unfolding board_refusal
  refused_4 p n m w = simp (p, n, m, w)

  pub refused_5 : In 2 b.p 6 → In 1 b.n 65536 → In 1 b.wide 256 → In 1 b.w 16
      → ltb 256 (grid_rows b) ≡ true → 5 ≡ board_refusal b
  unfolding board_refusal
  refused_5 p n m w rows = simp (p, n, m, w, rows)

  pub refused_0 : In 2 b.p 6 → In 1 b.n 65536 → In 1 b.wide 256 → In 1 b.w 16
      → ltb 256 (grid_rows b) ≡ false → 0 ≡ board_refusal b
  unfolding board_refusal
  refused_0 p n m w rows = simp (p, n, m, w, rows)
