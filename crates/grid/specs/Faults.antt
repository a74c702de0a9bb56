-- What is wrong with the arrays of a dealing, and where first: document 02, (i), whose sentences are quoted. That the
-- place found is the first, and that there is one exactly where the arrays are not as they must be, are statements,
-- which proofs/Faults.antt proves. Assumes nothing: these are definitions and statements.
use Rattle.std.specs.Prelude.{◌≡◌, Bool, true, false, ◌&&◌, not, cond, List, ℕ, zero, suc, ◌*◌, ◌/◌, ◌%◌, ◌^◌, ◌≤◌, ◌<◌, leb, eqb, length, take, drop}
use Rattle.grid.specs.Grid.{Board, columns, grid_rows, arrays_long, column}
use Rattle.grid.specs.Grid.{is_odd, same_parity, member, arrays_good}

-- AT ONE COLUMN of an array, by the columns that stand before it

-- "18 when a bit at p or above is set"
abbrev pub bit_beyond : Board → (column : ℕ) → Bool
bit_beyond b c = leb (2 ^ b.p) c

-- "19 when the parity is wrong"
abbrev pub wrong_parity : (odd : Bool) → (column : ℕ) → Bool
wrong_parity o c = not (same_parity (is_odd c) o)

-- "20 when the column stood earlier in its array"
abbrev pub stood_earlier : (before : List ℕ) → (column : ℕ) → Bool
stood_earlier before c = member c before

-- whether a number fits a column
unfoldable pub fits : Board → (odd : Bool) → (before : List ℕ) → (column number : ℕ) → Bool
fits b o before c n =
    cond (eqb n 18) (bit_beyond b c)
    (cond (eqb n 19) (wrong_parity o c) (cond (eqb n 20) (stood_earlier before c) false))

-- "At one column the order is as follows": the number of the first of three tests that holds, or 0
abbrev pub first_of : (beyond wrong stood : Bool) → ℕ
first_of beyond wrong stood = cond beyond 18 (cond wrong 19 (cond stood 20 0))

unfoldable pub column_fault : Board → (odd : Bool) → (before : List ℕ) → (column : ℕ) → ℕ
column_fault b o before c = first_of (bit_beyond b c) (wrong_parity o c) (stood_earlier before c)

-- the numbers that come with a place
abbrev pub has_place : (number : ℕ) → Bool
has_place n = leb 18 n && leb n 20

-- AT ONE PLACE of all arrays: column j of grid row g, where the point's grid row has an odd array and all others have
-- even ones

-- the columns before it in its array
abbrev pub columns_before : Board → (arrays : List ℕ) → (g j : ℕ) → List ℕ
columns_before b cs g j = take j (drop (g * columns b) cs)

unfoldable pub fits_at : Board → (point : ℕ) → (arrays : List ℕ) → (g j number : ℕ) → Bool
fits_at b a cs g j n = fits b (eqb g (a / b.wide)) (columns_before b cs g j) (column b cs g j) n

unfoldable pub fault_at : Board → (point : ℕ) → (arrays : List ℕ) → (g j : ℕ) → ℕ
fault_at b a cs g j = column_fault b (eqb g (a / b.wide)) (columns_before b cs g j) (column b cs g j)

-- a fault's number, and the grid row and the column where it stands
pub record Fault : Type 0 where
  pub number : ℕ
  pub grid_row : ℕ
  pub column : ℕ

-- no fault
abbrev pub no_fault : Fault
no_fault = record { number = 0; grid_row = 0; column = 0 }

-- "THE FIRST FAULT, scanning row by row and column by column": of `left` places from the i-th on, which is column i mod
-- J of grid row i div J
unfoldable pub fault_from : (left i : ℕ) → Board → (point : ℕ) → (arrays : List ℕ) → Fault
fault_from zero i b a cs = no_fault
fault_from (suc k) i b a cs =
    let g = i / columns b in
    let j = i % columns b in
    let n = fault_at b a cs g j in
    cond (eqb n 0) (fault_from k (suc i) b a cs) (record { number = n; grid_row = g; column = j })

-- of all arrays of a dealing
unfoldable pub arrays_fault : Board → (point : ℕ) → (arrays : List ℕ) → Fault
arrays_fault b a cs = fault_from (arrays_long b) 0 b a cs

-- THERE IS A FAULT EXACTLY WHERE THE ARRAYS ARE NOT GOOD: `array_good` looks for a column again behind it, 20 before it
unfoldable pub FaultWhereBad : Type 0
FaultWhereBad =
    (b : Board) (a : ℕ) (cs : List ℕ) → length cs ≡ arrays_long b →
    eqb (arrays_fault b a cs).number 0 ≡ arrays_good (grid_rows b) 0 b a cs

-- THE PLACE IS THE FIRST
pub record FirstFault (b : Board) (a : ℕ) (cs : List ℕ) (f : Fault) : Type 0 where
  -- a place of the arrays
  pub grid_row_in : f.grid_row < grid_rows b
  pub column_in : f.column < columns b
  -- the number is one of the three, it fits there, and no smaller one does
  pub one_of_three : (18 ≤ f.number) × (f.number ≤ 20)
  pub number_fits : fits_at b a cs f.grid_row f.column f.number ≡ true
  pub none_smaller : (n : ℕ) → n < f.number → fits_at b a cs f.grid_row f.column n ≡ false
  -- no number fits at an earlier column of its grid row, nor at any column of an earlier one
  pub none_before : (j n : ℕ) → j < f.column → fits_at b a cs f.grid_row j n ≡ false
  pub none_above : (g j n : ℕ) → g < f.grid_row → j < columns b → fits_at b a cs g j n ≡ false

unfoldable pub PlaceIsFirst : Type 0
PlaceIsFirst =
    (b : Board) (a : ℕ) (cs : List ℕ) → ((arrays_fault b a cs).number ≡ 0 → ⊥) →
    FirstFault b a cs (arrays_fault b a cs)
