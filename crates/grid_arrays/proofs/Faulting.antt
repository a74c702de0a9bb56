-- The search for the first fault, one turn at a time: what is wrong with one column, column by column in a grid row's array, and grid row by
-- grid row.
-- Assumes nothing.
use mathlib.Core.Path.{◌≡◌, sym, ◌∙◌}
use mathlib.Core.Bool.{Bool, true, false}
use mathlib.Core.List.{List}
use Prim.Native.Nat.{ℕ, suc, ◌+◌, ◌*◌, ◌-◌, ◌/◌, ◌%◌, ◌^◌, ◌≤◌, ◌<◌}
use native.Mathlib.Nat.{add-zero, zero-mul, sub-zero}
use native.Mathlib.Numerals.{add-one}
use native.Mathlib.Omega.{arith}
use lib.Arith.{digits_lt, digits_div, digits_mod}
use lib.Bits.{bit_or}
use lib.Dec.{eqb}
use lib.ListN.{length, get_or, drop, length-drop}
use lib.Seq.{take-suc, get_or-drop}
use borrow.Author.Tests.{le-leb, lt-leb}
use Rattle.grid.specs.Grid.{Board, board_refusal, columns, grid_rows, arrays_long, column, member}
use Rattle.grid.specs.Faults.{wrong_parity, column_fault, columns_before, no_fault, fault_at, fault_from, arrays_fault}
use Rattle.grid.specs.Faults.{Fault}
use Rattle.grid.proofs.Counting.{one_left}
use Rattle.grid.proofs.Facts.{board_in, column_most}
use Rattle.grid.proofs.Powers.{shifted_one}
use Rattle.grid.proofs.Faults.{column_in, fault_next, fault_here, no_more, at_place, in_first_part, in_second_part}
use Rattle.grid_arrays.specs.Seen.{ColumnsSeen, SeenTells}
use Rattle.grid_arrays.proofs.Seen.{one_more_seen}

-- WHAT IS WRONG WITH ONE COLUMN behind some others, test by test, where `w` is whether its parity is wrong

module _ (b : Board) (o : Bool) (before : List ℕ) (c : ℕ) where
  pub bit_first : 2 ^ b.p ≤ c → 18 ≡ column_fault b o before c
  unfolding column_fault
  bit_first beyond = rw (le-leb (2 ^ b.p) c beyond)

  module _ (w : Bool) (low : c < 2 ^ b.p) (parity : w ≡ wrong_parity o c) where
    pub then_parity : w ≡ true → 19 ≡ column_fault b o before c
    unfolding column_fault
    then_parity wrong = rw (lt-leb (2 ^ b.p) c low, ← parity, wrong)

    pub then_twice : w ≡ false → member c before ≡ true → 20 ≡ column_fault b o before c
    unfolding column_fault
    then_twice right stood = rw (lt-leb (2 ^ b.p) c low, ← parity, right, stood)

    pub or_none : w ≡ false → member c before ≡ false → 0 ≡ column_fault b o before c
    unfolding column_fault
    or_none right new = rw (lt-leb (2 ^ b.p) c low, ← parity, right, new)

-- a column of an accepted board's players is below 64
pub shift_fits : (b : Board) (c : ℕ) → board_refusal b ≡ 0 → c < 1 * 2 ^ b.p % 2 ^ 32 → c < 64
shift_fits b c accepted low =
    let most = column_most b (board_in b accepted) in
    let few = (board_in b accepted).players_most in
    omega (arith, shifted_one 32 b.p (omega arith))

-- COLUMN BY COLUMN: a turn at place j of grid row g, whose array has `wide` columns. By the columns seen before, `n` was told of the one there.

pub record Turn (b : Board) (a : ℕ) (cs : List ℕ) (g j wide seen n : ℕ) : Type 0 where
  pub is_wide : wide ≡ columns b
  pub long : length cs ≡ arrays_long b
  pub below : g < grid_rows b
  pub inside : j < wide
  pub so_far : ColumnsSeen (columns_before b cs g j) seen
  pub told : SeenTells b (eqb g (a / b.wide)) seen (get_or cs (g * wide + j) 0) n

module _ {b : Board} {a : ℕ} {cs : List ℕ} {g j wide seen n : ℕ} (t : Turn b a cs g j wide seen n) where
  abbrev c : ℕ
  c = get_or cs (g * wide + j) 0

  in_array : j < columns b
  in_array = omega (arith, t.inside, t.is_wide)

  this : c ≡ column b cs g j
  unfolding column
  this = rw t.is_wide

  number_at : n ≡ fault_at b a cs g j
  unfolding fault_at
  number_at = t.told (columns_before b cs g j) t.so_far ∙ rw this

  pub column_found : (h i : ℕ) → h ≡ g → i ≡ j → (n ≡ 0 → ⊥)
      → record { number = n; grid_row = h; column = i } ≡ fault_from (wide - j) (g * columns b + j) b a cs
  column_found h i is_h is_i some =
      let found = fault_here b a cs (wide - (j + 1)) (g * columns b + j) (λ z. some (number_at ∙ sym (at_place b a cs g j in_array) ∙ z)) in
      rw (one_left wide j t.inside, is_h, is_i) (sym (found ∙ rw (digits_div g in_array, digits_mod g in_array, number_at)))

  pub column_next : n ≡ 0 → fault_from (wide - (j + 1)) (g * columns b + (j + 1)) b a cs ≡ fault_from (wide - j) (g * columns b + j) b a cs
  column_next none =
      let next : g * columns b + (j + 1) ≡ suc (g * columns b + j) = omega arith in
      rw (one_left wide j t.inside, next)
      (sym (fault_next b a cs (wide - (j + 1)) (g * columns b + j) (at_place b a cs g j in_array ∙ sym number_at ∙ none)))

  pub column_seen : (power : ℕ) → power ≡ 2 ^ c → ColumnsSeen (columns_before b cs g (j + 1)) (bit_or seen power)
  unfolding column
  column_seen power is_power =
      let array = drop (g * columns b) cs in
      let there : j < length array = rw length-drop (omega (arith, t.long, digits_lt t.below in_array)) in
      rw (add-one, take-suc array j 0 there, get_or-drop, ← this)
      (one_more_seen (columns_before b cs g j) seen c power is_power t.so_far)

  -- a column that nothing is wrong with has marks of p players only
  pub column_low : n ≡ 0 → c < 2 ^ b.p
  column_low none = (column_in b _ (columns_before b cs g j) c (sym (t.told (columns_before b cs g j) t.so_far) ∙ none)).0

-- where an array begins, and behind its last column
pub array_begin : (b : Board) (a : ℕ) (cs : List ℕ) (g wide : ℕ) → wide ≡ columns b
    → fault_from (wide - 0) (g * columns b + 0) b a cs ≡ fault_from (columns b) (g * columns b) b a cs
array_begin b a cs g wide is_wide = rw (sub-zero, is_wide, add-zero)

pub array_done : (b : Board) (a : ℕ) (cs : List ℕ) (g j wide : ℕ) → wide ≤ j → no_fault ≡ fault_from (wide - j) (g * columns b + j) b a cs
array_done b a cs g j wide past = sym (no_more b a cs (wide - j) (g * columns b + j) (omega arith))

-- GRID ROW BY GRID ROW: `f` was answered of the array of grid row g

module _ (b : Board) (a : ℕ) (cs : List ℕ) (g rows : ℕ) (f : Fault) (below : g < rows)
    (answered : f ≡ fault_from (columns b) (g * columns b) b a cs) where
  left : (rows - g) * columns b ≡ columns b + (rows - (g + 1)) * columns b
  left = rw (one_left rows g below) (omega arith)

  pub array_found : (f.number ≡ 0 → ⊥) → f ≡ fault_from ((rows - g) * columns b) (g * columns b) b a cs
  array_found some =
      rw (left, answered) (sym (in_first_part b a cs (columns b) ((rows - (g + 1)) * columns b) (g * columns b) (λ z. some (rw answered z))))

  pub array_next : f.number ≡ 0
      → fault_from ((rows - (g + 1)) * columns b) ((g + 1) * columns b) b a cs ≡ fault_from ((rows - g) * columns b) (g * columns b) b a cs
  array_next none =
      let next : (g + 1) * columns b ≡ g * columns b + columns b = omega arith in
      rw (left, next) (sym (in_second_part b a cs (columns b) ((rows - (g + 1)) * columns b) (g * columns b) (rw (← answered) none)))

pub arrays_begin : (b : Board) (a : ℕ) (cs : List ℕ) (rows : ℕ) → rows ≡ grid_rows b
    → fault_from ((rows - 0) * columns b) (0 * columns b) b a cs ≡ arrays_fault b a cs
unfolding arrays_fault
arrays_begin b a cs rows is_rows = simp (sub-zero, zero-mul, is_rows)

pub arrays_done : (b : Board) (a : ℕ) (cs : List ℕ) (g rows : ℕ) → rows ≤ g → no_fault ≡ fault_from ((rows - g) * columns b) (g * columns b) b a cs
arrays_done b a cs g rows past =
    let none : rows - g ≡ 0 = omega arith in
    sym (no_more b a cs ((rows - g) * columns b) (g * columns b) (rw (none, zero-mul)))
