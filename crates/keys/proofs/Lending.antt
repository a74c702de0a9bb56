-- What Deal's refusals leave: an accepted board, a point on it, inputs of their lengths, and arrays of their parities. Assumes nothing.
use mathlib.Core.Path.{◌≡◌}
use mathlib.Core.Bool.{Bool, true, false, ◌&&◌, not, cond}
use Prim.Native.Nat.{ℕ, ◌*◌, ◌-◌, ◌≤◌, ◌<◌}
use native.Mathlib.Omega.{arith}
use lib.Dec.{ltb, leb, eqb}
use lib.ListN.{length}
use borrow.Author.Tests.{eqb-true, leb-true, leb-false, le-leb, lt-leb, not-false}
use Rattle.xor.proofs.Laws.{and_left, and_right}
use Rattle.grid.specs.Grid.{Board, columns, grid_rows, row_long, players_fit, positions_fit, width_fits, value_fits, board_refusal, arrays_good}
use Rattle.grid.specs.Faults.{has_place, PlaceIsFirst}
use Rattle.grid.proofs.Faults.{no_fault_good, place_is_first}
use Rattle.keys.specs.Keys.{Lent, lent_fits, sizes_refusal, lent_fault, deal_refusal}
use Rattle.keys.proofs.Accepted.{passed, refusing, neither}

-- HOW LARGE THE NUMBERS ARE

chosen_most : (t : Bool) (n rest most : ℕ) → n ≤ most → rest ≤ most → cond t n rest ≤ most
chosen_most true n rest most h k = h
chosen_most false n rest most h k = k

pub board_most : (b : Board) → board_refusal b ≤ 5
unfolding board_refusal
board_most b =
    chosen_most (not (players_fit b.p)) 1 _ 5 (omega arith)
    (chosen_most (not (positions_fit b.n)) 2 _ 5 (omega arith)
    (chosen_most (not (width_fits b.wide)) 3 _ 5 (omega arith)
    (chosen_most (not (value_fits b.w)) 4 _ 5 (omega arith)
    (chosen_most (ltb 256 (grid_rows b)) 5 0 5 (omega arith) (omega arith)))))

pub sizes_most : (b : Board) (l : Lent) → sizes_refusal b l ≤ 7
unfolding sizes_refusal
sizes_most b l =
    chosen_most (not (eqb (board_refusal b) 0)) (board_refusal b) _ 7 (omega (arith, board_most b))
    (chosen_most (leb b.n l.point) 6 _ 7 (omega arith)
    (chosen_most (not (lent_fits b (length l.value) (length l.arrays) (length l.seeds) (length l.words))) 7 0 7 (omega arith) (omega arith)))

-- a fault's number is one of the three, which have a place, and no number below them has
pub fault_placed : (b : Board) (l : Lent) → ((lent_fault b l).number ≡ 0 → ⊥) → has_place (lent_fault b l).number ≡ true
unfolding PlaceIsFirst
fault_placed b l some =
    let three = (place_is_first b l.point l.arrays some).one_of_three in
    rw (le-leb 18 (lent_fault b l).number three.0, le-leb (lent_fault b l).number 20 three.1)

pub small_unplaced : (n : ℕ) → n < 18 → has_place n ≡ false
small_unplaced n h = rw (lt-leb 18 n h)

pub placed_large : (n : ℕ) → has_place n ≡ true → 18 ≤ n
placed_large n h = leb-true 18 n (and_left (leb 18 n) (leb n 20) h)

-- WHAT IS LEFT: what 1 to 7 leave
pub record SizesFit (b : Board) (l : Lent) : Type 0 where
  pub accepted : board_refusal b ≡ 0
  pub point : l.point < b.n
  pub value : length l.value ≡ b.w
  pub arrays : length l.arrays ≡ grid_rows b * columns b
  pub seeds : length l.seeds ≡ 32 * (grid_rows b * columns b)
  pub words : length l.words ≡ (columns b - 1) * row_long b

pub sizes_fit : (b : Board) (l : Lent) → sizes_refusal b l ≡ 0 → SizesFit b l
unfolding sizes_refusal
sizes_fit b l r =
    let cells = grid_rows b * columns b in
    let v = eqb (length l.value) b.w in
    let c = eqb (length l.arrays) cells in
    let s = eqb (length l.seeds) (32 * cells) in
    let w = eqb (length l.words) ((columns b - 1) * row_long b) in
    let board_passed = passed (not (eqb (board_refusal b) 0)) (board_refusal b) _ (refusing (board_refusal b)) r in
    let point_passed = passed (leb b.n l.point) 6 _ (λ t n. omega arith) board_passed.1 in
    let long_passed = passed (not ((v && c) && (s && w))) 7 _ (λ t n. omega arith) point_passed.1 in
    let long = not-false ((v && c) && (s && w)) long_passed.0 in
    let first = and_left (v && c) (s && w) long in
    let second = and_right (v && c) (s && w) long in
    record {
      accepted = eqb-true (board_refusal b) 0 (not-false (eqb (board_refusal b) 0) board_passed.0);
      point = leb-false b.n l.point point_passed.0;
      value = eqb-true (length l.value) b.w (and_left v c first);
      arrays = eqb-true (length l.arrays) cells (and_right v c first);
      seeds = eqb-true (length l.seeds) (32 * cells) (and_left s w second);
      words = eqb-true (length l.words) ((columns b - 1) * row_long b) (and_right s w second);
    }

-- and what 18 to 20 leave beside
pub record AcceptedLent (b : Board) (l : Lent) : Type 0 where
  pub sizes : SizesFit b l
  pub parities : arrays_good (grid_rows b) 0 b l.point l.arrays ≡ true

pub accepted_lent : (b : Board) (l : Lent) → deal_refusal b l ≡ 0 → AcceptedLent b l
unfolding deal_refusal
accepted_lent b l r =
    let both = neither (sizes_refusal b l) (lent_fault b l).number r in
    let fit = sizes_fit b l both.0 in
    record { sizes = fit; parities = no_fault_good b l.point l.arrays fit.arrays both.1 }
