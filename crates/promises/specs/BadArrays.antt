-- WHAT IS WRONG WITH ARRAYS, AND WHERE FIRST: document 02, (i), whose sentences are quoted. proofs/BadArrays.antt has
-- the term. Assumes nothing.
use Rattle.std.specs.Prelude.{◌≡◌, List, [], ◌⊎◌, ℕ, true, false, length, get_or}
use Rattle.grid.specs.Grid.{Board, board, grid_rows, arrays_good}
use Rattle.grid.specs.Faults.{has_place, FirstFault}
unfoldable pub use Rattle.grid.specs.Faults.{FaultWhereBad, PlaceIsFirst}
use Rattle.call_answers.specs.Answers.{Told, DealTells}
unfoldable pub use Rattle.call_answers.specs.Answers.{ToldApart, AnswersToldApart}

-- what an answer of Deal says of the arrays of a board and a point
pub record PlaceTold (b : Board) (point : ℕ) (arrays : List ℕ) (r : Told) : Type 0 where
  -- 8 "is no longer given"
  pub never_8 : r.number ≡ 8 → ⊥
  -- 18, 19 and 20, each "comes with the grid row and column of the first fault"
  pub two_numbers : has_place r.number ≡ true → length r.place ≡ 2
  pub first : has_place r.number ≡ true →
      FirstFault b point arrays
      (record { number = r.number; grid_row = get_or r.place 0 0; column = get_or r.place 1 0 })
  -- and no other number comes with a place
  pub no_place : has_place r.number ≡ false → r.place ≡ []
  -- no fault is missed: where keys are dealt, or only their room is too short, the arrays are good
  pub none_missed : (r.number ≡ 0) ⊎ (r.number ≡ 9) → arrays_good (grid_rows b) 0 b point arrays ≡ true

unfoldable pub DealsFirstFault : Type 0
DealsFirstFault =
    (p n m w point : ℕ) (value arrays seeds words : List ℕ) (r : Told) (out out_now : List ℕ) →
    DealTells p n m w point value arrays seeds words r out out_now → PlaceTold (board p n m w) point arrays r

pub record BadArrays : Type 0 where
  -- there is a fault exactly where the arrays are not good, so that hiding, joining and what is accepted are as they
  -- were
  pub fault_where_bad : FaultWhereBad
  -- its place is the first: the number fits there, no smaller one does, and none fits at any earlier place
  pub place_is_first : PlaceIsFirst
  -- of the call: what Deal answers
  pub deals_first_fault : DealsFirstFault
  -- what it tells fixes its answer, and so the code's
  pub told_apart : ToldApart
  pub answers_told_apart : AnswersToldApart
