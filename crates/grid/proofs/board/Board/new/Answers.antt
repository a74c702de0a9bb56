-- `Board::new` meets its contract: each answer is that of the chain of tests that led to it.
-- Assumes nothing.
use borrow.Author.Tests.{lt-ltb, le-ltb}
use mathlib.Core.Path.{sym, ◌∙◌, ap}
use Prim.Native.Nat.{ℕ}
use native.Mathlib.Omega.{arith}
use lib.Dec.{ltb}
use Rattle.grid.specs.Grid.{board, grid_rows}
use Rattle.grid.proofs.Refusing.{In, in_range, passed, failed, refused_1, refused_2, refused_3, refused_4, refused_5, refused_0}
use Rattle.grid.proofs.board.Board.new.Goals as goal
use Rattle.grid.proofs.board.Board.new.Goals.{Else-not-players_fit, Else-not-positions_fit, Else-not-value_bytes_fit, Else-not-width_fits}

pub returns-then-not-players_fit-clause-refusal : goal.returns-then-not-players_fit-clause-refusal
unfolding board
returns-then-not-players_fit-clause-refusal c = refused_1 _ (failed c.players_fit.ensures c.if-not-players_fit.true)

players_in : (c : Else-not-players_fit) → In 2 c.args.players 6
players_in c = passed c.players_fit.ensures c.if-not-players_fit.false

pub returns-then-not-positions_fit-clause-refusal : goal.returns-then-not-positions_fit-clause-refusal
unfolding board
returns-then-not-positions_fit-clause-refusal c = refused_2 _ (players_in (goal.at.returns-then-not-positions_fit-clause-refusal c).Else-not-players_fit) (failed c.positions_fit.ensures c.if-not-positions_fit.true)

positions_in : (c : Else-not-positions_fit) → In 1 c.args.positions 65536
positions_in c = passed c.positions_fit.ensures c.if-not-positions_fit.false

pub returns-then-not-width_fits-clause-refusal : goal.returns-then-not-width_fits-clause-refusal
unfolding board
returns-then-not-width_fits-clause-refusal c =
    refused_3 _ (players_in (goal.at.returns-then-not-width_fits-clause-refusal c).Else-not-players_fit) (positions_in (goal.at.returns-then-not-width_fits-clause-refusal c).Else-not-positions_fit)
    (failed c.width_fits.ensures c.if-not-width_fits.true)

width_in : (c : Else-not-width_fits) → In 1 c.args.width 256
width_in c = passed c.width_fits.ensures c.if-not-width_fits.false

pub returns-then-not-value_bytes_fit-clause-refusal : goal.returns-then-not-value_bytes_fit-clause-refusal
unfolding board
returns-then-not-value_bytes_fit-clause-refusal c =
    refused_4 _ (players_in (goal.at.returns-then-not-value_bytes_fit-clause-refusal c).Else-not-players_fit) (positions_in (goal.at.returns-then-not-value_bytes_fit-clause-refusal c).Else-not-positions_fit) (width_in (goal.at.returns-then-not-value_bytes_fit-clause-refusal c).Else-not-width_fits)
    (failed c.value_bytes_fit.ensures c.if-not-value_bytes_fit.true)

bytes_in : (c : Else-not-value_bytes_fit) → In 1 c.args.value_bytes 16
bytes_in c = passed c.value_bytes_fit.ensures c.if-not-value_bytes_fit.false

pub returns-then-grid_rows_for-gt-MOST_GRID_ROWS-clause-refusal : goal.returns-then-grid_rows_for-gt-MOST_GRID_ROWS-clause-refusal
unfolding board grid_rows
returns-then-grid_rows_for-gt-MOST_GRID_ROWS-clause-refusal c =
    refused_5 _ (players_in (goal.at.returns-then-grid_rows_for-gt-MOST_GRID_ROWS-clause-refusal c).Else-not-players_fit) (positions_in (goal.at.returns-then-grid_rows_for-gt-MOST_GRID_ROWS-clause-refusal c).Else-not-positions_fit) (width_in (goal.at.returns-then-grid_rows_for-gt-MOST_GRID_ROWS-clause-refusal c).Else-not-width_fits) (bytes_in (goal.at.returns-then-grid_rows_for-gt-MOST_GRID_ROWS-clause-refusal c).Else-not-value_bytes_fit)
    (sym (ap (λ (rows : ℕ). ltb 256 rows) c.grid_rows_for.ensures) ∙ lt-ltb 256 c.grid_rows_for.result (omega (arith, c.if-grid_rows_for-gt-MOST_GRID_ROWS.true)))

pub invariant_of-result : goal.invariant_of-result
unfolding board grid_rows
invariant_of-result c = record {
  accepted = sym (
      refused_0 _ (players_in (goal.at.invariant_of-result c).Else-not-players_fit) (positions_in (goal.at.invariant_of-result c).Else-not-positions_fit) (width_in (goal.at.invariant_of-result c).Else-not-width_fits) (bytes_in (goal.at.invariant_of-result c).Else-not-value_bytes_fit)
      (sym (ap (λ (rows : ℕ). ltb 256 rows) c.grid_rows_for.ensures) ∙ le-ltb 256 c.grid_rows_for.result (omega (arith, c.if-grid_rows_for-gt-MOST_GRID_ROWS.false))));
}

pub grid_rows_for-requires : goal.grid_rows_for-requires
grid_rows_for-requires c =
    let width = in_range _ _ _ (width_in (goal.at.grid_rows_for-requires c).Else-not-width_fits) in
    let positions = in_range _ _ _ (positions_in (goal.at.grid_rows_for-requires c).Else-not-positions_fit) in
    (positions.1, width.0, width.1)
