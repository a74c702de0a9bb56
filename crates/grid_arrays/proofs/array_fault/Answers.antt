use mathlib.Core.Path.{refl, ◌∙◌}
use Prim.Native.Nat.{ℕ, ◌+◌, ◌*◌, ◌/◌}
use native.Mathlib.Omega.{arith}
use lib.Dec.{eqb}
use lib.ListN.{get_or}
use Rattle.refusal.specs.Refusing.{refusal_number}
use Rattle.refusal.proofs.Numbers.{number_some}
use Rattle.grid.specs.Grid.{board}
use Rattle.grid.specs.Code.{board_of}
use Rattle.grid.proofs.Facts.{board_in, column_most, columns_most}
use Rattle.grid.proofs.Powers.{shifted_one}
use Rattle.grid_arrays.specs.Seen.{SeenTells}
use Rattle.grid_arrays.proofs.Seen.{none_seen}
use Rattle.grid_arrays.proofs.Faulting.{Turn, column_found, column_next, column_seen, column_low, array_begin, array_done}
use Rattle.grid_arrays.proofs.array_fault.Goals as goal
use Rattle.grid_arrays.proofs.array_fault.Goals.{In-loop-place}

-- a turn, where `column_fault` has answered
turn : (c : In-loop-place) (n : ℕ) → let wide = c.columns-columns.result in
    SeenTells (board_of c.args.board) (eqb c.args.grid_row (c.args.point / c.args.board.width)) c.loop-place.seen
    (get_or c.args.arrays.now (c.args.grid_row * wide + c.loop-place.place) 0) n →
    Turn (board_of c.args.board) c.args.point c.args.arrays.now c.args.grid_row c.loop-place.place wide c.loop-place.seen n
unfolding board
turn c n told =
    record {
      is_wide = c.columns-columns.ensures;
      long = c.requires.0;
      below = c.requires.1;
      inside = c.loop-place-test.true;
      so_far = c.loop-place.invariant.0;
      told = told;
    }

pub returns-in-Err : goal.returns-in-Err
returns-in-Err c =
    let t = turn (goal.at.returns-in-Err c).In-loop-place (refusal_number c.in-Err.refusal) c.in-Err.ensures in
    column_found t _ _ (omega arith) (omega arith) (number_some c.in-Err.refusal) ∙ c.loop-place.invariant.1

pub loop-place-init : goal.loop-place-init
loop-place-init c = (none_seen, array_begin _ _ _ _ _ c.columns-columns.ensures)

pub overflow_shl-seen : goal.overflow_shl-seen
unfolding board
overflow_shl-seen c =
    let t = turn (goal.at.overflow_shl-seen c).In-loop-place 0 c.in_default.ensures in
    omega (arith, column_low t refl, column_most _ (board_in _ c.args.board.accepted))

pub loop-place-preserved : goal.loop-place-preserved
loop-place-preserved c =
    let t = turn (goal.at.loop-place-preserved c).In-loop-place 0 c.in_default.ensures in
    (column_seen t _ (shifted_one 64 _ (overflow_shl-seen c)), column_next t refl ∙ c.loop-place.invariant.1)

pub returns : goal.returns
returns c = array_done _ _ _ _ _ _ c.loop-place-test.false ∙ c.loop-place.invariant.1

pub nonzero_div-point_grid_row : goal.nonzero_div-point_grid_row
unfolding board
nonzero_div-point_grid_row c = (board_in _ c.args.board.accepted).wide_least

pub overflow_cast-result : goal.overflow_cast-result
overflow_cast-result c = omega (arith, (board_in _ c.args.board.accepted).rows_most)

pub overflow_cast-result-in-Err : goal.overflow_cast-result-in-Err
overflow_cast-result-in-Err c = omega (arith, columns_most _ (board_in _ c.args.board.accepted))
