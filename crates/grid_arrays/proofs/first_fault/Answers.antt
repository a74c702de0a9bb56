use mathlib.Core.Path.{refl, ◌∙◌}
use Rattle.refusal.proofs.Numbers.{number_some}
use Rattle.grid_arrays.proofs.Faulting.{arrays_begin, array_found, array_next, arrays_done}
use Rattle.grid_arrays.proofs.first_fault.Goals as goal

pub returns-in-Some : goal.returns-in-Some
returns-in-Some c =
    array_found _ c.args.point c.args.arrays.now c.loop-grid_row.grid_row _ _ c.loop-grid_row-test.true
    c.in-Some.ensures (number_some c.in-Some.fault.refusal)
    ∙ c.loop-grid_row.invariant

pub loop-grid_row-init : goal.loop-grid_row-init
loop-grid_row-init c = arrays_begin _ _ _ _ c.grid_rows-grid_row-end.ensures

pub loop-grid_row-preserved : goal.loop-grid_row-preserved
loop-grid_row-preserved c =
    array_next _ c.args.point c.args.arrays.now c.loop-grid_row.grid_row _ _ c.loop-grid_row-test.true
    c.in_default.ensures refl
    ∙ c.loop-grid_row.invariant

pub returns : goal.returns
returns c = arrays_done _ _ _ _ _ c.loop-grid_row-test.false ∙ c.loop-grid_row.invariant
