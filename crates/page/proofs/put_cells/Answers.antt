-- One cell more, and that there is room for it. Assumes nothing.
use mathlib.Core.Path.{sym}
use Prim.Native.Nat.{◌+◌}
use native.Mathlib.Nat.{add-mul}
use native.Mathlib.Omega.{arith}
use Rattle.writer.specs.InARow.{in_a_row}
use Rattle.writer.proofs.Laws.{wrote_nothing}
use Rattle.writer.proofs.Cuts.{part_cut}
use Rattle.page.specs.Page.{entry_at}
use Rattle.page.proofs.Laws.{cells_turn, cell_room}
use Rattle.page.proofs.put_cells.Goals as goal

pub loop-cell-preserved : goal.loop-cell-preserved
unfolding entry_at
loop-cell-preserved c =
    let a = c.args in
    let l = c.loop-cell in
    cells_turn a.at a.first l.cell a.count a.value_bytes _ a.table.now (omega arith) c.requires.stand c.requires.room l.invariant c.put_cell-next.ensures
    (part_cut (a.first + l.cell) a.value_bytes _ a.table.now (sym (add-mul a.first l.cell a.value_bytes)))

pub loop-cell-init : goal.loop-cell-init
unfolding in_a_row
loop-cell-init c = wrote_nothing _ _

pub put_cell-next-requires : goal.put_cell-next-requires
put_cell-next-requires c =
    let a = c.args in
    let l = c.loop-cell in
    cell_room a.at a.first l.cell a.count a.value_bytes _ l.next _ a.table.now (omega arith) c.requires.stand (omega (arith, c.requires.room))
    (sym (add-mul a.first l.cell a.value_bytes)) l.invariant.next_is
