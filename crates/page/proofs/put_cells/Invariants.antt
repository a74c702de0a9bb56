-- `page::put_cells` meets its contract. The loop's invariant: the cells before this one are written. Assumes nothing.
use Rattle.writer.specs.Written.{Wrote}
use Rattle.page.specs.Page.{value_cells}
use Rattle.page.proofs.put_cells.Given as goal

abbrev pub invariant-loop-cell : goal.invariant-loop-cell
invariant-loop-cell l = Wrote l.at (value_cells l.cell l.first l.value_bytes l.table) l.next l.initial.out l.out
