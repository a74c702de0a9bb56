-- `page::put_page` meets its contract. The loop's invariant: the lines before this one are written. Assumes nothing.
use Rattle.writer.specs.Written.{Wrote}
use Rattle.writer.specs.InARow.{in_a_row}
use Rattle.page.specs.Page.{page_line}
use Rattle.page.proofs.put_page.Given as goal

abbrev pub invariant-loop-line : goal.invariant-loop-line
invariant-loop-line l = Wrote 0 (in_a_row l.line 0 (λ j. page_line l.positions l.value_bytes l.table j)) l.next l.initial.out l.out
