-- `text::put_position_lines` meets its contract. The loop's invariant: the lines of the positions before this one are written. Assumes nothing.
use Rattle.writer.specs.Written.{Wrote}
use Rattle.text.specs.Text.{position_lines}
use Rattle.text.proofs.put_position_lines.Given as goal

abbrev pub invariant-loop-position : goal.invariant-loop-position
invariant-loop-position l = Wrote l.at (position_lines l.position 0 l.value_bytes l.table) l.next l.initial.out l.out
