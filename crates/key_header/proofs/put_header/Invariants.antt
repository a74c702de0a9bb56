-- `key_header::put_header` meets its contract. The loop's invariant: the numbers so far are written. Assumes nothing.
use lib.ListN.{take}
use Rattle.writer.specs.Written.{Wrote}
use Rattle.keys.specs.Keys.{numbers_written}
use Rattle.key_header.proofs.put_header.Given as goal

abbrev pub invariant-loop-number : goal.invariant-loop-number
invariant-loop-number l = Wrote l.at (numbers_written (take l.number-index l.number-items)) l.next l.initial.out l.out
