-- `deal_grid_rows::put_four` meets its contract: a byte of marks, and four columns' seeds behind it. The loop's invariant: the seeds held of the columns
-- before this one are written behind the byte. Assumes nothing.
use Rattle.std.proofs.Common.{take}
use Rattle.keys.specs.Keys.{held_seeds}
use Rattle.writer.specs.Written.{Wrote}
use Rattle.deal_grid_rows.proofs.put_four.Given as goal

abbrev pub invariant-loop-column : goal.invariant-loop-column
invariant-loop-column l = Wrote l.initial.next (held_seeds l.player.bit (take l.column l.array) l.seeds) l.next l.initial.out l.out
