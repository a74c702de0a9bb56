-- `deal_grid_rows::put_held` meets its contract. The loop's invariant: the seeds held of the columns before this one are written. Assumes nothing.
use Rattle.std.proofs.Common.{take}
use Rattle.keys.specs.Keys.{held_seeds}
use Rattle.writer.specs.Written.{Wrote}
use Rattle.deal_grid_rows.proofs.put_held.Given as goal

abbrev pub invariant-loop-column : goal.invariant-loop-column
invariant-loop-column l = Wrote l.at (held_seeds l.player.bit (take l.column l.array) l.seeds) l.next l.initial.out l.out
