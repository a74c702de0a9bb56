-- `key_width::shortest_width` meets its contract. The loop's invariant: `best` is the best of the widths below the present
-- one, and `least` the length of its key.
-- Assumes nothing.
use Rattle.key_width.proofs.Shortest.{SoFar}
use Rattle.key_width.proofs.shortest_width.Given as goal

abbrev pub invariant-loop-width : goal.invariant-loop-width
invariant-loop-width l = SoFar l.players l.positions l.value_bytes l.width l.best l.least
