-- `seed_rows::xor_each` meets its contract. The loop's invariant: the rows of the seeds before this one are XORed in. Assumes nothing.
use mathlib.Core.Path.{◌≡◌}
use lib.ListN.{length}
use Rattle.xor.specs.Xor.{xors}
use Rattle.seed_rows.specs.Rows.{rows_joined}
use Rattle.seed_rows.proofs.xor_each.Given as goal

abbrev pub invariant-loop-seed : goal.invariant-loop-seed
invariant-loop-seed l = l.out ≡ xors l.initial.out (rows_joined l.seed-index l.start (length l.initial.out) l.fn.seeds)
