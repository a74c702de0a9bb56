-- `seed_rows::xor_four_blocks` meets its contract. The loop's invariant: the rows of the seeds before this one are XORed in. Assumes nothing.
use mathlib.Core.Path.{◌≡◌}
use lib.ListN.{length}
use Rattle.xor.specs.Xor.{xors}
use Rattle.seed_rows.specs.Rows.{rows_joined}
use Rattle.seed_rows.proofs.xor_four_blocks.Given as goal

abbrev pub invariant-loop-block : goal.invariant-loop-block
invariant-loop-block l = l.out ≡ xors l.initial.out (rows_joined l.block-index l.at (length l.initial.out) l.seeds)
