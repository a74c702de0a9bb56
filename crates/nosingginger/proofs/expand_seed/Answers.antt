-- `nosingginger::expand_seed` meets its contract: what is asked lies within a row. Assumes nothing.
-- The check finds this alone; it stands here so that the edit expand_length_alone is refused with numbers and not where a search gives up.
use native.Mathlib.Omega.{arith}
use Rattle.nosingginger.proofs.expand_seed.Goals as goal

pub expand-requires : goal.expand-requires
expand-requires c = (omega arith, omega arith)
