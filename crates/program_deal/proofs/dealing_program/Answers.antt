-- `program_deal::dealing_program` meets its contract: the output has the most bytes by its type. Assumes nothing.
-- The check finds this alone; it stands here so that the edit output_of_65535 is refused with numbers and not where a search gives up.
use native.Mathlib.Omega.{arith}
use Rattle.program_deal.proofs.dealing_program.Goals as goal

pub put_dealt-requires : goal.put_dealt-requires
put_dealt-requires c = omega arith
