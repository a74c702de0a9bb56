-- `program_join::kept` meets its contract, which is the theorem. Assumes nothing.
use Rattle.program_join.proofs.Joinings.{joining_whole}
use Rattle.program_join.proofs.kept.Goals as goal

pub returns : goal.returns
returns c = joining_whole
