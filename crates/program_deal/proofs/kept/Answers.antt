-- `program_deal::kept` meets its contract, which is the theorem. Assumes nothing.
use Rattle.program_deal.proofs.Dealings.{dealing_whole}
use Rattle.program_deal.proofs.kept.Goals as goal

pub returns : goal.returns
returns c = dealing_whole
