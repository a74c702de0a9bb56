-- `promises::kept` meets its contract: every promise is kept. Assumes nothing.
use Rattle.promises.proofs.Promise.{promises}
use Rattle.promises.proofs.kept.Goals as goal

pub returns : goal.returns
returns c = promises
