-- `chacha20::half_step` meets its contract. Both words are stored as the definition has them. Assumes nothing.
use Rattle.chacha20.specs.Expand.{add, at, mixed}
use Rattle.chacha20.proofs.half_step.Goals as goal

pub returns : goal.returns
unfolding add at mixed
returns c = cc
