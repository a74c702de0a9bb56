-- `chacha20::quarter_round` meets its contract. Four half steps, one after another. Assumes nothing.
use Rattle.chacha20.specs.Expand.{at}
use Rattle.chacha20.proofs.Rounds.{four_half_steps}
use Rattle.chacha20.specs.Rfc8439.{quarter_at}
use Rattle.chacha20.proofs.quarter_round.Goals as goal

pub returns : goal.returns
unfolding at quarter_at
returns c =
    four_half_steps _ _ _ _ _ _ _ _ _ c.half_step-first.ensures c.half_step-second.ensures c.half_step-third.ensures c.half_step.ensures
