-- `chacha20::even_lines` meets its contract. Four half steps, one after another. Assumes nothing.
use Rattle.chacha20.specs.Expand.{at}
use Rattle.chacha20.proofs.Together.{even_steps}
use Rattle.chacha20.proofs.even_lines.Goals as goal

pub returns : goal.returns
unfolding at
returns c =
    let a = c.args in
    even_steps a.p a.q a.r a.s a.roll a.state _ _ _ _ c.half_step-first.ensures c.half_step-second.ensures c.half_step-third.ensures c.half_step.ensures
