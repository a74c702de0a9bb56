-- `chacha20_words::initial_state` meets its contract. Word by word as the definition has it. Assumes nothing.
use Rattle.chacha20.specs.Expand.{key_words}
use Rattle.chacha20.specs.Rfc8439.{constant, initial_state}
use Rattle.chacha20_words.proofs.initial_state.Goals as goal

pub returns : goal.returns
unfolding key_words constant initial_state
returns c = cc
