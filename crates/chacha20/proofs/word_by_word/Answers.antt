-- `chacha20::word_by_word` meets its contract. The words are the state's. Assumes nothing.
use Rattle.std.proofs.Common.{arith}
use Rattle.chacha20.proofs.Together.{listed, word_by_word}
use Rattle.chacha20.proofs.word_by_word.Goals as goal

pub returns : goal.returns
unfolding listed
returns c = word_by_word c.args.state (omega arith)
