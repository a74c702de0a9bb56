-- `chacha20_words::load` meets its contract. Four bytes from a place on. Assumes nothing.
use Rattle.std.proofs.Common.{◌∙◌}
use Rattle.chacha20_words.proofs.Bytes.{word_of_four}
use Rattle.chacha20_words.proofs.load.Goals as goal

pub returns : goal.returns
returns c = c.from_le_bytes.ensures ∙ word_of_four c.args.bytes.now c.args.place
