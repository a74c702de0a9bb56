-- `chacha20_words::put_word` meets its contract. The word's four bytes are written into four places. Assumes nothing.
use Rattle.std.proofs.Common.{ap, ◌∙◌, length, rules}
use Rattle.chacha20_words.proofs.Bytes.{bytes_of_word, four_written}
use Rattle.chacha20_words.proofs.put_word.Goals as goal

pub returns : goal.returns
returns c =
    four_written c.args.out.now c.to_le_bytes.result c.requires (ap length c.to_le_bytes.ensures)
    ∙ c.to_le_bytes.ensures ∙ bytes_of_word c.args.word (search rules)
