-- `key_header::Header::numbers` meets its contract. Assumes nothing.
use mathlib.Core.Path.{refl}
use Rattle.key_header.specs.Answers.{header_numbers}
use Rattle.key_header.proofs.header.Header.numbers.Goals as goal

pub returns : goal.returns
unfolding header_numbers
returns c = refl
