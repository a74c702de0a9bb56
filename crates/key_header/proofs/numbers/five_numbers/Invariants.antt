-- `key_header::numbers::five_numbers` meets its contract. The loop's invariant: so many numbers are read, and the others are 0. Assumes nothing.
use Rattle.key_header.proofs.Reading.{Read}
use Rattle.key_header.proofs.numbers.five_numbers.Given as goal

abbrev pub invariant-loop-value : goal.invariant-loop-value
invariant-loop-value l = Read l.bytes l.value-items l.value-index l.reader.at
