-- THE PRINTED NUMBERS of specs/PrintedNumbers.antt, kept: the term is that of Daggers.antt. Assumes nothing.
use Rattle.promises.specs.PrintedNumbers.{PrintedNumbers}
use Rattle.promises.proofs.Daggers.{dagger_lines}

pub printed_numbers : PrintedNumbers
printed_numbers =
    record {
      dagger_lines = dagger_lines;
    }
