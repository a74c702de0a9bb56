-- THE NUMBERS THAT DOCUMENTS 01 AND 02 PRINT. proofs/PrintedNumbers.antt has the term. Assumes nothing.
unfoldable pub use Rattle.promises.specs.Daggers.{DaggerLines}

pub record PrintedNumbers : Type 0 where
  -- all † lines in one table
  pub dagger_lines : DaggerLines
