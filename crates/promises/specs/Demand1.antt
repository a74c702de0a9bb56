-- THE FIRST DEMAND: bytes of every kind. The contracts of Answers.antt, JoinKeys.antt, Checked.antt and Held.antt name the full result or
-- the first refusal number that fits; here is what every lent byte is afterwards. proofs/Demand1.antt has the term. Quotations are document
-- 01's. Assumes nothing.
pub use Rattle.promises.specs.Calls.{RefusedLeaves, AnsweredKeeps}

pub record Demand1 : Type 0 where
  -- "A refusal returns its number and leaves all lent bytes unchanged. Output past the bytes named keeps its bytes."
  pub refused_leaves : RefusedLeaves
  pub answered_keeps : AnsweredKeeps
