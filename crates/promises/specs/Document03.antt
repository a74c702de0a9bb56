-- DOCUMENT 03'S OWN STATEMENTS, where those of the demands ask less of a rule or read less of a key; its opening is
-- theirs, and its refusals are, but that 18, 19 and 20 stand for its 8. proofs/Document03.antt has the term.
-- Assumes nothing.
use Rattle.keys.specs.Document03 as Stated
pub use Rattle.call_answers.specs.AsWritten.{SameCallRefusals}

pub record Document03 : Type 0 where
  pub document_03_same_opening : Stated.SameOpening
  pub document_03_same_refusals : Stated.SameRefusals
  pub document_03_same_call_refusals : SameCallRefusals
  pub document_03_tables_join : Stated.TablesJoin
  pub document_03_keys_open : Stated.KeysOpen
  pub document_03_opens_alone : Stated.OpensAlone
  pub document_03_reads_parts : Stated.ReadsParts
