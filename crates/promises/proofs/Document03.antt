-- DOCUMENT 03'S OWN STATEMENTS of specs/Document03.antt, kept: the terms are those of the crate keys. Assumes nothing.
use Rattle.keys.proofs.Document03 as Shown
use Rattle.call_answers.proofs.AsWritten.{same_call_refusals}
use Rattle.promises.specs.Document03.{Document03}

pub document_03 : Document03
document_03 =
    record {
      document_03_same_opening = Shown.same_opening;
      document_03_same_refusals = Shown.same_refusals;
      document_03_same_call_refusals = same_call_refusals;
      document_03_tables_join = Shown.tables_join;
      document_03_keys_open = Shown.keys_open;
      document_03_opens_alone = Shown.opens_alone;
      document_03_reads_parts = Shown.reads_parts;
    }
