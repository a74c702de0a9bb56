-- THE SECOND DEMAND, beside the contracts of Answers.antt and JoinKeys.antt: keys as bytes. proofs/Demand2.antt has the term.
-- Assumes nothing.
pub use Rattle.chacha20.specs.Rfc8439.{RowsByRfc8439}
unfoldable pub use Rattle.keys.specs.Promise.{HeaderReads, ReadsParts, OnlyWriting, SameParts, DealtAccepted, KeysLong, KeysApart}
unfoldable pub use Rattle.keys.specs.Held.{PlaceHolds, HeldAsDealt}

pub record Demand2 : Type 0 where
  -- a header is the only writing of its numbers, and the rest of the key stands behind it
  pub header_reads : HeaderReads
  -- a dealt key is read as the parts dealt
  pub reads_parts : ReadsParts
  -- an accepted key is the only writing of its parts, so two with the same header numbers and parts are the same key
  pub only_writing : OnlyWriting
  pub same_parts : SameParts
  -- a dealt key is accepted and has K bytes; Deal writes p × K bytes, and these cut after every K are the keys
  pub dealt_accepted : DealtAccepted
  pub keys_long : KeysLong
  pub keys_apart : KeysApart
  -- the place told for a held seed is where its 32 bytes stand in the key, or 0 where none is held; a dealt key holds the seeds that were lent
  pub place_holds : PlaceHolds
  pub held_as_dealt : HeldAsDealt
  -- rows are ChaCha20's by RFC 8439
  pub rows_by_rfc8439 : RowsByRfc8439
