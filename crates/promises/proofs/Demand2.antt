-- THE SECOND DEMAND of specs/Demand2.antt, kept: the terms are those of the crates chacha20 and keys. Assumes nothing.
use Rattle.chacha20.proofs.Stream.{rows_by_rfc8439}
use Rattle.keys.proofs.Promise.{header_reads, reads_parts, only_writing, same_parts, dealt_accepted, keys_long, keys_apart}
use Rattle.keys.proofs.Holding.{place_holds}
use Rattle.keys.proofs.DealtSeeds.{held_as_dealt}
use Rattle.promises.specs.Demand2.{Demand2}

pub demand_2 : Demand2
demand_2 =
    record {
      header_reads = header_reads;
      reads_parts = reads_parts;
      only_writing = only_writing;
      same_parts = same_parts;
      dealt_accepted = dealt_accepted;
      keys_long = keys_long;
      keys_apart = keys_apart;
      place_holds = place_holds;
      held_as_dealt = held_as_dealt;
      rows_by_rfc8439 = rows_by_rfc8439;
    }
