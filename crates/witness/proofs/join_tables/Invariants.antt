-- `witness::join_tables` meets its contract. The loop's invariant: the tables of the players passed are joined, and the last of them stands in
-- the table. Assumes nothing.
use mathlib.Core.Path.{◌≡◌}
use lib.ListN.{length}
use Rattle.witness.specs.Witness.{tables_joined, last_table}
use Rattle.witness.proofs.join_tables.Given as goal

abbrev pub invariant-loop-player : goal.invariant-loop-player
invariant-loop-player l =
    (l.joined ≡ tables_joined l.player l.key_bytes (length l.initial.table) l.keys) × (l.table ≡ last_table l.player l.key_bytes l.keys l.initial.table)
