-- `key_header::header_length` meets its contract. The loop's invariant: the numbers so far are counted. Assumes nothing.
use mathlib.Core.Path.{◌≡◌}
use Prim.Native.Nat.{◌*◌, ◌≤◌}
use lib.ListN.{length, take}
use Rattle.keys.specs.Keys.{numbers_written}
use Rattle.key_header.proofs.header_length.Given as goal

abbrev pub invariant-loop-number : goal.invariant-loop-number
invariant-loop-number l =
    record { counted : l.long ≡ length (numbers_written (take l.number-index l.number-items)); few : l.long ≤ 3 * l.number-index }
