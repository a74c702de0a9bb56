-- `digits::put_hex` meets its contract. The loop's invariant: the digits of the bytes before this one are written. Assumes nothing.
use lib.ListN.{take}
use Rattle.writer.specs.Written.{Wrote}
use Rattle.digits.specs.Digits.{hex}
use Rattle.digits.proofs.put_hex.Given as goal

abbrev pub invariant-loop-byte : goal.invariant-loop-byte
invariant-loop-byte l = Wrote l.at (hex (take l.byte-index l.bytes)) l.next l.initial.out l.out
