-- `Player::put_marks` meets its contract. The loop's invariant: the first bytes of marks are written. Assumes nothing.
use Rattle.keys.specs.Keys.{packed}
use Rattle.writer.specs.Written.{Wrote}
use Rattle.deal_marks.proofs.Player.put_marks.Given as goal

abbrev pub invariant-loop-byte : goal.invariant-loop-byte
invariant-loop-byte l = Wrote l.at (packed l.byte l.self.bit l.array) l.next l.initial.out l.out
