-- `Player::few_marks` meets its contract. The loop goes down from the last mark; its invariant: the byte packs the marks from the place on.
-- Assumes nothing.
use Rattle.std.proofs.Common.{◌≡◌, ◌+◌, ◌-◌, drop}
use Rattle.keys.specs.Keys.{packed_from}
use Rattle.deal_marks.proofs.Player.few_marks.Given as goal

abbrev pub invariant-loop-place : goal.invariant-loop-place
invariant-loop-place l = l.byte ≡ packed_from (8 - l.place) 0 l.self.bit (drop (l.from + l.place) l.array)
