-- `Player::spread_marks` meets its contract. Assumes nothing.
use Rattle.std.proofs.Common.{◌≡◌, ◌+◌, ◌*◌, arith}
use Rattle.deal_marks.proofs.Spread.{spread_made}
use Rattle.deal_marks.proofs.Player.spread_marks.Goals as goal

pub returns : goal.returns
returns c =
    let a = c.args in
    let word : c.from_le_bytes-word.result ≡ a.first + 256 * (a.second + 256 * (a.third + 256 * a.fourth)) = omega arith in
    rw word (spread_made a.self.bit a.first a.second a.third a.fourth (omega arith) (omega arith) (omega arith) (omega arith))
