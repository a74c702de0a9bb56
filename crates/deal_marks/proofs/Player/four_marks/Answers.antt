-- `Player::four_marks` meets its contract. Assumes nothing.
use Rattle.deal_marks.proofs.Spread.{four_packed}
use Rattle.deal_marks.proofs.Player.four_marks.Goals as goal

pub returns : goal.returns
returns c =
    let a = c.args in
    four_packed a.self.bit a.from a.array.now c.spread_marks-spread.ensures
