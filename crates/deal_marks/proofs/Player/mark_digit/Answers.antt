-- `Player::mark_digit` meets its contract. Assumes nothing.
use Rattle.std.proofs.Common.{rules, tests}
use Rattle.deal_marks.specs.Marks.{mark_digit}
use Rattle.deal_marks.proofs.Player.mark_digit.Goals as goal

pub returns : goal.returns
unfolding mark_digit
returns c = search (rules, tests)
