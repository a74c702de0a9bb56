-- `Player::marks` meets its contract. Assumes nothing.
use mathlib.Core.Path.{refl}
use Rattle.grid.specs.Grid.{bit}
use Rattle.deal_marks.proofs.Player.marks.Goals as goal

pub returns : goal.returns
unfolding bit
returns c = refl
