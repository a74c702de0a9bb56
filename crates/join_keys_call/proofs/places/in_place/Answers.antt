-- `join_keys_call::places::in_place` meets its contract. Assumes nothing.
use mathlib.Core.Path.{◌≡◌, refl, ◌∙◌}
use mathlib.Core.Bool.{Bool, true, false, ◌&&◌}
use lib.Dec.{eqb}
use Rattle.grid.specs.Grid.{board}
use Rattle.join_keys_call.specs.JoinKeys.{same_board}
use Rattle.join_keys_call.proofs.places.in_place.Goals as goal

-- four tests one behind another are two pairs
in_pairs : (p n rest place : Bool) → ((p && (n && rest)) && place) ≡ (((p && n) && rest) && place)
in_pairs true n rest place = refl
in_pairs false n rest place = refl

pub returns : goal.returns
unfolding same_board board
returns c =
    let heading = c.args.heading in
    let own = heading.board in
    let first = c.args.board in
    let rest = eqb own.width first.width && eqb own.value_bytes first.value_bytes in
    c.eq.ensures ∙ in_pairs (eqb own.players first.players) (eqb own.positions first.positions) rest (eqb heading.player c.args.place)
