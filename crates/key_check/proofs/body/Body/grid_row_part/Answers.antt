-- `key_check::body::Body::grid_row_part` meets its contract. Assumes nothing.
use mathlib.Core.Path.{refl}
use Rattle.keys.specs.Keys.{grid_row_part}
use Rattle.key_check.proofs.body.Body.grid_row_part.Goals as goal

pub returns : goal.returns
unfolding grid_row_part
returns c = rw (c.part_from.ensures, c.stride.ensures) refl
