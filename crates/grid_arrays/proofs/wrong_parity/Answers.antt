-- `grid_arrays::wrong_parity` meets its contract: the ones of a byte are counted. Assumes nothing.
use Rattle.grid_arrays.proofs.Parity.{wrong_counted}
use Rattle.grid_arrays.proofs.wrong_parity.Goals as goal

pub returns : goal.returns
returns c = rw c.from.ensures (wrong_counted c.args.odd c.args.column c.ranges.column.fits)
