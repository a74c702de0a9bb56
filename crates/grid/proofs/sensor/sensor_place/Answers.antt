-- `sensor::sensor_place` meets its contract: the table's rule is a test at each of its 72 entries, which antt computes.
-- Assumes nothing.
use Prim.Native.Nat.{◌<◌}
use borrow.Author.Rules.{rules}
use Rattle.grid.specs.Sensors.{sensor_position}
use Rattle.grid.proofs.Sensors.{table_right}
use Rattle.grid.proofs.sensor.sensor_place.Goals as goal

pub returns : goal.returns
unfolding sensor_position
returns c = let inside : c.args.sensor < 72 = search rules in rw (table_right, inside)
