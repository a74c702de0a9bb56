-- The rule of a table of sensors' positions, out of one test over the whole table.
-- Assumes nothing.
use mathlib.Core.Path.{◌≡◌, subst, sym}
use mathlib.Core.Bool.{Bool, true}
use mathlib.Core.List.{List}
use Prim.Native.Nat.{ℕ, ◌<◌}
use lib.Dec.{T, eqb, eqb→eq}
use lib.ListN.{length, get_or}
use Rattle.grid.specs.Sensors.{sensor_position}
use Rattle.xor.proofs.Table.{at, every}

-- an entry is right that is its sensor's position
abbrev pub right : ℕ → ℕ → Bool
right sensor place = eqb place (sensor_position sensor)

-- where every entry of a table is right, each sensor of the table has its position there
pub table_right : (xs : List ℕ) (sensor : ℕ) → every right 0 xs ≡ true → sensor < length xs
    → get_or xs sensor 0 ≡ sensor_position sensor
table_right xs sensor passed inside =
    eqb→eq _ _ (at right xs (subst T (sym passed) tt) sensor inside)
