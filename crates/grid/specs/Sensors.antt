-- The positions of the spring board's sensors: document 03's definition, word for word. Assumes nothing: this is a
-- definition.
use Rattle.std.specs.Prelude.{cond, ℕ, ◌+◌, ◌*◌, ◌-◌, ◌/◌, ◌%◌, eqb}

-- 01, Sensor position: "with line l = s div 8 and c = s mod 8, position 8 × l + c on even lines, 8 × l + 7 − c on odd
-- ones"
unfoldable pub sensor_position : (s : ℕ) → ℕ
sensor_position s = cond (eqb (s / 8 % 2) 0) s (s / 8 * 8 + (7 - s % 8))
