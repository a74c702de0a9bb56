-- Expansion from a starting byte, which document 02 asks for in (ii): one equation with document 03's `expand`. Assumes
-- nothing: this is a definition.
use Rattle.std.specs.Prelude.{ℕ, ◌+◌, List, drop}
use Rattle.chacha20.specs.Expand.{expand}

-- "Expansion shall take a starting byte and fill the output from there": of the first s + n bytes of a row, those
-- from byte s on
unfoldable pub expand_from : (s n : ℕ) → (seed : List ℕ) → List ℕ
expand_from s n bs = drop s (expand (s + n) bs)
