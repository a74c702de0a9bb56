-- Strings laid one behind another. Assumes nothing: this is a definition.
use Rattle.std.specs.Prelude.{List, [], ◌++◌, ℕ, zero, suc}

-- F i, F (i + 1), .. one behind another, so many of them
unfoldable pub in_a_row : (left i : ℕ) → (F : ℕ → List ℕ) → List ℕ
in_a_row zero i F = []
in_a_row (suc k) i F = F i ++ in_a_row k (suc i) F
