-- XOR of byte strings, place by place, the zero string, and what a byte string is: document 03's definitions, word for word.
-- Assumes nothing: these are definitions.
use Rattle.std.specs.Prelude.{Bool, true, ◌&&◌, List, [], ◌∷◌, ℕ, zero, suc, ◌+◌, ◌*◌, ◌/◌, ◌%◌, ltb, replicate}

-- XOR of two numbers, their lowest `fuel` bits
unfoldable pub xor_from : (fuel a b : ℕ) → ℕ
xor_from zero a b = 0
xor_from (suc k) a b = (a + b) % 2 + 2 * xor_from k (a / 2) (b / 2)

unfoldable pub xors : List ℕ → List ℕ → List ℕ
xors [] ys = []
xors (x ∷ xs) [] = []
xors (x ∷ xs) (y ∷ ys) = xor_from 8 x y ∷ xors xs ys

unfoldable pub zeros : ℕ → List ℕ
zeros n = replicate n 0

-- a list of numbers that are bytes
unfoldable pub bytes_good : List ℕ → Bool
bytes_good [] = true
bytes_good (x ∷ xs) = ltb x 256 && bytes_good xs
