-- Digits as bytes: decimal numbers and hexadecimal bytes, as document 01's "Two programs" and document 02, (iv), have
-- them, whose sentences are quoted. Assumes nothing: these are definitions.
use Rattle.std.specs.Prelude.{cond, List, [], ◌∷◌, ◌++◌, ℕ, zero, suc, ◌+◌, ◌-◌, ◌/◌, ◌%◌, ltb, length, replicate}

-- the digits of a number in base ten, unpadded, at most `fuel` of them; "0" is the byte 48
unfoldable pub digits : (fuel v : ℕ) → List ℕ
digits zero v = []
digits (suc k) v = cond (ltb v 10) ((48 + v) ∷ []) (digits k (v / 10) ++ ((48 + v % 10) ∷ []))

-- "the position, unpadded": a number below 10^10, as every number of 32 bits is
unfoldable pub decimal : ℕ → List ℕ
decimal v = digits 10 v

-- so many spaces
unfoldable pub spaces : ℕ → List ℕ
spaces k = replicate k 32

-- "in five places, right-aligned with spaces": a number in so many places
unfoldable pub right_aligned : (places v : ℕ) → List ℕ
right_aligned k v = spaces (k - length (decimal v)) ++ decimal v

-- one upper-case hexadecimal digit: "0" to "9" from byte 48 on, "A" to "F" from byte 65 on
unfoldable pub hex_digit : ℕ → ℕ
hex_digit v = cond (ltb v 10) (48 + v) (55 + v)

-- "two upper-case hexadecimal digits a byte", byte 0 first
unfoldable pub hex : List ℕ → List ℕ
hex [] = []
hex (x ∷ xs) = hex_digit (x / 16) ∷ hex_digit (x % 16) ∷ hex xs
