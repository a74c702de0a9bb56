-- Reading digits back: what somebody does who reads a page, a number by its decimal digits and bytes by their
-- hexadecimal ones. Bytes that are no digits are read as something too, a space as 0 or nothing: that digits stand
-- there is said apart. Assumes nothing: these are definitions.
use Rattle.std.specs.Prelude.{cond, List, [], ◌∷◌, ℕ, ◌+◌, ◌*◌, ◌-◌, ltb, eqb}

-- a number, digit by digit behind what was read before; a space says nothing
unfoldable pub number_from : (before : ℕ) → List ℕ → ℕ
number_from v [] = v
number_from v (b ∷ bs) = number_from (cond (eqb b 32) v (10 * v + (b - 48))) bs

unfoldable pub number_read : List ℕ → ℕ
number_read bs = number_from 0 bs

-- one hexadecimal digit: "0" to "9" from byte 48 on, "A" to "F" from byte 65 on
unfoldable pub digit_read : ℕ → ℕ
digit_read b = cond (ltb b 65) (b - 48) (b - 55)

-- bytes, two digits each, the high one first
unfoldable pub hex_read : List ℕ → List ℕ
hex_read [] = []
hex_read (h ∷ []) = []
hex_read (h ∷ l ∷ bs) = (16 * digit_read h + digit_read l) ∷ hex_read bs
