-- Digits are read back as what they were written for. Assumes nothing.
use mathlib.Core.Path.{◌≡◌, refl, ◌∙◌}
use mathlib.Core.Bool.{Bool, true, false, cond}
use mathlib.Core.List.{List, [], ◌∷◌, ◌++◌}
use Prim.Native.Nat.{ℕ, zero, suc, ◌+◌, ◌*◌, ◌-◌, ◌/◌, ◌%◌, ◌<◌}
use native.Mathlib.Omega.{arith}
use lib.Dec.{ltb, eqb}
use lib.ListN.{length}
use borrow.Author.Tests.{lt-ltb, le-ltb, ltb-true, ltb-false, ne_eqb}
use Rattle.xor.specs.Xor.{bytes_good}
use Rattle.xor.proofs.Laws.{and_left, and_right}
use Rattle.digits.specs.Digits.{digits, decimal, spaces, right_aligned, hex_digit, hex}
use Rattle.digits.specs.Reading.{number_from, number_read, digit_read, hex_read}
use Rattle.digits.proofs.Laws.{power, ten_digits}

-- NUMBERS

-- one digit more
figure_read : (u v b : ℕ) → v < 10 → b ≡ 48 + v → cond (eqb b 32) u (10 * u + (b - 48)) ≡ 10 * u + v
figure_read u v b h e = rw (ne_eqb b 32 (λ same. omega arith)) (omega arith)

number_snoc : (u : ℕ) (bs : List ℕ) (b : ℕ) →
    number_from u (bs ++ (b ∷ [])) ≡ cond (eqb b 32) (number_from u bs) (10 * number_from u bs + (b - 48))
unfolding number_from
number_snoc u [] b = refl
number_snoc u (c ∷ bs) b = number_snoc (cond (eqb c 32) u (10 * u + (c - 48))) bs b

digits_read : (k v : ℕ) → v < power k → number_from 0 (digits (suc k) v) ≡ v
unfolding digits power number_from
digits_read zero v h = rw (lt-ltb v 10 h) (figure_read 0 v (48 + v) h refl ∙ omega arith)
digits_read (suc k) v h = go (ltb v 10) refl (digits_read k (v / 10) (omega arith))
  where
    go : (t : Bool) → ltb v 10 ≡ t → number_from 0 (digits (suc k) (v / 10)) ≡ v / 10 →
        number_from 0 (cond t ((48 + v) ∷ []) (digits (suc k) (v / 10) ++ ((48 + v % 10) ∷ []))) ≡ v
    go true e tenth = figure_read 0 v (48 + v) (ltb-true v 10 e) refl ∙ omega arith
    go false e tenth =
        number_snoc 0 (digits (suc k) (v / 10)) (48 + v % 10)
        ∙ rw tenth (figure_read (v / 10) (v % 10) (48 + v % 10) (omega arith) refl ∙ omega arith)

decimal_read : (v : ℕ) → v < 4294967296 → number_read (decimal v) ≡ v
unfolding decimal number_read
decimal_read v h = digits_read 9 v (omega (arith, ten_digits))

-- spaces in front say nothing
spaces_read : (k : ℕ) (bs : List ℕ) → number_from 0 (spaces k ++ bs) ≡ number_from 0 bs
unfolding spaces number_from
spaces_read zero bs = refl
spaces_read (suc k) bs = spaces_read k bs

pub aligned_read : (k v : ℕ) → v < 4294967296 → number_read (right_aligned k v) ≡ v
unfolding right_aligned number_read
aligned_read k v h = spaces_read (k - length (decimal v)) (decimal v) ∙ decimal_read v h

-- BYTES

digit_back : (v : ℕ) → v < 16 → digit_read (hex_digit v) ≡ v
unfolding digit_read hex_digit
digit_back v h = go (ltb v 10) refl
  where
    go : (t : Bool) → ltb v 10 ≡ t → cond (ltb (cond t (48 + v) (55 + v)) 65) (cond t (48 + v) (55 + v) - 48) (cond t (48 + v) (55 + v) - 55) ≡ v
    go true e = let few = ltb-true v 10 e in rw (lt-ltb (48 + v) 65 (omega arith)) (omega arith)
    go false e = let many = ltb-false v 10 e in rw (le-ltb (55 + v) 65 (omega arith)) (omega arith)

pub hex_back : (bs : List ℕ) → bytes_good bs ≡ true → hex_read (hex bs) ≡ bs
unfolding hex hex_read bytes_good
hex_back [] g = refl
hex_back (x ∷ bs) g =
    let byte = ltb-true x 256 (and_left (ltb x 256) (bytes_good bs) g) in
    let whole : 16 * (x / 16) + x % 16 ≡ x = omega arith in
    rw (digit_back (x / 16) (omega arith), digit_back (x % 16) (omega arith), whole, hex_back bs (and_right (ltb x 256) (bytes_good bs) g))
