-- The laws of four marks by one multiplication: a word's bytes shifted and masked, and the marks gathered out of their bytes. Assumes nothing.
use mathlib.Core.Path.{◌≡◌, sym, ap, ◌∙◌}
use mathlib.Core.List.{List}
use Prim.Native.Nat.{ℕ, zero, suc, ◌+◌, ◌*◌, ◌/◌, ◌%◌, ◌^◌, ◌<◌}
use native.Mathlib.Omega.{arith}
use lib.Bits.{bit_and, and_mask, and_block}
use lib.ListN.{get_or, drop}
use Rattle.keys.specs.Keys.{packed_from}
use Rattle.deal_marks.specs.Marks.{mark_digit, spread_marks}
use Rattle.deal_marks.proofs.PackedMarks.{digit_is, packed_next}

-- a byte's lowest digit and the bytes above it, after a shift by less than a byte
shifted : (i c w : ℕ) → i < 8 → c < 256 → ((c + 256 * w) / 2 ^ i % 2 ≡ c / 2 ^ i % 2) × ((c + 256 * w) / 2 ^ i / 256 ≡ w / 2 ^ i)
shifted zero c w h b = (omega arith, omega arith)
shifted (suc zero) c w h b = (omega arith, omega arith)
shifted (suc (suc zero)) c w h b = (omega arith, omega arith)
shifted (suc (suc (suc zero))) c w h b = (omega arith, omega arith)
shifted (suc (suc (suc (suc zero)))) c w h b = (omega arith, omega arith)
shifted (suc (suc (suc (suc (suc zero))))) c w h b = (omega arith, omega arith)
shifted (suc (suc (suc (suc (suc (suc zero)))))) c w h b = (omega arith, omega arith)
shifted (suc (suc (suc (suc (suc (suc (suc zero))))))) c w h b = (omega arith, omega arith)
shifted (suc (suc (suc (suc (suc (suc (suc (suc i)))))))) c w h b = let none : ⊥ = omega arith in absurd none

-- a mask whose lowest byte is 1 keeps that byte's lowest digit
masked : (x m : ℕ) → bit_and x (m * 256 + 1) ≡ bit_and (x / 256) m * 256 + x % 2
masked x m =
    let whole : x / 256 * 256 + x % 256 ≡ x = omega arith in
    let odd : x % 256 % 2 ≡ x % 2 = omega arith in
    ap (λ (y : ℕ). bit_and y (m * 256 + 1)) (sym whole) ∙ and_block 8 (x / 256) m (x % 256) 1 (omega arith) (omega arith)
    ∙ ap (λ (y : ℕ). bit_and (x / 256) m * 256 + y) (and_mask (x % 256) 1 ∙ odd)

-- so the lowest byte gives its column's mark
mark_off : (i c w m : ℕ) → i < 8 → c < 256 → bit_and ((c + 256 * w) / 2 ^ i) (m * 256 + 1) ≡ mark_digit c i + 256 * bit_and (w / 2 ^ i) m
mark_off i c w m h b =
    let s = shifted i c w h b in
    let rest : bit_and ((c + 256 * w) / 2 ^ i / 256) m ≡ bit_and (w / 2 ^ i) m = ap (λ (y : ℕ). bit_and y m) s.1 in
    omega (arith, masked ((c + 256 * w) / 2 ^ i) m, rest, s.0, digit_is c i)

-- THE MARKS OF FOUR COLUMNS, each in a byte of its own
pub spread_made : (i a b c d : ℕ) → i < 8 → a < 256 → b < 256 → c < 256 →
    bit_and ((a + 256 * (b + 256 * (c + 256 * d))) / 2 ^ i) 16843009 ≡ spread_marks a b c d i
unfolding spread_marks
spread_made i a b c d h p q r =
    mark_off i a (b + 256 * (c + 256 * d)) 65793 h p
    ∙ ap (λ (n : ℕ). mark_digit a i + 256 * n)
    (mark_off i b (c + 256 * d) 257 h q ∙ ap (λ (n : ℕ). mark_digit b i + 256 * n) (mark_off i c d 1 h r ∙ ap (λ (n : ℕ). mark_digit c i + 256 * n) (and_mask (d / 2 ^ i) 1 ∙ digit_is d i)))

-- GATHERED by 2^24 + 2^17 + 2^10 + 2^3: what is below bit 24 adds up to less than 2^24, and what is above the four bits is a multiple of 16 there
gathered : (a b c d : ℕ) → a < 2 → b < 2 → c < 2 → d < 2 →
    (a + 256 * (b + 256 * (c + 256 * d))) * 16909320 / 16777216 % 16 ≡ a + 2 * (b + 2 * (c + 2 * d))
gathered a b c d p q r s =
    let above = 16 * b + 4128 * c + 1056832 * d in
    let parts : (a + 256 * (b + 256 * (c + 256 * d))) * 16909320 / 16777216 ≡ a + 2 * (b + 2 * (c + 2 * d)) + 16 * above = omega arith in
    let low : (a + 2 * (b + 2 * (c + 2 * d)) + 16 * above) % 16 ≡ a + 2 * (b + 2 * (c + 2 * d)) = omega arith in
    ap (λ (n : ℕ). n % 16) parts ∙ low

-- a mark's digit is less than 2
digit_small : (v i : ℕ) → mark_digit v i < 2
digit_small v i = omega (arith, digit_is v i)

pub four_packed : (i from : ℕ) (cs : List ℕ) {spread : ℕ} →
    spread ≡ spread_marks (get_or cs from 0) (get_or cs (from + 1) 0) (get_or cs (from + 2) 0) (get_or cs (from + 3) 0) i →
    spread * 16909320 / 16777216 % 16 ≡ packed_from 4 0 i (drop from cs)
unfolding spread_marks packed_from
four_packed i from cs is =
    let one : from + 1 ≡ suc from = omega arith in
    let two : from + 2 ≡ suc (suc from) = omega arith in
    let three : from + 3 ≡ suc (suc (suc from)) = omega arith in
    rw (is, one, two, three)
    (gathered (mark_digit (get_or cs from 0) i) (mark_digit (get_or cs (suc from) 0) i) (mark_digit (get_or cs (suc (suc from)) 0) i) (mark_digit (get_or cs (suc (suc (suc from))) 0) i)
    (digit_small _ i) (digit_small _ i) (digit_small _ i) (digit_small _ i)
    ∙ marks_of i from cs)
  where
    marks_of : (i from : ℕ) (cs : List ℕ) →
        mark_digit (get_or cs from 0) i + 2 * (mark_digit (get_or cs (suc from) 0) i + 2 * (mark_digit (get_or cs (suc (suc from)) 0) i + 2 * mark_digit (get_or cs (suc (suc (suc from))) 0) i))
        ≡ packed_from 4 0 i (drop from cs)
    marks_of i from cs =
        omega (arith, packed_next 0 i (suc (suc (suc from))) cs, packed_next 1 i (suc (suc from)) cs, packed_next 2 i (suc from) cs, packed_next 3 i from cs)
