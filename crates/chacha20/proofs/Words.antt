-- Words of 32 bits as the machine has them, rolled to the left. Assumes nothing.
use Rattle.std.proofs.Common.{◌≡◌, ℕ, ◌+◌, ◌-◌, ◌*◌, ◌/◌, ◌%◌, ◌^◌, ◌<◌, sym, ap, ◌∙◌, subst, add-zero, add_comm, arith, pow_pos, shr_lt}
use lib.Bits.{bit_or, bit_xor, or_shifted}
use lib.Pow.{mod-pow-add, shl-shr, low}
use Rattle.xor.specs.Xor.{xor_from}
use Rattle.xor.proofs.Laws.{xor_is, xor_from_lt}
use Rattle.chacha20.specs.Expand.{rolled, xor_word}

-- nothing of a multiple of 2^n stands below 2^n
shifted_low : (v n : ℕ) → v * 2 ^ n % 2 ^ n ≡ 0
shifted_low v n = ap (λ (m : ℕ). m % 2 ^ n) (sym (add-zero (v * 2 ^ n))) ∙ low v n {lo = 0} (pow_pos n)

-- a word shifted to the left keeps its low bits, in the high places
shifted : (v n j : ℕ) → j + n ≡ 32 → v * 2 ^ n % 2 ^ 32 ≡ v % 2 ^ j * 2 ^ n
shifted v n j h =
    subst (λ (m : ℕ). v * 2 ^ n % 2 ^ m ≡ v % 2 ^ j * 2 ^ n) h
    (rw (mod-pow-add (v * 2 ^ n) j n, shl-shr v n, shifted_low v n) (add-zero (v % 2 ^ j * 2 ^ n)))

-- two shifts and an or are a roll to the left
roll_halves : (v n j : ℕ) → j + n ≡ 32 → v < 2 ^ 32 → bit_or (v * 2 ^ n % 2 ^ 32) (v / 2 ^ j) ≡ v * 2 ^ n % 2 ^ 32 + v / 2 ^ j
roll_halves v n j h fits =
    let high : v / 2 ^ j < 2 ^ n = shr_lt n j (subst (λ (m : ℕ). v < 2 ^ m) (sym (add_comm n j ∙ h)) fits) in
    rw (shifted v n j h) (or_shifted (v % 2 ^ j) n (v / 2 ^ j) high)

pub xor_rolled : (v w n : ℕ) → v < 2 ^ 32 → w < 2 ^ 32 → n < 32 →
    bit_or (bit_xor v w * 2 ^ n % 2 ^ 32) (bit_xor v w / 2 ^ (32 - n)) ≡ rolled (xor_word v w) n
unfolding rolled xor_word
xor_rolled v w n p q h =
    rw (xor_is 32 v w p q) (roll_halves (xor_from 32 v w) n (32 - n) (omega arith) (xor_from_lt 32 v w))
