-- The end of a front, the sums of two states, and how many bytes words have. Assumes nothing.
use Rattle.std.proofs.Common.{◌≡◌, ℕ, zero, suc, ◌+◌, ◌*◌, ◌<◌, List, [], ◌∷◌, length, get_or, take, drop, sym, refl, ap, ◌∙◌, not-suc-le-zero, suc-add, zero-add, arith}
use lib.Seq.{take-nil}
use Rattle.chacha20.specs.Expand.{add, sums, low_bytes}

-- the end of a front
pub front_end : (s n : ℕ) (xs : List ℕ) → drop s (take (s + n) xs) ≡ take n (drop s xs)
front_end zero n xs = ap (λ (k : ℕ). take k xs) (zero-add n)
front_end (suc s) n [] = ap (λ (l : List ℕ). drop (suc s) l) (take-nil {A = ℕ} (suc s + n)) ∙ sym (take-nil n)
front_end (suc s) n (x ∷ xs) = ap (λ (k : ℕ). drop (suc s) (take k (x ∷ xs))) (suc-add s n) ∙ front_end s n xs

-- SUMS of two states, word by word

pub length-sums : (xs ys : List ℕ) → length xs ≡ length ys → length (sums xs ys) ≡ length xs
unfolding sums
length-sums [] ys h = refl
length-sums (x ∷ xs) [] h = sym h
length-sums (x ∷ xs) (y ∷ ys) h = ap suc (length-sums xs ys (omega arith))

pub get_or-sums : (xs ys : List ℕ) (i : ℕ) → length xs ≡ length ys → i < length xs → get_or (sums xs ys) i 0 ≡ add (get_or xs i 0) (get_or ys i 0)
unfolding sums
get_or-sums [] ys i h p = absurd (not-suc-le-zero p)
get_or-sums (x ∷ xs) [] i h p = let none : ⊥ = omega arith in absurd none
get_or-sums (x ∷ xs) (y ∷ ys) zero h p = refl
get_or-sums (x ∷ xs) (y ∷ ys) (suc i) h p = get_or-sums xs ys i (omega arith) (omega arith)

-- BYTES of words

pub length-low_bytes : (xs : List ℕ) → length (low_bytes xs) ≡ 4 * length xs
unfolding low_bytes
length-low_bytes [] = refl
length-low_bytes (x ∷ xs) = omega (arith, length-low_bytes xs)
