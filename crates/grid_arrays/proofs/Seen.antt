-- The columns seen as the bits of one number: none where an array begins, and one more behind each column.
-- Assumes nothing.
use mathlib.Core.Path.{◌≡◌, refl, sym, ◌∙◌}
use mathlib.Core.Bool.{◌||◌, or-true, or-false, or_assoc}
use mathlib.Core.List.{List, [], ◌∷◌, ◌++◌}
use Prim.Native.Nat.compare
use Prim.Native.Nat.{ℕ, zero, suc, ◌+◌, ◌*◌, ◌/◌, ◌%◌, ◌^◌, ◌<◌, max}
use native.Mathlib.Nat.{max-zero}
use native.Mathlib.Omega.{arith}
use lib.Bits.{bit_or, or_step, or_zero_r}
use lib.Dec.{eqb}
use borrow.Author.Tests.{ne_eqb}
use Rattle.grid.specs.Grid.{bit, member}
use Rattle.grid.proofs.Columns.{bit_zero, bit_suc, unmarked_zero}
use Rattle.grid_arrays.specs.Seen.{ColumnsSeen}

-- ONE BIT of a number, set by its power of two

-- a power of two above the first is even
half_power : (i : ℕ) → 2 ^ suc i / 2 ≡ 2 ^ i
half_power i = omega arith

even_power : (i : ℕ) → 2 ^ suc i % 2 ≡ 0
even_power i = omega arith

one_most : (x : ℕ) → x < 2 → max x 1 ≡ 1
one_most zero h = refl
one_most (suc zero) h = refl
one_most (suc (suc x)) h = omega arith

-- an OR sets the bit, and no other
set_first : (v : ℕ) → bit_or v 1 ≡ v / 2 * 2 + 1
set_first v = or_step v 1 ∙ rw (or_zero_r (v / 2), one_most (v % 2) (omega arith))

set_later : (v i : ℕ) → bit_or v (2 ^ suc i) ≡ bit_or (v / 2) (2 ^ i) * 2 + v % 2
set_later v i = or_step v (2 ^ suc i) ∙ rw (half_power i, even_power i, max-zero (v % 2))

bit_set : (v i j : ℕ) → bit (bit_or v (2 ^ i)) j ≡ (bit v j || eqb i j)
bit_set v zero zero =
    let e = set_first v in
    let low : bit_or v 1 % 2 ≡ 1 = omega arith in
    bit_zero (bit_or v 1) ∙ rw low (sym (or-true (bit v 0)))
bit_set v zero (suc j) =
    let e = set_first v in
    let half : bit_or v 1 / 2 ≡ v / 2 = omega arith in
    bit_suc (bit_or v 1) j ∙ rw (half, ne_eqb 0 (suc j) (λ z. omega arith), or-false (bit v (suc j))) (sym (bit_suc v j))
bit_set v (suc i) zero =
    let e = set_later v i in
    let low : bit_or v (2 ^ suc i) % 2 ≡ v % 2 = omega arith in
    bit_zero (bit_or v (2 ^ suc i)) ∙ rw (low, ne_eqb (suc i) 0 (λ z. omega arith), or-false (bit v 0)) (sym (bit_zero v))
bit_set v (suc i) (suc j) =
    let e = set_later v i in
    let half : bit_or v (2 ^ suc i) / 2 ≡ bit_or (v / 2) (2 ^ i) = omega arith in
    bit_suc (bit_or v (2 ^ suc i)) j ∙ rw (half, bit_set (v / 2) i j, bit_suc v j, compare.suc-suc i j)

-- THE COLUMNS SEEN

-- none where an array begins
pub none_seen : ColumnsSeen [] 0
unfolding member
none_seen b = unmarked_zero b

-- one more behind a column, by its power of two
member_snoc : (v c : ℕ) (xs : List ℕ) → member v (xs ++ (c ∷ [])) ≡ (member v xs || eqb c v)
unfolding member
member_snoc v c [] = or-false (eqb c v)
member_snoc v c (x ∷ xs) = rw (member_snoc v c xs) (sym (or_assoc (eqb x v) (member v xs) (eqb c v)))

pub one_more_seen : (before : List ℕ) (seen c power : ℕ) → power ≡ 2 ^ c → ColumnsSeen before seen
    → ColumnsSeen (before ++ (c ∷ [])) (bit_or seen power)
one_more_seen before seen c power is_power so_far b = rw is_power (bit_set seen c b ∙ rw (so_far b) (sym (member_snoc b c before)))
