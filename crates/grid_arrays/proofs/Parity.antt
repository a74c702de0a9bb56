-- The parity of a column, by the kit's count of a byte's ones.
-- Assumes nothing.
use mathlib.Core.Path.{◌≡◌, refl, ap, ◌∙◌}
use mathlib.Core.Bool.{Bool, true, false, not, cond}
use Prim.Native.Nat.{ℕ, zero, suc, ◌+◌, ◌-◌, ◌/◌, ◌%◌, ◌^◌, ◌<◌}
use native.Mathlib.Omega.{arith}
use lib.Bits.{bit_xor, differ, xor_step, xor_zero_r, xor_lt}
use lib.Count as count
use lib.Dec.{eqb}
use mir.Val.{bool_byte}
use Rattle.grid.specs.Grid.{ones, is_odd, same_parity}
use Rattle.grid.specs.Faults.{wrong_parity}
use Rattle.grid.specs.Moving.{turned}
use Rattle.grid.proofs.Columns.{turned_zero, turned_odd}

ones_counted : (k v : ℕ) → v < 2 ^ k → count.ones v ≡ ones k v
unfolding ones count.ones
ones_counted zero v h = let none : v ≡ 0 = omega arith in rw none
ones_counted (suc k) v h = count.ones_step v ∙ ap (λ (x : ℕ). v % 2 + x) (ones_counted k (v / 2) (omega arith))

odd_counted : (v : ℕ) → v < 2 ^ 8 → eqb (count.ones v % 2) 1 ≡ is_odd v
unfolding is_odd
odd_counted v h = rw (ones_counted 8 v h)

-- with the lowest bit turned round it is the other one
one_differs : (x : ℕ) → x < 2 → differ x 1 ≡ 1 - x
one_differs zero h = refl
one_differs (suc zero) h = refl
one_differs (suc (suc x)) h = omega arith

turned_by_one : (v : ℕ) → bit_xor v 1 ≡ turned v 0
turned_by_one v =
    let e = turned_zero v in
    let low = one_differs (v % 2) (omega arith) in
    xor_step v 1 ∙ rw (xor_zero_r (v / 2)) (omega arith)

-- so one count tells whether it is the one that an array asks
asked_parity : (o s : Bool) → cond o (not s) s ≡ not (same_parity s o)
unfolding same_parity
asked_parity true true = refl
asked_parity true false = refl
asked_parity false true = refl
asked_parity false false = refl

pub wrong_counted : (o : Bool) (v : ℕ) → v < 2 ^ 8 → eqb (count.ones (bit_xor v (bool_byte o)) % 2) 1 ≡ wrong_parity o v
wrong_counted true v h =
    odd_counted (bit_xor v 1) (xor_lt 8 v 1 h (omega arith)) ∙ rw (turned_by_one v) (turned_odd v 0 (omega arith)) ∙ asked_parity true (is_odd v)
wrong_counted false v h = rw (xor_zero_r v) (odd_counted v h) ∙ asked_parity false (is_odd v)
