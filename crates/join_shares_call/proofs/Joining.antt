-- Joining shares: the XOR of the shares from the last one down. Assumes nothing.
use mathlib.Core.Path.{◌≡◌, refl}
use mathlib.Core.List.{List}
use Prim.Native.Nat.{ℕ, zero, suc, ◌+◌, ◌*◌, ◌-◌, ◌≤◌, ◌<◌}
use native.Mathlib.Omega.{arith}
use lib.ListN.{length, take, drop, replicate}
use lib.Seq.{drop-drop}
use Rattle.xor.specs.Xor.{xors, zeros}
use Rattle.xor.proofs.Laws.{xors_comm}
use Rattle.call_answers.specs.Answers.{joined_shares}

pub shares_step : (w k : ℕ) (bs : List ℕ) → joined_shares (suc k) w bs ≡ xors (take w bs) (joined_shares k w (drop w bs))
unfolding joined_shares
shares_step w k bs = refl

-- no share is joined yet
pub joined_none : (p : ℕ) (bs out old : List ℕ) → out ≡ replicate (length old) 0 → length out ≡ length old → out ≡ joined_shares (p - p) (length out) bs
unfolding joined_shares zeros
joined_none p bs out old e l =
    let none : p - p ≡ 0 = omega arith in
    rw (none, l) e

-- one share more, the one before
pub share_more : (p left w : ℕ) (bs out : List ℕ) → 0 < left → left ≤ p → out ≡ joined_shares (p - left) w (drop (left * w) bs)
    → let start = (left - 1) * w in xors out (take (start + w - start) (drop start bs)) ≡ joined_shares (p - (left - 1)) w (drop start bs)
share_more p zero w bs out pos le h = let none : ⊥ = omega arith in absurd none
share_more p (suc k) w bs out pos le h =
    let before : suc k - 1 ≡ k = omega arith in
    let start = k * w in
    let wide : start + w - start ≡ w = omega arith in
    let left : p - k ≡ suc (p - suc k) = omega arith in
    let next : start + w ≡ suc k * w = omega arith in
    rw (before, wide, left, shares_step w (p - suc k) (drop start bs), h, drop-drop w start bs, next)
    (xors_comm (joined_shares (p - suc k) w (drop (suc k * w) bs)) (take w (drop start bs)))
