-- Numbers as sums, by which `omega` weighs an answer against the number due. Assumes nothing.
use mathlib.Core.Path.{◌≡◌}
use mathlib.Core.Bool.{cond}
use Prim.Native.Nat.{ℕ, suc, ◌+◌, ◌*◌, ◌-◌, ◌≤◌, min}
use native.Mathlib.Decide.{dec_le}
use native.Mathlib.Omega.{arith}
use borrow.Author.Tests.{le-leb, lt-leb, le-ltb, lt-ltb}
use lib.Dec.{leb, ltb}

-- 1 where the room is short of what is wanted, or else 0
abbrev pub short : (room wanted : ℕ) → ℕ
short room wanted = min 1 (wanted - room)

-- 1 where the place is none of so many, or else 0
abbrev pub beyond : (many place : ℕ) → ℕ
beyond n a = min 1 (suc a - n)

pub room_number : (l w : ℕ) → ◌≡◌ {A = ℕ} (cond (ltb l w) 9 0) (9 * short l w)
room_number l w = go (dec_le w l)
  where
    go : Dec (w ≤ l) → ◌≡◌ {A = ℕ} (cond (ltb l w) 9 0) (9 * short l w)
    go (yes h) = rw (le-ltb l w h) (omega arith)
    go (no h) = rw (lt-ltb l w (omega arith)) (omega arith)

-- a place that is none, and else a short room: 14 of a position, 11 of a player
pub place_number : (number n a l w : ℕ) → cond (leb n a) number (cond (ltb l w) 9 0) ≡ number * beyond n a + (9 * short l w - 9 * beyond n a)
place_number number n a l w = go (dec_le n a)
  where
    go : Dec (n ≤ a) → cond (leb n a) number (cond (ltb l w) 9 0) ≡ number * beyond n a + (9 * short l w - 9 * beyond n a)
    go (yes h) =
        let one : beyond n a ≡ 1 = omega arith in
        let most : 9 * short l w - 9 * beyond n a ≡ 0 = omega arith in
        rw (le-leb n a h, one) (omega (arith, most))
    go (no h) =
        let none : beyond n a ≡ 0 = omega arith in
        rw (lt-leb n a (omega arith), none, room_number l w) (omega arith)
