-- What follows from a contract of the shape `PutSays`, whatever the operation: an answer of 0 means that nothing refused, a refusal that
-- nothing was written, and what was written stands in front of what was there. Assumes nothing.
use mathlib.Core.Path.{◌≡◌, refl, ap, ◌∙◌}
use mathlib.Core.Bool.{Bool, true, false, cond}
use mathlib.Core.List.{List}
use Prim.Native.Nat.{ℕ, zero, suc, ◌+◌, ◌≤◌, ◌<◌}
use native.Mathlib.Omega.{arith}
use lib.Dec.{ltb, leb}
use lib.ListN.{length, take, drop, length-append, length-drop}
use lib.Seq.{take_at, drop_at, take-append-le, drop-append-le}
use borrow.Author.Tests.{ltb-false, le-ltb, leb-false, lt-leb}
use Rattle.call_answers.specs.Answers.{PutSays}
use Rattle.keys.specs.Keys.{or_else}
use Rattle.writer.specs.Written.{in_front}
use Rattle.keys.proofs.Accepted.{next_fits}

-- THE CHAIN OF NUMBERS

-- two that do not refuse
pub nothing_refuses : (a b : ℕ) → a ≡ 0 → b ≡ 0 → or_else a b ≡ 0
nothing_refuses a b h k = next_fits a b h ∙ k

-- 9 is not given where there is room, and only there
pub room_there : (room named : ℕ) → ◌≡◌ {A = ℕ} (cond (ltb room named) 9 0) 0 → named ≤ room
room_there room named h = go (ltb room named) refl h
  where
    go : (t : Bool) → ltb room named ≡ t → ◌≡◌ {A = ℕ} (cond t 9 0) 0 → named ≤ room
    go true e h = let none : ⊥ = omega arith in absurd none
    go false e h = ltb-false room named e

pub room_enough : (room named : ℕ) → named ≤ room → ◌≡◌ {A = ℕ} (cond (ltb room named) 9 0) 0
room_enough room named h = rw (le-ltb room named h)

-- 14, likewise, and what comes after it
pub square_there : (squares a rest : ℕ) → cond (leb squares a) 14 rest ≡ 0 → (a < squares) × (rest ≡ 0)
square_there squares a rest h = go (leb squares a) refl h
  where
    go : (t : Bool) → leb squares a ≡ t → cond t 14 rest ≡ 0 → (a < squares) × (rest ≡ 0)
    go true e h = let none : ⊥ = omega arith in absurd none
    go false e h = (leb-false squares a e, h)

pub square_in : (squares a rest : ℕ) → a < squares → rest ≡ 0 → cond (leb squares a) 14 rest ≡ 0
square_in squares a rest h k = rw (lt-leb squares a h) k

-- ANSWERS

-- the number that a call answers is the refusal
pub answer_is : (refusal : ℕ) (bytes : List ℕ) (r : ℕ) (out out_now : List ℕ) → PutSays refusal bytes r out out_now → r ≡ refusal
unfolding PutSays
answer_is zero bytes r out out_now h = h.0
answer_is (suc n) bytes r out out_now h = h.0

-- where nothing refuses, the bytes stand in front
pub put : (refusal : ℕ) (bytes : List ℕ) (r : ℕ) (out out_now : List ℕ) → PutSays refusal bytes r out out_now → refusal ≡ 0 → out_now ≡ in_front bytes out
unfolding PutSays
put zero bytes r out out_now h e = h.1
put (suc n) bytes r out out_now h e = let none : ⊥ = omega arith in absurd none

-- and where something does, the output is as it was
pub untouched : (refusal : ℕ) (bytes : List ℕ) (r : ℕ) (out out_now : List ℕ) → PutSays refusal bytes r out out_now → (r ≡ 0 → ⊥) → out_now ≡ out
unfolding PutSays
untouched zero bytes r out out_now h refused = absurd (refused h.0)
untouched (suc n) bytes r out out_now h refused = h.1

-- IN FRONT of what was there

module _ (k : ℕ) (new old : List ℕ) (long : length new ≡ k) where
  pub take_front : take k (in_front new old) ≡ new
  take_front = take_at new (drop (length new) old) k long

  pub drop_front : drop k (in_front new old) ≡ drop k old
  drop_front = drop_at new (drop (length new) old) k long ∙ ap (λ (n : ℕ). drop n old) long

  pub length_front : k ≤ length old → length (in_front new old) ≡ length old
  length_front room = length-append new (drop (length new) old) ∙ omega (arith, length-drop (length new) old)

-- a part of what was written
pub part_front : (from size : ℕ) (new old : List ℕ) → from + size ≤ length new → take size (drop from (in_front new old)) ≡ take size (drop from new)
part_front from size new old fits =
    let rest = drop (length new) old in
    rw (drop-append-le from new rest (omega arith)) (take-append-le size (drop from new) rest (rw length-drop (omega arith)))
