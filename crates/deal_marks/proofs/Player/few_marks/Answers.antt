use Rattle.std.proofs.Common.{ℕ, ◌≡◌, ◌+◌, ◌*◌, ◌-◌, ◌≤◌, ◌<◌, List, Bool, true, false, cond, drop, get_or, refl, arith}
use Prim.Native.Nat.{suc}
use Rattle.grid.specs.Grid.{bit}
use Rattle.keys.specs.Keys.{packed_from}
use Rattle.deal_marks.specs.Marks.{mark_digit}
use Rattle.deal_marks.proofs.PackedMarks.{packed_room, packed_next}
use Rattle.deal_marks.proofs.Player.few_marks.Goals as goal

-- a digit is 0 or 1
digit_small : {digit : ℕ} (column player : ℕ) → digit ≡ mark_digit column player → digit ≤ 1
unfolding mark_digit
digit_small column player is = rw is (go (bit column player))
  where
    go : (t : Bool) → cond t 1 0 ≤ 1
    go true = omega arith
    go false = omega arith

-- one turn: the mark at the next lower place joins those packed
turn : (byte place player from digit : ℕ) (array : List ℕ) → 0 < place → place ≤ 8 → byte ≡ packed_from (8 - place) 0 player (drop (from + place) array) →
    digit ≡ mark_digit (get_or array (from + (place - 1)) 0) player → byte * 2 + digit ≡ packed_from (8 - (place - 1)) 0 player (drop (from + (place - 1)) array)
turn byte place player from digit array low high so_far is =
    let left : 8 - (place - 1) ≡ suc (8 - place) = omega arith in
    let here : from + place ≡ suc (from + (place - 1)) = omega arith in
    rw (left, so_far, is, here) (packed_next (8 - place) player (from + (place - 1)) array)

pub loop-place-init : goal.loop-place-init
unfolding packed_from
loop-place-init c = refl

pub overflow_mul-byte : goal.overflow_mul-byte
overflow_mul-byte c =
    let a = c.args in
    let l = c.loop-place in
    omega (arith, packed_room l.place a.self.bit (drop (a.from + l.place) a.array.now) (omega arith))

pub overflow_add-byte : goal.overflow_add-byte
overflow_add-byte c =
    let a = c.args in
    let l = c.loop-place in
    omega (arith, packed_room l.place a.self.bit (drop (a.from + l.place) a.array.now) (omega arith), digit_small _ _ c.mark_digit.ensures)

pub loop-place-preserved : goal.loop-place-preserved
loop-place-preserved c =
    let a = c.args in
    let l = c.loop-place in
    turn l.byte l.place a.self.bit a.from c.mark_digit.result a.array.now (omega arith) (omega arith) l.invariant c.mark_digit.ensures
