-- Parts of a lent string as the code cuts them out: from a place to another, and from a place to the end. Assumes nothing.
use mathlib.Core.Path.{◌≡◌, sym, ap, ◌∙◌}
use mathlib.Core.List.{List, ◌++◌, append_assoc}
use Prim.Native.Nat.{ℕ, suc, ◌+◌, ◌*◌, ◌-◌, ◌≤◌, ◌<◌}
use native.Mathlib.Omega.{arith}
use native.Mathlib.Nat.{zero-add, suc-mul, mul-le-mul_right}
use lib.ListN.{length, take, drop, length-drop}
use lib.Seq.{length-take-le, take_all, take-take, drop-drop}
use Rattle.writer.specs.Written.{written}
use Rattle.writer.proofs.Laws.{front_end, written_front}

-- from a place on, up to n bytes behind it, are n bytes
pub part_long : (from n : ℕ) → from + n - from ≡ n
part_long from n = omega arith

pub part_whole : (from n : ℕ) (xs : List ℕ) → from + n ≤ length xs → length (take (from + n - from) (drop from xs)) ≡ n
part_whole from n xs h = rw (part_long from n) (length-take-le n (drop from xs) (rw length-drop (omega arith)))

-- from a place to the end
pub rest_is : (from : ℕ) (xs : List ℕ) → take (length xs - from) (drop from xs) ≡ drop from xs
rest_is from xs = take_all (length xs - from) (drop from xs) (rw length-drop (omega arith))

pub rest_long : (from n : ℕ) (xs : List ℕ) → from + n ≤ length xs → n ≤ length (take (length xs - from) (drop from xs))
rest_long from n xs h = rw (rest_is from xs, length-drop) (omega arith)

-- of n parts of one length, one behind another, each stands inside the whole
pub part_within : (k n w : ℕ) → k < n → k * w + w ≤ n * w
part_within k n w h = omega (arith, suc-mul k w, mul-le-mul_right {m = suc k} {n = n} w (omega arith))

-- such a part as the code cuts it out
pub part_cut : (k w from : ℕ) (xs : List ℕ) → from ≡ k * w → take (from + w - from) (drop from xs) ≡ take w (drop (k * w) xs)
part_cut k w from xs e = rw (part_long from w, e)

-- a part of a part
pub part_of_part : (from count at l : ℕ) (xs : List ℕ) → from + count ≤ l → at + from ≤ length xs →
    take count (drop from (take l (drop at xs))) ≡ take count (drop (at + from) xs)
part_of_part from count at l xs inside within =
    let more : l ≡ from + (l - from) = omega arith in
    let enough : count ≤ l - from = omega arith in
    ap (λ (n : ℕ). take count (drop from (take n (drop at xs)))) more
    ∙ ap (take count) (front_end from (l - from) (drop at xs) (rw length-drop (omega arith)))
    ∙ take-take count (l - from) (drop from (drop at xs)) enough
    ∙ ap (take count) (drop-drop from at xs)

-- what is written at the front of what stands behind a place is written at that place
pub behind_written : (at : ℕ) (new old : List ℕ) → take at old ++ written 0 new (drop at old) ≡ written at new old
unfolding written
behind_written at new old =
    rw (written_front new (drop at old), drop-drop (length new) at old) (sym (append_assoc (take at old) new (drop (at + length new) old)))

-- the bytes that stand before a place, written behind it, by the two parts that are cut there
pub again_written : (at from count : ℕ) (old before behind now : List ℕ) → from + count ≤ at → at ≤ length old → before ≡ take at old → behind ≡ drop at old →
    now ≡ written 0 (take (from + count - from) (drop from before)) behind → before ++ now ≡ written at (take count (drop from old)) old
again_written at from count old before behind now inside within front back says =
    let copied : take (from + count - from) (drop from before) ≡ take count (drop from old) =
    rw (part_long from count, front) (part_of_part from count 0 at old inside (omega arith) ∙ ap (λ (n : ℕ). take count (drop n old)) (zero-add from)) in
    rw (says, copied, front, back) (behind_written at (take count (drop from old)) old)
