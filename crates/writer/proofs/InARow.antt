-- The laws of strings laid one behind another. Assumes nothing.
use mathlib.Core.Path.{◌≡◌, refl, sym, ap, ◌∙◌}
use mathlib.Core.List.{List, ◌++◌, append_assoc, append-nil}
use Prim.Native.Nat.{ℕ, zero, suc, ◌+◌, ◌*◌, ◌≤◌, ◌<◌}
use native.Mathlib.Omega.{arith}
use lib.ListN.{length, take, drop, replicate, length-append, replicate-append-replicate}
use lib.Seq.{take_at, drop_at, drop-drop}
use Rattle.writer.specs.InARow.{in_a_row}

pub row_same : (k i : ℕ) (F G : ℕ → List ℕ) → ((j : ℕ) → i ≤ j → j < i + k → F j ≡ G j) → in_a_row k i F ≡ in_a_row k i G
unfolding in_a_row
row_same zero i F G h = refl
row_same (suc k) i F G h = rw (h i (omega arith) (omega arith), row_same k (suc i) F G (λ j p q. h j (omega arith) (omega arith)))

-- strings of one length make a string of k times that length
pub row_long : (l k i : ℕ) (F : ℕ → List ℕ) → ((j : ℕ) → i ≤ j → j < i + k → length (F j) ≡ l) → length (in_a_row k i F) ≡ k * l
unfolding in_a_row
row_long l zero i F h = omega arith
row_long l (suc k) i F h =
    length-append (F i) (in_a_row k (suc i) F)
    ∙ omega (arith, h i (omega arith) (omega arith), row_long l k (suc i) F (λ j p q. h j (omega arith) (omega arith)))

-- and are found again by their place
pub row_at : (l k i m : ℕ) (F : ℕ → List ℕ) → ((j : ℕ) → i ≤ j → j < i + k → length (F j) ≡ l) → m < k → take l (drop (m * l) (in_a_row k i F)) ≡ F (i + m)
unfolding in_a_row
row_at l zero i m F h p = let none : ⊥ = omega arith in absurd none
row_at l (suc k) i zero F h p =
    let none : zero * l ≡ zero = omega arith in
    let here : i + zero ≡ i = omega arith in
    rw (none, here) (take_at (F i) (in_a_row k (suc i) F) l (h i (omega arith) (omega arith)))
row_at l (suc k) i (suc m) F h p =
    let next : suc m * l ≡ l + m * l = omega arith in
    let later : i + suc m ≡ suc i + m = omega arith in
    rw (next, later, ← drop-drop (m * l) l (F i ++ in_a_row k (suc i) F), drop_at (F i) (in_a_row k (suc i) F) l (h i (omega arith) (omega arith)))
    (row_at l k (suc i) m F (λ j a b. h j (omega arith) (omega arith)) (omega arith))

pub row_split : (m k i : ℕ) (F : ℕ → List ℕ) → in_a_row (m + k) i F ≡ in_a_row m i F ++ in_a_row k (i + m) F
unfolding in_a_row
row_split zero k i F =
    let all : zero + k ≡ k = omega arith in
    let here : i + zero ≡ i = omega arith in
    rw (all, here)
row_split (suc m) k i F =
    let more : suc m + k ≡ suc (m + k) = omega arith in
    let later : i + suc m ≡ suc i + m = omega arith in
    rw (more, later, row_split m k (suc i) F) (sym (append_assoc (F i) (in_a_row m (suc i) F) (in_a_row k (suc i + m) F)))

-- one more of them
pub row_next : (k i : ℕ) (F : ℕ → List ℕ) → in_a_row (k + 1) i F ≡ in_a_row k i F ++ F (i + k)
unfolding in_a_row
row_next k i F = row_split k 1 i F ∙ ap (λ (r : List ℕ). in_a_row k i F ++ r) (append-nil (F (i + k)))

-- one byte again and again
pub row_repeat : (l k i byte : ℕ) → in_a_row k i (λ j. replicate l byte) ≡ replicate (k * l) byte
unfolding in_a_row
row_repeat l zero i byte = let none : zero * l ≡ zero = omega arith in rw none
row_repeat l (suc k) i byte =
    let first : suc k * l ≡ l + k * l = omega arith in
    rw (row_repeat l k (suc i) byte, first) (replicate-append-replicate l (k * l) byte)
