-- Cells of rows: a cell of an XOR is the XOR of the cells, a cell of zeros is zeros, and the piece has the value in the point's cell and
-- zeros in the others. Assumes nothing.
use mathlib.Core.Path.{◌≡◌, refl, ap, ◌∙◌}
use mathlib.Core.Bool.{Bool, true, false, cond}
use mathlib.Core.List.{List, ◌∷◌, ◌++◌, append_assoc}
use Prim.Native.Nat.{ℕ, zero, suc, ◌+◌, ◌*◌, ◌-◌, ◌%◌, ◌≤◌, ◌<◌}
use native.Mathlib.Omega.{arith}
use native.Mathlib.Nat.{mul-le-mul_right}
use lib.Dec.{eqb, ltb}
use lib.ListN.{length, take, drop, length-append}
use lib.Seq.{take-append-le, drop-append-le, take_at, drop_at, drop-append-add}
use borrow.Author.Tests.{eqb-true, eqb-false, ltb-true, ltb-false}
use Rattle.xor.specs.Xor.{xors, zeros}
use Rattle.xor.proofs.Laws.{Word, take-xors, drop-xors, word_take, word_drop, word_zeros, word_append}
use Rattle.grid.specs.Grid.{Board, row_long, cell, piece}
use Rattle.grid.specs.Joining.{over, PieceCells}
use Rattle.grid.proofs.Facts.{BoardIn, board_in, cell_in, cell_fits}

-- PARTS OF ZEROS

pub take-zeros : (k n : ℕ) → k ≤ n → take k (zeros n) ≡ zeros k
unfolding zeros
take-zeros zero n h = refl
take-zeros (suc k) zero h = let none : ⊥ = omega arith in absurd none
take-zeros (suc k) (suc n) h = ap (λ (l : List ℕ). 0 ∷ l) (take-zeros k n (omega arith))

pub drop-zeros : (k n m : ℕ) → n ≡ k + m → drop k (zeros n) ≡ zeros m
unfolding zeros
drop-zeros zero n m e = let same : n ≡ m = omega arith in rw same
drop-zeros (suc k) zero m e = let none : ⊥ = omega arith in absurd none
drop-zeros (suc k) (suc n) m e = drop-zeros k n m (omega arith)

-- CELLS

pub cell_xors : (b : Board) (c : ℕ) (x y : List ℕ) → cell b c (xors x y) ≡ xors (cell b c x) (cell b c y)
unfolding cell
cell_xors b c x y = rw drop-xors (take-xors b.w (drop (c * b.w) x) (drop (c * b.w) y))

pub cell_zeros : (b : Board) (c : ℕ) → c < b.wide → cell b c (zeros (row_long b)) ≡ zeros b.w
unfolding cell
cell_zeros b c h =
    let fits : suc c * b.w ≤ row_long b = cell_fits b c h in
    rw (drop-zeros (c * b.w) (row_long b) (row_long b - c * b.w) (omega arith))
    (take-zeros b.w (row_long b - c * b.w) (omega arith))

pub cell_word : (b : Board) (c : ℕ) (x : List ℕ) → c < b.wide → Word (row_long b) x → Word b.w (cell b c x)
unfolding cell
cell_word b c x h g =
    let fits : suc c * b.w ≤ row_long b = cell_fits b c h in
    word_take b.w (drop (c * b.w) x) (omega arith) (word_drop (c * b.w) x g)

pub cell_over : (b : Board) (c k i : ℕ) (f : ℕ → List ℕ) → c < b.wide → cell b c (over k i (row_long b) f) ≡ over k i b.w (λ m. cell b c (f m))
unfolding over
cell_over b c zero i f h = cell_zeros b c h
cell_over b c (suc k) i f h =
    cell_xors b c (f i) (over k (suc i) (row_long b) f) ∙ ap (xors (cell b c (f i))) (cell_over b c k (suc i) f h)

-- THE PIECE: its row's bytes, and its cells

pub piece_word : (b : Board) → BoardIn b → (point : ℕ) (value : List ℕ) → Word b.w value → Word (row_long b) (piece b point value)
unfolding piece
piece_word b f a v g =
    let c : ℕ = a % b.wide in
    let fits : suc c * b.w ≤ row_long b = cell_fits b c (cell_in b f a) in
    let whole : c * b.w + b.w + (row_long b - suc c * b.w) ≡ row_long b = omega arith in
    rw whole at
    (word_append (zeros (c * b.w) ++ v) (zeros (row_long b - suc c * b.w))
    (word_append (zeros (c * b.w)) v (word_zeros (c * b.w)) g) (word_zeros (row_long b - suc c * b.w)))

-- `size` bytes from `at` on, of zeros, a value and zeros again: where `at` is the value's place, and before and after it
module _ (size before after : ℕ) (v : List ℕ) (long : length v ≡ size) where
  part_same : take size (drop before (zeros before ++ v ++ zeros after)) ≡ v
  part_same =
      rw (append_assoc (zeros before) v (zeros after), drop_at (zeros before) (v ++ zeros after) before (word_zeros before).long)
      (take_at v (zeros after) size long)

  part_before : (at : ℕ) → at + size ≤ before → take size (drop at (zeros before ++ v ++ zeros after)) ≡ zeros size
  part_before at h =
      let front : at ≤ length (zeros before) = omega (arith, (word_zeros before).long) in
      let rest : size ≤ length (zeros (before - at)) = omega (arith, (word_zeros (before - at)).long) in
      rw (append_assoc (zeros before) v (zeros after), drop-append-le at (zeros before) (v ++ zeros after) front)
      (rw (drop-zeros at before (before - at) (omega arith), take-append-le size (zeros (before - at)) (v ++ zeros after) rest)
      (take-zeros size (before - at) (omega arith)))

  part_after : (at : ℕ) → before + size ≤ at → at + size ≤ before + size + after
      → take size (drop at (zeros before ++ v ++ zeros after)) ≡ zeros size
  part_after at h l =
      let gone : ℕ = at - (before + size) in
      let front : length (zeros before ++ v) + gone ≡ at = omega (arith, length-append (zeros before) v, (word_zeros before).long) in
      rw (← front)
      (rw (drop-append-add (zeros before ++ v) (zeros after) gone, drop-zeros gone after (after - gone) (omega arith))
      (take-zeros size (after - gone) (omega arith)))

pub piece_cells : PieceCells
unfolding PieceCells cell piece
piece_cells b a c v accepted h long = same (eqb c place) refl
  where
    place : ℕ
    place = a % b.wide

    after : ℕ
    after = row_long b - suc place * b.w

    row : List ℕ
    row = zeros (place * b.w) ++ v ++ zeros after

    inside : suc c * b.w ≤ row_long b
    inside = cell_fits b c h

    point_inside : suc place * b.w ≤ row_long b
    point_inside = cell_fits b place (cell_in b (board_in b accepted) a)

    other : (t : Bool) → ltb c place ≡ t → (c ≡ place → ⊥) → take b.w (drop (c * b.w) row) ≡ zeros b.w
    other true e no_place =
        part_before b.w (place * b.w) after v long (c * b.w) (omega (arith, mul-le-mul_right b.w (ltb-true c place e)))
    other false e no_place =
        let above : suc place ≤ c = omega (arith, ltb-false c place e) in
        part_after b.w (place * b.w) after v long (c * b.w) (omega (arith, mul-le-mul_right b.w above)) (omega (arith, inside, point_inside))

    same : (t : Bool) → eqb c place ≡ t → take b.w (drop (c * b.w) row) ≡ cond t v (zeros b.w)
    same true e = rw (eqb-true c place e) (part_same b.w (place * b.w) after v long)
    same false e = other (ltb c place) refl (eqb-false c place e)
