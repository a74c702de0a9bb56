-- What an accepted key holds: where a grid row begins, and that a marked column's 32 bytes stand inside it.
-- Assumes nothing.
use mathlib.Core.Path.{◌≡◌, refl, sym, ap, ◌∙◌}
use mathlib.Core.Bool.{Bool, true, false, ◌&&◌, cond}
use mathlib.Core.List.{List, []}
use Prim.Native.Nat.{ℕ, zero, suc, ◌+◌, ◌*◌, ◌-◌, ◌/◌, ◌%◌, ◌≤◌, ◌<◌}
use native.Mathlib.Nat.{add-zero, zero-add, add_assoc, mul-le-mul_right}
use native.Mathlib.Omega.{arith}
use borrow.Author.Tests.{ltb-true, eqb-true}
use lib.Dec.{eqb, ltb}
use lib.ListN.{length, get_or, take, drop, length-drop}
use lib.Seq.{drop_at, drop-drop, length-take-le}
use Rattle.xor.specs.Xor.{bytes_good}
use Rattle.xor.proofs.Laws.{and_left, and_right}
use Rattle.grid.specs.Grid.{Board, columns, grid_rows, bit}
use Rattle.grid.proofs.Facts.{columns_pos}
use Rattle.keys.specs.Keys.{header, mark_bytes, count_marks, stride, head_in, key_refusal, grid_row_part}
use Rattle.keys.specs.Held.{marked, seed_from, holds, held_seed, held_seed_place, PlaceHolds}
use Rattle.keys.proofs.Numbers.{header_again}
use Rattle.keys.proofs.Accepted.{KeyIn, key_in}
use Rattle.keys.proofs.Opening.{tests_at}

-- COUNTS

count_split : (k m j : ℕ) (ps : List ℕ) → count_marks (k + m) j ps ≡ count_marks k j ps + count_marks m (j + k) ps
unfolding count_marks
count_split zero m j ps = rw (zero-add m, zero-add, add-zero)
count_split (suc k) m j ps =
    let more : suc k + m ≡ suc (k + m) = omega arith in
    let next : suc j + k ≡ j + suc k = omega arith in
    rw more
    (ap (λ (n : ℕ). cond (bit (get_or ps (j / 8) 0) (j % 8)) 1 0 + n) (count_split k m (suc j) ps ∙ rw next)
    ∙ sym (add_assoc (cond (bit (get_or ps (j / 8) 0) (j % 8)) 1 0) (count_marks k (suc j) ps) (count_marks m (j + suc k) ps)))

-- a marked column leaves room for its own seed
pub count_before : (ps : List ℕ) (j n : ℕ) → j < n → marked ps j ≡ true → suc (count_marks j 0 ps) ≤ count_marks n 0 ps
unfolding count_marks marked
count_before ps j n h m =
    let rest = n - suc j in
    let whole : n ≡ j + suc rest = omega arith in
    let here : 0 + j ≡ j = omega arith in
    let sum = rw (← whole, here, m) at (count_split j (suc rest) 0 ps) in omega arith

-- WHERE A GRID ROW BEGINS

-- behind the header, in the key itself
pub row_place : (ks : List ℕ) (g : ℕ) → bytes_good ks ≡ true → KeyIn ks
    → grid_row_part (head_in ks).board (head_in ks).rest g
    ≡ drop (length (header (head_in ks).board (head_in ks).player) + g * stride (head_in ks).board) ks
unfolding grid_row_part
row_place ks g good k =
    let b = (head_in ks).board in
    let front = header b (head_in ks).player in
    let behind : (head_in ks).rest ≡ drop (length front) ks = sym (ap (λ (l : List ℕ). drop (length front) l) (header_again ks good k.header_good) ∙ drop_at front (head_in ks).rest (length front) refl) in
    ap (λ (l : List ℕ). drop (g * stride b) l) behind ∙ drop-drop (g * stride b) (length front) ks

-- THE FOUR THINGS THAT A HELD SEED ASKS
record Holds (ks : List ℕ) (g j : ℕ) : Type 0 where
  pub none : key_refusal ks ≡ 0
  pub row : g < grid_rows (head_in ks).board
  pub column : j < columns (head_in ks).board
  pub mark : marked (grid_row_part (head_in ks).board (head_in ks).rest g) j ≡ true

holds_in : (ks : List ℕ) (g j : ℕ) → holds ks g j ≡ true → Holds ks g j
unfolding holds
holds_in ks g j h =
    let b = (head_in ks).board in
    let m = marked (grid_row_part b (head_in ks).rest g) j in
    let inner = ltb j (columns b) && m in
    let behind = and_right (eqb (key_refusal ks) 0) (ltb g (grid_rows b) && inner) h in
    let last = and_right (ltb g (grid_rows b)) inner behind in
    record {
      none = eqb-true (key_refusal ks) 0 (and_left (eqb (key_refusal ks) 0) (ltb g (grid_rows b) && inner) h);
      row = ltb-true g (grid_rows b) (and_left (ltb g (grid_rows b)) inner behind);
      column = ltb-true j (columns b) (and_left (ltb j (columns b)) m last);
      mark = and_right (ltb j (columns b)) m last;
    }

stride_is : (b : Board) → stride b ≡ mark_bytes b + 16 * columns b
unfolding stride
stride_is b = refl

-- a held seed ends inside its grid row, and so inside the key
seed_inside : (ks : List ℕ) (g j : ℕ) → Holds ks g j
    → length (header (head_in ks).board (head_in ks).player) + g * stride (head_in ks).board
    + seed_from (head_in ks).board (grid_row_part (head_in ks).board (head_in ks).rest g) j + 32 ≤ length ks
unfolding seed_from
seed_inside ks g j s =
    let b = (head_in ks).board in
    let part = grid_row_part b (head_in ks).rest g in
    let k = key_in ks s.none in
    let half : count_marks (columns b) 0 part ≡ columns b / 2 = tests_at (grid_rows b) g b (head_in ks).rest s.row k.marks in
    let before : suc (count_marks j 0 part) ≤ count_marks (columns b) 0 part = count_before part j (columns b) s.column s.mark in
    let rows : suc g * stride b ≤ grid_rows b * stride b = mul-le-mul_right (stride b) s.row in
    let room : mark_bytes b + 32 * count_marks j 0 part + 32 ≤ stride b = omega (arith, stride_is b) in
    let next : suc g * stride b ≡ g * stride b + stride b = omega arith in omega (arith, k.long)

-- BY THE PLACE: 0 where nothing is held, since marks stand before every seed
module _ (ks : List ℕ) (g j : ℕ) where
  pub place_zero : held_seed_place ks g j ≡ 0 → holds ks g j ≡ false
  unfolding held_seed_place seed_from mark_bytes
  place_zero e = go (holds ks g j) refl
    where
      go : (t : Bool) → holds ks g j ≡ t → holds ks g j ≡ false
      go true h = let z = rw h at e in absurd (omega (arith, columns_pos (head_in ks).board))
      go false h = h

  pub seed_none : held_seed_place ks g j ≡ 0 → [] ≡ held_seed ks g j
  unfolding held_seed
  seed_none e = rw (place_zero e)

  place_held : (held_seed_place ks g j ≡ 0 → ⊥) → holds ks g j ≡ true
  unfolding held_seed_place
  place_held z = go (holds ks g j) refl
    where
      go : (t : Bool) → holds ks g j ≡ t → holds ks g j ≡ true
      go true h = h
      go false h = absurd (z (rw h))

  pub place_inside : (held_seed_place ks g j ≡ 0 → ⊥) → held_seed_place ks g j + 32 ≤ length ks
  unfolding held_seed_place
  place_inside z = rw (place_held z) (seed_inside ks g j (holds_in ks g j (place_held z)))

  pub seed_there : bytes_good ks ≡ true → (held_seed_place ks g j ≡ 0 → ⊥) → take 32 (drop (held_seed_place ks g j) ks) ≡ held_seed ks g j
  unfolding held_seed_place held_seed
  seed_there good z =
      let s = holds_in ks g j (place_held z) in
      let b = (head_in ks).board in
      let from = length (header b (head_in ks).player) + g * stride b in
      let seed = seed_from b (grid_row_part b (head_in ks).rest g) j in
      rw (place_held z, ← drop-drop seed from ks, ← row_place ks g good (key_in ks s.none))

  -- what is held has 32 bytes
  pub held_long : bytes_good ks ≡ true → (held_seed_place ks g j ≡ 0 → ⊥) → length (held_seed ks g j) ≡ 32
  held_long good z =
      rw (← seed_there good z)
      (length-take-le 32 (drop (held_seed_place ks g j) ks) (omega (arith, place_inside z, length-drop (held_seed_place ks g j) ks)))

  -- where nothing is held the place is 0
  pub nowhere : holds ks g j ≡ false → 0 ≡ held_seed_place ks g j
  unfolding held_seed_place
  nowhere e = rw e

-- so the place is where the seed stands
pub place_holds : PlaceHolds
unfolding PlaceHolds
place_holds ks g j good =
    record { inside = place_inside ks g j; there = seed_there ks g j good; none = λ e. sym (seed_none ks g j e) }
