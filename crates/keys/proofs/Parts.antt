-- A key's parts: parts that are good are read back as they were written, an accepted key's parts are good, and write that key again.
-- Assumes nothing.
use mathlib.Core.Path.{◌≡◌, refl, sym, ap, ◌∙◌}
use mathlib.Core.Bool.{Bool, true, ◌&&◌}
use mathlib.Core.List.{List, [], ◌∷◌, ◌++◌, append_assoc}
use Prim.Native.Nat.{ℕ, zero, suc, ◌+◌, ◌*◌, ◌-◌, ◌/◌, ◌≤◌, ◌<◌}
use native.Mathlib.Omega.{arith}
use lib.Dec.{eqb}
use lib.ListN.{length, take, drop, length-append, length-drop, take-append-drop}
use lib.Seq.{drop-drop, take_at, drop_at, take-add, length-take-le}
use borrow.Author.Tests.{eqb-true, eq-eqb}
use Rattle.xor.specs.Xor.{bytes_good}
use Rattle.xor.proofs.Laws.{Word, and_left, and_right, and_both, good_append, good_drop}
use Rattle.grid.specs.Grid.{Board, columns, each_long}
use Rattle.grid.proofs.Facts.{BoardIn, columns_half}
use Rattle.keys.specs.Keys.{mark_bytes, count_marks, spare_from, stride, marks_good, glued, words_from, marks_in, marks_of_grid_rows, seeds_of_grid_rows, packed_marks, grid_rows_written}
use Rattle.keys.proofs.Lists.{length_words, glue_words, each_append, each_drop, each_take, each_words, length-glued, good_glued, words_glue}
use Rattle.keys.proofs.Marks.{marks_set, count_marks_is, length_marks, packed_marks_back, marks_read_back, spare_read_back, length-packed, good_packed}

-- SIZES of a grid row

-- columns go in pairs
pub columns_even : (b : Board) → BoardIn b → columns b ≡ columns b / 2 + columns b / 2
columns_even b f = omega (arith, columns_half b f)

-- the mark bytes have room for all columns
pub marks_fit : (b : Board) → columns b ≤ 8 * mark_bytes b
unfolding mark_bytes
marks_fit b = omega arith

-- a grid row is its mark bytes and J/2 seeds
pub stride_is : (b : Board) → BoardIn b → stride b ≡ mark_bytes b + columns b / 2 * 32
unfolding stride
stride_is b f = omega (arith, columns_even b f)

-- GRID ROWS of marks and held seeds

-- k grid rows: J marks each, half of them set, and as many seeds
pub record RowsGood (k : ℕ) (b : Board) (ms : List Bool) (ss : List (List ℕ)) : Type 0 where
  pub marks_long : length ms ≡ k * columns b
  pub half : (g : ℕ) → g < k → marks_set (take (columns b) (drop (g * columns b) ms)) ≡ columns b / 2
  pub seeds_long : length ss ≡ k * (columns b / 2)
  pub seeds_good : each_long 32 ss ≡ true

-- the first grid row, and the others
pub first_half : (k : ℕ) (b : Board) (ms : List Bool) (ss : List (List ℕ)) → RowsGood (suc k) b ms ss → marks_set (take (columns b) ms) ≡ columns b / 2
first_half k b ms ss r = let none : 0 * columns b ≡ 0 = omega arith in rw none at (r.half 0 (omega arith))

pub rows_tail : (k : ℕ) (b : Board) (ms : List Bool) (ss : List (List ℕ)) → RowsGood (suc k) b ms ss →
    RowsGood k b (drop (columns b) ms) (drop (columns b / 2) ss)
rows_tail k b ms ss r =
    record {
      marks_long = length-drop (columns b) ms ∙ omega (arith, r.marks_long);
      half = λ g h. (let next : columns b + g * columns b ≡ suc g * columns b = omega arith in rw (drop-drop (g * columns b) (columns b) ms, next) (r.half (suc g) (omega arith)));
      seeds_long = length-drop (columns b / 2) ss ∙ omega (arith, r.seeds_long);
      seeds_good = each_drop 32 (columns b / 2) ss r.seeds_good;
    }

pub rows_cons : (k : ℕ) (b : Board) (m ms : List Bool) (s ss : List (List ℕ)) → length m ≡ columns b → marks_set m ≡ columns b / 2 →
    length s ≡ columns b / 2 → each_long 32 s ≡ true → RowsGood k b ms ss → RowsGood (suc k) b (m ++ ms) (s ++ ss)
rows_cons k b m ms s ss e h f w r =
    record {
      marks_long = length-append m ms ∙ omega (arith, r.marks_long);
      half = half_of;
      seeds_long = length-append s ss ∙ omega (arith, r.seeds_long);
      seeds_good = each_append 32 s ss w r.seeds_good;
    }
  where
    half_of : (g : ℕ) → g < suc k → marks_set (take (columns b) (drop (g * columns b) (m ++ ms))) ≡ columns b / 2
    half_of zero g = let none : zero * columns b ≡ zero = omega arith in rw (none, take_at m ms (columns b) e) h
    half_of (suc g) l =
        let next : suc g * columns b ≡ columns b + g * columns b = omega arith in
        rw (next, ← drop-drop (g * columns b) (columns b) (m ++ ms), drop_at m ms (columns b) e) (r.half g (omega arith))

-- WRITTEN AND READ BACK

-- one grid row in front of the others
module _ (b : Board) (f : BoardIn b) (k : ℕ) (ms : List Bool) (ss : List (List ℕ)) (r : RowsGood (suc k) b ms ss) (rest : List ℕ) where
  abbrev row_marks : List ℕ
  row_marks = packed_marks (mark_bytes b) (take (columns b) ms)

  abbrev grid_row_seeds : List ℕ
  grid_row_seeds = glued (take (columns b / 2) ss)

  abbrev later : List ℕ
  later = grid_rows_written k b (drop (columns b) ms) (drop (columns b / 2) ss) ++ rest

  row_first : grid_rows_written (suc k) b ms ss ++ rest ≡ row_marks ++ grid_row_seeds ++ later
  unfolding grid_rows_written
  row_first =
      append_assoc (row_marks ++ grid_row_seeds) (grid_rows_written k b (drop (columns b) ms) (drop (columns b / 2) ss)) rest

  first_marks_long : length (take (columns b) ms) ≡ columns b
  first_marks_long = length-take-le (columns b) ms (omega (arith, r.marks_long))

  first_seeds_long : length (take (columns b / 2) ss) ≡ columns b / 2
  first_seeds_long = length-take-le (columns b / 2) ss (omega (arith, r.seeds_long))

  grid_row_seeds_long : length grid_row_seeds ≡ columns b / 2 * 32
  grid_row_seeds_long =
      length-glued 32 (take (columns b / 2) ss) (each_take 32 (columns b / 2) ss r.seeds_good) ∙ ap (λ (n : ℕ). n * 32) first_seeds_long

  row_long_is : length (row_marks ++ grid_row_seeds) ≡ stride b
  row_long_is =
      length-append row_marks grid_row_seeds ∙ omega (arith, length-packed (mark_bytes b) (take (columns b) ms), grid_row_seeds_long, stride_is b f)

  later_read : drop (stride b) (row_marks ++ grid_row_seeds ++ later) ≡ later
  later_read = drop_at (row_marks ++ grid_row_seeds) later (stride b) row_long_is

  first_marks_read : marks_in (columns b) 0 (row_marks ++ grid_row_seeds ++ later) ≡ take (columns b) ms
  first_marks_read =
      rw (append_assoc row_marks grid_row_seeds later)
      (marks_read_back (mark_bytes b) (columns b) (take (columns b) ms) (grid_row_seeds ++ later) first_marks_long (marks_fit b))

  first_seeds_read : words_from (columns b / 2) 32 (drop (mark_bytes b) (row_marks ++ grid_row_seeds ++ later)) ≡ take (columns b / 2) ss
  first_seeds_read =
      rw (
        append_assoc row_marks grid_row_seeds later,
        drop_at row_marks (grid_row_seeds ++ later) (mark_bytes b) (length-packed (mark_bytes b) (take (columns b) ms)),
      )
      (words_glue (columns b / 2) 32 (take (columns b / 2) ss) later first_seeds_long (each_take 32 (columns b / 2) ss r.seeds_good))

  first_row_good : (eqb (count_marks (columns b) 0 (row_marks ++ grid_row_seeds ++ later)) (columns b / 2)
      && spare_from (8 * mark_bytes b - columns b) (columns b) (row_marks ++ grid_row_seeds ++ later)) ≡ true
  first_row_good =
      let whole = row_marks ++ grid_row_seeds ++ later in
      let counted : count_marks (columns b) 0 whole ≡ columns b / 2 =
      count_marks_is (columns b) 0 whole ∙ ap marks_set first_marks_read ∙ first_half k b ms ss r in
      and_both (eqb (count_marks (columns b) 0 whole) (columns b / 2)) (spare_from (8 * mark_bytes b - columns b) (columns b) whole)
      (eq-eqb (count_marks (columns b) 0 whole) (columns b / 2) counted)
      (rw (append_assoc row_marks grid_row_seeds later)
      (spare_read_back (mark_bytes b) (columns b) (take (columns b) ms) (grid_row_seeds ++ later) first_marks_long (marks_fit b)))

nothing {ℓ} : {A : Type ℓ} (xs : List A) → length xs ≡ 0 → [] ≡ xs
nothing [] e = refl
nothing (x ∷ xs) e = let none : ⊥ = omega arith in absurd none

pub marks_back : (k : ℕ) (b : Board) (ms : List Bool) (ss : List (List ℕ)) (rest : List ℕ) → BoardIn b → RowsGood k b ms ss →
    marks_of_grid_rows k b (grid_rows_written k b ms ss ++ rest) ≡ ms
unfolding marks_of_grid_rows
marks_back zero b ms ss rest f r = nothing ms (omega (arith, r.marks_long))
marks_back (suc k) b ms ss rest f r =
    rw (
      row_first b f k ms ss r rest,
      later_read b f k ms ss r rest,
      first_marks_read b f k ms ss r rest,
      marks_back k b (drop (columns b) ms) (drop (columns b / 2) ss) rest f (rows_tail k b ms ss r),
    )
    (take-append-drop (columns b) ms)

pub seeds_back : (k : ℕ) (b : Board) (ms : List Bool) (ss : List (List ℕ)) (rest : List ℕ) → BoardIn b → RowsGood k b ms ss →
    seeds_of_grid_rows k b (grid_rows_written k b ms ss ++ rest) ≡ ss
unfolding seeds_of_grid_rows
seeds_back zero b ms ss rest f r = nothing ss (omega (arith, r.seeds_long))
seeds_back (suc k) b ms ss rest f r =
    rw (
      row_first b f k ms ss r rest,
      later_read b f k ms ss r rest,
      first_seeds_read b f k ms ss r rest,
      seeds_back k b (drop (columns b) ms) (drop (columns b / 2) ss) rest f (rows_tail k b ms ss r),
    )
    (take-append-drop (columns b / 2) ss)

pub marks_good_back : (k : ℕ) (b : Board) (ms : List Bool) (ss : List (List ℕ)) (rest : List ℕ) → BoardIn b → RowsGood k b ms ss →
    marks_good k b (grid_rows_written k b ms ss ++ rest) ≡ true
unfolding marks_good
marks_good_back zero b ms ss rest f r = refl
marks_good_back (suc k) b ms ss rest f r =
    rw (row_first b f k ms ss r rest, first_row_good b f k ms ss r rest, later_read b f k ms ss r rest)
    (marks_good_back k b (drop (columns b) ms) (drop (columns b / 2) ss) rest f (rows_tail k b ms ss r))

-- k grid rows have k strides of bytes
pub rows_word : (k : ℕ) (b : Board) (ms : List Bool) (ss : List (List ℕ)) → BoardIn b → RowsGood k b ms ss →
    Word (k * stride b) (grid_rows_written k b ms ss)
unfolding grid_rows_written bytes_good
rows_word zero b ms ss f r = record { long = omega arith; good = refl }
rows_word (suc k) b ms ss f r =
    let first = packed_marks (mark_bytes b) (take (columns b) ms) ++ glued (take (columns b / 2) ss) in
    let others = grid_rows_written k b (drop (columns b) ms) (drop (columns b / 2) ss) in
    let ih = rows_word k b (drop (columns b) ms) (drop (columns b / 2) ss) f (rows_tail k b ms ss r) in
    record {
      long = length-append first others ∙ omega (arith, row_long_is b f k ms ss r [], ih.long);
      good = good_append first others
          (good_append (packed_marks (mark_bytes b) (take (columns b) ms)) (glued (take (columns b / 2) ss))
          (good_packed (mark_bytes b) (take (columns b) ms)) (good_glued 32 (take (columns b / 2) ss) (each_take 32 (columns b / 2) ss r.seeds_good)))
          ih.good;
    }

-- READ AND WRITTEN AGAIN

-- a grid row's test
pub row_tests : (k : ℕ) (b : Board) (bs : List ℕ) → marks_good (suc k) b bs ≡ true →
    (count_marks (columns b) 0 bs ≡ columns b / 2) × (spare_from (8 * mark_bytes b - columns b) (columns b) bs ≡ true) × (marks_good k b (drop (stride b) bs) ≡ true)
unfolding marks_good
row_tests k b bs h =
    let counted = eqb (count_marks (columns b) 0 bs) (columns b / 2) in
    let spare = spare_from (8 * mark_bytes b - columns b) (columns b) bs in
    let others = marks_good k b (drop (stride b) bs) in
    let first = and_left (counted && spare) others h in
    (eqb-true (count_marks (columns b) 0 bs) (columns b / 2) (and_left counted spare first), and_right counted spare first, and_right (counted && spare) others h)

-- the grid rows of an accepted key are good
pub rows_read_good : (k : ℕ) (b : Board) (bs : List ℕ) → BoardIn b → k * stride b ≤ length bs → bytes_good bs ≡ true → marks_good k b bs ≡ true →
    RowsGood k b (marks_of_grid_rows k b bs) (seeds_of_grid_rows k b bs)
unfolding marks_of_grid_rows seeds_of_grid_rows each_long
rows_read_good zero b bs f h g t =
    record { marks_long = omega arith; half = λ g h. let none : ⊥ = omega arith in absurd none; seeds_long = omega arith; seeds_good = refl }
rows_read_good (suc k) b bs f h g t =
    let tests = row_tests k b bs t in
    let size = stride_is b f in
    rows_cons k b (marks_in (columns b) 0 bs) (marks_of_grid_rows k b (drop (stride b) bs))
    (words_from (columns b / 2) 32 (drop (mark_bytes b) bs)) (seeds_of_grid_rows k b (drop (stride b) bs))
    (length_marks (columns b) 0 bs) (sym (count_marks_is (columns b) 0 bs) ∙ tests.0) (length_words (columns b / 2) 32 (drop (mark_bytes b) bs))
    (each_words (columns b / 2) 32 (drop (mark_bytes b) bs) (rw length-drop (omega arith)) (good_drop (mark_bytes b) bs g))
    (rows_read_good k b (drop (stride b) bs) f (rw length-drop (omega arith)) (good_drop (stride b) bs g) tests.2)

-- and write the same bytes again
pub rows_again : (k : ℕ) (b : Board) (bs : List ℕ) → BoardIn b → k * stride b ≤ length bs → bytes_good bs ≡ true → marks_good k b bs ≡ true →
    grid_rows_written k b (marks_of_grid_rows k b bs) (seeds_of_grid_rows k b bs) ≡ take (k * stride b) bs
unfolding marks_of_grid_rows seeds_of_grid_rows grid_rows_written
rows_again zero b bs f h g t = let none : zero * stride b ≡ zero = omega arith in rw none
rows_again (suc k) b bs f h g t =
    let tests = row_tests k b bs t in
    let size = stride_is b f in
    let marks = marks_in (columns b) 0 bs in
    let seeds = words_from (columns b / 2) 32 (drop (mark_bytes b) bs) in
    let marks_later = marks_of_grid_rows k b (drop (stride b) bs) in
    let seeds_later = seeds_of_grid_rows k b (drop (stride b) bs) in
    let marks_long = length_marks (columns b) 0 bs in
    let seeds_long = length_words (columns b / 2) 32 (drop (mark_bytes b) bs) in
    let next : suc k * stride b ≡ stride b + k * stride b = omega arith in
    rw (take_at marks marks_later (columns b) marks_long, drop_at marks marks_later (columns b) marks_long)
    (rw (take_at seeds seeds_later (columns b / 2) seeds_long, drop_at seeds seeds_later (columns b / 2) seeds_long)
    (rw (packed_marks_back (mark_bytes b) (columns b) bs g (omega arith) (marks_fit b) tests.1, glue_words (columns b / 2) 32 (drop (mark_bytes b) bs))
    (rw (← take-add (mark_bytes b) (columns b / 2 * 32) bs, ← size, next)
    (rw (rows_again k b (drop (stride b) bs) f (rw length-drop (omega arith)) (good_drop (stride b) bs g) tests.2) (sym (take-add (stride b) (k * stride b) bs))))))
