-- The place of a held seed in a key: it does not overflow, and each way out of the search for it. Assumes nothing.
use mathlib.Core.Path.{◌≡◌, sym, ap, ◌∙◌}
use mathlib.Core.Bool.{Bool, true, false, not}
use mathlib.Core.List.{List}
use Prim.Native.Nat.{ℕ, ◌+◌, ◌*◌, ◌≤◌, ◌<◌}
use native.Mathlib.Omega.{arith}
use borrow.Author.Tests.{eq-eqb, ne_eqb, le-ltb, lt-ltb, not-false}
use lib.ListN.{length, drop}
use Rattle.xor.specs.Xor.{bytes_good}
use Rattle.grid.specs.Grid.{columns, grid_rows}
use Rattle.grid.specs.Code.{board_of}
use Rattle.keys.specs.Keys.{header, stride, head_in, key_refusal, grid_row_part}
use Rattle.keys.specs.Held.{marked, seed_from, holds, held_seed_place}
use Rattle.keys.proofs.Counting.{count_most}
use Rattle.keys.proofs.Accepted.{key_in}
use Rattle.keys.proofs.Holding.{row_place}
use Rattle.key_header.specs.declared.header.Heading.{Heading}
use Rattle.key_header.specs.Answers.{KeyCheck, checked_by}
use Rattle.key_header.proofs.Lengths.{header_most}
use Rattle.key_header.proofs.Reading.{Says, refused_says, header_ends}
use Rattle.key_lengths.proofs.Lengths.{columns_in, mark_bytes_in, row_in}

-- THE WAYS OUT of the search for the place
module _ (ks : List ℕ) (g j : ℕ) where
  pub no_key : (n : ℕ) → KeyCheck.Refused n ≡ checked_by (key_refusal ks) ks → holds ks g j ≡ false
  unfolding holds
  no_key n e = rw (ne_eqb (key_refusal ks) 0 (refused_says ks n _ e).1)

  module _ (h : Heading) (a : Says (key_refusal ks) ks h) where
    -- no place overflows
    pub row_short : g ≤ grid_rows (board_of h.board) → g * stride (board_of h.board) ≤ 132096
    row_short row = row_in (board_of h.board) h.board.accepted g row

    pub header_short : bytes_good ks ≡ true → h.end ≤ 15
    header_short good =
        omega (arith, header_ends ks h _ a good (key_in ks a.none).header_good, header_most (head_in ks).board (head_in ks).player)

    pub seed_short : (s : ℕ) (part : List ℕ) → s ≡ seed_from (board_of h.board) part j → j ≤ columns (board_of h.board) → s ≤ 1028
    unfolding seed_from
    seed_short s part e column =
        let b = board_of h.board in
        omega (arith, columns_in b h.board.accepted, mark_bytes_in b h.board.accepted, count_most j 0 part)

    pub no_row : (rows : ℕ) → rows ≡ grid_rows (board_of h.board) → rows ≤ g → holds ks g j ≡ false
    unfolding holds
    no_row rows e p =
        let same : rows ≡ grid_rows (head_in ks).board = rw a.board_is e in
        rw (eq-eqb (key_refusal ks) 0 a.none, le-ltb g (grid_rows (head_in ks).board) (omega arith))

    module _ (rows : ℕ) (all_rows : rows ≡ grid_rows (board_of h.board)) (row : g < rows) where
      pub no_column : (n : ℕ) → n ≡ columns (board_of h.board) → n ≤ j → holds ks g j ≡ false
      unfolding holds
      no_column n e p =
          let same_rows : rows ≡ grid_rows (head_in ks).board = rw a.board_is all_rows in
          let same : n ≡ columns (head_in ks).board = rw a.board_is e in
          rw (
            eq-eqb (key_refusal ks) 0 a.none,
            lt-ltb g (grid_rows (head_in ks).board) (omega arith),
            le-ltb j (columns (head_in ks).board) (omega arith),
          )

      module _ (n : ℕ) (all_columns : n ≡ columns (board_of h.board)) (column : j < n) (good : bytes_good ks ≡ true)
          (row_bytes : ℕ) (wide : row_bytes ≡ stride (board_of h.board))
          (part : List ℕ) (cut : part ≡ drop (h.end + g * row_bytes) ks) (m : Bool) (seen : m ≡ marked part j)
        where
          there : (grid_row_part (head_in ks).board (head_in ks).rest g ≡ part)
              × (length (header (head_in ks).board (head_in ks).player) + g * stride (head_in ks).board ≡ h.end + g * row_bytes)
          there =
              let k = key_in ks a.none in
              let at : length (header (head_in ks).board (head_in ks).player) + g * stride (head_in ks).board ≡ h.end + g * row_bytes =
              rw (← (header_ends ks h _ a good k.header_good), a.board_is, ← wide) in
              (row_place ks g good k ∙ ap (λ (n : ℕ). drop n ks) at ∙ sym cut, at)

          pub holds_mark : holds ks g j ≡ m
          unfolding holds
          holds_mark =
              let same_rows : rows ≡ grid_rows (head_in ks).board = rw a.board_is all_rows in
              let same : n ≡ columns (head_in ks).board = rw a.board_is all_columns in
              rw (
                eq-eqb (key_refusal ks) 0 a.none,
                lt-ltb g (grid_rows (head_in ks).board) (omega arith),
                lt-ltb j (columns (head_in ks).board) (omega arith),
                there.0,
              ) (sym seen)

          pub seed_place : (s : ℕ) → not m ≡ false → s ≡ seed_from (board_of h.board) part j → h.end + g * row_bytes + s ≡ held_seed_place ks g j
          unfolding held_seed_place
          seed_place s z e = rw (holds_mark, not-false m z, there.1, there.0, e, a.board_is)
