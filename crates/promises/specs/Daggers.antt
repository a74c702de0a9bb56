-- The lines that bear a dagger: every line of document 01, "Marked deals", that bears a †, as one line of one table,
-- "what is computed" beside "what the paper says", both as numbers. The widths are those of document 02, (vi): "with w 1
-- the † widths become 32, 36 and 256"; with them stands its "36 with 551 bytes, where 24 gave 584". The theorem, in
-- proofs/Daggers.antt, is that one computed test holds of the whole table. Assumes nothing: these are definitions and
-- one statement.
use Rattle.std.specs.Prelude.{◌≡◌, Bool, true, false, ◌&&◌, cond, List, [], ◌∷◌, ◌++◌, ℕ, eqb}
use Rattle.grid.specs.Grid.{Board, board, board_refusal, Dealing, array_good, dealing_good, last_word, share}
use Rattle.keys.specs.Keys.{key_long, mark_bytes, packed}
use Rattle.key_width.specs.Width.{width}
use Rattle.call_answers.specs.Answers.{width_refusal}

-- THE TEST

pub record Line : Type 0 where
  pub computed : List ℕ
  pub written : List ℕ

unfoldable pub same : (xs ys : List ℕ) → Bool
same [] [] = true
same [] (y ∷ ys) = false
same (x ∷ xs) [] = false
same (x ∷ xs) (y ∷ ys) = eqb x y && same xs ys

unfoldable pub all_same : List Line → Bool
all_same [] = true
all_same (l ∷ ls) = same l.computed l.written && all_same ls

-- WHAT IS COMPUTED

-- what an array is
abbrev pub neither : ℕ
neither = 0

abbrev pub even : ℕ
even = 1

abbrev pub odd : ℕ
odd = 2

-- as the array check finds it; one that passes for both would be 3
unfoldable pub kind : Board → (array : List ℕ) → List ℕ
kind b cs =
    cond (array_good b false cs) (cond (array_good b true cs) (3 ∷ []) (even ∷ [])) (cond (array_good b true cs) (odd ∷ []) (neither ∷ []))

-- "p = 3"; of such a board only the players count here
unfoldable pub three : Board
three = board 3 1 1 1

-- the mark bytes of a player in an array
unfoldable pub marks_packed : (player : ℕ) → (array : List ℕ) → List ℕ
marks_packed i cs = packed (mark_bytes three) i cs

-- "p = 2, N = 2, μ = 2, w = 1, point 1, value 0xA5, array 1, 2, rows (0x11 0x22) and (0x33 0x44), lent word (0x01 0x02)"
unfoldable pub two : Board
two = board 2 2 2 1

unfoldable pub drawn : Dealing
drawn =
    record {
      point = 1;
      value = 0xA5 ∷ [];
      arrays = 1 ∷ 2 ∷ [];
      rows = (0x11 ∷ 0x22 ∷ []) ∷ (0x33 ∷ 0x44 ∷ []) ∷ [];
      words = (0x01 ∷ 0x02 ∷ []) ∷ [];
    }

-- a player's shares at both positions
unfoldable pub shares : (player : ℕ) → List ℕ
shares i = share two drawn i 0 ++ share two drawn i 1

-- what Choose width and Key length answer: the number that refuses, or 0, and the value
unfoldable pub width_answer : (p n w : ℕ) → List ℕ
width_answer p n w = width_refusal p n w ∷ width p n w ∷ []

unfoldable pub length_answer : Board → List ℕ
length_answer b = board_refusal b ∷ key_long b ∷ []

-- THE TABLE

unfoldable pub table : List Line
table =
    record { computed = kind three (0 ∷ 3 ∷ 5 ∷ 6 ∷ []); written = even ∷ [] }
    ∷ record { computed = kind three (1 ∷ 2 ∷ 4 ∷ 7 ∷ []); written = odd ∷ [] }
    ∷ record { computed = kind three (0 ∷ 3 ∷ 5 ∷ 5 ∷ []); written = neither ∷ [] }
    ∷ record { computed = kind three (0 ∷ 3 ∷ 5 ∷ 7 ∷ []); written = neither ∷ [] }
    ∷ record { computed = kind three (0 ∷ 3 ∷ 5 ∷ 8 ∷ []); written = neither ∷ [] }
    ∷ record { computed = marks_packed 0 (0 ∷ 3 ∷ 5 ∷ 6 ∷ []); written = 0x06 ∷ [] }
    ∷ record { computed = marks_packed 1 (0 ∷ 3 ∷ 5 ∷ 6 ∷ []); written = 0x0A ∷ [] }
    ∷ record { computed = marks_packed 2 (0 ∷ 3 ∷ 5 ∷ 6 ∷ []); written = 0x0C ∷ [] }
    ∷ record { computed = cond (dealing_good two drawn) (1 ∷ []) []; written = 1 ∷ [] }
    ∷ record { computed = last_word two drawn; written = 0x23 ∷ 0xC1 ∷ [] }
    ∷ record { computed = shares 0; written = 0x10 ∷ 0x20 ∷ [] }
    ∷ record { computed = shares 1; written = 0x10 ∷ 0x85 ∷ [] }
    ∷ record { computed = width_answer 2 64 1; written = 0 ∷ 32 ∷ [] }
    ∷ record { computed = width_answer 4 72 1; written = 0 ∷ 36 ∷ [] }
    ∷ record { computed = width_answer 6 65536 1; written = 0 ∷ 256 ∷ [] }
    ∷ record { computed = length_answer (board 4 72 24 1); written = 0 ∷ 584 ∷ [] }
    ∷ record { computed = length_answer (board 4 72 36 1); written = 0 ∷ 551 ∷ [] } ∷ []

-- THE MARKED DEALS: every line of the table holds
unfoldable pub DaggerLines : Type 0
DaggerLines = all_same table ≡ true
