-- All players' shares join. The argument is document 003's: in a grid row whose columns have even parity each word and row is added an
-- even number of times and cancels out; in the special grid row each is left once, and together they are the row that the words make.
-- Sums are not swapped: columns are taken one by one, with whatever every player has so far. Assumes nothing.
use mathlib.Core.Path.{◌≡◌, refl, sym, ap, ◌∙◌}
use mathlib.Core.Bool.{Bool, true, false, cond}
use mathlib.Core.List.{List, []}
use Prim.Native.Nat.{ℕ, zero, suc, ◌+◌, ◌/◌, ◌%◌, ◌^◌, ◌≤◌, ◌<◌}
use native.Mathlib.Omega.{arith}
use lib.Dec.{eqb}
use lib.ListN.{get_or}
use borrow.Author.Tests.{eqb-true, eqb-false, eq-eqb, ne_eqb}
use Rattle.xor.specs.Xor.{xors, zeros}
use Rattle.xor.proofs.Laws.{Word, xors_assoc, xors_zeros_left, xors_zeros_right, word_xors, word_zeros}
use Rattle.grid.specs.Grid.{Board, Dealing, columns, grid_rows, row_long, column, row_of, piece, bit, is_odd, cell, share_from, share, joined_from, all_words}
use Rattle.grid.specs.Joining.{over, joined, words_and_rows, OddOnlyAt, WordsJoin, PieceCells, SharesJoin}
use Rattle.grid.proofs.Facts.{BoardIn, board_in, board_accepted, rows_in, rows_accepted, facts, each_word, words_long, grid_row_in, cell_in, same_place}
use Rattle.grid.proofs.Sums.{over_word, over_same, over_zeros, over_chosen}
use Rattle.grid.proofs.Marks.{parity_adds}
use Rattle.grid.proofs.Cells.{cell_xors, cell_word, cell_over, piece_cells}
use Rattle.grid.proofs.LastWord.{all_words_long, all_words_are, all_words_complete}

-- what column j of grid row g adds to a share at cell c: its word and its row there
abbrev term : Board → (rs ws : List (List ℕ)) → (g c j : ℕ) → List ℕ
term b rs ws g c j = xors (cell b c (get_or ws j [])) (cell b c (row_of b rs g j))

-- a player's share so far, after one more column
abbrev after : Board → (cs : List ℕ) → (rs ws : List (List ℕ)) → (g c j : ℕ) → (X : ℕ → List ℕ) → (i : ℕ) → List ℕ
after b cs rs ws g c j X i = cond (bit (column b cs g j) i) (xors (X i) (term b rs ws g c j)) (X i)

after_word : (n : ℕ) (o : Bool) (x t : List ℕ) → Word n x → Word n t → Word n (cond o (xors x t) x)
after_word n true x t p q = word_xors x t p q
after_word n false x t p q = p

-- columns j, j + 1, .. of one parity, k of them: all players together add each column's term once, or not at all
columns_join : (k j : ℕ) (b : Board) (cs : List ℕ) (rs ws : List (List ℕ)) (g c : ℕ) (odd : Bool) (X : ℕ → List ℕ) → b.p ≤ 8
    → ((m : ℕ) → j ≤ m → m < j + k → (column b cs g m < 2 ^ b.p) × (is_odd (column b cs g m) ≡ odd) × Word b.w (term b rs ws g c m))
    → ((i : ℕ) → Word b.w (X i))
    → over b.p 0 b.w (λ i. share_from k j b i cs rs ws g c (X i))
    ≡ xors (over b.p 0 b.w X) (over k j b.w (λ m. cond odd (term b rs ws g c m) (zeros b.w)))
unfolding share_from over
columns_join zero j b cs rs ws g c odd X few h x =
    sym (xors_zeros_right b.w (over b.p 0 b.w X) (over_word b.p 0 b.w X (λ i p q. x i)))
columns_join (suc k) j b cs rs ws g c odd X few h x =
    let t = term b rs ws g c j in
    let now = h j (omega arith) (omega arith) in
    let later = over k (suc j) b.w (λ m. cond odd (term b rs ws g c m) (zeros b.w)) in
    columns_join k (suc j) b cs rs ws g c odd (after b cs rs ws g c j X) few (λ m p q. h m (omega arith) (omega arith))
    (λ i. after_word b.w (bit (column b cs g j) i) (X i) t (x i) now.2)
    ∙ ap (λ (l : List ℕ). xors l later) (parity_adds b.p b.w (column b cs g j) odd t X few now.0 now.1 now.2)
    ∙ xors_assoc (over b.p 0 b.w X) (cond odd t (zeros b.w)) later

-- the terms of all columns are, at the cell, what all words and all rows of the grid row make
terms_make : (b : Board) (rs ws : List (List ℕ)) (g c : ℕ) → c < b.wide
    → over (columns b) 0 b.w (term b rs ws g c) ≡ cell b c (words_and_rows b rs ws g)
unfolding words_and_rows
terms_make b rs ws g c h =
    over_same (columns b) 0 b.w (term b rs ws g c) (λ j. cell b c (xors (get_or ws j []) (row_of b rs g j)))
    (λ j p q. sym (cell_xors b c (get_or ws j []) (row_of b rs g j)))
    ∙ sym (cell_over b c (columns b) 0 (λ j. xors (get_or ws j []) (row_of b rs g j)) h)

chosen_word : (n : ℕ) (o : Bool) (x : List ℕ) → Word n x → Word n (cond o x (zeros n))
chosen_word n true x h = h
chosen_word n false x h = word_zeros n

-- one grid row: what all its words and rows make where its parity is odd, zeros where it is even
module _ (b : Board) (rs ws : List (List ℕ)) (g : ℕ) (rows_are : (j : ℕ) → j < columns b → Word (row_long b) (row_of b rs g j))
    (words_are : (j : ℕ) → j < columns b → Word (row_long b) (get_or ws j [])) where
  words_and_rows_word : Word (row_long b) (words_and_rows b rs ws g)
  unfolding words_and_rows
  words_and_rows_word =
      over_word (columns b) 0 (row_long b) (λ j. xors (get_or ws j []) (row_of b rs g j))
      (λ j p q. word_xors (get_or ws j []) (row_of b rs g j) (words_are j (omega arith)) (rows_are j (omega arith)))

  term_word : (c j : ℕ) → c < b.wide → j < columns b → Word b.w (term b rs ws g c j)
  term_word c j h l =
      word_xors (cell b c (get_or ws j [])) (cell b c (row_of b rs g j)) (cell_word b c (get_or ws j []) h (words_are j l))
      (cell_word b c (row_of b rs g j) h (rows_are j l))

  grid_row_joins : (cs : List ℕ) (c : ℕ) (odd : Bool) → b.p ≤ 8 → c < b.wide
      → ((j : ℕ) → j < columns b → (column b cs g j < 2 ^ b.p) × (is_odd (column b cs g j) ≡ odd))
      → over b.p 0 b.w (λ i. share_from (columns b) 0 b i cs rs ws g c (zeros b.w))
      ≡ cond odd (cell b c (words_and_rows b rs ws g)) (zeros b.w)
  grid_row_joins cs c odd few h each =
      let made = cell b c (words_and_rows b rs ws g) in
      columns_join (columns b) 0 b cs rs ws g c odd (λ i. zeros b.w) few
      (λ m p q. let l : m < columns b = omega arith in ((each m l).0, (each m l).1, term_word c m h l)) (λ i. word_zeros b.w)
      ∙ rw (over_zeros b.p 0 b.w, over_chosen (columns b) 0 b.w (term b rs ws g c) odd, terms_make b rs ws g c h)
      (xors_zeros_left b.w (cond odd made (zeros b.w)) (chosen_word b.w odd made (cell_word b c (words_and_rows b rs ws g) h words_and_rows_word)))

-- WORDS JOIN

pub words_join : WordsJoin
unfolding WordsJoin joined
words_join b special cs rs ws made a accepted marked rl rg wl wg makes h =
    grid_row_joins b rs ws g (λ j l. (rows_in b rs rl rg).each g j inside l) (λ j l. each_word (row_long b) ws wg j (rw wl l)) cs c (eqb g special) few
    (cell_in b f a) (λ j l. (marked.below g j inside l, marked.parity g j inside l))
    ∙ split (eqb g special) refl
  where
    g : ℕ
    g = a / b.wide

    c : ℕ
    c = a % b.wide

    f : BoardIn b
    f = board_in b accepted

    inside : g < grid_rows b
    inside = grid_row_in b f a h

    few : b.p ≤ 8
    few = omega (arith, f.players_most)

    split : (t : Bool) → eqb g special ≡ t
        → cond t (cell b c (words_and_rows b rs ws g)) (zeros b.w) ≡ cond t (cell b c made) (zeros b.w)
    split true e = rw (eqb-true g special e, makes)
    split false e = refl

-- SHARES JOIN

pub joined_is : (k i : ℕ) (b : Board) (d : Dealing) (a : ℕ) → joined_from k i b d a ≡ over k i b.w (λ m. share b d m a)
unfolding joined_from over
joined_is zero i b d a = refl
joined_is (suc k) i b d a = ap (xors (share b d i a)) (joined_is k (suc i) b d a)

-- a position is the point exactly where its grid row and its cell are the point's
point_or_not : (b : Board) (a point : ℕ) (value : List ℕ)
    → cond (eqb (a / b.wide) (point / b.wide)) (cond (eqb (a % b.wide) (point % b.wide)) value (zeros b.w)) (zeros b.w)
    ≡ cond (eqb a point) value (zeros b.w)
point_or_not b a point value = split (eqb (a / b.wide) (point / b.wide)) refl (eqb (a % b.wide) (point % b.wide)) refl
  where
    split : (s : Bool) → eqb (a / b.wide) (point / b.wide) ≡ s → (t : Bool) → eqb (a % b.wide) (point % b.wide) ≡ t
        → cond s (cond t value (zeros b.w)) (zeros b.w) ≡ cond (eqb a point) value (zeros b.w)
    split true e true q =
        rw (eq-eqb a point (same_place b a point (eqb-true (a / b.wide) (point / b.wide) e) (eqb-true (a % b.wide) (point % b.wide) q)))
    split true e false q =
        rw (ne_eqb a point (λ same. eqb-false (a % b.wide) (point % b.wide) q (ap (λ (x : ℕ). x % b.wide) same)))
    split false e t q =
        rw (ne_eqb a point (λ same. eqb-false (a / b.wide) (point / b.wide) e (ap (λ (x : ℕ). x / b.wide) same)))

pub shares_join : SharesJoin
unfolding SharesJoin WordsJoin PieceCells joined share
shares_join b d a good h =
    let f = facts b d good in
    let accepted = board_accepted b f.board in
    let marked : OddOnlyAt b (d.point / b.wide) d.arrays = record { below = f.arrays.below; parity = f.arrays.parity } in
    let words_good = words_long (row_long b) (all_words b d) (λ j l. all_words_are b d f j (rw (all_words_long b d f) at l)) in
    joined_is b.p 0 b d a
    ∙ words_join b (d.point / b.wide) d.arrays d.rows (all_words b d) (piece b d.point d.value) a accepted marked
    f.rows.long (rows_accepted b d.rows f.rows) (all_words_long b d f) words_good (all_words_complete b d f) h
    ∙ rw (piece_cells b d.point (a % b.wide) d.value accepted (cell_in b f.board a) f.value.long)
    (point_or_not b a d.point d.value)
