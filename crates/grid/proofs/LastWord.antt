-- The last word: it is the XOR of the row to be made, the lent words and the rows of the special grid row, so that with it all words and
-- all rows of that grid row XOR to the row to be made. Document 03's last word is the one that makes the piece. Assumes nothing.
use mathlib.Core.Path.{◌≡◌, refl, sym, ap, ◌∙◌}
use mathlib.Core.Bool.{Bool, true, false}
use mathlib.Core.List.{List, [], ◌∷◌, ◌++◌}
use Prim.Native.Nat.{ℕ, zero, suc, ◌+◌, ◌/◌, ◌≤◌, ◌<◌}
use native.Mathlib.Omega.{arith}
use lib.Dec.{ltb}
use lib.ListN.{length, get_or, length-append, get_or-append}
use lib.Seq.{get_or_at}
use borrow.Author.Tests.{ltb-true, ltb-false}
use Rattle.xor.specs.Xor.{xors}
use Rattle.xor.proofs.Laws.{Word, xors_assoc, xors_comm, xors_left_comm, xors_cancel, xors_zeros_right, word_xors}
use Rattle.grid.specs.Grid.{Board, Dealing, columns, grid_rows, row_long, row_of, xor_rows, xor_all, last_word, all_words, piece}
use Rattle.grid.specs.Joining.{over, words_and_rows, completing, LastWordCompletes}
use Rattle.grid.proofs.Facts.{Facts, RowsIn, WordsIn, columns_pos, rows_in, words_in, grid_row_in}
use Rattle.grid.proofs.Cells.{piece_word}
use Rattle.grid.proofs.Sums.{over_word, over_same, over_xors, over_shift, over_last}

-- XORs of rows and of words, as sums

pub xor_rows_is : (k j : ℕ) (b : Board) (rs : List (List ℕ)) (g : ℕ) (xs : List ℕ) → Word (row_long b) xs
    → ((m : ℕ) → j ≤ m → m < j + k → Word (row_long b) (row_of b rs g m)) → xor_rows k j b rs g xs ≡ xors xs (over k j (row_long b) (row_of b rs g))
unfolding xor_rows over
xor_rows_is zero j b rs g xs x h = sym (xors_zeros_right (row_long b) xs x)
xor_rows_is (suc k) j b rs g xs x h =
    let row : Word (row_long b) (row_of b rs g j) = h j (omega arith) (omega arith) in
    xor_rows_is k (suc j) b rs g (xors xs (row_of b rs g j)) (word_xors xs (row_of b rs g j) x row) (λ m p q. h m (omega arith) (omega arith))
    ∙ xors_assoc xs (row_of b rs g j) (over k (suc j) (row_long b) (row_of b rs g))

pub xor_all_is : (n : ℕ) (ws : List (List ℕ)) (xs : List ℕ) → Word n xs → ((m : ℕ) → m < length ws → Word n (get_or ws m []))
    → xor_all ws xs ≡ xors xs (over (length ws) 0 n (λ m. get_or ws m []))
unfolding xor_all over
xor_all_is n [] xs x h = sym (xors_zeros_right n xs x)
xor_all_is n (w ∷ ws) xs x h =
    xor_all_is n ws (xors xs w) (word_xors xs w x (h 0 (omega arith))) (λ m l. h (suc m) (omega arith))
    ∙ xors_assoc xs w (over (length ws) 0 n (λ m. get_or ws m []))
    ∙ ap (λ (l : List ℕ). xors xs (xors w l)) (sym (over_shift (length ws) 0 n (λ m. get_or (w ∷ ws) m [])))

-- WITH THE LAST WORD: the lent words, and one more behind them

pub lent_at : (ws : List (List ℕ)) (x : List ℕ) (j : ℕ) → j < length ws → get_or (ws ++ (x ∷ [])) j [] ≡ get_or ws j []
lent_at ws x j h = get_or-append ws (x ∷ []) [] j h

pub last_at : (ws : List (List ℕ)) (x : List ℕ) (j : ℕ) → length ws ≡ j → get_or (ws ++ (x ∷ [])) j [] ≡ x
last_at ws x j h = get_or_at ws x [] [] j h

-- what is masked by a sum of words and a sum of rows comes out again
unmask : (n : ℕ) (made words rows : List ℕ) → Word n made → Word n words → Word n rows
    → xors (xors words (xors (xors made words) rows)) rows ≡ made
unmask n m w r hm hw hr =
    regroup ∙ ap (xors w) (ap (xors w) (xors_cancel n r m hr hm)) ∙ xors_cancel n w m hw hm
  where
    regroup : xors (xors w (xors (xors m w) r)) r ≡ xors w (xors w (xors r (xors r m)))
    regroup = simp (xors_assoc, xors_left_comm, xors_comm)

-- the sum of lent words and one more
with_last : (n : ℕ) (ws : List (List ℕ)) (x : List ℕ)
    → over (suc (length ws)) 0 n (λ j. get_or (ws ++ (x ∷ [])) j []) ≡ xors (over (length ws) 0 n (λ j. get_or ws j [])) x
with_last n ws x =
    let all : ℕ → List ℕ = λ j. get_or (ws ++ (x ∷ [])) j [] in
    over_last (length ws) 0 n (length ws) all (omega arith)
    ∙ rw (last_at ws x (length ws) refl, over_same (length ws) 0 n all (λ j. get_or ws j []) (λ j p q. lent_at ws x j (omega arith)))

-- the sums that mask the row to be made: of the lent words, and of the special grid row's rows
abbrev pub words_sum : Board → List (List ℕ) → List ℕ
words_sum b ws = over (length ws) 0 (row_long b) (λ j. get_or ws j [])

abbrev pub rows_sum : Board → List (List ℕ) → (g : ℕ) → List ℕ
rows_sum b rs g = over (columns b) 0 (row_long b) (row_of b rs g)

pub words_sum_word : (b : Board) (ws : List (List ℕ)) → WordsIn b ws → Word (row_long b) (words_sum b ws)
words_sum_word b ws l =
    over_word (length ws) 0 (row_long b) (λ j. get_or ws j []) (λ j p q. l.each j (omega (arith, l.long)))

pub rows_sum_word : (b : Board) (rs : List (List ℕ)) → RowsIn b rs → (g : ℕ) → g < grid_rows b → Word (row_long b) (rows_sum b rs g)
rows_sum_word b rs r g inside =
    over_word (columns b) 0 (row_long b) (row_of b rs g) (λ j p q. r.each g j inside (omega arith))

module _ (b : Board) (special : ℕ) (rs ws : List (List ℕ)) (made : List ℕ) (inside : special < grid_rows b) (r : RowsIn b rs)
    (l : WordsIn b ws) (m : Word (row_long b) made) where
  pub completing_is : completing b rs ws special made ≡ xors (xors made (words_sum b ws)) (rows_sum b rs special)
  unfolding completing
  completing_is =
      let lent = xor_all_is (row_long b) ws made m (λ j h. l.each j (omega (arith, l.long))) in
      rw lent
      (xor_rows_is (columns b) 0 b rs special (xors made (words_sum b ws)) (word_xors made (words_sum b ws) m (words_sum_word b ws l))
      (λ j p q. r.each special j inside (omega arith)))

  pub completing_word : Word (row_long b) (completing b rs ws special made)
  completing_word =
      rw completing_is
      (word_xors (xors made (words_sum b ws)) (rows_sum b rs special) (word_xors made (words_sum b ws) m (words_sum_word b ws l))
      (rows_sum_word b rs r special inside))

  -- the sum of all words
  completed_sum : over (columns b) 0 (row_long b) (λ j. get_or (ws ++ (completing b rs ws special made ∷ [])) j [])
      ≡ xors (words_sum b ws) (completing b rs ws special made)
  completed_sum =
      let count : columns b ≡ suc (length ws) = omega (arith, l.long, columns_pos b) in
      rw count (with_last (row_long b) ws (completing b rs ws special made))

  pub completes : words_and_rows b rs (ws ++ (completing b rs ws special made ∷ [])) special ≡ made
  unfolding words_and_rows
  completes =
      over_xors (columns b) 0 (row_long b) (λ j. get_or (ws ++ (completing b rs ws special made ∷ [])) j []) (row_of b rs special)
      ∙ rw (completed_sum, completing_is)
      (unmask (row_long b) made (words_sum b ws) (rows_sum b rs special) m (words_sum_word b ws l) (rows_sum_word b rs r special inside))

pub last_word_completes : LastWordCompletes
unfolding LastWordCompletes
last_word_completes b g rs ws made inside rl rg wl wg ml mg =
    completes b g rs ws made inside (rows_in b rs rl rg) (words_in b ws wl wg) (record { long = ml; good = mg })

-- A GOOD DEALING'S LAST WORD makes the point's grid row the piece

pub last_word_is : (b : Board) (d : Dealing) → last_word b d ≡ completing b d.rows d.words (d.point / b.wide) (piece b d.point d.value)
unfolding last_word completing
last_word_is b d = refl

module _ (b : Board) (d : Dealing) (f : Facts b d) where
  pub last_word_word : Word (row_long b) (last_word b d)
  last_word_word =
      rw (last_word_is b d)
      (completing_word b (d.point / b.wide) d.rows d.words (piece b d.point d.value) (grid_row_in b f.board d.point f.point_in)
      f.rows f.words (piece_word b f.board d.point d.value f.value))

  pub all_words_long : length (all_words b d) ≡ columns b
  unfolding all_words
  all_words_long =
      length-append d.words (last_word b d ∷ []) ∙ omega (arith, f.words.long, columns_pos b)

  pub all_words_are : (j : ℕ) → j < columns b → Word (row_long b) (get_or (all_words b d) j [])
  unfolding all_words
  all_words_are j h = split (ltb j (length d.words)) refl
    where
      split : (t : Bool) → ltb j (length d.words) ≡ t → Word (row_long b) (get_or (d.words ++ (last_word b d ∷ [])) j [])
      split true e =
          let lent : j < length d.words = ltb-true j (length d.words) e in
          rw (lent_at d.words (last_word b d) j lent) (f.words.each j (omega (arith, f.words.long)))
      split false e =
          let last : length d.words ≡ j = omega (arith, ltb-false j (length d.words) e, f.words.long) in
          rw (last_at d.words (last_word b d) j last) last_word_word

  pub all_words_complete : words_and_rows b d.rows (all_words b d) (d.point / b.wide) ≡ piece b d.point d.value
  unfolding all_words
  all_words_complete =
      rw (last_word_is b d)
      (completes b (d.point / b.wide) d.rows d.words (piece b d.point d.value) (grid_row_in b f.board d.point f.point_in)
      f.rows f.words (piece_word b f.board d.point d.value f.value))
