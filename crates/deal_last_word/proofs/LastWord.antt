-- The laws of the last word: a value between zeros, words and rows XORed one after another, and what these come to. Assumes nothing.
use mathlib.Core.Path.{◌≡◌, refl, sym, ap, ◌∙◌}
use mathlib.Core.Bool.{true}
use mathlib.Core.List.{List, [], ◌++◌}
use Prim.Native.Nat.{ℕ, zero, suc, ◌+◌, ◌*◌, ◌-◌, ◌/◌, ◌%◌, ◌≤◌, ◌<◌}
use native.Mathlib.Omega.{arith}
use native.Mathlib.Nat.{mul-le-mul, mul-le-mul_right, add-div_left, div-eq_of_lt, mul-div_cancel}
use native.Mathlib.Numerals.{add-one}
use lib.ListN.{length, get_or, take, drop, replicate, length-append, length-drop, length-replicate, replicate-append-replicate}
use lib.Seq.{take_at, drop_at, drop-drop, length-take-le}
use Rattle.xor.specs.Xor.{xors, zeros, bytes_good}
use Rattle.xor.proofs.Laws.{Word, word_xors, length-xors, xors_assoc, xors_zeros_right}
use Rattle.grid.specs.Grid.{Board, columns, grid_rows, row_long, row_of, piece, xor_rows, xor_all}
use Rattle.grid.proofs.Facts.{BoardIn, cell_in, cell_fits, grid_row_in}
use Rattle.chacha20.specs.Expand.{expand}
use Rattle.chacha20.proofs.Stream.{word_expand, from_zero}
use Rattle.seed_rows.proofs.Joined.{rows_of_front}
use Rattle.seed_rows.specs.Rows.{rows_joined, rule}
use Rattle.keys.specs.Keys.{rows_from, words_from}
use Rattle.keys.proofs.Lists.{words_at}
use Rattle.keys.proofs.Dealing.{rows_at}
use Rattle.writer.specs.Written.{written}
use Rattle.deal_last_word.specs.LastWord.{dealt_word}
use Rattle.writer.proofs.Cuts.{part_long, part_whole}

-- THE PIECE

zeros_parts : (k n : ℕ) → k ≤ n → replicate {A = ℕ} n 0 ≡ replicate k 0 ++ replicate (n - k) 0
zeros_parts k n h =
    let all : k + (n - k) ≡ n = omega arith in
    ap (λ (m : ℕ). replicate {A = ℕ} m 0) (sym all) ∙ sym (replicate-append-replicate {A = ℕ} k (n - k) 0)

-- a value written over zeros
piece_written : (from n : ℕ) (value : List ℕ) → from + length value ≤ n →
    written from value (replicate n 0) ≡ zeros from ++ value ++ zeros (n - (from + length value))
unfolding written zeros
piece_written from n value h =
    let end = from + length value in
    let front : take from (replicate {A = ℕ} n 0) ≡ replicate from 0 =
    ap (take from) (zeros_parts from n (omega arith)) ∙ take_at (replicate {A = ℕ} from 0) (replicate (n - from) 0) from (length-replicate {A = ℕ} from 0) in
    let behind : drop end (replicate {A = ℕ} n 0) ≡ replicate (n - end) 0 =
    ap (drop end) (zeros_parts end n h) ∙ drop_at (replicate {A = ℕ} end 0) (replicate (n - end) 0) end (length-replicate {A = ℕ} end 0) in
    rw (front, behind)

-- put into an output that was cleared, at its place
pub piece_put : (from n : ℕ) (value : List ℕ) → from + length value ≤ n → {at : ℕ} {cleared now : List ℕ} → now ≡ written at value cleared →
    cleared ≡ replicate n 0 → at ≡ from → now ≡ zeros from ++ value ++ zeros (n - (from + length value))
piece_put from n value h {at} put clear place =
    put ∙ ap (written at value) clear ∙ ap (λ (k : ℕ). written k value (replicate n 0)) place ∙ piece_written from n value h

-- WORDS one after another

-- the next one, and those behind it
pub next_word : (n : ℕ) (all word rest xs : List ℕ) → 0 < n → all ≡ word ++ rest → length word ≡ n →
    xor_all (words_from (length all / n) n all) xs ≡ xor_all (words_from (length rest / n) n rest) (xors xs word)
unfolding xor_all words_from
next_word n all word rest xs pos parts long =
    let more : length all / n ≡ suc (length rest / n) = rw (parts, length-append, long) (add-div_left (length rest) pos ∙ add-one _) in
    rw more (rw (parts, take_at word rest n long, drop_at word rest n long))

-- none where less than one is left
pub no_word : (n : ℕ) (rest xs : List ℕ) → length rest < n → xor_all (words_from (length rest / n) n rest) xs ≡ xs
unfolding xor_all words_from
no_word n rest xs h =
    let none : length rest / n ≡ 0 = div-eq_of_lt h in
    rw none

-- ROWS one after another, into what is there

xor_rows_joined : (k n : ℕ) (ss xs : List ℕ) → Word n xs → xors xs (rows_joined k 0 n ss) ≡ xor_all (rows_from k (expand n) ss) xs
unfolding rows_joined xor_all rows_from
xor_rows_joined zero n ss xs w = xors_zeros_right n xs w
xor_rows_joined (suc k) n ss xs w =
    let row = expand n (take 32 ss) in
    rw (from_zero n (take 32 ss))
    (sym (xors_assoc xs row (rows_joined k 0 n (drop 32 ss))) ∙ xor_rows_joined k n (drop 32 ss) (xors xs row)
    (word_xors xs row w (word_expand n (take 32 ss))))

-- of seeds that are cut out of all seeds
pub cut_rows : (from k n : ℕ) (seeds xs : List ℕ) → from + 32 * k ≤ length seeds → Word n xs → let cut = take (from + 32 * k - from) (drop from seeds) in
    xors xs (rows_joined (length cut / 32) 0 n cut) ≡ xor_all (rows_from k (expand n) (drop from seeds)) xs
cut_rows from k n seeds xs room w =
    let all : 32 * k / 32 ≡ k = omega arith in
    rw (part_whole from (32 * k) seeds room, all, part_long from (32 * k), rows_of_front k 0 n (32 * k) (drop from seeds) (omega arith))
    (xor_rows_joined k n (drop from seeds) xs w)

-- THE ROWS OF A GRID ROW, out of all rows

row_at_place : (n m : ℕ) (f : List ℕ → List ℕ) (ss : List ℕ) → m < n → get_or (rows_from n f ss) m [] ≡ f (take 32 (drop (32 * m) ss))
row_at_place n m f ss h =
    let place : m * 32 ≡ 32 * m = omega arith in
    rows_at n m f ss h ∙ rw (words_at n 32 m ss h, place)

xor_rows_are : (k j : ℕ) (b : Board) (n : ℕ) (f : List ℕ → List ℕ) (ss : List ℕ) (g : ℕ) (xs : List ℕ) → g * columns b + j + k ≤ n →
    xor_rows k j b (rows_from n f ss) g xs ≡ xor_all (rows_from k f (drop (32 * (g * columns b + j)) ss)) xs
unfolding xor_rows xor_all rows_from row_of
xor_rows_are zero j b n f ss g xs h = refl
xor_rows_are (suc k) j b n f ss g xs h =
    let m = g * columns b + j in
    let place : 32 * (g * columns b + suc j) ≡ 32 * m + 32 = omega arith in
    let row = row_at_place n m f ss (omega arith) in
    xor_rows_are k (suc j) b n f ss g (xors xs (row_of b (rows_from n f ss) g j)) (omega arith)
    ∙ rw (place, row) (rw (drop-drop 32 (32 * m) ss))

-- WHAT THE STEPS COME TO

module _ (b : Board) (f : BoardIn b) (a : ℕ) (value seeds words : List ℕ) (within : a < b.n) (value_long : length value ≡ b.w) where
  -- the piece's cell lies in a row
  pub cell_room : a % b.wide * b.w + length value ≤ row_long b
  cell_room = omega (arith, cell_fits b (a % b.wide) (cell_in b f a))

  -- a row has a byte
  pub row_pos : 0 < row_long b
  unfolding row_long
  row_pos = mul-le-mul f.wide_least f.value_least

  -- the seeds of the point's grid row are there
  pub seeds_room : a / b.wide * columns b + columns b ≤ grid_rows b * columns b
  seeds_room = omega (arith, mul-le-mul_right (columns b) (grid_row_in b f a within))

  pub word_made : {piece_out words_out rows_out : List ℕ} →
      piece_out ≡ zeros (a % b.wide * b.w) ++ value ++ zeros (row_long b - (a % b.wide * b.w + length value)) →
      words_out ≡ xor_all (words_from (columns b - 1) (row_long b) words) piece_out →
      rows_out ≡ xor_all (rows_from (columns b) (expand (row_long b)) (drop (32 * (a / b.wide * columns b)) seeds)) words_out →
      rows_out ≡ dealt_word b (rule b) a value seeds words
  unfolding dealt_word piece
  word_made p q r =
      let cell : a % b.wide * b.w + length value ≡ suc (a % b.wide) * b.w = omega arith in
      let first : a / b.wide * columns b + 0 ≡ a / b.wide * columns b = omega arith in
      let rows = xor_rows_are (columns b) 0 b (grid_rows b * columns b) (expand (row_long b)) seeds (a / b.wide)
      (xor_all (words_from (columns b - 1) (row_long b) words) (piece b a value)) (omega (arith, seeds_room)) in
      r ∙ rw (q, p, cell) (sym (rw first at rows))

  -- the seeds of the point's grid row, as the code cuts them out
  abbrev cut : (J : ℕ) → List ℕ
  cut J = take (32 * (a / b.wide * J) + 32 * J - 32 * (a / b.wide * J)) (drop (32 * (a / b.wide * J)) seeds)

  -- the same in the numbers that the code has at hand
  pub word_steps : (first second third J : ℕ) → first ≡ row_long b → second ≡ row_long b → third ≡ row_long b → J ≡ columns b →
      length words ≡ (columns b - 1) * row_long b →
      {piece_out words_out rows_out : List ℕ} →
      piece_out ≡ zeros (a % b.wide * b.w) ++ value ++ zeros (first - (a % b.wide * b.w + length value)) →
      words_out ≡ xor_all (words_from (length words / second) second words) piece_out →
      32 * (a / b.wide * J) + 32 * J ≤ length seeds → length words_out ≡ third → bytes_good words_out ≡ true →
      rows_out ≡ xors words_out (rows_joined (length (cut J) / 32) 0 third (cut J)) → rows_out ≡ dealt_word b (rule b) a value seeds words
  word_steps first second third J e f g h words_all {piece_out} {words_out} {rows_out} p q room long good r =
      let count : length words / row_long b ≡ columns b - 1 = rw words_all (mul-div_cancel (columns b - 1) row_pos) in
      let rows = cut_rows (32 * (a / b.wide * J)) J third seeds words_out room (record { long = long; good = good }) in
      word_made (rw e at p) (rw (f, count) at q) (rw (h, g) at (r ∙ rows))

  -- a value between zeros has a row's length
  between_zeros : length (zeros (a % b.wide * b.w) ++ value ++ zeros (row_long b - (a % b.wide * b.w + length value))) ≡ row_long b
  unfolding zeros
  between_zeros = simp (length-append, length-replicate) (omega (arith, cell_room))

-- THE LAST WORD has a row's length

long_words : (k n : ℕ) (bs xs : List ℕ) → length xs ≡ n → k * n ≤ length bs → length (xor_all (words_from k n bs) xs) ≡ n
unfolding xor_all words_from
long_words zero n bs xs e h = e
long_words (suc k) n bs xs e h =
    let first : suc k * n ≡ n + k * n = omega arith in
    let word : length (take n bs) ≡ n = length-take-le n bs (omega arith) in
    long_words k n (drop n bs) (xors xs (take n bs)) (length-xors xs (take n bs) (e ∙ sym word) ∙ e) (rw length-drop (omega arith))

long_rows : (k n : ℕ) (f : List ℕ → List ℕ) (ss xs : List ℕ) → ((seed : List ℕ) → length (f seed) ≡ n) → length xs ≡ n → length (xor_all (rows_from k f ss) xs) ≡ n
unfolding xor_all rows_from
long_rows zero n f ss xs r e = e
long_rows (suc k) n f ss xs r e =
    long_rows k n f (drop 32 ss) (xors xs (f (take 32 ss))) r (length-xors xs (f (take 32 ss)) (e ∙ sym (r (take 32 ss))) ∙ e)

pub dealt_word_long : (b : Board) (f : BoardIn b) (a : ℕ) (value seeds words : List ℕ) → a < b.n → length value ≡ b.w →
    (columns b - 1) * row_long b ≤ length words → length (dealt_word b (rule b) a value seeds words) ≡ row_long b
dealt_word_long b f a value seeds words within value_long words_room =
    let made = word_made b f a value seeds words within value_long refl refl refl in
    let start = between_zeros b f a value seeds words within value_long in
    ap length (sym made)
    ∙ long_rows (columns b) (row_long b) (expand (row_long b)) (drop (32 * (a / b.wide * columns b)) seeds) _ (λ seed. (word_expand (row_long b) seed).long)
    (long_words (columns b - 1) (row_long b) words _ start words_room)
