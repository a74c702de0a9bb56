-- The shares of a grid row are the XOR of the words of its marked columns and of the rows of its held seeds, whatever the order: so all rows
-- are XORed at once, and of each only the stretch that is wanted is expanded. Assumes nothing.
use mathlib.Core.Path.{◌≡◌, refl, sym, ap, ◌∙◌}
use mathlib.Core.Bool.{Bool, true, false, cond}
use mathlib.Core.List.{List, [], ◌∷◌}
use Prim.Native.Nat.{ℕ, zero, suc, ◌+◌, ◌*◌, ◌-◌, ◌/◌, ◌≤◌}
use native.Mathlib.Omega.{arith}
use lib.ListN.{length, take, drop, length-drop}
use lib.Seq.{drop-drop, length-take-le}
use Rattle.xor.specs.Xor.{xors, zeros, bytes_good}
use Rattle.xor.proofs.Laws.{word_zeros, xors_assoc, xors_comm, xors_left_comm, good_zeros, good_xors, xors_zeros_left, xor_from_zero, good_head, good_tail}
use Rattle.chacha20.specs.Expand.{expand}
use Rattle.chacha20.specs.From.{expand_from}
use Rattle.chacha20.proofs.Stream.{from_within}
use Rattle.seed_rows.specs.Rows.{rows_joined}
use Rattle.seed_rows.proofs.Joined.{word_rows, rows_of_front}
use Rattle.grid.specs.Grid.{Board, columns, grid_rows, row_long}
use Rattle.keys.specs.Keys.{mark_bytes, count_marks, stride, word_behind}
use Rattle.keys.specs.Held.{marked}
use Rattle.open_grid_row.specs.Shares.{stretch, shares, shares_from}
use Rattle.open_grid_row.specs.Words.{marked_words, grid_row_words}
use Rattle.open_grid_row.proofs.Stretches.{stretch_within}

-- a column's word and row, and what the others add, word by word and row by row
sorted : (xs word row words rows : List ℕ) → xors (xors xs (xors word row)) (xors words rows) ≡ xors xs (xors (xors word words) (xors row rows))
sorted xs word row words rows =
    xors_assoc xs (xors word row) (xors words rows)
    ∙ ap (λ (l : List ℕ). xors xs l)
    (xors_assoc word row (xors words rows) ∙ ap (λ (l : List ℕ). xors word l) (xors_left_comm row words rows) ∙ sym (xors_assoc word words (xors row rows)))

-- an XOR is no longer than what goes in first, and zeros of at least that length add nothing
length-xors_le : (xs ys : List ℕ) → length (xors xs ys) ≤ length xs
unfolding xors
length-xors_le [] ys = omega arith
length-xors_le (x ∷ xs) [] = omega arith
length-xors_le (x ∷ xs) (y ∷ ys) = omega (arith, length-xors_le xs ys)

zeros_add_nothing : (n : ℕ) (xs : List ℕ) → length xs ≤ n → bytes_good xs ≡ true → xors xs (zeros n) ≡ xs
unfolding xors zeros
zeros_add_nothing n [] h good = refl
zeros_add_nothing zero (x ∷ xs) h good = let none : ⊥ = omega arith in absurd none
zeros_add_nothing (suc n) (x ∷ xs) h good = rw (xor_from_zero 8 x (good_head x xs good), zeros_add_nothing n xs (omega arith) (good_tail x xs good))

-- bytes from a starting byte on are a stretch of the row
row_stretch : (s n l : ℕ) (seed : List ℕ) → s + n ≤ l → expand_from s n seed ≡ stretch s n (expand l seed)
unfolding stretch
row_stretch s n l seed h = from_within s n l seed h

module _ (b : Board) (ps : List ℕ) (g s n : ℕ) (within : s + n ≤ row_long b) where
  -- the rows of so many held seeds from the q-th on, from byte s on
  abbrev rows_behind : (count q : ℕ) → List ℕ
  rows_behind count q = rows_joined count s n (drop (mark_bytes b + 32 * q) ps)

  abbrev row_of_seed : (q : ℕ) → List ℕ
  row_of_seed q = stretch s n (expand (row_long b) (take 32 (drop (mark_bytes b + 32 * q) ps)))

  -- the words of the marked columns from j on
  abbrev words_from_on : (k j : ℕ) → List ℕ
  words_from_on k j = marked_words k j ps (drop ((grid_rows b - g) * stride b) ps) (row_long b) s n

  -- the stretch of a word is one of the words
  word_stretch : (j : ℕ) → stretch (j * row_long b + s) n (drop ((grid_rows b - g) * stride b) ps) ≡ stretch s n (word_behind b ps g j)
  unfolding stretch word_behind
  word_stretch j =
      let at = (grid_rows b - g) * stride b in
      let place : at + (j * row_long b + s) ≡ at + j * row_long b + s = omega arith in
      ap (λ (l : List ℕ). take n l) (drop-drop (j * row_long b + s) at ps ∙ ap (λ (k : ℕ). drop k ps) place ∙ sym (drop-drop s (at + j * row_long b) ps))
      ∙ sym (stretch_within s n (row_long b) (drop (at + j * row_long b) ps) within)

  no_rows : (q : ℕ) → rows_behind 0 q ≡ zeros n
  unfolding rows_joined
  no_rows q = refl

  one_row_more : (count q : ℕ) → rows_behind (suc count) q ≡ xors (row_of_seed q) (rows_behind count (suc q))
  unfolding rows_joined
  one_row_more count q =
      let seeds = drop (mark_bytes b + 32 * q) ps in
      let next : mark_bytes b + 32 * q + 32 ≡ mark_bytes b + 32 * suc q = omega arith in
      let behind : drop 32 seeds ≡ drop (mark_bytes b + 32 * suc q) ps = drop-drop 32 (mark_bytes b + 32 * q) ps ∙ ap (λ (m : ℕ). drop m ps) next in
      rw (behind, row_stretch s n (row_long b) (take 32 seeds) within)

  by_mark : (t : Bool) (xs word words with without : List ℕ) (count q : ℕ) →
      with ≡ xors (xors xs (xors word (row_of_seed q))) (xors words (rows_behind count (suc q))) → without ≡ xors xs (xors words (rows_behind count q)) →
      cond t with without ≡ xors xs (xors (cond t (xors word words) words) (rows_behind (cond t 1 0 + count) q))
  by_mark true xs word words with without count q e h =
      let more : 1 + count ≡ suc count = omega arith in
      e ∙ sorted xs word (row_of_seed q) words (rows_behind count (suc q)) ∙ rw (more, one_row_more count q)
  by_mark false xs word words with without count q e h =
      let same : 0 + count ≡ count = omega arith in
      h ∙ rw same

  halves_from : (k j q : ℕ) (xs : List ℕ) → length xs ≤ n → bytes_good xs ≡ true →
      shares_from k j q b (expand (row_long b)) ps g s n xs ≡ xors xs (xors (words_from_on k j) (rows_behind (count_marks k j ps) q))
  unfolding shares_from marked_words count_marks marked
  halves_from zero j q xs long good =
      let nothing : xors (zeros n) (rows_behind 0 q) ≡ zeros n = rw (no_rows q) (xors_zeros_left n (zeros n) (word_zeros n)) in
      sym (ap (λ (l : List ℕ). xors xs l) nothing ∙ zeros_add_nothing n xs long good)
  halves_from (suc k) j q xs long good =
      let one = xors (stretch s n (word_behind b ps g j)) (row_of_seed q) in
      rw (word_stretch j)
      (by_mark (marked ps j) xs (stretch s n (word_behind b ps g j)) (words_from_on k (suc j)) _ _ (count_marks k (suc j) ps) q
      (halves_from k (suc j) (suc q) (xors xs one) (omega (arith, length-xors_le xs one)) (good_xors xs one)) (halves_from k (suc j) q xs long good))

  -- the rows of all held seeds, and with the words no more than the bytes that are wanted
  abbrev held_rows : List ℕ
  held_rows = rows_joined (columns b / 2) s n (drop (mark_bytes b) ps)

  into_zeros : (words : List ℕ) → xors (zeros n) (xors held_rows words) ≡ xors held_rows words
  into_zeros words =
      let rows_long : length held_rows ≡ n = (word_rows (columns b / 2) s n (drop (mark_bytes b) ps)).long in
      let short : length (xors held_rows words) ≤ n = omega (arith, length-xors_le held_rows words) in
      xors_comm (zeros n) (xors held_rows words) ∙ zeros_add_nothing n (xors held_rows words) short (good_xors held_rows words)

  -- the two halves of the shares
  shares_are : count_marks (columns b) 0 ps ≡ columns b / 2 → shares b (expand (row_long b)) ps g s n ≡ xors held_rows (grid_row_words b ps g s n)
  unfolding shares grid_row_words
  shares_are half =
      let first : mark_bytes b + 32 * 0 ≡ mark_bytes b = omega arith in
      let words = words_from_on (columns b) 0 in
      halves_from (columns b) 0 0 (zeros n) (omega (arith, (word_zeros n).long)) (good_zeros n)
      ∙ rw (half, first) (rw (xors_comm words held_rows) (into_zeros words))

  -- XORed into zeros they are as they are
  pub shares_fresh : count_marks (columns b) 0 ps ≡ columns b / 2 →
      xors (zeros n) (shares b (expand (row_long b)) ps g s n) ≡ shares b (expand (row_long b)) ps g s n
  shares_fresh half = rw (shares_are half) (into_zeros (grid_row_words b ps g s n))

module _ (b : Board) (ps : List ℕ) (g : ℕ) (half : count_marks (columns b) 0 ps ≡ columns b / 2) (room : stride b ≤ length ps) (seeds : List ℕ)
    (seeds_are : seeds ≡ take (32 * (columns b / 2)) (drop (mark_bytes b) ps)) where
  -- the rows of the held seeds, counted by their bytes
  rows_held : (s n : ℕ) → rows_joined (length seeds / 32) s n seeds ≡ rows_joined (columns b / 2) s n (drop (mark_bytes b) ps)
  unfolding stride
  rows_held s n =
      let count = columns b / 2 in
      let long : length (take (32 * count) (drop (mark_bytes b) ps)) ≡ 32 * count = length-take-le (32 * count) (drop (mark_bytes b) ps) (rw length-drop (omega (arith, room))) in
      let all : length seeds / 32 ≡ count = ap (λ (l : List ℕ). length l / 32) seeds_are ∙ ap (λ (k : ℕ). k / 32) long ∙ omega arith in
      rw (all, seeds_are) (rows_of_front count s n (32 * count) (drop (mark_bytes b) ps) (omega arith))

  -- rows and words XORed in, one after the other, are the shares XORed in
  pub shares_added : (s : ℕ) (old rows_in words_in : List ℕ) → length rows_in ≡ length old → s + length old ≤ row_long b →
      rows_in ≡ xors old (rows_joined (length seeds / 32) s (length old) seeds) → words_in ≡ xors rows_in (grid_row_words b ps g s (length rows_in)) →
      words_in ≡ xors old (shares b (expand (row_long b)) ps g s (length old))
  shares_added s old rows_in words_in long within rows_is words_is =
      let n = length old in
      words_is ∙ rw (long, rows_is, rows_held s n)
      (xors_assoc old (rows_joined (columns b / 2) s n (drop (mark_bytes b) ps)) (grid_row_words b ps g s n)
      ∙ ap (λ (l : List ℕ). xors old l) (sym (shares_are b ps g s n within half)))
