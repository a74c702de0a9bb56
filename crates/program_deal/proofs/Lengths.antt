-- How long the keys of a dealing are, whatever numbers its value, seeds and words have: as long as those of zeros in their place.
-- Assumes nothing.
use mathlib.Core.Path.{◌≡◌, refl, sym, ap, ◌∙◌}
use mathlib.Core.Bool.{Bool, true, false, cond}
use mathlib.Core.List.{List, [], ◌∷◌, ◌++◌}
use Prim.Native.Nat.{ℕ, zero, suc, ◌+◌, ◌*◌, ◌-◌, ◌/◌, ◌%◌}
use native.Mathlib.Omega.{arith}
use lib.ListN.{length, take, drop, get_or, length-append, length-take, length-drop, length-replicate}
use Rattle.xor.specs.Xor.{xors, zeros}
use Rattle.xor.proofs.Laws.{good_zeros}
use Rattle.grid.specs.Grid.{Board, bit, columns, grid_rows, row_long, row_of, piece, xor_rows, xor_all, last_word, all_words}
use Rattle.keys.specs.Keys.{header, packed, mark_bytes, held_seeds, body_from, glued, rows_from, words_from}
use Rattle.keys.specs.Keys.{Lent, dealing, key, keys_from, key_long, sizes_refusal, deal_refusal}
use Rattle.keys.proofs.Lists.{glue_words}
use Rattle.chacha20.proofs.Stream.{word_expand}
use Rattle.seed_rows.specs.Rows.{rule}
use Rattle.promises.proofs.DealtKeys.{lent_accepted, keys_length}

-- ONE LENGTH AND ANOTHER

-- parts that are as long, one behind another, are as long
append_same : (ss ts us vs : List ℕ) → length ss ≡ length ts → length us ≡ length vs → length (ss ++ us) ≡ length (ts ++ vs)
append_same ss ts us vs h k = omega (arith, length-append ss us, length-append ts vs)

take_same : (k : ℕ) (ss ts : List ℕ) → length ss ≡ length ts → length (take k ss) ≡ length (take k ts)
take_same k ss ts h = rw (length-take k ss, length-take k ts, h)

drop-same : (k : ℕ) (ss ts : List ℕ) → length ss ≡ length ts → length (drop k ss) ≡ length (drop k ts)
drop-same k ss ts h = rw (length-drop k ss, length-drop k ts, h)

xors_same : (ss ts us vs : List ℕ) → length ss ≡ length ts → length us ≡ length vs → length (xors ss us) ≡ length (xors ts vs)
unfolding xors
xors_same [] [] us vs h k = refl
xors_same [] (t ∷ ts) us vs h k = absurd (omega arith)
xors_same (s ∷ ss) [] us vs h k = absurd (omega arith)
xors_same (s ∷ ss) (t ∷ ts) [] [] h k = refl
xors_same (s ∷ ss) (t ∷ ts) [] (v ∷ vs) h k = absurd (omega arith)
xors_same (s ∷ ss) (t ∷ ts) (u ∷ us) [] h k = absurd (omega arith)
xors_same (s ∷ ss) (t ∷ ts) (u ∷ us) (v ∷ vs) h k = ap suc (xors_same ss ts us vs (omega arith) (omega arith))

-- SEEDS

held_same : (i : ℕ) (cs ss ts : List ℕ) → length ss ≡ length ts → length (held_seeds i cs ss) ≡ length (held_seeds i cs ts)
unfolding held_seeds
held_same i [] ss ts h = refl
held_same i (c ∷ cs) ss ts h =
    append_same (cond (bit c i) (take 32 ss) []) (cond (bit c i) (take 32 ts) []) (held_seeds i cs (drop 32 ss)) (held_seeds i cs (drop 32 ts))
    (one (bit c i)) (held_same i cs (drop 32 ss) (drop 32 ts) (drop-same 32 ss ts h))
  where
    one : (t : Bool) → length (cond t (take 32 ss) []) ≡ length (cond t (take 32 ts) [])
    one true = take_same 32 ss ts h
    one false = refl

body_same : (k : ℕ) (b : Board) (i : ℕ) (cs ss ts : List ℕ) → length ss ≡ length ts → length (body_from k b i cs ss) ≡ length (body_from k b i cs ts)
unfolding body_from
body_same zero b i cs ss ts h = refl
body_same (suc k) b i cs ss ts h =
    let marks = packed (mark_bytes b) i (take (columns b) cs) in
    let first = take (columns b) cs in
    append_same (marks ++ held_seeds i first ss) (marks ++ held_seeds i first ts) (body_from k b i (drop (columns b) cs) (drop (32 * columns b) ss))
    (body_from k b i (drop (columns b) cs) (drop (32 * columns b) ts))
    (append_same marks marks (held_seeds i first ss) (held_seeds i first ts) refl (held_same i first ss ts h))
    (body_same k b i (drop (columns b) cs) (drop (32 * columns b) ss) (drop (32 * columns b) ts) (drop-same (32 * columns b) ss ts h))

-- WORDS

words_same : (k n : ℕ) (ss ts xs ys : List ℕ) → length ss ≡ length ts → length xs ≡ length ys →
    length (xor_all (words_from k n ss) xs) ≡ length (xor_all (words_from k n ts) ys)
unfolding xor_all words_from
words_same zero n ss ts xs ys h k = k
words_same (suc k) n ss ts xs ys h same =
    words_same k n (drop n ss) (drop n ts) (xors xs (take n ss)) (xors ys (take n ts)) (drop-same n ss ts h)
    (xors_same xs ys (take n ss) (take n ts) same (take_same n ss ts h))

rows_same : (k m n : ℕ) (f : List ℕ → List ℕ) (ss ts : List ℕ) → ((seed : List ℕ) → length (f seed) ≡ n) →
    length (get_or (rows_from k f ss) m []) ≡ length (get_or (rows_from k f ts) m [])
unfolding rows_from
rows_same zero m n f ss ts long = refl
rows_same (suc k) zero n f ss ts long = long (take 32 ss) ∙ sym (long (take 32 ts))
rows_same (suc k) (suc m) n f ss ts long = rows_same k m n f (drop 32 ss) (drop 32 ts) long

sums_same : (k j : ℕ) (b : Board) (rs qs : List (List ℕ)) (g : ℕ) (xs ys : List ℕ) → ((m : ℕ) → length (get_or rs m []) ≡ length (get_or qs m [])) →
    length xs ≡ length ys → length (xor_rows k j b rs g xs) ≡ length (xor_rows k j b qs g ys)
unfolding xor_rows row_of
sums_same zero j b rs qs g xs ys rows h = h
sums_same (suc k) j b rs qs g xs ys rows h =
    sums_same k (suc j) b rs qs g (xors xs (row_of b rs g j)) (xors ys (row_of b qs g j)) rows
    (xors_same xs ys (row_of b rs g j) (row_of b qs g j) h (rows (g * columns b + j)))

glued_last : (ws : List (List ℕ)) (x : List ℕ) → length (glued (ws ++ (x ∷ []))) ≡ length (glued ws) + length x
unfolding glued
glued_last [] x = omega (arith, length-append x [])
glued_last (w ∷ ws) x = omega (arith, length-append w (glued (ws ++ (x ∷ []))), length-append w (glued ws), glued_last ws x)

-- THE KEYS

-- zeros for the value, the seeds and the words
abbrev blank : Lent → Lent
blank l =
    record {
      point = l.point;
      value = zeros (length l.value);
      arrays = l.arrays;
      seeds = zeros (length l.seeds);
      words = zeros (length l.words);
    }

zeros_same : (xs : List ℕ) → length xs ≡ length (zeros (length xs))
unfolding zeros
zeros_same xs = sym (length-replicate {A = ℕ} (length xs) 0)

module _ (b : Board) (l : Lent) where
  abbrev rows : List ℕ → List ℕ
  rows seed = rule b seed

  last_same : length (last_word b (dealing b rows l)) ≡ length (last_word b (dealing b rows (blank l)))
  unfolding last_word dealing piece
  last_same =
      let from = zeros (l.point % b.wide * b.w) in
      let behind = zeros (row_long b - suc (l.point % b.wide) * b.w) in
      sums_same (columns b) 0 b _ _ (l.point / b.wide) _ _
      (λ m. rows_same (grid_rows b * columns b) m (row_long b) rows l.seeds (zeros (length l.seeds)) (λ seed. (word_expand (row_long b) seed).long))
      (words_same (columns b - 1) (row_long b) l.words (zeros (length l.words)) _ _ (zeros_same l.words)
      (append_same (from ++ l.value) (from ++ zeros (length l.value)) behind behind
      (append_same from from l.value (zeros (length l.value)) refl (zeros_same l.value)) refl))

  glued_same : length (glued (all_words b (dealing b rows l))) ≡ length (glued (all_words b (dealing b rows (blank l))))
  unfolding all_words dealing
  glued_same =
      let k = columns b - 1 in
      let n = row_long b in
      let given = ap length (glue_words k n l.words) in
      let none = ap length (glue_words k n (zeros (length l.words))) in
      omega (
        arith,
        glued_last (words_from k n l.words) (last_word b (dealing b rows l)),
        glued_last (words_from k n (zeros (length l.words))) (last_word b (dealing b rows (blank l))),
        last_same,
        given,
        none,
        take_same (k * n) l.words (zeros (length l.words)) (zeros_same l.words),
      )

  key_same : (i : ℕ) → length (key b rows l i) ≡ length (key b rows (blank l) i)
  unfolding key
  key_same i =
      let first = header b i in
      let zero_seeds = zeros (length l.seeds) in
      append_same (first ++ body_from (grid_rows b) b i l.arrays l.seeds) (first ++ body_from (grid_rows b) b i l.arrays zero_seeds)
      (glued (all_words b (dealing b rows l))) (glued (all_words b (dealing b rows (blank l))))
      (append_same first first _ _ refl (body_same (grid_rows b) b i l.arrays l.seeds zero_seeds (zeros_same l.seeds))) glued_same

  keys_same : (k i : ℕ) → length (keys_from k i b rows l) ≡ length (keys_from k i b rows (blank l))
  unfolding keys_from
  keys_same zero i = refl
  keys_same (suc k) i =
      append_same (key b rows l i) (key b rows (blank l) i) (keys_from k (suc i) b rows l) (keys_from k (suc i) b rows (blank l)) (key_same i)
      (keys_same k (suc i))

  blank_asks : deal_refusal b (blank l) ≡ deal_refusal b l
  unfolding deal_refusal sizes_refusal
  blank_asks = rw (← zeros_same l.value, ← zeros_same l.seeds, ← zeros_same l.words)

  -- the keys of an accepted dealing have p × K numbers
  pub keys_count : deal_refusal b l ≡ 0 → length (keys_from b.p 0 b rows l) ≡ b.p * key_long b
  keys_count accepted =
      keys_same b.p 0
      ∙ keys_length b (blank l)
      (lent_accepted b (blank l) (blank_asks ∙ accepted) (good_zeros (length l.value)) (good_zeros (length l.seeds)) (good_zeros (length l.words)))
