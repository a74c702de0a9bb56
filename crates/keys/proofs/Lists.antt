-- Strings cut into parts of one length and glued together again, and take and drop at known places. Assumes nothing.
use mathlib.Core.Path.{◌≡◌, refl, sym, ap, ◌∙◌}
use mathlib.Core.Bool.{true, ◌&&◌}
use mathlib.Core.List.{List, [], ◌∷◌, ◌++◌, append_assoc}
use Prim.Native.Nat.{ℕ, zero, suc, ◌+◌, ◌*◌, ◌≤◌, ◌<◌}
use native.Mathlib.Omega.{arith}
use lib.Dec.{eqb}
use lib.ListN.{length, get_or, take, drop, length-append, length-drop}
use lib.Seq.{take-add, drop-drop, take_at, drop_at, length-take-le}
use borrow.Author.Tests.{eqb-true, eq-eqb}
use Rattle.xor.specs.Xor.{xors, zeros, bytes_good}
use Rattle.xor.proofs.Laws.{Word, good_append, good_take, good_drop, append_xors, and_left, and_right, and_both}
use Rattle.writer.specs.InARow.{in_a_row}
use Rattle.writer.proofs.InARow.{row_repeat}
use Rattle.grid.specs.Grid.{each_long}
use Rattle.keys.specs.Keys.{glued, words_from}

-- PARTS OF ONE LENGTH

pub length_words : (k l : ℕ) (bs : List ℕ) → length (words_from k l bs) ≡ k
unfolding words_from
length_words zero l bs = refl
length_words (suc k) l bs = ap suc (length_words k l (drop l bs))

-- a string that is cut and glued is the string, as far as it was cut
pub glue_words : (k l : ℕ) (bs : List ℕ) → glued (words_from k l bs) ≡ take (k * l) bs
unfolding glued words_from
glue_words zero l bs =
    let none : zero * l ≡ zero = omega arith in
    rw none
glue_words (suc k) l bs =
    let first : suc k * l ≡ l + k * l = omega arith in
    rw (glue_words k l (drop l bs), first) (sym (take-add l (k * l) bs))

-- the j-th part
pub words_at : (k l j : ℕ) (bs : List ℕ) → j < k → get_or (words_from k l bs) j [] ≡ take l (drop (j * l) bs)
unfolding words_from
words_at zero l j bs h = let none : ⊥ = omega arith in absurd none
words_at (suc k) l zero bs h =
    let none : zero * l ≡ zero = omega arith in
    rw none
words_at (suc k) l (suc j) bs h =
    let next : suc j * l ≡ l + j * l = omega arith in
    rw (words_at k l j (drop l bs) (omega arith), drop-drop (j * l) l bs, next)

-- parts left out at the front
pub drop_words : (m k l : ℕ) (bs : List ℕ) → drop m (words_from (m + k) l bs) ≡ words_from k l (drop (m * l) bs)
unfolding words_from
drop_words zero k l bs =
    let none : zero * l ≡ zero = omega arith in
    let all : zero + k ≡ k = omega arith in
    rw (none, all)
drop_words (suc m) k l bs =
    let next : suc m * l ≡ l + m * l = omega arith in
    let more : suc m + k ≡ suc (m + k) = omega arith in
    rw (more, next, drop_words m k l (drop l bs), drop-drop (m * l) l bs)

-- parts kept at the front
pub take_words : (m k l : ℕ) (bs : List ℕ) → take m (words_from (m + k) l bs) ≡ words_from m l bs
unfolding words_from
take_words zero k l bs = refl
take_words (suc m) k l bs =
    let more : suc m + k ≡ suc (m + k) = omega arith in
    rw more (ap (λ (ws : List (List ℕ)). take l bs ∷ ws) (take_words m k l (drop l bs)))

-- EACH PART A WORD: strings of exactly l bytes

pub each_cons : (l : ℕ) (x : List ℕ) (xs : List (List ℕ)) → Word l x → each_long l xs ≡ true → each_long l (x ∷ xs) ≡ true
unfolding each_long
each_cons l x xs p h =
    and_both (eqb (length x) l && bytes_good x) (each_long l xs)
    (and_both (eqb (length x) l) (bytes_good x) (eq-eqb (length x) l p.long) p.good) h

pub each_head : (l : ℕ) (x : List ℕ) (xs : List (List ℕ)) → each_long l (x ∷ xs) ≡ true → Word l x
unfolding each_long
each_head l x xs h =
    let first = and_left (eqb (length x) l && bytes_good x) (each_long l xs) h in
    record {
      long = eqb-true (length x) l (and_left (eqb (length x) l) (bytes_good x) first);
      good = and_right (eqb (length x) l) (bytes_good x) first;
    }

pub each_tail : (l : ℕ) (x : List ℕ) (xs : List (List ℕ)) → each_long l (x ∷ xs) ≡ true → each_long l xs ≡ true
unfolding each_long
each_tail l x xs h = and_right (eqb (length x) l && bytes_good x) (each_long l xs) h

pub each_append : (l : ℕ) (xs ys : List (List ℕ)) → each_long l xs ≡ true → each_long l ys ≡ true → each_long l (xs ++ ys) ≡ true
each_append l [] ys p q = q
each_append l (x ∷ xs) ys p q = each_cons l x (xs ++ ys) (each_head l x xs p) (each_append l xs ys (each_tail l x xs p) q)

pub each_drop : (l m : ℕ) (xs : List (List ℕ)) → each_long l xs ≡ true → each_long l (drop m xs) ≡ true
each_drop l zero xs p = p
each_drop l (suc m) [] p = p
each_drop l (suc m) (x ∷ xs) p = each_drop l m xs (each_tail l x xs p)

pub each_take : (l m : ℕ) (xs : List (List ℕ)) → each_long l xs ≡ true → each_long l (take m xs) ≡ true
unfolding each_long
each_take l zero xs p = refl
each_take l (suc m) [] p = refl
each_take l (suc m) (x ∷ xs) p = each_cons l x (take m xs) (each_head l x xs p) (each_take l m xs (each_tail l x xs p))

-- a long enough string of bytes is cut into words
pub each_words : (k l : ℕ) (bs : List ℕ) → k * l ≤ length bs → bytes_good bs ≡ true → each_long l (words_from k l bs) ≡ true
unfolding words_from each_long
each_words zero l bs h g = refl
each_words (suc k) l bs h g =
    let first : suc k * l ≡ l + k * l = omega arith in
    each_cons l (take l bs) (words_from k l (drop l bs)) (record { long = length-take-le l bs (omega arith); good = good_take l bs g })
    (each_words k l (drop l bs) (rw length-drop (omega arith)) (good_drop l bs g))

pub length-glued : (l : ℕ) (ws : List (List ℕ)) → each_long l ws ≡ true → length (glued ws) ≡ length ws * l
unfolding glued
length-glued l [] h = omega arith
length-glued l (w ∷ ws) h =
    rw length-append (omega (arith, length-glued l ws (each_tail l w ws h), (each_head l w ws h).long))

pub good_glued : (l : ℕ) (ws : List (List ℕ)) → each_long l ws ≡ true → bytes_good (glued ws) ≡ true
unfolding glued bytes_good
good_glued l [] h = refl
good_glued l (w ∷ ws) h = good_append w (glued ws) (each_head l w ws h).good (good_glued l ws (each_tail l w ws h))

-- words that are glued, with anything behind them, and cut again are the words
pub words_glue : (k l : ℕ) (ws : List (List ℕ)) (rest : List ℕ) → length ws ≡ k → each_long l ws ≡ true → words_from k l (glued ws ++ rest) ≡ ws
unfolding glued words_from
words_glue zero l [] rest e h = refl
words_glue zero l (w ∷ ws) rest e h = let none : ⊥ = omega arith in absurd none
words_glue (suc k) l [] rest e h = let none : ⊥ = omega arith in absurd none
words_glue (suc k) l (w ∷ ws) rest e h =
    let long = (each_head l w ws h).long in
    rw (append_assoc w (glued ws) rest, take_at w (glued ws ++ rest) l long, drop_at w (glued ws ++ rest) l long)
    (ap (λ (vs : List (List ℕ)). w ∷ vs) (words_glue k l ws rest (omega arith) (each_tail l w ws h)))

-- STRINGS IN A ROW

-- words of one length make a word of k times that length
pub row_word : (l k i : ℕ) (F : ℕ → List ℕ) → ((j : ℕ) → i ≤ j → j < i + k → Word l (F j)) → Word (k * l) (in_a_row k i F)
unfolding in_a_row bytes_good
row_word l zero i F h = record { long = omega arith; good = refl }
row_word l (suc k) i F h =
    let first = h i (omega arith) (omega arith) in
    let others = row_word l k (suc i) F (λ j p q. h j (omega arith) (omega arith)) in
    record {
      long = length-append (F i) (in_a_row k (suc i) F) ∙ omega (arith, first.long, others.long);
      good = good_append (F i) (in_a_row k (suc i) F) first.good others.good;
    }

-- XOR goes string by string
pub row_xors : (l k i : ℕ) (F G : ℕ → List ℕ) → ((j : ℕ) → i ≤ j → j < i + k → (length (F j) ≡ l) × (length (G j) ≡ l)) →
    xors (in_a_row k i F) (in_a_row k i G) ≡ in_a_row k i (λ j. xors (F j) (G j))
unfolding in_a_row xors
row_xors l zero i F G h = refl
row_xors l (suc k) i F G h =
    let first = h i (omega arith) (omega arith) in
    append_xors (F i) (G i) (in_a_row k (suc i) F) (in_a_row k (suc i) G) (first.0 ∙ sym first.1)
    ∙ ap (λ (r : List ℕ). xors (F i) (G i) ++ r) (row_xors l k (suc i) F G (λ j p q. h j (omega arith) (omega arith)))

pub row_zeros : (l k i : ℕ) → in_a_row k i (λ j. zeros l) ≡ zeros (k * l)
unfolding zeros
row_zeros l k i = row_repeat l k i 0
