-- What Deal writes: an accepted dealing is a good dealing under every good rule, its keys are the writing of the dealt parts, these parts
-- are good, and a share by them is the dealing's share. Assumes nothing.
use mathlib.Core.Path.{◌≡◌, refl, sym, ap, ◌∙◌}
use mathlib.Core.Bool.{Bool, true, false, ◌&&◌, cond}
use mathlib.Core.List.{List, [], ◌∷◌, ◌++◌}
use Prim.Native.Nat.{ℕ, zero, suc, ◌+◌, ◌*◌, ◌-◌, ◌/◌, ◌%◌, ◌≤◌, ◌<◌}
use native.Mathlib.Nat.{mul-le-mul_right}
use native.Mathlib.Omega.{arith}
use lib.Dec.{eqb}
use lib.ListN.{length, get_or, take, drop, length-take, length-drop}
use lib.Seq.{drop-drop, take_at, drop_at, drop-cons, length-take-le, take-add, take_all}
use borrow.Author.Tests.{eqb-true}
use Rattle.xor.specs.Xor.{xors, zeros, bytes_good}
use Rattle.xor.proofs.Laws.{Word, and_left, and_right}
use Rattle.grid.specs.Grid.{Board, columns, grid_rows, row_long, bit, column, row_of, all_words, cell}
use Rattle.grid.specs.Grid.{share_from, share, arrays_good, each_long, marks_of, held_rows}
use Rattle.grid.specs.Arrays.{count_marked, HalfIsMarked}
use Rattle.grid.proofs.Facts.{board_accepted, BoardIn, board_in, Facts, arrays_in, arrays_split, array_of, array_long, rows_in, words_in, grid_row_in, words_long}
use Rattle.grid.proofs.Arrays.{half_is_marked}
use Rattle.grid.proofs.LastWord.{all_words_long, all_words_are}
use Rattle.keys.specs.Keys.{Lent, dealing, deal_refusal, mark_bytes, held_seeds, body_from, glued, rows_from, words_from, key}
use Rattle.keys.specs.Keys.{packed_marks, grid_rows_written, key_written, parts_share, share_by_parts}
use Rattle.keys.specs.Promise.{RuleGood, lent_good, dealt_parts}
use Rattle.keys.proofs.Lists.{length_words, take_words, drop_words, each_cons, each_words, each_head, each_tail}
use Rattle.keys.proofs.Marks.{marks_set, packed_is, take_marks, drop_marks, length-marks_of}
use Rattle.keys.proofs.Accepted.{PartsGood}
use Rattle.keys.proofs.Lending.{accepted_lent}
use Rattle.keys.proofs.Opening.{row_word_of}

-- WHAT DEAL ACCEPTS

pub record LentIn (b : Board) (l : Lent) : Type 0 where
  pub board : BoardIn b
  pub point : l.point < b.n
  pub value : Word b.w l.value
  pub arrays_long : length l.arrays ≡ grid_rows b * columns b
  pub arrays : arrays_good (grid_rows b) 0 b l.point l.arrays ≡ true
  pub seeds : Word (32 * (grid_rows b * columns b)) l.seeds
  pub words : Word ((columns b - 1) * row_long b) l.words

pub lent_in : (b : Board) (l : Lent) → lent_good b l ≡ true → LentIn b l
unfolding lent_good
lent_in b l h =
    let good = bytes_good l.value && bytes_good l.seeds in
    let bytes = and_right (eqb (deal_refusal b l) 0) (good && bytes_good l.words) h in
    let two = and_left good (bytes_good l.words) bytes in
    let fits = accepted_lent b l (eqb-true (deal_refusal b l) 0 (and_left (eqb (deal_refusal b l) 0) (good && bytes_good l.words) h)) in
    let sizes = fits.sizes in
    record {
      board = board_in b sizes.accepted;
      point = sizes.point;
      value = record { long = sizes.value; good = and_left (bytes_good l.value) (bytes_good l.seeds) two };
      arrays_long = sizes.arrays;
      arrays = fits.parities;
      seeds = record { long = sizes.seeds; good = and_right (bytes_good l.value) (bytes_good l.seeds) two };
      words = record { long = sizes.words; good = and_right good (bytes_good l.words) bytes };
    }

-- ROWS under a rule

pub length_rows : (k : ℕ) (f : List ℕ → List ℕ) (ss : List ℕ) → length (rows_from k f ss) ≡ k
unfolding rows_from
length_rows zero f ss = refl
length_rows (suc k) f ss = ap suc (length_rows k f (drop 32 ss))

-- the rows of seeds are their seeds' rows, one by one
pub rows_at : (k j : ℕ) (f : List ℕ → List ℕ) (ss : List ℕ) → j < k → get_or (rows_from k f ss) j [] ≡ f (get_or (words_from k 32 ss) j [])
unfolding rows_from words_from
rows_at zero j f ss h = let none : ⊥ = omega arith in absurd none
rows_at (suc k) zero f ss h = refl
rows_at (suc k) (suc j) f ss h = rows_at k j f (drop 32 ss) (omega arith)

each_row : (k : ℕ) (b : Board) (f : List ℕ → List ℕ) (ss : List ℕ) → RuleGood b f → each_long 32 (words_from k 32 ss) ≡ true → each_long (row_long b) (rows_from k f ss) ≡ true
unfolding rows_from words_from each_long
each_row zero b f ss rule h = refl
each_row (suc k) b f ss rule h =
    each_cons (row_long b) (f (take 32 ss)) (rows_from k f (drop 32 ss))
    (row_word_of b f (take 32 ss) rule (each_head 32 (take 32 ss) (words_from k 32 (drop 32 ss)) h))
    (each_row k b f (drop 32 ss) rule (each_tail 32 (take 32 ss) (words_from k 32 (drop 32 ss)) h))

-- the lent seeds, as words
pub seeds_words : (b : Board) (l : Lent) → LentIn b l → each_long 32 (words_from (grid_rows b * columns b) 32 l.seeds) ≡ true
seeds_words b l t = each_words (grid_rows b * columns b) 32 l.seeds (omega (arith, t.seeds.long)) t.seeds.good

-- an accepted dealing is a good dealing under every good rule
pub dealing_facts : (b : Board) (f : List ℕ → List ℕ) (l : Lent) → RuleGood b f → LentIn b l → Facts b (dealing b f l)
unfolding dealing
dealing_facts b f l rule t =
    let cells = grid_rows b * columns b in
    record {
      board = t.board;
      point_in = t.point;
      value = t.value;
      arrays = arrays_in b l.point l.arrays t.arrays_long t.arrays;
      rows = rows_in b (rows_from cells f l.seeds) (length_rows cells f l.seeds) (each_row cells b f l.seeds rule (seeds_words b l t));
      words = words_in b (words_from (columns b - 1) (row_long b) l.words) (length_words (columns b - 1) (row_long b) l.words)
          (each_words (columns b - 1) (row_long b) l.words (omega (arith, t.words.long)) t.words.good);
    }

-- A PLAYER'S MARKS: half of each grid row

marks_marked : (i : ℕ) (cs : List ℕ) → marks_set (marks_of i cs) ≡ count_marked i cs
unfolding marks_set marks_of count_marked
marks_marked i [] = refl
marks_marked i (c ∷ cs) = ap (λ (n : ℕ). cond (bit c i) 1 0 + n) (marks_marked i cs)

pub half_marked : (b : Board) (l : Lent) (i : ℕ) → LentIn b l → i < b.p → (g : ℕ) → g < grid_rows b →
    marks_set (take (columns b) (drop (g * columns b) (marks_of i l.arrays))) ≡ columns b / 2
unfolding array_of HalfIsMarked
half_marked b l i t h g inside =
    rw (← drop_marks (g * columns b) i l.arrays, ← take_marks (columns b) i (drop (g * columns b) l.arrays))
    (marks_marked i (array_of b l.arrays g)
    ∙ half_is_marked b (eqb (0 + g) (l.point / b.wide)) (array_of b l.arrays g)
    (record {
      board = board_accepted b t.board;
      long = array_long b l.arrays t.arrays_long g inside;
      good = arrays_split (grid_rows b) 0 b l.point l.arrays t.arrays g inside;
    }) i h)

pub marks_append : (ms ns : List Bool) → marks_set (ms ++ ns) ≡ marks_set ms + marks_set ns
unfolding marks_set
marks_append [] ns = omega arith
marks_append (m ∷ ms) ns = omega (arith, marks_append ms ns)

-- k grid rows of J marks, H of each set
pub marks_total : (k J H : ℕ) (ms : List Bool) → ((g : ℕ) → g < k → marks_set (take J (drop (g * J) ms)) ≡ H) → marks_set (take (k * J) ms) ≡ k * H
unfolding marks_set
marks_total zero J H ms h = let none : zero * J ≡ zero = omega arith in rw none (omega arith)
marks_total (suc k) J H ms h =
    let next : suc k * J ≡ J + k * J = omega arith in
    let none : 0 * J ≡ 0 = omega arith in
    let first : marks_set (take J ms) ≡ H = (rw none at (h 0 (omega arith))) in
    let later : marks_set (take (k * J) (drop J ms)) ≡ k * H =
    marks_total k J H (drop J ms)
    (λ g p. let further : J + g * J ≡ suc g * J = omega arith in rw (drop-drop (g * J) J ms, further) (h (suc g) (omega arith))) in
    rw (next, take-add J (k * J) ms, marks_append (take J ms) (take (k * J) (drop J ms))) (omega arith)

-- HELD ROWS AND SEEDS, those of marked columns

pub length-held : (i : ℕ) (cs : List ℕ) (rs : List (List ℕ)) → length cs ≡ length rs → length (held_rows i cs rs) ≡ marks_set (marks_of i cs)
unfolding held_rows marks_set marks_of
length-held i [] rs e = refl
length-held i (c ∷ cs) [] e = let none : ⊥ = omega arith in absurd none
length-held i (c ∷ cs) (r ∷ rs) e = go (bit c i) (length-held i cs rs (omega arith))
  where
    go : (t : Bool) → length (held_rows i cs rs) ≡ marks_set (marks_of i cs) →
        length (cond t (r ∷ held_rows i cs rs) (held_rows i cs rs)) ≡ cond t 1 0 + marks_set (marks_of i cs)
    go true ih = omega arith
    go false ih = omega arith

each_held : (n i : ℕ) (cs : List ℕ) (rs : List (List ℕ)) → each_long n rs ≡ true → each_long n (held_rows i cs rs) ≡ true
unfolding held_rows each_long
each_held n i [] rs h = refl
each_held n i (c ∷ cs) [] h = refl
each_held n i (c ∷ cs) (r ∷ rs) h = go (bit c i) (each_held n i cs rs (each_tail n r rs h))
  where
    go : (t : Bool) → each_long n (held_rows i cs rs) ≡ true → each_long n (cond t (r ∷ held_rows i cs rs) (held_rows i cs rs)) ≡ true
    go true ih = each_cons n r (held_rows i cs rs) (each_head n r rs h) ih
    go false ih = ih

-- held rows of two stretches of columns
held_cut : (i m : ℕ) (cs : List ℕ) (rs : List (List ℕ)) → length cs ≡ length rs →
    held_rows i cs rs ≡ held_rows i (take m cs) (take m rs) ++ held_rows i (drop m cs) (drop m rs)
unfolding held_rows
held_cut i zero cs rs e = refl
held_cut i (suc m) [] rs e = refl
held_cut i (suc m) (c ∷ cs) [] e = let none : ⊥ = omega arith in absurd none
held_cut i (suc m) (c ∷ cs) (r ∷ rs) e = go (bit c i) (held_cut i m cs rs (omega arith))
  where
    front : List (List ℕ)
    front = held_rows i (take m cs) (take m rs)

    back : List (List ℕ)
    back = held_rows i (drop m cs) (drop m rs)

    go : (t : Bool) → held_rows i cs rs ≡ front ++ back → cond t (r ∷ held_rows i cs rs) (held_rows i cs rs) ≡ cond t (r ∷ front) front ++ back
    go true ih = rw ih
    go false ih = ih

-- cut at a column: in front of it stand as many held rows as marks
module _ (i m : ℕ) (cs : List ℕ) (rs : List (List ℕ)) (same : length cs ≡ length rs) where
  held_front : length (held_rows i (take m cs) (take m rs)) ≡ marks_set (take m (marks_of i cs))
  held_front =
      length-held i (take m cs) (take m rs) (rw (length-take m cs, length-take m rs, same)) ∙ ap marks_set (take_marks m i cs)

  held_take : take (marks_set (take m (marks_of i cs))) (held_rows i cs rs) ≡ held_rows i (take m cs) (take m rs)
  held_take =
      rw (held_cut i m cs rs same)
      (take_at (held_rows i (take m cs) (take m rs)) (held_rows i (drop m cs) (drop m rs)) (marks_set (take m (marks_of i cs))) held_front)

  pub held_drop : drop (marks_set (take m (marks_of i cs))) (held_rows i cs rs) ≡ held_rows i (drop m cs) (drop m rs)
  held_drop =
      rw (held_cut i m cs rs same)
      (drop_at (held_rows i (take m cs) (take m rs)) (held_rows i (drop m cs) (drop m rs)) (marks_set (take m (marks_of i cs))) held_front)

-- the held seeds are the seeds of marked columns, glued
held_glued : (k i : ℕ) (cs ss : List ℕ) → length cs ≡ k → held_seeds i cs ss ≡ glued (held_rows i cs (words_from k 32 ss))
unfolding held_seeds held_rows glued words_from
held_glued zero i [] ss e = refl
held_glued zero i (c ∷ cs) ss e = let none : ⊥ = omega arith in absurd none
held_glued (suc k) i [] ss e = refl
held_glued (suc k) i (c ∷ cs) ss e = go (bit c i) (held_glued k i cs (drop 32 ss) (omega arith))
  where
    go : (t : Bool) → held_seeds i cs (drop 32 ss) ≡ glued (held_rows i cs (words_from k 32 (drop 32 ss))) →
        cond t (take 32 ss) [] ++ held_seeds i cs (drop 32 ss)
        ≡ glued (cond t (take 32 ss ∷ held_rows i cs (words_from k 32 (drop 32 ss))) (held_rows i cs (words_from k 32 (drop 32 ss))))
    go true ih = rw ih
    go false ih = ih

-- THE KEYS ARE THE WRITING of the dealt parts

body_is : (k : ℕ) (b : Board) (i : ℕ) (cs ss : List ℕ) → length cs ≡ k * columns b →
    ((g : ℕ) → g < k → marks_set (take (columns b) (drop (g * columns b) (marks_of i cs))) ≡ columns b / 2) →
    body_from k b i cs ss ≡ grid_rows_written k b (marks_of i cs) (held_rows i cs (words_from (k * columns b) 32 ss))
unfolding body_from grid_rows_written
body_is zero b i cs ss e h = refl
body_is (suc k) b i cs ss e h =
    let J = columns b in
    let next : suc k * J ≡ J + k * J = omega arith in
    let seeds = words_from (J + k * J) 32 ss in
    let same : length cs ≡ length seeds = e ∙ next ∙ sym (length_words (J + k * J) 32 ss) in
    let none : 0 * J ≡ 0 = omega arith in
    let half : marks_set (take J (marks_of i cs)) ≡ J / 2 = (rw none at (h 0 (omega arith))) in
    let held_first : take (J / 2) (held_rows i cs seeds) ≡ held_rows i (take J cs) (words_from J 32 ss) =
    (rw (half, take_words J (k * J) 32 ss) at (held_take i J cs seeds same)) in
    let held_later : drop (J / 2) (held_rows i cs seeds) ≡ held_rows i (drop J cs) (words_from (k * J) 32 (drop (J * 32) ss)) =
    (rw (half, drop_words J (k * J) 32 ss) at (held_drop i J cs seeds same)) in
    let bytes : J * 32 ≡ 32 * J = omega arith in
    let others = body_is k b i (drop J cs) (drop (32 * J) ss) (length-drop J cs ∙ omega arith)
    (λ g p. let further : J + g * J ≡ suc g * J = omega arith in rw (drop_marks J i cs, drop-drop (g * J) J (marks_of i cs), further) (h (suc g) (omega arith))) in
    let first = packed_marks (mark_bytes b) (marks_of i (take J cs)) ++ glued (held_rows i (take J cs) (words_from J 32 ss)) in
    rw (next, held_first, held_later, bytes, ← drop_marks J i cs, ← take_marks J i cs, packed_is (mark_bytes b) i (take J cs))
    (rw (held_glued J i (take J cs) ss (length-take-le J cs (omega arith))) (ap (λ (later : List ℕ). first ++ later) others))

pub key_is : (b : Board) (f : List ℕ → List ℕ) (l : Lent) (i : ℕ) → LentIn b l → i < b.p → key b f l i ≡ key_written b i (dealt_parts b f l i)
unfolding key key_written dealt_parts
key_is b f l i t h = rw (body_is (grid_rows b) b i l.arrays l.seeds t.arrays_long (half_marked b l i t h))

-- as many seeds are lent as there are columns
seeds_count : (b : Board) (l : Lent) → LentIn b l → length l.arrays ≡ length (words_from (grid_rows b * columns b) 32 l.seeds)
seeds_count b l t = t.arrays_long ∙ sym (length_words (grid_rows b * columns b) 32 l.seeds)

-- and the dealt parts are good
pub dealt_good : (b : Board) (f : List ℕ → List ℕ) (l : Lent) (i : ℕ) → RuleGood b f → LentIn b l → i < b.p → PartsGood b (dealt_parts b f l i)
unfolding dealt_parts
dealt_good b f l i rule t h =
    let marks = marks_of i l.arrays in
    let seeds = words_from (grid_rows b * columns b) 32 l.seeds in
    let d = dealing b f l in
    let good = dealing_facts b f l rule t in
    let all : take (grid_rows b * columns b) marks ≡ marks = take_all (grid_rows b * columns b) marks (omega (arith, length-marks_of i l.arrays, t.arrays_long)) in
    record {
      rows = record {
        marks_long = length-marks_of i l.arrays ∙ t.arrays_long;
        half = half_marked b l i t h;
        seeds_long = length-held i l.arrays seeds (seeds_count b l t)
            ∙ (rw all at (marks_total (grid_rows b) (columns b) (columns b / 2) marks (half_marked b l i t h)));
        seeds_good = each_held 32 i l.arrays seeds (seeds_words b l t);
      };
      words_long = all_words_long b d good;
      words_good = words_long (row_long b) (all_words b d) (λ j p. all_words_are b d good j (omega (arith, all_words_long b d good)));
    }

-- A SHARE BY THE DEALT PARTS is the dealing's share

dealt_share_from : (k j m : ℕ) (b : Board) (f : List ℕ → List ℕ) (i : ℕ) (cs : List ℕ) (ss rs ws : List (List ℕ)) (g c : ℕ) (xs : List ℕ) →
    m ≡ g * columns b + j → m + k ≤ length cs → length cs ≡ length ss → ((n : ℕ) → n < length cs → get_or rs n [] ≡ f (get_or ss n [])) →
    parts_share k j b f (marks_of i (drop m cs)) (held_rows i (drop m cs) (drop m ss)) ws c xs ≡ share_from k j b i cs rs ws g c xs
unfolding parts_share share_from marks_of held_rows column row_of
dealt_share_from zero j m b f i cs ss rs ws g c xs at fits same rows = refl
dealt_share_from (suc k) j m b f i cs ss rs ws g c xs at fits same rows =
    rw (drop-cons cs m 0 (omega arith), drop-cons ss m [] (omega arith), ← at)
    (go (bit (get_or cs m 0) i) (λ ys. dealt_share_from k (suc j) (suc m) b f i cs ss rs ws g c ys (omega arith) (omega arith) same rows))
  where
    marks_left : List Bool
    marks_left = marks_of i (drop (suc m) cs)

    seeds_left : List (List ℕ)
    seeds_left = held_rows i (drop (suc m) cs) (drop (suc m) ss)

    go : (t : Bool) → ((ys : List ℕ) → parts_share k (suc j) b f marks_left seeds_left ws c ys ≡ share_from k (suc j) b i cs rs ws g c ys) →
        cond t
        (parts_share k (suc j) b f marks_left (drop 1 (cond t (get_or ss m [] ∷ seeds_left) seeds_left)) ws c
        (xors xs (xors (cell b c (get_or ws j [])) (cell b c (f (get_or (cond t (get_or ss m [] ∷ seeds_left) seeds_left) 0 []))))))
        (parts_share k (suc j) b f marks_left (cond t (get_or ss m [] ∷ seeds_left) seeds_left) ws c xs)
        ≡ share_from k (suc j) b i cs rs ws g c (cond t (xors xs (xors (cell b c (get_or ws j [])) (cell b c (get_or rs m [])))) xs)
    go true ih = rw (rows m (omega arith)) (ih (xors xs (xors (cell b c (get_or ws j [])) (cell b c (f (get_or ss m []))))))
    go false ih = ih xs

pub dealt_share : (b : Board) (f : List ℕ → List ℕ) (l : Lent) (i a : ℕ) → LentIn b l → i < b.p → a < b.n →
    share_by_parts b f (dealt_parts b f l i) a ≡ share b (dealing b f l) i a
unfolding share_by_parts dealt_parts share dealing
dealt_share b f l i a t h inside =
    let g = a / b.wide in
    let row = grid_row_in b t.board a inside in
    let cells = grid_rows b * columns b in
    let seeds = words_from cells 32 l.seeds in
    let marks = marks_of i l.arrays in
    let before : marks_set (take (g * columns b) marks) ≡ g * (columns b / 2) =
    marks_total g (columns b) (columns b / 2) marks (λ e p. half_marked b l i t h e (omega arith)) in
    let held : drop (g * (columns b / 2)) (held_rows i l.arrays seeds) ≡ held_rows i (drop (g * columns b) l.arrays) (drop (g * columns b) seeds) =
    (rw before at (held_drop i (g * columns b) l.arrays seeds (seeds_count b l t))) in
    rw (held, ← drop_marks (g * columns b) i l.arrays)
    (dealt_share_from (columns b) 0 (g * columns b) b f i l.arrays seeds (rows_from cells f l.seeds) (all_words b (dealing b f l)) g (a % b.wide) (zeros b.w)
    (omega arith) (omega (arith, t.arrays_long, mul-le-mul_right (columns b) row)) (seeds_count b l t)
    (λ n p. rows_at cells n f l.seeds (omega (arith, t.arrays_long))))
