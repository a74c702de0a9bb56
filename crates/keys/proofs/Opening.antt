-- Full tables and squares opened alone: a share by good parts has w bytes, a table N × w, and opening a square from the header and the
-- part that begins at its grid row gives the share by the key's parts. Assumes nothing.
use mathlib.Core.Path.{◌≡◌, refl, sym, ap, ◌∙◌}
use mathlib.Core.Bool.{Bool, true, false, cond}
use mathlib.Core.List.{List, [], ◌∷◌, ◌++◌}
use Prim.Native.Nat.{ℕ, zero, suc, ◌+◌, ◌*◌, ◌-◌, ◌/◌, ◌%◌, ◌≤◌, ◌<◌}
use native.Mathlib.Nat.{mul-le-mul_right}
use native.Mathlib.Omega.{arith}
use lib.ListN.{length, get_or, take, drop, length-drop}
use lib.Seq.{drop-drop, drop_at}
use Rattle.xor.specs.Xor.{xors, zeros}
use Rattle.xor.proofs.Laws.{Word, word_xors, word_zeros}
use Rattle.grid.specs.Grid.{Board, columns, grid_rows, row_long, bit, cell, each_long}
use Rattle.grid.proofs.Facts.{BoardIn, grid_row_in, cell_in, each_word}
use Rattle.grid.proofs.Cells.{cell_word}
use Rattle.keys.specs.Keys.{mark_bytes, stride, count_marks, marks_good, words_from, grid_row_part, word_behind, opened_from, opened_part, Parts, marks_in, marks_of_grid_rows, seeds_of_grid_rows, parts_of, parts_share, share_by_parts, table_from}
use Rattle.keys.specs.Promise.{RuleGood}
use Rattle.writer.specs.InARow.{in_a_row}
use Rattle.writer.proofs.InARow.{row_at}
use Rattle.keys.proofs.Lists.{length_words, words_at, each_head, each_tail, each_drop, row_word}
use Rattle.keys.proofs.Marks.{marks_set, length_marks}
use Rattle.keys.proofs.Parts.{row_tests}
use Rattle.keys.proofs.Accepted.{PartsGood, BodyIn}

-- A SHARE BY THE PARTS has w bytes

-- a seed's row, under a good rule
pub row_word_of : (b : Board) (f : List ℕ → List ℕ) (seed : List ℕ) → RuleGood b f → Word 32 seed → Word (row_long b) (f seed)
unfolding RuleGood
row_word_of b f seed rule s =
    let row = rule seed s.long s.good in record { long = row.0; good = row.1 }

pub parts_share_word : (k j : ℕ) (b : Board) (f : List ℕ → List ℕ) (ms : List Bool) (ss ws : List (List ℕ)) (c : ℕ) (xs : List ℕ) → RuleGood b f → c < b.wide →
    each_long 32 ss ≡ true → marks_set (take k ms) ≤ length ss → each_long (row_long b) ws ≡ true → j + k ≤ length ws → Word b.w xs →
    Word b.w (parts_share k j b f ms ss ws c xs)
unfolding parts_share marks_set
parts_share_word zero j b f ms ss ws c xs rule h s n w m x = x
parts_share_word (suc k) j b f [] ss ws c xs rule h s n w m x = x
parts_share_word (suc k) j b f (false ∷ ms) ss ws c xs rule h s n w m x =
    parts_share_word k (suc j) b f ms ss ws c xs rule h s (omega arith) w (omega arith) x
parts_share_word (suc k) j b f (true ∷ ms) [] ws c xs rule h s n w m x = let none : ⊥ = omega arith in absurd none
parts_share_word (suc k) j b f (true ∷ ms) (seed ∷ ss) ws c xs rule h s n w m x =
    parts_share_word k (suc j) b f ms ss ws c (xors xs (xors (cell b c (get_or ws j [])) (cell b c (f seed)))) rule h (each_tail 32 seed ss s) (omega arith) w (omega arith)
    (word_xors xs (xors (cell b c (get_or ws j [])) (cell b c (f seed))) x
    (word_xors (cell b c (get_or ws j [])) (cell b c (f seed)) (cell_word b c (get_or ws j []) h (each_word (row_long b) ws w j (omega arith)))
    (cell_word b c (f seed) h (row_word_of b f seed rule (each_head 32 seed ss s)))))

-- the seeds from a grid row on are enough for its marks
seeds_left : (b : Board) (q : Parts) → PartsGood b q → (g : ℕ) → g < grid_rows b →
    marks_set (take (columns b) (drop (g * columns b) q.marks)) ≤ length (drop (g * (columns b / 2)) q.seeds)
seeds_left b q good g h =
    rw length-drop (omega (arith, good.rows.half g h, good.rows.seeds_long, mul-le-mul_right (columns b / 2) h))

pub share_word : (b : Board) (f : List ℕ → List ℕ) (q : Parts) (a : ℕ) → BoardIn b → RuleGood b f → PartsGood b q → a < b.n →
    Word b.w (share_by_parts b f q a)
unfolding share_by_parts
share_word b f q a board rule good h =
    let g = a / b.wide in
    parts_share_word (columns b) 0 b f (drop (g * columns b) q.marks) (drop (g * (columns b / 2)) q.seeds) q.words (a % b.wide) (zeros b.w)
    rule (cell_in b board a) (each_drop 32 (g * (columns b / 2)) q.seeds good.rows.seeds_good) (seeds_left b q good g (grid_row_in b board a h))
    good.words_good (omega (arith, good.words_long)) (word_zeros b.w)

-- A FULL TABLE is its shares in a row

pub table_row : (k a : ℕ) (b : Board) (f : List ℕ → List ℕ) (q : Parts) → table_from k a b f q ≡ in_a_row k a (share_by_parts b f q)
unfolding table_from in_a_row
table_row zero a b f q = refl
table_row (suc k) a b f q = ap (λ (l : List ℕ). share_by_parts b f q a ++ l) (table_row k (suc a) b f q)

pub table_word : (b : Board) (f : List ℕ → List ℕ) (q : Parts) → BoardIn b → RuleGood b f → PartsGood b q → Word (b.n * b.w) (table_from b.n 0 b f q)
table_word b f q board rule good =
    rw (table_row b.n 0 b f q)
    (row_word b.w b.n 0 (share_by_parts b f q) (λ a p h. share_word b f q a board rule good (omega arith)))

pub table_at : (b : Board) (f : List ℕ → List ℕ) (q : Parts) (a : ℕ) → BoardIn b → RuleGood b f → PartsGood b q → a < b.n →
    take b.w (drop (a * b.w) (table_from b.n 0 b f q)) ≡ share_by_parts b f q a
table_at b f q a board rule good h =
    let here : 0 + a ≡ a = omega arith in
    rw (table_row b.n 0 b f q)
    (row_at b.w b.n 0 a (share_by_parts b f q) (λ a p h. (share_word b f q a board rule good (omega arith)).long) h
    ∙ ap (λ (n : ℕ). share_by_parts b f q n) here)

-- THE PARTS FROM A GRID ROW ON are those of the part that begins there

-- what is read at each of k places, a stride apart
unfoldable by_rows {ℓ} : {A : Type ℓ} → (left step : ℕ) → (read : List ℕ → List A) → List ℕ → List A
by_rows zero s F bs = []
by_rows (suc k) s F bs = F bs ++ by_rows k s F (drop s bs)

-- where n things are read at each place, g times n of them are those of the first g places
by_rows_from {ℓ} : {A : Type ℓ} (g k s n : ℕ) (F : List ℕ → List A) (bs : List ℕ) → ((xs : List ℕ) → length (F xs) ≡ n) →
    drop (g * n) (by_rows (g + k) s F bs) ≡ by_rows k s F (drop (g * s) bs)
unfolding by_rows
by_rows_from zero k s n F bs e =
    let none : zero * n ≡ zero = omega arith in
    let nowhere : zero * s ≡ zero = omega arith in
    let all : zero + k ≡ k = omega arith in
    rw (none, nowhere, all)
by_rows_from (suc g) k s n F bs e =
    let more : suc g + k ≡ suc (g + k) = omega arith in
    let next : suc g * n ≡ n + g * n = omega arith in
    let further : suc g * s ≡ s + g * s = omega arith in
    let others = by_rows (g + k) s F (drop s bs) in
    rw (more, next, further, ← drop-drop (g * n) n (F bs ++ others), drop_at (F bs) others n (e bs), ← drop-drop (g * s) s bs)
    (by_rows_from g k s n F (drop s bs) e)

marks_by_rows : (k : ℕ) (b : Board) (bs : List ℕ) → marks_of_grid_rows k b bs ≡ by_rows k (stride b) (marks_in (columns b) 0) bs
unfolding marks_of_grid_rows by_rows
marks_by_rows zero b bs = refl
marks_by_rows (suc k) b bs = ap (λ (ms : List Bool). marks_in (columns b) 0 bs ++ ms) (marks_by_rows k b (drop (stride b) bs))

abbrev grid_row_seeds : Board → List ℕ → List (List ℕ)
grid_row_seeds b bs = words_from (columns b / 2) 32 (drop (mark_bytes b) bs)

seeds_by_rows : (k : ℕ) (b : Board) (bs : List ℕ) → seeds_of_grid_rows k b bs ≡ by_rows k (stride b) (grid_row_seeds b) bs
unfolding seeds_of_grid_rows by_rows
seeds_by_rows zero b bs = refl
seeds_by_rows (suc k) b bs = ap (λ (ss : List (List ℕ)). grid_row_seeds b bs ++ ss) (seeds_by_rows k b (drop (stride b) bs))

pub marks_from_row : (g k : ℕ) (b : Board) (bs : List ℕ) → drop (g * columns b) (marks_of_grid_rows (g + k) b bs) ≡ marks_of_grid_rows k b (grid_row_part b bs g)
unfolding grid_row_part
marks_from_row g k b bs =
    rw (marks_by_rows (g + k) b bs, marks_by_rows k b (drop (g * stride b) bs))
    (by_rows_from g k (stride b) (columns b) (marks_in (columns b) 0) bs (length_marks (columns b) 0))

pub seeds_from_row : (g k : ℕ) (b : Board) (bs : List ℕ) → drop (g * (columns b / 2)) (seeds_of_grid_rows (g + k) b bs) ≡ seeds_of_grid_rows k b (grid_row_part b bs g)
unfolding grid_row_part
seeds_from_row g k b bs =
    rw (seeds_by_rows (g + k) b bs, seeds_by_rows k b (drop (g * stride b) bs))
    (by_rows_from g k (stride b) (columns b / 2) (grid_row_seeds b) bs (λ xs. length_words (columns b / 2) 32 (drop (mark_bytes b) xs)))

-- each grid row's test
pub tests_at : (k g : ℕ) (b : Board) (bs : List ℕ) → g < k → marks_good k b bs ≡ true → count_marks (columns b) 0 (grid_row_part b bs g) ≡ columns b / 2
unfolding grid_row_part
tests_at zero g b bs h t = let none : ⊥ = omega arith in absurd none
tests_at (suc k) zero b bs h t = let none : zero * stride b ≡ zero = omega arith in rw none (row_tests k b bs t).0
tests_at (suc k) (suc g) b bs h t =
    let further : suc g * stride b ≡ stride b + g * stride b = omega arith in
    rw (further, ← drop-drop (g * stride b) (stride b) bs) (tests_at k g b (drop (stride b) bs) (omega arith) (row_tests k b bs t).2)

-- the words stand behind the part
rows_behind : (g n s : ℕ) → g ≤ n → g * s + (n - g) * s ≡ n * s
rows_behind g n s h =
    let all : g + (n - g) ≡ n = omega arith in
    let sum : g * s + (n - g) * s ≡ (g + (n - g)) * s = omega arith in sum ∙ ap (λ (m : ℕ). m * s) all

pub word_behind_is : (b : Board) (bs : List ℕ) (g j : ℕ) → g ≤ grid_rows b →
    word_behind b (grid_row_part b bs g) g j ≡ take (row_long b) (drop (grid_rows b * stride b + j * row_long b) bs)
unfolding word_behind grid_row_part
word_behind_is b bs g j h =
    let place : g * stride b + ((grid_rows b - g) * stride b + j * row_long b) ≡ grid_rows b * stride b + j * row_long b =
    omega (arith, rows_behind g (grid_rows b) (stride b) h) in
    ap (take (row_long b)) (drop-drop ((grid_rows b - g) * stride b + j * row_long b) (g * stride b) bs ∙ ap (λ (n : ℕ). drop n bs) place)

-- OPENING goes over the marks and takes the seeds one after another, as a share by the parts does

-- two choices by one test
same_choice {ℓ} : {A : Type ℓ} (t : Bool) (x y u v : A) → (t ≡ true → x ≡ u) → (t ≡ false → y ≡ v) → cond t x y ≡ cond t u v
same_choice true x y u v p q = p refl
same_choice false x y u v p q = q refl

opened_share : (k j n m : ℕ) (b : Board) (f : List ℕ → List ℕ) (ps : List ℕ) (more : List Bool) (others ws : List (List ℕ)) (g c : ℕ) (xs : List ℕ) →
    count_marks k j ps ≤ m → ((i : ℕ) → j ≤ i → i < j + k → get_or ws i [] ≡ word_behind b ps g i) →
    parts_share k j b f (marks_in k j ps ++ more) (words_from m 32 (drop (mark_bytes b + 32 * n) ps) ++ others) ws c xs ≡ opened_from k j n b f ps g c xs
unfolding parts_share opened_from marks_in count_marks words_from
opened_share zero j n m b f ps more others ws g c xs h w = refl
opened_share (suc k) j n zero b f ps more others ws g c xs h w =
    let later : (i : ℕ) → suc j ≤ i → i < suc j + k → get_or ws i [] ≡ word_behind b ps g i = (λ i p q. w i (omega arith) (omega arith)) in
    same_choice (bit (get_or ps (j / 8) 0) (j % 8)) _ _ _ _
    (λ e. let none : 1 + count_marks k (suc j) ps ≤ 0 = (rw e at h) in absurd (omega arith))
    (λ e. opened_share k (suc j) n zero b f ps more others ws g c xs (omega arith) later)
opened_share (suc k) j n (suc m) b f ps more others ws g c xs h w =
    let later : (i : ℕ) → suc j ≤ i → i < suc j + k → get_or ws i [] ≡ word_behind b ps g i = (λ i p q. w i (omega arith) (omega arith)) in
    let seed = take 32 (drop (mark_bytes b + 32 * n) ps) in
    let next : mark_bytes b + 32 * n + 32 ≡ mark_bytes b + 32 * suc n = omega arith in
    same_choice (bit (get_or ps (j / 8) 0) (j % 8)) _ _ _ _
    (λ e.
    let left : 1 + count_marks k (suc j) ps ≤ suc m = (rw e at h) in
    rw (w j (omega arith) (omega arith), drop-drop 32 (mark_bytes b + 32 * n) ps, next)
    (opened_share k (suc j) (suc n) m b f ps more others ws g c (xors xs (xors (cell b c (word_behind b ps g j)) (cell b c (f seed)))) (omega arith) later))
    (λ e. opened_share k (suc j) n (suc m) b f ps more others ws g c xs (omega arith) later)

-- a square opened from the part that begins at its grid row is the share by the parts of the whole body
pub opened_part_is : (b : Board) (f : List ℕ → List ℕ) (bs : List ℕ) (a : ℕ) → BoardIn b → BodyIn b bs → a < b.n →
    opened_part b f (grid_row_part b bs (a / b.wide)) a ≡ share_by_parts b f (parts_of b bs) a
unfolding opened_part share_by_parts parts_of marks_of_grid_rows seeds_of_grid_rows
opened_part_is b f bs a board body h =
    let g = a / b.wide in
    let inside = grid_row_in b board a h in
    let part = grid_row_part b bs g in
    let left = grid_rows b - suc g in
    let rows : grid_rows b ≡ g + suc left = omega arith in
    let more = marks_of_grid_rows left b (drop (stride b) part) in
    let others = seeds_of_grid_rows left b (drop (stride b) part) in
    let words = words_from (columns b) (row_long b) (drop (grid_rows b * stride b) bs) in
    let marks : drop (g * columns b) (marks_of_grid_rows (grid_rows b) b bs) ≡ marks_in (columns b) 0 part ++ more =
    ap (λ (n : ℕ). drop (g * columns b) (marks_of_grid_rows n b bs)) rows ∙ marks_from_row g (suc left) b bs in
    let seeds : drop (g * (columns b / 2)) (seeds_of_grid_rows (grid_rows b) b bs) ≡ words_from (columns b / 2) 32 (drop (mark_bytes b) part) ++ others =
    ap (λ (n : ℕ). drop (g * (columns b / 2)) (seeds_of_grid_rows n b bs)) rows ∙ seeds_from_row g (suc left) b bs in
    let first : mark_bytes b ≡ mark_bytes b + 32 * 0 = omega arith in
    rw (marks, seeds)
    (sym (ap (λ (n : ℕ). parts_share (columns b) 0 b f (marks_in (columns b) 0 part ++ more) (words_from (columns b / 2) 32 (drop n part) ++ others) words (a % b.wide) (zeros b.w)) first
    ∙ opened_share (columns b) 0 0 (columns b / 2) b f part more others words g (a % b.wide) (zeros b.w)
    (omega (arith, tests_at (grid_rows b) g b bs inside body.marks))
    (λ i p q. words_at (columns b) (row_long b) i (drop (grid_rows b * stride b) bs) (omega arith)
    ∙ ap (λ (l : List ℕ). take (row_long b) l) (drop-drop (i * row_long b) (grid_rows b * stride b) bs) ∙ sym (word_behind_is b bs g i (omega arith)))))
