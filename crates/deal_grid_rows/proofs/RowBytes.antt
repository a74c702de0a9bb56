-- The laws of a grid row's bytes: held seeds column by column, and grid rows one behind another. Assumes nothing.
use mathlib.Core.Path.{◌≡◌, refl, sym, ap, ◌∙◌, subst}
use mathlib.Core.Bool.{cond}
use mathlib.Core.List.{List, [], ◌∷◌, ◌++◌, append_assoc, append-nil}
use Prim.Native.Nat.{ℕ, zero, suc, ◌+◌, ◌*◌, ◌-◌, ◌/◌, ◌≤◌, ◌<◌}
use native.Mathlib.Omega.{arith}
use native.Mathlib.Nat.{mul-le-mul_right}
use native.Mathlib.Numerals.{add-one}
use lib.ListN.{length, get_or, take, drop, length-append}
use lib.Seq.{drop-drop}
use Rattle.grid.specs.Grid.{Board, columns, grid_rows, bit}
use Rattle.grid.proofs.Facts.{BoardIn, columns_most}
use Rattle.keys.specs.Keys.{packed_from, packed, held_seeds, mark_bytes, body_from}
use Rattle.writer.specs.Written.{Wrote}
use Rattle.writer.proofs.Laws.{wrote_more, wrote_nothing, wrote_length}
use Rattle.deal_marks.proofs.PackedMarks.{packed_long, last_four}
use Rattle.deal_grid_rows.specs.Rows.{column_seed, row_bytes}
use Rattle.writer.proofs.Cuts.{part_long, part_whole, rest_is, rest_long}

-- HELD SEEDS, of the columns before a place and from it on
pub held_split : (j i : ℕ) (cs ss : List ℕ) → held_seeds i cs ss ≡ held_seeds i (take j cs) ss ++ held_seeds i (drop j cs) (drop (32 * j) ss)
unfolding held_seeds
held_split zero i cs ss = refl
held_split (suc j) i [] ss = refl
held_split (suc j) i (c ∷ cs) ss =
    let n : 32 + 32 * j ≡ 32 * suc j = omega arith in
    rw (held_split j i cs (drop 32 ss), drop-drop (32 * j) 32 ss, n)
    (sym (append_assoc (cond (bit c i) (take 32 ss) []) (held_seeds i (take j cs) (drop 32 ss)) (held_seeds i (drop j cs) (drop (32 * suc j) ss))))

-- one more
pub held_snoc : (j i : ℕ) (cs ss : List ℕ) → j < length cs → held_seeds i (take (suc j) cs) ss ≡ held_seeds i (take j cs) ss ++ column_seed i j cs ss
unfolding held_seeds column_seed
held_snoc zero i [] ss h = let none : ⊥ = omega arith in absurd none
held_snoc zero i (c ∷ cs) ss h = append-nil (cond (bit c i) (take 32 ss) [])
held_snoc (suc j) i [] ss h = let none : ⊥ = omega arith in absurd none
held_snoc (suc j) i (c ∷ cs) ss h =
    let n : 32 + 32 * j ≡ 32 * suc j = omega arith in
    rw (held_snoc j i cs (drop 32 ss) (omega arith), drop-drop (32 * j) 32 ss, n)
    (sym (append_assoc (cond (bit c i) (take 32 ss) []) (held_seeds i (take j cs) (drop 32 ss)) (cond (bit (get_or cs j 0) i) (take 32 (drop (32 * suc j) ss)) [])))

-- so the seeds of some columns and of the next are no longer than those of all
held_within : (j i : ℕ) (cs ss : List ℕ) → j < length cs →
    length (held_seeds i (take j cs) ss) + length (column_seed i j cs ss) ≤ length (held_seeds i cs ss)
held_within j i cs ss h =
    let before = held_seeds i (take j cs) ss in
    let next = column_seed i j cs ss in
    let behind = held_seeds i (drop (suc j) cs) (drop (32 * suc j) ss) in
    let whole : length (held_seeds i cs ss) ≡ length (before ++ next) + length behind =
    ap length (held_split (suc j) i cs ss ∙ ap (λ (l : List ℕ). l ++ behind) (held_snoc j i cs ss h)) ∙ length-append (before ++ next) behind in
    omega (arith, length-append before next)

-- WRITING THEM where there is room for all
module _ (at player : ℕ) (array seeds old : List ℕ) (room : at + length (held_seeds player array seeds) ≤ length old) where
  pub held_none : Wrote at (held_seeds player (take 0 array) seeds) at old old
  unfolding held_seeds
  held_none = wrote_nothing at old

  module _ (column : ℕ) {next : ℕ} {between : List ℕ} (within : column < length array) (so_far : Wrote at (held_seeds player (take column array) seeds) next old between) where
    -- there is room for the next
    pub held_room : next + length (column_seed player column array seeds) ≤ length between
    held_room =
        let fits = held_within column player array seeds within in
        let same = wrote_length (held_seeds player (take column array) seeds) (omega arith) so_far in
        omega (arith, so_far.next_is)

    -- and with it one more is written
    pub held_turn : {after : ℕ} {now : List ℕ} → Wrote next (column_seed player column array seeds) after between now →
        Wrote at (held_seeds player (take (column + 1) array) seeds) after old now
    held_turn p =
        let before = held_seeds player (take column array) seeds in
        let seed = column_seed player column array seeds in
        let grown : held_seeds player (take (column + 1) array) seeds ≡ before ++ seed = rw add-one (held_snoc column player array seeds within) in
        let long : length (held_seeds player (take (column + 1) array) seeds) ≡ length before + length seed = ap length grown ∙ length-append before seed in
        wrote_more before seed (held_seeds player (take (column + 1) array) seeds) grown (omega (arith, held_within column player array seeds within)) so_far p

-- GRID ROWS

-- a grid row is as long as its marks and its held seeds
pub row_parts : (m i : ℕ) (cs ss : List ℕ) → length (row_bytes m i cs ss) ≡ m + length (held_seeds i cs ss)
unfolding row_bytes
row_parts m i cs ss = length-append (packed m i cs) (held_seeds i cs ss) ∙ ap (λ (n : ℕ). n + length (held_seeds i cs ss)) (packed_long m i cs)

-- a grid row of four columns: a byte of marks, and four columns' seeds
pub four_row : (at player : ℕ) {byte next after : ℕ} (array seeds : List ℕ) {old between now : List ℕ} → length array ≡ 4 →
    at + length (row_bytes 1 player array seeds) ≤ length old → byte ≡ packed_from 4 0 player (drop 0 array) → Wrote at (byte ∷ []) next old between →
    Wrote next (held_seeds player array seeds) after between now → Wrote at (row_bytes 1 player array seeds) after old now
unfolding row_bytes packed
four_row at player {byte} array seeds four room is p q =
    let grown : row_bytes 1 player array seeds ≡ (byte ∷ []) ++ held_seeds player array seeds = rw (last_four player 0 array is (omega arith)) in
    wrote_more (byte ∷ []) (held_seeds player array seeds) (row_bytes 1 player array seeds) grown room p q

-- grid row g of a player's key
unfoldable pub row_at : (g : ℕ) → Board → (player : ℕ) → (arrays seeds : List ℕ) → List ℕ
row_at g b i cs ss = row_bytes (mark_bytes b) i (take (columns b) (drop (g * columns b) cs)) (drop (32 * (g * columns b)) ss)

-- some grid rows, and the grid rows behind them
pub body_split : (k m : ℕ) (b : Board) (i : ℕ) (cs ss : List ℕ) →
    body_from (k + m) b i cs ss ≡ body_from k b i cs ss ++ body_from m b i (drop (k * columns b) cs) (drop (32 * (k * columns b)) ss)
unfolding body_from
body_split zero m b i cs ss =
    let none : zero * columns b ≡ zero = omega arith in
    let all : zero + m ≡ m = omega arith in
    rw (none, all)
body_split (suc k) m b i cs ss =
    let J = columns b in
    let first = packed (mark_bytes b) i (take J cs) ++ held_seeds i (take J cs) ss in
    let more : suc k + m ≡ suc (k + m) = omega arith in
    let next : J + k * J ≡ suc k * J = omega arith in
    let next_seeds : 32 * J + 32 * (k * J) ≡ 32 * (suc k * J) = omega arith in
    let behind : body_from m b i (drop (k * J) (drop J cs)) (drop (32 * (k * J)) (drop (32 * J) ss)) ≡ body_from m b i (drop (suc k * J) cs) (drop (32 * (suc k * J)) ss) =
    rw (drop-drop (k * J) J cs, next, drop-drop (32 * (k * J)) (32 * J) ss, next_seeds) in
    rw more
    (ap (λ (l : List ℕ). first ++ l) (body_split k m b i (drop J cs) (drop (32 * J) ss) ∙ ap (λ (l : List ℕ). body_from k b i (drop J cs) (drop (32 * J) ss) ++ l) behind)
    ∙ sym (append_assoc first (body_from k b i (drop J cs) (drop (32 * J) ss)) (body_from m b i (drop (suc k * J) cs) (drop (32 * (suc k * J)) ss))))

-- one more
pub body_snoc : (k : ℕ) (b : Board) (i : ℕ) (cs ss : List ℕ) → body_from (k + 1) b i cs ss ≡ body_from k b i cs ss ++ row_at k b i cs ss
unfolding body_from row_at row_bytes
body_snoc k b i cs ss =
    body_split k 1 b i cs ss ∙ ap (λ (l : List ℕ). body_from k b i cs ss ++ l) (append-nil (row_at k b i cs ss))

-- so some grid rows and the next are no longer than all of them
pub body_within : (k n : ℕ) (b : Board) (i : ℕ) (cs ss : List ℕ) → k < n →
    length (body_from k b i cs ss) + length (row_at k b i cs ss) ≤ length (body_from n b i cs ss)
body_within k n b i cs ss h =
    let rest = n - (k + 1) in
    let all : k + 1 + rest ≡ n = omega arith in
    let front = body_from k b i cs ss in
    let row = row_at k b i cs ss in
    let behind = body_from rest b i (drop ((k + 1) * columns b) cs) (drop (32 * ((k + 1) * columns b)) ss) in
    let whole : length (body_from n b i cs ss) ≡ length (front ++ row) + length behind =
    ap (λ (m : ℕ). length (body_from m b i cs ss)) (sym all) ∙ ap length (body_split (k + 1) rest b i cs ss) ∙ length-append (body_from (k + 1) b i cs ss) behind
    ∙ ap (λ (l : List ℕ). length l + length behind) (body_snoc k b i cs ss) in
    omega (arith, length-append front row)

-- grid row k as the code cuts it out
pub row_here : (k J m player : ℕ) (b : Board) (arrays seeds : List ℕ) → J ≡ columns b → m ≡ mark_bytes b →
    row_bytes m player (take (k * J + J - k * J) (drop (k * J) arrays)) (take (length seeds - 32 * (k * J)) (drop (32 * (k * J)) seeds)) ≡ row_at k b player arrays seeds
unfolding row_at
row_here k J m player b arrays seeds e f = rw (part_long (k * J) J, rest_is (32 * (k * J)) seeds, e, f)

-- its array is there
pub row_room : (k J n : ℕ) (b : Board) (arrays : List ℕ) → J ≡ columns b → n ≡ grid_rows b → k < n → length arrays ≡ grid_rows b * columns b → k * J + J ≤ length arrays
row_room k J n b arrays e f h long =
    let within : suc k ≤ grid_rows b = omega arith in
    rw (e, long) (omega (arith, mul-le-mul_right (columns b) within))

-- and its seeds
pub grid_row_seeds : (from J : ℕ) (arrays seeds : List ℕ) → from + J ≤ length arrays → length seeds ≡ 32 * length arrays →
    32 * length (take (from + J - from) (drop from arrays)) ≤ length (take (length seeds - 32 * from) (drop (32 * from) seeds))
grid_row_seeds from J arrays seeds h long =
    rw (part_whole from J arrays h) (rest_long (32 * from) (32 * J) seeds (omega arith))

-- and its marks are an eighth of its columns, rounded up
pub row_marks : (from J m : ℕ) (b : Board) (arrays : List ℕ) → J ≡ columns b → m ≡ mark_bytes b → from + J ≤ length arrays →
    m ≡ (length (take (from + J - from) (drop from arrays)) + 7) / 8
unfolding mark_bytes
row_marks from J m b arrays e f h = rw (part_whole from J arrays h, e) f

-- a grid row has at most five bytes of marks
pub mark_bytes_most : (b : Board) → BoardIn b → mark_bytes b ≤ 100
unfolding mark_bytes
mark_bytes_most b f = omega (arith, columns_most b f)

-- writing one more
pub rows_turn : (at k n player : ℕ) {next after : ℕ} (b : Board) (arrays seeds : List ℕ) {old between now : List ℕ} → k < n →
    at + length (body_from n b player arrays seeds) ≤ length old → Wrote at (body_from k b player arrays seeds) next old between →
    Wrote next (row_at k b player arrays seeds) after between now → Wrote at (body_from (k + 1) b player arrays seeds) after old now
rows_turn at k n player b arrays seeds within room p q =
    let front = body_from k b player arrays seeds in
    let row = row_at k b player arrays seeds in
    let grown = body_snoc k b player arrays seeds in
    let long : length (body_from (k + 1) b player arrays seeds) ≡ length front + length row = ap length grown ∙ length-append front row in
    wrote_more front row (body_from (k + 1) b player arrays seeds) grown (omega (arith, body_within k n b player arrays seeds within)) p q

-- the same as the code cuts a grid row out, for the player whose key it is
abbrev pub cut_row : (m player k J : ℕ) → (arrays seeds : List ℕ) → List ℕ
cut_row m i k J arrays seeds =
    row_bytes m i (take (k * J + J - k * J) (drop (k * J) arrays)) (take (length seeds - 32 * (k * J)) (drop (32 * (k * J)) seeds))

pub cut_turn : (at k n player J : ℕ) {next after m i : ℕ} (b : Board) (arrays seeds : List ℕ) {old between now : List ℕ} → k < n →
    at + length (body_from n b player arrays seeds) ≤ length old → J ≡ columns b → Wrote at (body_from k b player arrays seeds) next old between →
    Wrote next (cut_row m i k J arrays seeds) after between now → m ≡ mark_bytes b → i ≡ player →
    Wrote at (body_from (k + 1) b player arrays seeds) after old now
cut_turn at k n player J {next} {after} {m} {i} b arrays seeds {old} {between} {now} within room wide p q marks own =
    let here = ap (λ (x : ℕ). cut_row m x k J arrays seeds) own ∙ row_here k J m player b arrays seeds wide marks in
    rows_turn at k n player b arrays seeds within room p (subst (λ (l : List ℕ). Wrote next l after between now) here q)
