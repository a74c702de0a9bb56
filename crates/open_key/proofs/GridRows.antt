-- One grid row after another: where each begins in the key and in the table, how much of it the table has, and which bytes these are.
-- A short last grid row has all its cells in rows and words, and those below N in the table. Assumes nothing.
use mathlib.Core.Path.{◌≡◌, sym, ap, ◌∙◌}
use mathlib.Core.List.{List, ◌++◌, append_assoc}
use Prim.Native.Nat.{ℕ, zero, suc, ◌+◌, ◌*◌, ◌-◌, ◌≤◌, ◌<◌, min}
use native.Mathlib.Nat.{mul-le-mul_right, le-div_iff_mul-le, lt-div-mul-add, min-eq_left, min-eq_right}
use native.Mathlib.Decide.{dec_le}
use native.Mathlib.Omega.{arith}
use lib.ListN.{length, take, drop}
use lib.Seq.{take_at, drop_at}
use Rattle.xor.specs.Xor.{xors, zeros}
use Rattle.xor.proofs.Laws.{Word, xors_zeros_left}
use Rattle.chacha20.specs.Expand.{expand}
use Rattle.chacha20.proofs.Stream.{word_expand}
use Rattle.keys.specs.Promise.{RuleGood}
use Rattle.keys.proofs.Lists.{row_word}
use Rattle.grid.specs.Grid.{Board, grid_rows, row_long}
use Rattle.grid.proofs.Facts.{BoardIn}
use Rattle.keys.specs.Keys.{grid_row_part, Parts, parts_of, share_by_parts, table_from}
use Rattle.keys.proofs.Accepted.{BodyIn, body_parts}
use Rattle.keys.proofs.Opening.{share_word, table_row}
use Rattle.open_grid_row.specs.Shares.{shares}
use Rattle.open_key.specs.Opened.{table_of, entries_long, entries_of}
use Rattle.open_key.proofs.Tables.{grid_row_table}

-- expansion is a rule that gives each seed a row's bytes
pub expansion : (b : Board) → RuleGood b (expand (row_long b))
unfolding RuleGood
expansion b seed long good = let row = word_expand (row_long b) seed in (row.long, row.good)

-- WHERE A GRID ROW STANDS

module _ (b : Board) (board : BoardIn b) where
  -- each grid row begins with a square of the table
  pub row_begins : (g : ℕ) → g < grid_rows b → g * b.wide < b.n
  unfolding grid_rows
  row_begins g h = omega (arith, (le-div_iff_mul-le {k = b.wide} {x = suc g} {y = b.n + b.wide - 1} board.wide_least).0 h, board.wide_least)

  -- and they have them all
  rows_cover : b.n ≤ grid_rows b * b.wide
  unfolding grid_rows
  rows_cover = omega (arith, lt-div-mul-add {a = b.n + b.wide - 1} {b = b.wide} board.wide_least)

  pub row_in_table : (g : ℕ) → g < grid_rows b → g * row_long b ≤ b.n * b.w
  unfolding row_long
  row_in_table g h = omega (arith, mul-le-mul_right {m = g * b.wide} {n = b.n} b.w (omega (arith, row_begins g h)))

  -- behind the last one, by the code's numbers, the table has ended
  pub rows_past : (g row total : ℕ) → g ≡ grid_rows b → row ≡ row_long b → total ≡ b.n * b.w → total ≤ g * row
  unfolding row_long
  rows_past g row total last r t = rw (last, r, t) (omega (arith, mul-le-mul_right {m = b.n} {n = grid_rows b * b.wide} b.w rows_cover))

-- HOW MUCH OF IT THE TABLE HAS

-- by the code's numbers
pub count_is : (b : Board) (g row total count : ℕ) → row ≡ row_long b → total ≡ b.n * b.w → count ≡ min row (total - g * row) → count ≡ entries_long b g
unfolding entries_long
count_is b g row total count r t e = e ∙ rw (r, t)

cells_min : (w l d at : ℕ) → Dec (l ≤ d) → min (l * w) (at + d * w - at) ≡ min l d * w
cells_min w l d at (yes h) = rw (min-eq_left h) (omega (arith, mul-le-mul_right w h))
cells_min w l d at (no h) =
    let less : d ≤ l = omega arith in
    rw (min-eq_right less) (omega (arith, mul-le-mul_right w less))

-- the cells of grid row g that are squares of the table
abbrev cells_in : Board → (g : ℕ) → ℕ
cells_in b g = min b.wide (b.n - g * b.wide)

module _ (b : Board) (board : BoardIn b) (g : ℕ) (inside : g < grid_rows b) where
  cells_bytes : entries_long b g ≡ cells_in b g * b.w
  unfolding entries_long row_long
  cells_bytes =
      let left = b.n - g * b.wide in
      let all : b.n ≡ g * b.wide + left = omega (arith, row_begins b board g inside) in
      let bytes : b.n * b.w ≡ g * (b.wide * b.w) + left * b.w = ap (λ (n : ℕ). n * b.w) all ∙ omega arith in
      rw bytes (cells_min b.w b.wide left (g * (b.wide * b.w)) (dec_le b.wide left))

-- ENTRIES, one after another

-- entries have w bytes each
squares_word : (k a : ℕ) (b : Board) (f : List ℕ → List ℕ) (bs : List ℕ) → BoardIn b → RuleGood b f → BodyIn b bs → a + k ≤ b.n →
    Word (k * b.w) (table_from k a b f (parts_of b bs))
squares_word k a b f bs board rule body h =
    let q = parts_of b bs in
    rw (table_row k a b f q)
    (row_word b.w k a (share_by_parts b f q) (λ c least most. share_word b f q c board rule (body_parts b bs board body) (omega arith)))

-- entries one after another
table_add : (m k a : ℕ) (b : Board) (f : List ℕ → List ℕ) (q : Parts) → table_from (m + k) a b f q ≡ table_from m a b f q ++ table_from k (a + m) b f q
unfolding table_from
table_add zero k a b f q =
    let all : zero + k ≡ k = omega arith in
    let here : a + zero ≡ a = omega arith in
    rw (all, here)
table_add (suc m) k a b f q =
    let more : suc m + k ≡ suc (m + k) = omega arith in
    let next : a + suc m ≡ suc a + m = omega arith in
    rw (more, next, table_add m k (suc a) b f q) (sym (append_assoc (share_by_parts b f q a) (table_from m (suc a) b f q) (table_from k (suc a + m) b f q)))

-- WHICH BYTES THESE ARE

-- by the code's numbers
pub entries_cut : (b : Board) (f : List ℕ → List ℕ) (bs : List ℕ) (g at count : ℕ) → at ≡ g * row_long b → count ≡ entries_long b g →
    entries_of b f bs g ≡ take count (drop at (table_of b f bs))
unfolding entries_of
entries_cut b f bs g at count place size = rw (place, size)

-- the first of the grid row's shares

module _ (b : Board) (f : List ℕ → List ℕ) (bs : List ℕ) (board : BoardIn b) (rule : RuleGood b f) (body : BodyIn b bs)
    (g : ℕ) (inside : g < grid_rows b)
  where
    pub entries_shares : (part : List ℕ) (long : ℕ) → part ≡ grid_row_part b bs g → long ≡ entries_long b g → entries_of b f bs g ≡ shares b f part g 0 long
    unfolding entries_of table_of row_long
    entries_shares part long from_here size =
        let m = cells_in b g in
        let q = parts_of b bs in
        let rest = b.n - (g * b.wide + m) in
        let front = table_from (g * b.wide) 0 b f q in
        let row = table_from m (g * b.wide) b f q in
        let all : b.n ≡ g * b.wide + (m + rest) = omega (arith, row_begins b board g inside) in
        let here : 0 + g * b.wide ≡ g * b.wide = omega arith in
        let behind = table_from rest (g * b.wide + m) b f q in
        let table_is : table_from b.n 0 b f q ≡ front ++ (row ++ behind) =
        ap (λ (n : ℕ). table_from n 0 b f q) all ∙ table_add (g * b.wide) (m + rest) 0 b f q ∙ rw (here, table_add m rest (g * b.wide) b f q) in
        let start : g * b.wide * b.w ≡ g * (b.wide * b.w) = omega arith in
        let front_long : length front ≡ g * (b.wide * b.w) =
        (squares_word (g * b.wide) 0 b f bs board rule body (omega (arith, row_begins b board g inside))).long ∙ start in
        let row_word = (squares_word m (g * b.wide) b f bs board rule body (omega (arith, row_begins b board g inside))).long in
        let bytes : long ≡ m * b.w = size ∙ cells_bytes b board g inside in
        rw (from_here, ← size, bytes, table_is, drop_at front (row ++ behind) (g * (b.wide * b.w)) front_long, take_at row behind (m * b.w) row_word)
        (grid_row_table b f bs g m board body (omega arith) (omega (arith, row_begins b board g inside)))

-- THE WHOLE TABLE
pub table_word : (b : Board) (f : List ℕ → List ℕ) (bs : List ℕ) → BoardIn b → RuleGood b f → BodyIn b bs → Word (b.n * b.w) (table_of b f bs)
unfolding table_of
table_word b f bs board rule body = squares_word b.n 0 b f bs board rule body (omega arith)

-- XORed into zeros it is itself
pub table_fresh : (b : Board) (f : List ℕ → List ℕ) (bs old cleared out : List ℕ) → BoardIn b → RuleGood b f → BodyIn b bs → length old ≡ b.n * b.w →
    cleared ≡ zeros (length old) → out ≡ xors cleared (table_of b f bs) → out ≡ table_of b f bs
table_fresh b f bs old cleared out board rule body long z e =
    e ∙ rw (z, long) (xors_zeros_left (b.n * b.w) (table_of b f bs) (table_word b f bs board rule body))
