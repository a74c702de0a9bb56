-- The laws of a page: how long its cells and lines are, and a line as it is written: the cells that hold a value, and
-- spaces for those past them; one cell and one line more. Assumes nothing.
use mathlib.Core.Path.{◌≡◌, refl, sym, ap, ◌∙◌}
use mathlib.Core.Bool.{Bool, true, false}
use mathlib.Core.List.{List, [], ◌∷◌, ◌++◌, append_assoc}
use Prim.Native.Nat.{ℕ, ◌+◌, ◌*◌, ◌-◌, ◌≤◌, ◌<◌, min}
use native.Mathlib.Omega.{arith}
use native.Mathlib.Nat.{suc-mul, add-mul, mul-le-mul, mul-le-mul_right}
use lib.Dec.{ltb}
use lib.ListN.{length, take, drop, length-append, length-drop, length-replicate}
use lib.Seq.{length-take-le}
use borrow.Author.Tests.{lt-ltb, le-ltb, ltb-true, ltb-false}
use Rattle.writer.specs.Written.{Wrote}
use Rattle.writer.specs.InARow.{in_a_row}
use Rattle.writer.proofs.Laws.{wrote_then, wrote_more}
use Rattle.writer.proofs.InARow.{row_same, row_long, row_split, row_next, row_repeat}
use Rattle.writer.proofs.Cuts.{part_within, part_cut}
use Rattle.digits.specs.Digits.{hex, spaces, right_aligned, decimal}
use Rattle.digits.proofs.Laws.{hex_long, decimal_five, aligned_long}
use Rattle.page.specs.Page.{entry_at, value_cell, value_cells, page_cell, page_line, page_lines, page, line_long, page_long, Pageable}

-- CELLS

pub page_cell_here : (n w : ℕ) (ts : List ℕ) (a : ℕ) → a < n → page_cell n w ts a ≡ value_cell w ts a
unfolding page_cell
page_cell_here n w ts a h = rw (lt-ltb a n h)

pub page_cell_past : (n w : ℕ) (ts : List ℕ) (a : ℕ) → n ≤ a → page_cell n w ts a ≡ spaces (2 * w + 1)
unfolding page_cell
page_cell_past n w ts a h = rw (le-ltb a n h)

pub spaces_long : (k : ℕ) → length (spaces k) ≡ k
unfolding spaces
spaces_long k = length-replicate {A = ℕ} k 32

pub value_long : (w : ℕ) (ts : List ℕ) (a : ℕ) → a * w + w ≤ length ts → length (entry_at w ts a) ≡ w
unfolding entry_at
value_long w ts a h = length-take-le w (drop (a * w) ts) (rw length-drop (omega arith))

pub value_cell_long : (w : ℕ) (ts : List ℕ) (a : ℕ) → a * w + w ≤ length ts → length (value_cell w ts a) ≡ 2 * w + 1
unfolding value_cell
value_cell_long w ts a h = omega (arith, hex_long (entry_at w ts a), value_long w ts a h)

-- the cells of values that stand in the table
pub values_long : (k first count w : ℕ) (ts : List ℕ) → k ≤ count → (first + count) * w ≤ length ts →
    length (value_cells k first w ts) ≡ k * (2 * w + 1)
values_long k first count w ts few whole =
    row_long (2 * w + 1) k first (λ a. value_cell w ts a)
    (λ j p q. value_cell_long w ts j (omega (arith, part_within j (first + count) w (omega arith))))

module _ (n w : ℕ) (ts : List ℕ) (whole : length ts ≡ n * w) where
  pub page_cell_long : (a : ℕ) → length (page_cell n w ts a) ≡ 2 * w + 1
  page_cell_long a = go (ltb a n) refl
    where
      go : (t : Bool) → ltb a n ≡ t → length (page_cell n w ts a) ≡ 2 * w + 1
      go true e = let h = ltb-true a n e in ap length (page_cell_here n w ts a h) ∙ value_cell_long w ts a (omega (arith, part_within a n w h))
      go false e = ap length (page_cell_past n w ts a (ltb-false a n e)) ∙ spaces_long (2 * w + 1)

  pub cells_long : (k i : ℕ) → length (in_a_row k i (λ a. page_cell n w ts a)) ≡ k * (2 * w + 1)
  cells_long k i = row_long (2 * w + 1) k i (λ a. page_cell n w ts a) (λ j p q. page_cell_long j)

-- LINES

-- a line's first position is one of the page's, and has five digits at the most
pub line_first : (n l : ℕ) → l < page_lines n → 8 * l < n
unfolding page_lines
line_first n l h = omega arith

pub lines_few : (n : ℕ) → n ≤ 65536 → page_lines n ≤ 8192
unfolding page_lines
lines_few n h = omega arith

pub first_fits : (n l : ℕ) → n ≤ 65536 → l < page_lines n → length (decimal (8 * l)) ≤ 5
first_fits n l most h = decimal_five (8 * l) (omega (arith, line_first n l h))

pub three_length : (first second third : List ℕ) → length (first ++ second ++ third) ≡ length first + length second + length third
three_length first second third = simp length-append

module _ (n w : ℕ) (ts : List ℕ) (fits : Pageable n w ts) where
  pub line_is_long : (l : ℕ) → l < page_lines n → length (page_line n w ts l) ≡ line_long w
  unfolding page_line line_long
  line_is_long l h =
      three_length (right_aligned 5 (8 * l)) (in_a_row 8 (8 * l) (λ a. page_cell n w ts a)) _
      ∙ omega (arith, aligned_long 5 (8 * l) (first_fits n l fits.positions_few h), cells_long n w ts fits.whole 8 (8 * l))

  pub page_is_so_long : length (page n w ts) ≡ page_long n w
  unfolding page page_long
  page_is_so_long = row_long (line_long w) (page_lines n) 0 (λ l. page_line n w ts l) (λ j p q. line_is_long j (omega arith))

-- the cells of a line as they are written
pub cells_split : (n w : ℕ) (ts : List ℕ) (first held past : ℕ) → first < n → held ≡ min 8 (n - first) → past ≡ 8 - held →
    in_a_row 8 first (λ a. page_cell n w ts a) ≡ value_cells held first w ts ++ spaces (past * (2 * w + 1))
unfolding spaces
cells_split n w ts first held past some h p =
    let cell : ℕ → List ℕ = λ a. page_cell n w ts a in
    let all : 8 ≡ held + past = omega arith in
    ap (λ (k : ℕ). in_a_row k first cell) all ∙ row_split held past first cell
    ∙ rw (
      row_same held first cell (λ a. value_cell w ts a) (λ j least most. page_cell_here n w ts j (omega arith)),
      row_same past (first + held) cell (λ a. spaces (2 * w + 1)) (λ j least most. page_cell_past n w ts j (omega arith)),
    )
    (ap (λ (l : List ℕ). value_cells held first w ts ++ l) (row_repeat (2 * w + 1) past (first + held) 32))

-- WRITING

-- one cell more
pub cells_turn : (at first cell count w : ℕ) {next after : ℕ} (value ts : List ℕ) {old between now : List ℕ} → cell < count →
    (first + count) * w ≤ length ts → at + count * (2 * w + 1) ≤ length old → Wrote at (value_cells cell first w ts) next old between →
    Wrote next (32 ∷ hex value) after between now → value ≡ entry_at w ts (first + cell) →
    Wrote at (value_cells (cell + 1) first w ts) after old now
unfolding value_cell
cells_turn at first cell count w value ts within whole room p q is =
    let F : ℕ → List ℕ = λ a. value_cell w ts a in
    let grown : in_a_row (cell + 1) first F ≡ in_a_row cell first F ++ (32 ∷ hex value) = rw is (row_next cell first F) in
    wrote_more (in_a_row cell first F) (32 ∷ hex value) (in_a_row (cell + 1) first F) grown
    (omega (arith, values_long (cell + 1) first count w ts (omega arith) whole, part_within cell count (2 * w + 1) within, suc-mul cell (2 * w + 1))) p q

-- the next cell has its room
pub cell_room : (at first cell count w from next room : ℕ) (ts : List ℕ) → cell < count → (first + count) * w ≤ length ts →
    at + count * (2 * w + 1) ≤ room → from ≡ (first + cell) * w → next ≡ at + length (value_cells cell first w ts) →
    next + 1 + length (hex (take (from + w - from) (drop from ts))) ≤ room
unfolding entry_at
cell_room at first cell count w from next room ts within whole fits e behind =
    let long = value_long w ts (first + cell) (omega (arith, part_within (first + cell) (first + count) w (omega arith))) in
    rw (part_cut (first + cell) w from ts e)
    (omega
    (arith, hex_long (take w (drop ((first + cell) * w) ts)), values_long cell first count w ts (omega arith) whole, part_within cell count (2 * w + 1) within))

-- the four parts of a line
pub line_wrote : (n w l held past : ℕ) {at a b c next : ℕ} (ts : List ℕ) {old one two three now : List ℕ} → Pageable n w ts → l < page_lines n →
    at + line_long w ≤ length old → Wrote at (right_aligned 5 (8 * l)) a old one → Wrote a (value_cells held (8 * l) w ts) b one two →
    Wrote b (spaces (past * (2 * w + 1))) c two three → Wrote c (10 ∷ []) next three now → held ≡ min 8 (n - 8 * l) → past ≡ 8 - held →
    Wrote at (page_line n w ts l) next old now
unfolding page_line line_long
line_wrote n w l held past ts fits h room p q r s e f =
    let number = right_aligned 5 (8 * l) in
    let values = value_cells held (8 * l) w ts in
    let blank = spaces (past * (2 * w + 1)) in
    let five = aligned_long 5 (8 * l) (first_fits n l fits.positions_few h) in
    let split = cells_split n w ts (8 * l) held past (line_first n l h) e f in
    let eight = cells_long n w ts fits.whole 8 (8 * l) in
    let together : length values + length blank ≡ 8 * (2 * w + 1) = sym (length-append values blank) ∙ sym (ap length split) ∙ eight in
    rw (split, sym (append_assoc number values blank))
    (wrote_then (number ++ values ++ blank) (10 ∷ []) (rw three_length (omega arith))
    (wrote_then (number ++ values) blank (rw length-append (omega arith)) (wrote_then number values (omega arith) p q) r) s)

-- the cells of a line and their room: those that hold a value, and those past them
pub line_room : (n w l held past at room : ℕ) (ts : List ℕ) → Pageable n w ts → l < page_lines n → at + line_long w ≤ room →
    held ≡ min 8 (n - 8 * l) → past ≡ 8 - held →
    ((8 * l + held) * w ≤ length ts) × (at + 5 + held * (2 * w + 1) + past * (2 * w + 1) + 1 ≤ room)
unfolding line_long
line_room n w l held past at room ts fits h fit e f =
    let first = line_first n l h in
    let all : held + past ≡ 8 = omega arith in
    let both : held * (2 * w + 1) + past * (2 * w + 1) ≡ 8 * (2 * w + 1) = sym (add-mul held past (2 * w + 1)) ∙ ap (λ (k : ℕ). k * (2 * w + 1)) all in
    (omega (arith, fits.whole, mul-le-mul_right {m = 8 * l + held} {n = n} w (omega arith)), omega arith)

-- so many lines
pub lines_long : (n w l : ℕ) (ts : List ℕ) → Pageable n w ts → l ≤ page_lines n → length (in_a_row l 0 (λ j. page_line n w ts j)) ≡ l * line_long w
lines_long n w l ts fits h = row_long (line_long w) l 0 (λ j. page_line n w ts j) (λ j least most. line_is_long n w ts fits j (omega arith))

-- one line more
pub lines_turn : (n w l : ℕ) {next after : ℕ} (ts : List ℕ) {old between now : List ℕ} → Pageable n w ts → l < page_lines n → page_long n w ≤ length old →
    Wrote 0 (in_a_row l 0 (λ j. page_line n w ts j)) next old between → Wrote next (page_line n w ts l) after between now →
    Wrote 0 (in_a_row (l + 1) 0 (λ j. page_line n w ts j)) after old now
unfolding page_long
lines_turn n w l ts fits h room p q =
    let F : ℕ → List ℕ = λ j. page_line n w ts j in
    let here : 0 + l ≡ l = omega arith in
    let grown : in_a_row (l + 1) 0 F ≡ in_a_row l 0 F ++ page_line n w ts l = row_next l 0 F ∙ ap (λ (j : ℕ). in_a_row l 0 F ++ page_line n w ts j) here in
    wrote_more (in_a_row l 0 F) (page_line n w ts l) (in_a_row (l + 1) 0 F) grown
    (omega (arith, lines_long n w (l + 1) ts fits (omega arith), part_within l (page_lines n) (line_long w) h, suc-mul l (line_long w))) p q

-- the largest page
pub page_most : (n w : ℕ) → n ≤ 65536 → w ≤ 16 → page_long n w ≤ 2211840
unfolding page_long line_long
page_most n w positions bytes =
    let wide : 6 + 8 * (2 * w + 1) ≤ 270 = omega arith in
    omega (arith, mul-le-mul (lines_few n positions) wide)

-- the bytes of a page
pub page_length_is : (n w : ℕ) {lines cell : ℕ} → lines ≡ page_lines n → cell ≡ 2 * w + 1 → lines * (6 + 8 * cell) ≡ page_long n w
unfolding page_long line_long
page_length_is n w e f = rw (e, f)
