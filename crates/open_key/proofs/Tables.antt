-- The full table, grid row by grid row. Document 03 works every square's share out by itself; here the shares of one grid row, one cell after
-- another, are a stretch of that grid row's XOR of words and rows, from its first byte on. So each held seed is expanded once. For all
-- players, positions, widths and rules at once. Assumes nothing.
use mathlib.Core.Path.{◌≡◌, refl, sym, ap, ◌∙◌}
use mathlib.Core.Bool.{Bool, true, false, cond}
use mathlib.Core.List.{List, ◌++◌}
use Prim.Native.Nat.{ℕ, zero, suc, ◌+◌, ◌*◌, ◌/◌, ◌%◌, ◌≤◌, ◌<◌}
use native.Mathlib.Nat.{mul-le-mul_right}
use native.Mathlib.Omega.{arith}
use lib.Arith.{digits_div, digits_mod}
use lib.ListN.{take, drop}
use lib.Seq.{take-add, drop-drop}
use Rattle.xor.specs.Xor.{zeros}
use Rattle.grid.specs.Grid.{Board, columns, row_long, cell}
use Rattle.grid.proofs.Facts.{BoardIn, cell_fits}
use Rattle.keys.proofs.Accepted.{BodyIn}
use Rattle.keys.proofs.Opening.{opened_part_is}
use Rattle.keys.specs.Keys.{grid_row_part, opened_from, opened_part, Parts, parts_of, share_by_parts, table_from}
use Rattle.keys.specs.Held.{marked}
use Rattle.open_grid_row.specs.Shares.{stretch, shares, shares_from}
use Rattle.open_grid_row.proofs.Stretches.{shares_stretch}

-- ONE SQUARE: document 03's opening of a square is the stretch of its cell

either : {A : Type 0} (t : Bool) (x y u v : A) → x ≡ u → y ≡ v → cond t x y ≡ cond t u v
either true x y u v p q = p
either false x y u v p q = q

opened_from_shares : (k j q : ℕ) (b : Board) (f : List ℕ → List ℕ) (ps : List ℕ) (g c : ℕ) (xs : List ℕ) →
    opened_from k j q b f ps g c xs ≡ shares_from k j q b f ps g (c * b.w) b.w xs
unfolding opened_from shares_from stretch cell marked
opened_from_shares zero j q b f ps g c xs = refl
opened_from_shares (suc k) j q b f ps g c xs =
    either (marked ps j) _ _ _ _ (opened_from_shares k (suc j) (suc q) b f ps g c _) (opened_from_shares k (suc j) q b f ps g c xs)

pub opened_shares : (b : Board) (f : List ℕ → List ℕ) (ps : List ℕ) (a : ℕ) →
    opened_part b f ps a ≡ shares b f ps (a / b.wide) (a % b.wide * b.w) b.w
unfolding opened_part shares
opened_shares b f ps a = opened_from_shares (columns b) 0 0 b f ps (a / b.wide) (a % b.wide) (zeros b.w)

-- ONE GRID ROW: its cells one after another

grid_row_fits : (b : Board) (m : ℕ) → m ≤ b.wide → m * b.w ≤ row_long b
unfolding row_long
grid_row_fits b m h = mul-le-mul_right b.w h

-- entries that are the cells of a row, one after another, are the row's first bytes
cells_glued : (m a : ℕ) (b : Board) (f : List ℕ → List ℕ) (q : Parts) (row : List ℕ) →
    ((c : ℕ) → c < m → share_by_parts b f q (a + c) ≡ stretch (c * b.w) b.w row) → table_from m a b f q ≡ stretch 0 (m * b.w) row
unfolding table_from stretch
cells_glued zero a b f q row h =
    let none : zero * b.w ≡ 0 = omega arith in
    rw none
cells_glued (suc m) a b f q row h =
    let none : 0 * b.w ≡ 0 = omega arith in
    let here : a + 0 ≡ a = omega arith in
    let more : suc m * b.w ≡ b.w + m * b.w = omega arith in
    let first : share_by_parts b f q a ≡ take b.w row = rw (here, none) at (h 0 (omega arith)) in
    rw (more, take-add b.w (m * b.w) row, first)
    (ap (λ (rest : List ℕ). take b.w row ++ rest) (cells_glued m (suc a) b f q (drop b.w row) (λ c p.
    let next : suc a + c ≡ a + suc c = omega arith in
    let further : suc c * b.w ≡ b.w + c * b.w = omega arith in
    rw (next, drop-drop (c * b.w) b.w row) (rw further at (h (suc c) (omega arith))))))

-- in document 03's table, grid row g has the first bytes of its shares, as many as its cells in the table take
pub grid_row_table : (b : Board) (f : List ℕ → List ℕ) (bs : List ℕ) (g m : ℕ) → BoardIn b → BodyIn b bs → m ≤ b.wide → g * b.wide + m ≤ b.n →
    table_from m (g * b.wide) b f (parts_of b bs) ≡ shares b f (grid_row_part b bs g) g 0 (m * b.w)
grid_row_table b f bs g m board body h within =
    let ps = grid_row_part b bs g in
    cells_glued m (g * b.wide) b f (parts_of b bs) (shares b f ps g 0 (row_long b)) (λ c p.
    let a = g * b.wide + c in
    let row_is = digits_div g {m = b.wide} {r = c} (omega arith) in
    let cell_is = digits_mod g {m = b.wide} {r = c} (omega arith) in
    sym (opened_part_is b f bs a board body (omega arith)) ∙ opened_shares b f (grid_row_part b bs (a / b.wide)) a
    ∙ rw (row_is, cell_is) (shares_stretch b f ps g (c * b.w) b.w (omega (arith, cell_fits b c (omega arith)))))
    ∙ sym (shares_stretch b f ps g 0 (m * b.w) (omega (arith, grid_row_fits b m h)))
