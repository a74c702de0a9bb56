-- The theorems of specs/Arrays.antt. Columns of one array go to different halves, and there are as many halves as columns: so every column of
-- the array's parity is there. The columns that a player marks, without this bit and the lowest of the others, are different numbers
-- below J/2, and so are those that the player does not mark: so both are J/2. Assumes nothing.
use mathlib.Core.Path.{◌≡◌, refl, sym, ap, ◌∙◌, subst}
use mathlib.Core.Bool.{Bool, true, false, not, cond, true≢false}
use mathlib.Core.List.{List, [], ◌∷◌}
use Prim.Native.Nat.{ℕ, zero, suc, ◌+◌, ◌*◌, ◌-◌, ◌/◌, ◌^◌, ◌≤◌, ◌<◌}
use native.Mathlib.Omega.{arith}
use lib.Dec.{eqb}
use lib.ListN.{length, get_or}
use lib.Pow.{pow_pos}
use borrow.Author.Tests.{eqb-true, eqb-false, not-true}
use Rattle.grid.specs.Grid.{Board, columns, grid_rows, bit, column, is_odd, other_marks, unheld_from}
use Rattle.grid.specs.Arrays.{Accepted, EachColumnOnce, count_marked, HalfIsMarked, HalfOfEachGridRow, LeftAlone, unheld_column, OneRowUnheld}
use Rattle.grid.specs.Moving.{mended}
use Rattle.grid.proofs.Columns.{half_fixes, others_and_parity_fix, none_marked, some_marked, others_none, mended_low, mended_parity, mended_alone, without, without_low, bit_and_half_fix}
use Rattle.grid.proofs.Facts.{BoardIn, board_in, columns_twice, columns_half, array_in, array_of, array_at, array_long, ArraysIn, facts}
use Rattle.grid.proofs.Pigeonhole.{count, count_both, count_first, count_same, Apart, pigeon, hits}

-- ONE ARRAY, as a function of the place: J columns of p bits, of one parity, each once

pub record Array (p J : ℕ) (odd : Bool) (col : ℕ → ℕ) : Type 0 where
  pub below : (j : ℕ) → j < J → col j < 2 ^ p
  pub parity : (j : ℕ) → j < J → is_odd (col j) ≡ odd
  pub once : (j l : ℕ) → j < J → l < J → col j ≡ col l → j ≡ l

-- an accepted array is one, and so is each grid row of a good dealing
listed_array : (b : Board) (o : Bool) (cs : List ℕ) → Accepted b o cs → Array b.p (columns b) o (λ j. get_or cs j 0)
listed_array b o cs t =
    let a = array_in b o cs t.good in
    record {
      below = λ j h. a.below j (rw t.long h);
      parity = λ j h. a.parity j (rw t.long h);
      once = λ j l h k. a.once j l (rw t.long h) (rw t.long k);
    }

pub row_array : (b : Board) (odd_row : ℕ) (cs : List ℕ) → ArraysIn b odd_row cs → (g : ℕ) → g < grid_rows b
    → Array b.p (columns b) (eqb g odd_row) (λ j. column b cs g j)
row_array b r cs t g h =
    record { below = λ j. t.below g j h; parity = λ j. t.parity g j h; once = λ j l. t.once g j l h }

-- EVERY COLUMN OF THE PARITY IS THERE

pub present : (p J : ℕ) (o : Bool) (col : ℕ → ℕ) → 2 ^ p ≡ 2 * J → Array p J o col → (c : ℕ) → c < 2 ^ p → is_odd c ≡ o
    → (j : ℕ) × (j < J) × (col j ≡ c)
present p J o col two a c h e =
    let halves : Apart J J (λ j. col j / 2) (λ j. true) =
    record {
      low = λ j q t. let r = a.below j q in omega arith;
      apart = λ j l q r t u f. a.once j l q r (half_fixes (col j) (col l) f (a.parity j q ∙ sym (a.parity l r)));
    } in
    let place = hits J (λ j. col j / 2) halves (c / 2) (omega arith) in
    (place.0, place.1, half_fixes (col place.0) c place.2 (a.parity place.0 place.1 ∙ sym e))

pub each_column_once : EachColumnOnce
unfolding EachColumnOnce
each_column_once b o cs t c h e =
    let a = listed_array b o cs t in
    let place = present b.p (columns b) o (λ j. get_or cs j 0) (columns_twice b (board_in b t.board)) a c h e in
    (place.0, place.1, place.2, λ k q f. a.once k place.0 q place.1 (f ∙ sym place.2))

-- A PLAYER MARKS HALF OF THE COLUMNS

module _ (k J : ℕ) (half : J ≡ 2 * 2 ^ k) (o : Bool) (col : ℕ → ℕ) (a : Array (suc (suc k)) J o col) (i : ℕ) (h : i < suc (suc k)) (most : suc (suc k) ≤ 8) where
  -- of the columns that a player marks alike, or leaves alike, there are at most half
  alike : (s : ℕ → Bool) (mark : Bool) → ((j : ℕ) → s j ≡ true → bit (col j) i ≡ mark) → count J s ≤ 2 ^ k
  alike s mark same =
      pigeon J (2 ^ k) (λ j. without (col j) i / 2) s
      (record {
        low = λ j p t. let r = without_low (suc k) (col j) i (omega arith) (a.below j p) in omega arith;
        apart = λ j l p q t u e. a.once j l p q
            (bit_and_half_fix i (col j) (col l) (omega arith) (same j t ∙ sym (same l u)) (a.parity j p ∙ sym (a.parity l q)) e);
      })

  half_of_them : count J (λ j. bit (col j) i) ≡ 2 ^ k
  half_of_them =
      let most_marked = alike (λ j. bit (col j) i) true (λ j e. e) in
      let most_left = alike (λ j. not (bit (col j) i)) false (λ j e. not-true (bit (col j) i) e) in
      let all = count_both J (λ j. bit (col j) i) in
      omega arith

pub half_counted :
    (b : Board) → BoardIn b → (o : Bool) (col : ℕ → ℕ) → Array b.p (columns b) o col → (i : ℕ) → i < b.p → count (columns b) (λ j. bit (col j) i) ≡ columns b / 2
half_counted b f o col a i h =
    let e : b.p ≡ suc (suc (b.p - 2)) = omega arith in
    let half = columns_half b f in
    let r = half_of_them (b.p - 2) (columns b) half o col (subst (λ (p : ℕ). Array p (columns b) o col) e a) i (omega arith) (omega arith) in
    omega arith

-- the columns that a player marks, counted by place
count_marked_is : (i : ℕ) (cs : List ℕ) → count_marked i cs ≡ count (length cs) (λ j. bit (get_or cs j 0) i)
unfolding count_marked count
count_marked_is i [] = refl
count_marked_is i (c ∷ cs) = ap (λ (m : ℕ). cond (bit c i) 1 0 + m) (count_marked_is i cs) ∙ sym (count_first (length cs) (λ j. bit (get_or (c ∷ cs) j 0) i))

pub half_is_marked : HalfIsMarked
unfolding HalfIsMarked
half_is_marked b o cs t i h =
    count_marked_is i cs ∙ ap (λ (n : ℕ). count n (λ j. bit (get_or cs j 0) i)) t.long
    ∙ half_counted b (board_in b t.board) o (λ j. get_or cs j 0) (listed_array b o cs t) i h

pub half_of_each_grid_row : HalfOfEachGridRow
unfolding HalfOfEachGridRow array_of
half_of_each_grid_row b d i g good h l =
    let f = facts b d good in
    let cs = array_of b d.arrays g in
    count_marked_is i cs ∙ ap (λ (n : ℕ). count n (λ j. bit (get_or cs j 0) i)) (array_long b d.arrays f.arrays.long g l)
    ∙ count_same (columns b) (λ j. bit (get_or cs j 0) i) (λ j. bit (column b d.arrays g j) i) (λ j q. ap (λ (c : ℕ). bit c i) (array_at b d.arrays g j q))
    ∙ half_counted b f.board (eqb g (d.point / b.wide)) (λ j. column b d.arrays g j) (row_array b (d.point / b.wide) d.arrays f.arrays g l) i h

-- ONE COLUMN IS LEFT ALONE

-- no player but i marks a column exactly where it has no other marks
pub alone_is : (b : Board) (i c : ℕ) → c < 2 ^ b.p → LeftAlone b i c → other_marks c i ≡ 0
unfolding LeftAlone
alone_is b i c low h = go (eqb (other_marks c i) 0) refl
  where
    go : (t : Bool) → eqb (other_marks c i) 0 ≡ t → other_marks c i ≡ 0
    go true e = eqb-true (other_marks c i) 0 e
    go false e =
        let r = some_marked b.p i c low (eqb-false (other_marks c i) 0 e) in
        absurd (true≢false (sym r.3 ∙ h r.0 r.1 r.2))

pub is_alone : (b : Board) (i c : ℕ) → other_marks c i ≡ 0 → LeftAlone b i c
unfolding LeftAlone
is_alone b i c h k l ne = none_marked c i k h ne

-- the search finds a column without other marks where there is one
search_finds : (k j : ℕ) (b : Board) (i : ℕ) (cs : List ℕ) (g u : ℕ) → j ≤ u → u < j + k → other_marks (column b cs g u) i ≡ 0
    → (unheld_from k j b i cs g < j + k) × (other_marks (column b cs g (unheld_from k j b i cs g)) i ≡ 0)
unfolding unheld_from
search_finds zero j b i cs g u h l e = let none : ⊥ = omega arith in absurd none
search_finds (suc k) j b i cs g u h l e = go (eqb (other_marks (column b cs g j) i) 0) refl (λ q. search_finds k (suc j) b i cs g u q (omega arith) e)
  where
    go : (t : Bool) → eqb (other_marks (column b cs g j) i) 0 ≡ t
        → (suc j ≤ u → (unheld_from k (suc j) b i cs g < suc j + k) × (other_marks (column b cs g (unheld_from k (suc j) b i cs g)) i ≡ 0))
        → (cond t j (unheld_from k (suc j) b i cs g) < j + suc k) × (other_marks (column b cs g (cond t j (unheld_from k (suc j) b i cs g))) i ≡ 0)
    go true f later = (omega arith, eqb-true (other_marks (column b cs g j) i) 0 f)
    go false f later =
        let apart : j ≡ u → ⊥ = λ z. eqb-false (other_marks (column b cs g j) i) 0 f (rw z e) in
        let r = later (omega arith) in
        let q = r.0 in
        (omega arith, r.1)

-- the one place of a grid row that nobody but player i holds
pub record Unheld (b : Board) (i : ℕ) (cs : List ℕ) (g place : ℕ) : Type 0 where
  pub within : place < columns b
  pub alone : other_marks (column b cs g place) i ≡ 0
  pub only : (k : ℕ) → k < columns b → other_marks (column b cs g k) i ≡ 0 → k ≡ place

pub one_unheld : (b : Board) → BoardIn b → (i : ℕ) → i < b.p → (odd_row : ℕ) (cs : List ℕ) → ArraysIn b odd_row cs → (g : ℕ) → g < grid_rows b
    → Unheld b i cs g (unheld_column b i cs g)
one_unheld b f i h r cs t g l =
    let odd = eqb g r in
    let lone = mended odd 0 i in
    let there = present b.p (columns b) odd (λ j. column b cs g j) (columns_twice b f) (row_array b r cs t g l) lone
    (mended_low b.p odd 0 i h (pow_pos b.p)) (mended_parity odd 0 i (omega arith)) in
    let found = search_finds (columns b) 0 b i cs g there.0 (omega arith) (let q = there.1 in omega arith)
    (rw there.2 (mended_alone odd 0 i ∙ others_none i)) in
    let u = unheld_column b i cs g in
    let inside : u < columns b = (let q = found.0 in omega arith) in
    record {
      within = inside;
      alone = found.1;
      only = λ k q e. t.once g k u l q inside
          (others_and_parity_fix b.p i (column b cs g k) (column b cs g u) (omega arith) (t.below g k l q) (t.below g u l inside)
          (λ j m ne. none_marked (column b cs g k) i j e ne ∙ sym (none_marked (column b cs g u) i j found.1 ne))
          (t.parity g k l q ∙ sym (t.parity g u l inside)));
    }

pub one_row_unheld : OneRowUnheld
unfolding OneRowUnheld
one_row_unheld b d i g good h l =
    let f = facts b d good in
    let u = one_unheld b f.board i h (d.point / b.wide) d.arrays f.arrays g l in
    (u.within, is_alone b i _ u.alone, λ k q e. u.only k q (alone_is b i _ (f.arrays.below g k l q) e))
