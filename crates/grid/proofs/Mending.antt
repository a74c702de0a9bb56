-- Arrays seen by everybody but player i: the others' marks and the parities fix the arrays, and mending player i's marks gives the arrays of
-- any other special grid row, with the others' marks unchanged. Assumes nothing.
use mathlib.Core.Path.{◌≡◌, refl, sym, ap, ◌∙◌, subst}
use mathlib.Core.List.{List}
use Prim.Native.Nat.{ℕ, zero, suc, ◌+◌, ◌*◌, ◌/◌, ◌%◌, ◌<◌}
use native.Mathlib.Omega.{arith}
use native.Mathlib.Nat.{mod-lt, div-add-mod', div-lt_iff_lt-mul}
use lib.Arith.{digits_lt, digits_div}
use lib.Dec.{eqb}
use lib.ListN.{length, get_or}
use lib.Seq.{ext_get_or}
use Rattle.grid.specs.Grid.{Board, columns, grid_rows, bit, column}
use Rattle.grid.specs.Moving.{mended, listed, mended_arrays}
use Rattle.grid.proofs.Columns.{others_and_parity_fix, mended_low, mended_parity, mended_others}
use Rattle.grid.proofs.Facts.{BoardIn, ArraysIn, columns_pos}
use Rattle.grid.proofs.Holding.{SameMarks}

-- LISTS MADE PLACE BY PLACE

pub length-listed : {A : Type 0} (k m : ℕ) (f : ℕ → A) → length (listed k m f) ≡ k
unfolding listed
length-listed zero m f = refl
length-listed (suc k) m f = ap suc (length-listed k (suc m) f)

listed_from : {A : Type 0} (k m : ℕ) (f : ℕ → A) (j : ℕ) (d : A) → j < k → get_or (listed k m f) j d ≡ f (m + j)
unfolding listed
listed_from zero m f j d h = let none : ⊥ = omega arith in absurd none
listed_from (suc k) m f zero d h = let e : m + 0 ≡ m = omega arith in rw e
listed_from (suc k) m f (suc j) d h =
    let e : m + suc j ≡ suc m + j = omega arith in
    rw e (listed_from k (suc m) f j d (omega arith))

pub listed_at : {A : Type 0} (k : ℕ) (f : ℕ → A) (j : ℕ) (d : A) → j < k → get_or (listed k 0 f) j d ≡ f j
listed_at k f j d h = let e : 0 + j ≡ j = omega arith in rw e at (listed_from k 0 f j d h)

-- PLACES: column j of grid row g is place g × J + j

pub place_in : (b : Board) (g j : ℕ) → g < grid_rows b → j < columns b → g * columns b + j < grid_rows b * columns b
place_in b g j h l = digits_lt h l

pub place_row : (b : Board) (g j : ℕ) → j < columns b → (g * columns b + j) / columns b ≡ g
place_row b g j l = digits_div g l

-- what holds of every column of every grid row holds of every place
pub each_place :
    (b : Board) (P : ℕ → Type 0) → ((g j : ℕ) → g < grid_rows b → j < columns b → P (g * columns b + j)) → (m : ℕ) → m < grid_rows b * columns b → P m
each_place b P h m l =
    subst P (div-add-mod' m (columns b))
    (h (m / columns b) (m % columns b) ((div-lt_iff_lt-mul (columns_pos b)).1 l) (mod-lt m (columns_pos b)))

-- THE ARRAYS ARE FIXED by the others' marks and the special grid row

pub arrays_fixed : (b : Board) → BoardIn b → (i special : ℕ) (cs ds : List ℕ) → ArraysIn b special cs → ArraysIn b special ds
    → ((k : ℕ) → k < b.p → (k ≡ i → ⊥) → SameMarks k (grid_rows b * columns b) cs ds) → cs ≡ ds
unfolding SameMarks column
arrays_fixed b f i s cs ds c d h =
    ext_get_or 0 cs ds (c.long ∙ sym d.long)
    (λ m l. each_place b (λ n. get_or cs n 0 ≡ get_or ds n 0) same m (rw c.long at l))
  where
    same : (g j : ℕ) → g < grid_rows b → j < columns b → get_or cs (g * columns b + j) 0 ≡ get_or ds (g * columns b + j) 0
    same g j l q =
        others_and_parity_fix b.p i (column b cs g j) (column b ds g j) (omega arith) (c.below g j l q) (d.below g j l q)
        (λ k r ne. h k r ne (g * columns b + j) (place_in b g j l q)) (c.parity g j l q ∙ sym (d.parity g j l q))

-- THE ARRAYS MENDED

pub mended_at : (b : Board) (i special : ℕ) (cs : List ℕ) (g j : ℕ) → g < grid_rows b → j < columns b
    → column b (mended_arrays b i special cs) g j ≡ mended (eqb g special) (column b cs g j) i
unfolding column mended_arrays
mended_at b i s cs g j l q =
    listed_at (grid_rows b * columns b) (λ m. mended (eqb (m / columns b) s) (get_or cs m 0) i) (g * columns b + j) 0 (place_in b g j l q)
    ∙ rw (place_row b g j q)

pub mended_in : (b : Board) → BoardIn b → (i : ℕ) → i < b.p → (old special : ℕ) (cs : List ℕ) → ArraysIn b old cs → ArraysIn b special (mended_arrays b i special cs)
unfolding mended_arrays
mended_in b f i h r s cs a =
    record {
      long = long_is;
      below = λ g j l q. rw (mended_at b i s cs g j l q) (mended_low b.p (eqb g s) (column b cs g j) i h (a.below g j l q));
      parity = λ g j l q. rw (mended_at b i s cs g j l q) (mended_parity (eqb g s) (column b cs g j) i (omega arith));
      once = once_of;
    }
  where
    long_is : length (mended_arrays b i s cs) ≡ grid_rows b * columns b
    long_is = length-listed (grid_rows b * columns b) 0 (λ m. mended (eqb (m / columns b) s) (get_or cs m 0) i)

    others : (g j k n : ℕ) → g < grid_rows b → j < columns b → k < columns b → (n ≡ i → ⊥)
        → column b (mended_arrays b i s cs) g j ≡ column b (mended_arrays b i s cs) g k → bit (column b cs g j) n ≡ bit (column b cs g k) n
    others g j k n l q r ne e =
        let same : mended (eqb g s) (column b cs g j) i ≡ mended (eqb g s) (column b cs g k) i = sym (mended_at b i s cs g j l q) ∙ e ∙ mended_at b i s cs g k l r in
        sym (mended_others (eqb g s) (column b cs g j) i n ne) ∙ ap (λ (c : ℕ). bit c n) same ∙ mended_others (eqb g s) (column b cs g k) i n ne

    once_of : (g j k : ℕ) → g < grid_rows b → j < columns b → k < columns b
        → column b (mended_arrays b i s cs) g j ≡ column b (mended_arrays b i s cs) g k → j ≡ k
    once_of g j k l q r e =
        a.once g j k l q r
        (others_and_parity_fix b.p i (column b cs g j) (column b cs g k) (omega arith) (a.below g j l q) (a.below g k l r)
        (λ n t ne. others g j k n l q r ne e) (a.parity g j l q ∙ sym (a.parity g k l r)))

-- nobody else sees a difference
pub mended_marks : (b : Board) (i special : ℕ) (cs : List ℕ) (k : ℕ) → (k ≡ i → ⊥) → SameMarks k (grid_rows b * columns b) cs (mended_arrays b i special cs)
unfolding SameMarks mended_arrays
mended_marks b i s cs k ne m l =
    sym (mended_others (eqb (m / columns b) s) (get_or cs m 0) i k ne)
    ∙ ap (λ (c : ℕ). bit c k) (sym (listed_at (grid_rows b * columns b) (λ n. mended (eqb (n / columns b) s) (get_or cs n 0) i) m 0 l))
