-- The first fault of a dealing's arrays: there is none exactly where the arrays are good, and the place found is the first.
-- Assumes nothing.
use mathlib.Core.Path.{◌≡◌, refl, sym, ap, ◌∙◌, subst, subst⁻¹}
use mathlib.Core.Bool.{Bool, true, false, cond, false≢true}
use mathlib.Core.List.{List}
use mathlib.Core.Logic.{◌⊎◌, inl, inr, ⊎_elim}
use Prim.Native.Nat.{ℕ, zero, suc, ◌+◌, ◌*◌, ◌/◌, ◌%◌, ◌^◌, ◌≤◌, ◌<◌}
use native.Mathlib.Decide.{dec_le}
use native.Mathlib.Omega.{arith}
use native.Mathlib.Nat.{add-zero, zero-add, mod-lt, div-add-mod', div-lt_iff_lt-mul}
use lib.Arith.{digits_lt, digits_div, digits_mod}
use lib.Dec.{eqb}
use lib.ListN.{length, get_or, drop, length-drop}
use lib.Seq.{length-take-le, get_or-take, get_or-drop}
use borrow.Author.Tests.{leb-false, lt-leb, eqb-true, eqb-false, eq-eqb, ne_eqb, not-false}
use Rattle.grid.specs.Grid.{Board, columns, grid_rows, arrays_long, column, is_odd, same_parity, member, arrays_good}
use Rattle.grid.specs.Faults.{bit_beyond, wrong_parity, first_of, fits, column_fault, columns_before, fits_at, fault_at}
use Rattle.grid.specs.Faults.{no_fault, fault_from, arrays_fault}
use Rattle.grid.specs.Faults.{FaultWhereBad, FirstFault, PlaceIsFirst}
use Rattle.grid.specs.Faults.{Fault}
use Rattle.grid.proofs.Columns.{parity_is, parity_fits}
use Rattle.grid.proofs.Facts.{columns_pos, absent, not_member, ArraysIn, arrays_in, arrays_accepted}

-- AT ONE COLUMN: three tests, the first that holds, and whether a number fits

abbrev fit : (x y z : Bool) → (n : ℕ) → Bool
fit x y z n = cond (eqb n 18) x (cond (eqb n 19) y (cond (eqb n 20) z false))

unfit : (x y z : Bool) (n : ℕ) → (n ≡ 18 → x ≡ false) → (n ≡ 19 → y ≡ false) → (n ≡ 20 → z ≡ false) → fit x y z n ≡ false
unfit x y z n p q r = go (eqb n 18) refl (eqb n 19) refl (eqb n 20) refl
  where
    go : (s : Bool) → eqb n 18 ≡ s → (t : Bool) → eqb n 19 ≡ t → (u : Bool) → eqb n 20 ≡ u → cond s x (cond t y (cond u z false)) ≡ false
    go true e t f u g = p (eqb-true n 18 e)
    go false e true f u g = q (eqb-true n 19 f)
    go false e false f true g = r (eqb-true n 20 g)
    go false e false f false g = refl

-- where the number is 0 no test holds
none_holds : (x y z : Bool) → first_of x y z ≡ 0 → (x ≡ false) × (y ≡ false) × (z ≡ false)
none_holds true y z h = let none : ⊥ = omega arith in absurd none
none_holds false true z h = let none : ⊥ = omega arith in absurd none
none_holds false false true h = let none : ⊥ = omega arith in absurd none
none_holds false false false h = (refl, refl, refl)

-- and where it is another it fits, and no smaller one does
record FirstFits (x y z : Bool) (n : ℕ) : Type 0 where
  one_of_three : (18 ≤ n) × (n ≤ 20)
  number_fits : fit x y z n ≡ true
  none_smaller : (m : ℕ) → m < n → fit x y z m ≡ false

first_fits : (x y z : Bool) → (first_of x y z ≡ 0 → ⊥) → FirstFits x y z (first_of x y z)
first_fits true y z h =
    record {
      one_of_three = (omega arith, omega arith);
      number_fits = refl;
      none_smaller = λ m l. unfit true y z m (λ e. absurd (omega arith)) (λ e. absurd (omega arith)) (λ e. absurd (omega arith));
    }
first_fits false true z h =
    record {
      one_of_three = (omega arith, omega arith);
      number_fits = refl;
      none_smaller = λ m l. unfit false true z m (λ e. refl) (λ e. absurd (omega arith)) (λ e. absurd (omega arith));
    }
first_fits false false true h =
    record {
      one_of_three = (omega arith, omega arith);
      number_fits = refl;
      none_smaller = λ m l. unfit false false true m (λ e. refl) (λ e. refl) (λ e. absurd (omega arith));
    }
first_fits false false false h = absurd (h refl)

-- a column is without fault where it has bits of p players, the parity asked, and did not stand before
module _ (b : Board) (o : Bool) (before : List ℕ) (c : ℕ) where
  column_fine : c < 2 ^ b.p → is_odd c ≡ o → member c before ≡ false → column_fault b o before c ≡ 0
  unfolding column_fault
  column_fine low parity new = rw (lt-leb (2 ^ b.p) c low, parity_fits (is_odd c) o parity, new)

  pub column_in : column_fault b o before c ≡ 0 → (c < 2 ^ b.p) × (is_odd c ≡ o) × (member c before ≡ false)
  unfolding column_fault
  column_in h =
      let none = none_holds (bit_beyond b c) (wrong_parity o c) (member c before) h in
      (leb-false (2 ^ b.p) c none.0, parity_is (is_odd c) o (not-false (same_parity (is_odd c) o) none.1), none.2)

-- AT ONE PLACE

module _ (b : Board) (a : ℕ) (cs : List ℕ) where
  nothing_fits : (g j : ℕ) → fault_at b a cs g j ≡ 0 → (n : ℕ) → fits_at b a cs g j n ≡ false
  unfolding fault_at fits_at column_fault fits
  nothing_fits g j h n =
      let none = none_holds _ _ _ h in
      unfit _ _ _ n (λ e. none.0) (λ e. none.1) (λ e. none.2)

  -- the columns before one, by their places
  before_long : (g j : ℕ) → length cs ≡ arrays_long b → g < grid_rows b → j < columns b → length (columns_before b cs g j) ≡ j
  before_long g j long l m =
      length-take-le j (drop (g * columns b) cs) (rw length-drop (omega (arith, digits_lt l m)))

  before_at : (g j k : ℕ) → k < j → get_or (columns_before b cs g j) k 0 ≡ column b cs g k
  unfolding column
  before_at g j k h = rw (get_or-take, get_or-drop)

  module _ (long : length cs ≡ arrays_long b) where
    -- good arrays have no fault
    fine_at : ArraysIn b (a / b.wide) cs → (g j : ℕ) → g < grid_rows b → j < columns b → fault_at b a cs g j ≡ 0
    unfolding fault_at
    fine_at t g j l m =
        column_fine b _ _ _ (t.below g j l m) (t.parity g j l m)
        (not_member (column b cs g j) (columns_before b cs g j)
        (λ k h e.
        let inside : k < j = subst (λ (n : ℕ). k < n) (before_long g j long l m) h in
        let same : k ≡ j = t.once g k j l (omega arith) m (sym (before_at g j k inside) ∙ e) in
        omega arith))

    -- and arrays without a fault are good
    fine_in : ((g j : ℕ) → g < grid_rows b → j < columns b → fault_at b a cs g j ≡ 0) → ArraysIn b (a / b.wide) cs
    unfolding fault_at
    fine_in h =
        record {
          long = long;
          below = λ g j l m. (column_in b _ _ _ (h g j l m)).0;
          parity = λ g j l m. (column_in b _ _ _ (h g j l m)).1;
          once = once_of;
        }
      where
        apart : (g j k : ℕ) → g < grid_rows b → k < columns b → j < k → column b cs g j ≡ column b cs g k → ⊥
        apart g j k l n less e =
            absent (column b cs g k) (columns_before b cs g k) (column_in b _ _ _ (h g k l n)).2 j
            (subst⁻¹ (λ (m : ℕ). j < m) (before_long g k long l n) less) (before_at g k j less ∙ e)

        once_of : (g j k : ℕ) → g < grid_rows b → j < columns b → k < columns b → column b cs g j ≡ column b cs g k → j ≡ k
        once_of g j k l m n e = go (dec_le (suc j) k) (dec_le (suc k) j)
          where
            go : Dec (j < k) → Dec (k < j) → j ≡ k
            go (yes less) d = absurd (apart g j k l n less e)
            go (no not_less) (yes more) = absurd (apart g k j l m more (sym e))
            go (no not_less) (no not_more) = omega arith

-- SCANNING

module _ (b : Board) (a : ℕ) (cs : List ℕ) where
  abbrev at : (i : ℕ) → ℕ
  at i = fault_at b a cs (i / columns b) (i % columns b)

  abbrev found_at : (i : ℕ) → Fault
  found_at i = record { number = at i; grid_row = i / columns b; column = i % columns b }

  pub fault_next : (k i : ℕ) → at i ≡ 0 → fault_from (suc k) i b a cs ≡ fault_from k (suc i) b a cs
  unfolding fault_from
  fault_next k i e = ap (λ (t : Bool). cond t (fault_from k (suc i) b a cs) (found_at i)) (eq-eqb (at i) 0 e)

  pub fault_here : (k i : ℕ) → (at i ≡ 0 → ⊥) → fault_from (suc k) i b a cs ≡ found_at i
  unfolding fault_from
  fault_here k i h = ap (λ (t : Bool). cond t (fault_from k (suc i) b a cs) (found_at i)) (ne_eqb (at i) 0 h)

  pub no_more : (k i : ℕ) → k ≡ 0 → fault_from k i b a cs ≡ no_fault
  unfolding fault_from
  no_more k i e = rw e

  -- places in two parts: what is found in the first, or else in the second
  two_parts : (k m i : ℕ) → fault_from (k + m) i b a cs
      ≡ cond (eqb (fault_from k i b a cs).number 0) (fault_from m (i + k) b a cs) (fault_from k i b a cs)
  two_parts zero m i = rw (no_more zero i refl, zero-add m, add-zero i)
  two_parts (suc k) m i =
      let more : suc k + m ≡ suc (k + m) = omega arith in
      let next : i + suc k ≡ suc i + k = omega arith in
      rw (more, next) (go (eqb (at i) 0) refl (two_parts k m (suc i)))
    where
      go : (t : Bool) → eqb (at i) 0 ≡ t
          → fault_from (k + m) (suc i) b a cs
          ≡ cond (eqb (fault_from k (suc i) b a cs).number 0) (fault_from m (suc i + k) b a cs) (fault_from k (suc i) b a cs)
          → fault_from (suc (k + m)) i b a cs
          ≡ cond (eqb (fault_from (suc k) i b a cs).number 0) (fault_from m (suc i + k) b a cs) (fault_from (suc k) i b a cs)
      go true e later =
          let here = eqb-true (at i) 0 e in
          rw (fault_next (k + m) i here, fault_next k i here) later
      go false e later =
          let here = eqb-false (at i) 0 e in
          rw (fault_here (k + m) i here, fault_here k i here, e)

  pub in_first_part : (k m i : ℕ) → ((fault_from k i b a cs).number ≡ 0 → ⊥) → fault_from (k + m) i b a cs ≡ fault_from k i b a cs
  in_first_part k m i h = two_parts k m i ∙ rw (ne_eqb (fault_from k i b a cs).number 0 h)

  pub in_second_part : (k m i : ℕ) → (fault_from k i b a cs).number ≡ 0 → fault_from (k + m) i b a cs ≡ fault_from m (i + k) b a cs
  in_second_part k m i h = two_parts k m i ∙ rw (eq-eqb (fault_from k i b a cs).number 0 h)

  -- what is found is at a place, and no earlier place has a fault
  record Found (k i : ℕ) (f : Fault) : Type 0 where
    place : ℕ
    from : i ≤ place
    upto : place < i + k
    is : f ≡ found_at place
    some : at place ≡ 0 → ⊥
    none : (m : ℕ) → i ≤ m → m < place → at m ≡ 0

  -- or nothing is found, and no place has one
  record Nothing (k i : ℕ) (f : Fault) : Type 0 where
    is : f ≡ no_fault
    none : (m : ℕ) → i ≤ m → m < i + k → at m ≡ 0

  this_or_later : (i end : ℕ) → at i ≡ 0 → ((m : ℕ) → suc i ≤ m → m < end → at m ≡ 0) → (m : ℕ) → i ≤ m → m < end → Dec (suc i ≤ m) → at m ≡ 0
  this_or_later i end here later m l n (yes less) = later m less n
  this_or_later i end here later m l n (no same) =
      let is : i ≡ m = omega arith in subst (λ (k : ℕ). at k ≡ 0) is here

  scanned : (k i : ℕ) → Found k i (fault_from k i b a cs) ⊎ Nothing k i (fault_from k i b a cs)
  scanned zero i = inr (record { is = no_more zero i refl; none = λ m l n. absurd (omega (arith, l, n)) })
  scanned (suc k) i = go (eqb (at i) 0) refl (scanned k (suc i))
    where
      go : (t : Bool) → eqb (at i) 0 ≡ t → Found k (suc i) (fault_from k (suc i) b a cs) ⊎ Nothing k (suc i) (fault_from k (suc i) b a cs)
          → Found (suc k) i (fault_from (suc k) i b a cs) ⊎ Nothing (suc k) i (fault_from (suc k) i b a cs)
      go true e (inl f) =
          let here : at i ≡ 0 = eqb-true (at i) 0 e in
          inl
          (record {
            place = f.place;
            from = omega (arith, f.from);
            upto = omega (arith, f.upto);
            is = fault_next k i here ∙ f.is;
            some = f.some;
            none = λ m l n. this_or_later i f.place here f.none m l n (dec_le (suc i) m);
          })
      go true e (inr f) =
          let here : at i ≡ 0 = eqb-true (at i) 0 e in
          inr
          (record {
            is = fault_next k i here ∙ f.is;
            none = λ m l n. this_or_later i (i + suc k) here (λ m l n. f.none m l (omega arith)) m l n (dec_le (suc i) m);
          })
      go false e later =
          let here : (at i ≡ 0 → ⊥) = eqb-false (at i) 0 e in
          inl
          (record {
            place = i;
            from = omega arith;
            upto = omega arith;
            is = fault_here k i here;
            some = here;
            none = λ m l n. absurd (omega (arith, l, n));
          })

  -- so where no place has a fault none is found
  none_found : (k i : ℕ) → ((m : ℕ) → i ≤ m → m < i + k → at m ≡ 0) → fault_from k i b a cs ≡ no_fault
  none_found k i h = ⊎_elim (λ f. absurd (f.some (h f.place f.from f.upto))) (λ f. f.is) (scanned k i)

  -- a number that is not 0 is one that was found
  found : (k i : ℕ) → ((fault_from k i b a cs).number ≡ 0 → ⊥) → Found k i (fault_from k i b a cs)
  found k i h = ⊎_elim (λ f. f) (λ f. absurd (h (ap (λ (g : Fault). g.number) f.is))) (scanned k i)

  -- and where the number is 0 no place has a fault
  none_there : (k i : ℕ) → (fault_from k i b a cs).number ≡ 0 → (m : ℕ) → i ≤ m → m < i + k → at m ≡ 0
  none_there k i h =
      ⊎_elim (λ f. absurd (f.some (sym (ap (λ (g : Fault). g.number) f.is) ∙ h))) (λ f. f.none) (scanned k i)

  -- a place by its grid row and column
  pub at_place : (g j : ℕ) → j < columns b → at (g * columns b + j) ≡ fault_at b a cs g j
  at_place g j h = rw (digits_div g h, digits_mod g h)

-- and the grid row of a place is one of the board's
row_of_place : (b : Board) (m : ℕ) → m < 0 + arrays_long b → m / columns b < grid_rows b
row_of_place b m h = (div-lt_iff_lt-mul {y = grid_rows b} (columns_pos b)).1 (omega arith)

-- THE STATEMENTS

module _ (b : Board) (a : ℕ) (cs : List ℕ) (n : Fault) (f : Found b a cs (arrays_long b) 0 n) where
  abbrev grid_row : ℕ
  grid_row = f.place / columns b

  abbrev place_in_row : ℕ
  place_in_row = f.place % columns b

  -- no number fits at a place before it
  none_earlier : (g j m : ℕ) → j < columns b → g * columns b + j < f.place → fits_at b a cs g j m ≡ false
  none_earlier g j m l h =
      nothing_fits b a cs g j (sym (at_place b a cs g j l) ∙ f.none (g * columns b + j) (omega arith) h) m

  place_is : grid_row * columns b + place_in_row ≡ f.place
  place_is = div-add-mod' f.place (columns b)

  first_here : FirstFault b a cs (record { number = fault_at b a cs grid_row place_in_row; grid_row = grid_row; column = place_in_row })
  unfolding fits_at fits fault_at column_fault
  first_here =
      let fit_first = first_fits _ _ _ f.some in
      let inside : place_in_row < columns b = mod-lt f.place (columns_pos b) in
      record {
        grid_row_in = row_of_place b f.place f.upto;
        column_in = inside;
        one_of_three = fit_first.one_of_three;
        number_fits = fit_first.number_fits;
        none_smaller = fit_first.none_smaller;
        none_before = λ j m h. none_earlier grid_row j m (omega arith) (omega (arith, place_is));
        none_above = λ g j m h l. none_earlier g j m l (omega (arith, place_is, digits_lt h l));
      }

pub place_is_first : PlaceIsFirst
unfolding PlaceIsFirst arrays_fault
place_is_first b a cs some =
    let f = found b a cs (arrays_long b) 0 some in
    subst⁻¹ (λ (n : Fault). FirstFault b a cs n) f.is (first_here b a cs (arrays_fault b a cs) f)

-- good arrays have no fault, and arrays without one are good
good_no_fault : (b : Board) (a : ℕ) (cs : List ℕ) → length cs ≡ arrays_long b → arrays_good (grid_rows b) 0 b a cs ≡ true
    → arrays_fault b a cs ≡ no_fault
unfolding arrays_fault
good_no_fault b a cs long good =
    none_found b a cs (arrays_long b) 0
    (λ m l h.
    fine_at b a cs long (arrays_in b a cs long good) (m / columns b) (m % columns b) (row_of_place b m h) (mod-lt m (columns_pos b)))

pub no_fault_good : (b : Board) (a : ℕ) (cs : List ℕ) → length cs ≡ arrays_long b → (arrays_fault b a cs).number ≡ 0
    → arrays_good (grid_rows b) 0 b a cs ≡ true
unfolding arrays_fault
no_fault_good b a cs long none =
    arrays_accepted b a cs
    (fine_in b a cs long
    (λ g j l m.
    sym (at_place b a cs g j m) ∙ none_there b a cs (arrays_long b) 0 none (g * columns b + j) (omega arith) (omega (arith, digits_lt l m))))

pub fault_where_bad : FaultWhereBad
unfolding FaultWhereBad
fault_where_bad b a cs long = go (arrays_good (grid_rows b) 0 b a cs) refl
  where
    go : (t : Bool) → arrays_good (grid_rows b) 0 b a cs ≡ t → eqb (arrays_fault b a cs).number 0 ≡ t
    go true e = rw (good_no_fault b a cs long e)
    go false e = ne_eqb (arrays_fault b a cs).number 0 (λ z. false≢true (sym e ∙ no_fault_good b a cs long z))
