-- What an accepted board and a good dealing are, by index: document 03's tests turned into facts and back. `BoardIn b` holds exactly
-- where the board's refusal is 0, `Facts b d` exactly where `dealing_good b d` is true. With them the few facts on rows, cells and
-- columns of a board that every later argument uses. Each for all players, positions and widths at once. Assumes nothing.
use mathlib.Core.Path.{◌≡◌, refl, sym, ap, ◌∙◌, subst}
use mathlib.Core.Bool.{Bool, true, false, ◌&&◌, ◌||◌, not, cond, false≢true}
use mathlib.Core.List.{List, [], ◌∷◌}
use Prim.Native.Nat.{ℕ, zero, suc, ◌+◌, ◌*◌, ◌-◌, ◌/◌, ◌%◌, ◌^◌, ◌≤◌, ◌<◌}
use native.Mathlib.Omega.{arith}
use native.Mathlib.Nat.{mod-lt, div-add-mod', div-lt_iff_lt-mul, lt-div-mul-add, mul-le-mul_right}
use lib.Arith.{digits_lt}
use lib.Dec.{ltb, leb, eqb}
use lib.ListN.{length, get_or, take, drop, length-drop}
use lib.Pow.{pow_pos, pow_mono}
use lib.Seq.{length-take-le, get_or-take, get_or-drop, drop-drop}
use borrow.Author.Tests.{ltb-true, ltb-false, leb-true, eqb-true, eqb-false, not-true, lt-ltb, le-ltb, le-leb, eq-eqb, ne_eqb}
use Rattle.xor.specs.Xor.{bytes_good}
use Rattle.xor.proofs.Laws.{Word, and_left, and_right, and_both}
use Rattle.grid.specs.Grid.{Board, columns, grid_rows, row_long, board_refusal, Dealing, column, row_of, is_odd, same_parity, member, array_good, arrays_good, each_long, dealing_good}
use Rattle.grid.proofs.Columns.{parity_is, parity_fits}

-- BOARDS

-- document 01's ranges: what refusals 1 to 5 leave
pub record BoardIn (b : Board) : Type 0 where
  pub players_least : 2 ≤ b.p
  pub players_most : b.p ≤ 6
  pub positions_least : 1 ≤ b.n
  pub positions_most : b.n ≤ 65536
  pub wide_least : 1 ≤ b.wide
  pub wide_most : b.wide ≤ 256
  pub value_least : 1 ≤ b.w
  pub value_most : b.w ≤ 16
  pub rows_most : grid_rows b ≤ 256

-- a test passed in a chain of refusals, and the rest of the chain
passed : (test : Bool) (number rest : ℕ) → 0 < number → cond (not test) number rest ≡ 0 → (test ≡ true) × (rest ≡ 0)
passed true n r pos h = (refl, h)
passed false n r pos h = let none : ⊥ = omega arith in absurd none

pass : (test : Bool) (number rest : ℕ) → test ≡ true → rest ≡ 0 → cond (not test) number rest ≡ 0
pass true n r t h = h
pass false n r t h = absurd (false≢true t)

untripped : (test : Bool) (number : ℕ) → 0 < number → cond test number 0 ≡ 0 → test ≡ false
untripped true n pos h = let none : ⊥ = omega arith in absurd none
untripped false n pos h = refl

-- a range as a test
range : (low high x : ℕ) → (leb low x && leb x high) ≡ true → (low ≤ x) × (x ≤ high)
range low high x h =
    (leb-true low x (and_left (leb low x) (leb x high) h), leb-true x high (and_right (leb low x) (leb x high) h))

in_range : (low high x : ℕ) → low ≤ x → x ≤ high → (leb low x && leb x high) ≡ true
in_range low high x h k = and_both (leb low x) (leb x high) (le-leb low x h) (le-leb x high k)

pub board_in : (b : Board) → board_refusal b ≡ 0 → BoardIn b
unfolding board_refusal
board_in b h =
    let p = passed (leb 2 b.p && leb b.p 6) 1 _ (omega arith) h in
    let n = passed (leb 1 b.n && leb b.n 65536) 2 _ (omega arith) p.1 in
    let m = passed (leb 1 b.wide && leb b.wide 256) 3 _ (omega arith) n.1 in
    let w = passed (leb 1 b.w && leb b.w 16) 4 _ (omega arith) m.1 in
    let players = range 2 6 b.p p.0 in
    let positions = range 1 65536 b.n n.0 in
    let wides = range 1 256 b.wide m.0 in
    let values = range 1 16 b.w w.0 in
    record {
      players_least = players.0;
      players_most = players.1;
      positions_least = positions.0;
      positions_most = positions.1;
      wide_least = wides.0;
      wide_most = wides.1;
      value_least = values.0;
      value_most = values.1;
      rows_most = ltb-false 256 (grid_rows b) (untripped (ltb 256 (grid_rows b)) 5 (omega arith) w.1);
    }

pub board_accepted : (b : Board) → BoardIn b → board_refusal b ≡ 0
unfolding board_refusal
board_accepted b f =
    pass (leb 2 b.p && leb b.p 6) 1 _ (in_range 2 6 b.p f.players_least f.players_most)
    (pass (leb 1 b.n && leb b.n 65536) 2 _ (in_range 1 65536 b.n f.positions_least f.positions_most)
    (pass (leb 1 b.wide && leb b.wide 256) 3 _ (in_range 1 256 b.wide f.wide_least f.wide_most)
    (pass (leb 1 b.w && leb b.w 16) 4 _ (in_range 1 16 b.w f.value_least f.value_most)
    (rw (le-ltb 256 (grid_rows b) f.rows_most)))))

pub columns_pos : (b : Board) → 0 < columns b
unfolding columns
columns_pos b = pow_pos (b.p - 1)

-- twice as many columns have p bits as stand in an array
pub columns_twice : (b : Board) → BoardIn b → 2 ^ b.p ≡ 2 * columns b
unfolding columns
columns_twice b f =
    let e : suc (b.p - 1) ≡ b.p = omega arith in
    subst (λ (k : ℕ). 2 ^ k ≡ 2 * 2 ^ (b.p - 1)) e (omega arith)

-- a player marks half of an array's columns, 2 ^ (p - 2) of them
pub columns_half : (b : Board) → BoardIn b → columns b ≡ 2 * 2 ^ (b.p - 2)
unfolding columns
columns_half b f =
    let e : suc (b.p - 2) ≡ b.p - 1 = omega arith in
    subst (λ (k : ℕ). 2 ^ k ≡ 2 * 2 ^ (b.p - 2)) e (omega arith)

-- a column has at most six bits
pub column_most : (b : Board) → BoardIn b → 2 ^ b.p ≤ 64
column_most b f = pow_mono f.players_most

pub columns_most : (b : Board) → BoardIn b → columns b ≤ 32
columns_most b f = omega (arith, columns_twice b f, column_most b f)

-- each position has a grid row and a cell
pub grid_row_in : (b : Board) → BoardIn b → (a : ℕ) → a < b.n → a / b.wide < grid_rows b
unfolding grid_rows
grid_row_in b f a h =
    (div-lt_iff_lt-mul f.wide_least).1 (omega (arith, lt-div-mul-add {a = b.n + b.wide - 1} f.wide_least))

pub grid_rows_pos : (b : Board) → BoardIn b → 0 < grid_rows b
grid_rows_pos b f = omega (arith, grid_row_in b f 0 f.positions_least)

pub cell_in : (b : Board) → BoardIn b → (a : ℕ) → a % b.wide < b.wide
cell_in b f a = mod-lt a f.wide_least

pub cell_fits : (b : Board) (c : ℕ) → c < b.wide → suc c * b.w ≤ row_long b
unfolding row_long
cell_fits b c h = mul-le-mul_right b.w h

-- grid row and cell fix the position
pub same_place : (b : Board) (a c : ℕ) → a / b.wide ≡ c / b.wide → a % b.wide ≡ c % b.wide → a ≡ c
same_place b a c p q =
    sym (div-add-mod' a b.wide) ∙ rw (p, q) (div-add-mod' c b.wide)

-- ARRAYS

or_left : (s t : Bool) → (s || t) ≡ false → s ≡ false
or_left true t h = h
or_left false t h = refl

or_right : (s t : Bool) → (s || t) ≡ false → t ≡ false
or_right true t h = absurd (false≢true (sym h))
or_right false t h = h

neither : (s t : Bool) → s ≡ false → t ≡ false → (s || t) ≡ false
neither true t p q = p
neither false t p q = q

-- a number that a list has not
pub absent : (v : ℕ) (xs : List ℕ) → member v xs ≡ false → (j : ℕ) → j < length xs → get_or xs j 0 ≡ v → ⊥
unfolding member
absent v [] h j k e = omega arith
absent v (x ∷ xs) h zero k e = eqb-false x v (or_left (eqb x v) (member v xs) h) e
absent v (x ∷ xs) h (suc j) k e = absent v xs (or_right (eqb x v) (member v xs) h) j (omega arith) e

pub not_member : (v : ℕ) (xs : List ℕ) → ((j : ℕ) → j < length xs → get_or xs j 0 ≡ v → ⊥) → member v xs ≡ false
unfolding member
not_member v [] h = refl
not_member v (x ∷ xs) h =
    neither (eqb x v) (member v xs) (ne_eqb x v (h 0 (omega arith))) (not_member v xs (λ j k. h (suc j) (omega arith)))

-- one array: columns of p bits, of one parity, each once
pub record ArrayIn (b : Board) (odd : Bool) (cs : List ℕ) : Type 0 where
  pub below : (j : ℕ) → j < length cs → get_or cs j 0 < 2 ^ b.p
  pub parity : (j : ℕ) → j < length cs → is_odd (get_or cs j 0) ≡ odd
  pub once : (j k : ℕ) → j < length cs → k < length cs → get_or cs j 0 ≡ get_or cs k 0 → j ≡ k

-- a column that is new stands before an array
pub array_cons : (b : Board) (o : Bool) (c : ℕ) (cs : List ℕ) → c < 2 ^ b.p → is_odd c ≡ o → ((j : ℕ) → j < length cs → get_or cs j 0 ≡ c → ⊥)
    → ArrayIn b o cs → ArrayIn b o (c ∷ cs)
array_cons b o c cs low fits new t = record { below = below_of; parity = parity_of; once = once_of }
  where
    below_of : (j : ℕ) → j < length (c ∷ cs) → get_or (c ∷ cs) j 0 < 2 ^ b.p
    below_of zero h = low
    below_of (suc j) h = t.below j (omega arith)

    parity_of : (j : ℕ) → j < length (c ∷ cs) → is_odd (get_or (c ∷ cs) j 0) ≡ o
    parity_of zero h = fits
    parity_of (suc j) h = t.parity j (omega arith)

    once_of : (j k : ℕ) → j < length (c ∷ cs) → k < length (c ∷ cs) → get_or (c ∷ cs) j 0 ≡ get_or (c ∷ cs) k 0 → j ≡ k
    once_of zero zero h l e = refl
    once_of zero (suc k) h l e = absurd (new k (omega arith) (sym e))
    once_of (suc j) zero h l e = absurd (new j (omega arith) e)
    once_of (suc j) (suc k) h l e = ap suc (t.once j k (omega arith) (omega arith) e)

pub array_in : (b : Board) (o : Bool) (cs : List ℕ) → array_good b o cs ≡ true → ArrayIn b o cs
unfolding array_good
array_in b o [] h =
    record { below = λ j k. omega arith; parity = λ j k. let none : ⊥ = omega arith in absurd none; once = λ j l k. omega arith }
array_in b o (c ∷ cs) h =
    let low = ltb c (2 ^ b.p) in
    let fits = same_parity (is_odd c) o in
    let fresh = not (member c cs) in
    let head = and_left (low && fits) (fresh && array_good b o cs) h in
    let tail = and_right (low && fits) (fresh && array_good b o cs) h in
    array_cons b o c cs (ltb-true c (2 ^ b.p) (and_left low fits head)) (parity_is (is_odd c) o (and_right low fits head))
    (absent c cs (not-true (member c cs) (and_left fresh (array_good b o cs) tail)))
    (array_in b o cs (and_right fresh (array_good b o cs) tail))

-- and an array without its first column is one, in which that column does not stand
array_tail : (b : Board) (o : Bool) (c : ℕ) (cs : List ℕ) → ArrayIn b o (c ∷ cs) → ArrayIn b o cs
array_tail b o c cs t = record { below = λ j h. t.below (suc j) (omega arith); parity = λ j h. t.parity (suc j) (omega arith); once = once_of }
  where
    once_of : (j k : ℕ) → j < length cs → k < length cs → get_or cs j 0 ≡ get_or cs k 0 → j ≡ k
    once_of j k h l e = omega (arith, t.once (suc j) (suc k) (omega arith) (omega arith) e)

array_new : (b : Board) (o : Bool) (c : ℕ) (cs : List ℕ) → ArrayIn b o (c ∷ cs) → member c cs ≡ false
array_new b o c cs t =
    not_member c cs (λ j h e. let same : suc j ≡ 0 = t.once (suc j) 0 (omega arith) (omega arith) e in omega arith)

pub array_accepted : (b : Board) (o : Bool) (cs : List ℕ) → ArrayIn b o cs → array_good b o cs ≡ true
unfolding array_good
array_accepted b o [] t = refl
array_accepted b o (c ∷ cs) t =
    and_both (ltb c (2 ^ b.p) && same_parity (is_odd c) o) (not (member c cs) && array_good b o cs)
    (and_both (ltb c (2 ^ b.p)) (same_parity (is_odd c) o) (lt-ltb c (2 ^ b.p) (t.below 0 (omega arith)))
    (parity_fits (is_odd c) o (t.parity 0 (omega arith))))
    (and_both (not (member c cs)) (array_good b o cs) (rw (array_new b o c cs t)) (array_accepted b o cs (array_tail b o c cs t)))

-- the array of grid row g, as a part of all arrays
unfoldable pub array_of : Board → List ℕ → (g : ℕ) → List ℕ
array_of b cs g = take (columns b) (drop (g * columns b) cs)

pub array_at : (b : Board) (cs : List ℕ) (g j : ℕ) → j < columns b → get_or (array_of b cs g) j 0 ≡ column b cs g j
unfolding array_of column
array_at b cs g j h = rw (get_or-take, get_or-drop)

pub array_long : (b : Board) (cs : List ℕ) → length cs ≡ grid_rows b * columns b → (g : ℕ) → g < grid_rows b → length (array_of b cs g) ≡ columns b
unfolding array_of
array_long b cs e g h =
    length-take-le (columns b) (drop (g * columns b) cs) (rw length-drop (omega (arith, mul-le-mul_right (columns b) h)))

next_array : (b : Board) (cs : List ℕ) (g : ℕ) → array_of b (drop (columns b) cs) g ≡ array_of b cs (suc g)
unfolding array_of
next_array b cs g =
    let e : columns b + g * columns b ≡ suc g * columns b = omega arith in
    rw drop-drop (rw e)

first_array : (b : Board) (cs : List ℕ) → take (columns b) cs ≡ array_of b cs 0
unfolding array_of
first_array b cs = let e : 0 * columns b ≡ 0 = omega arith in rw e

pub arrays_split : (k g : ℕ) (b : Board) (a : ℕ) (cs : List ℕ) → arrays_good k g b a cs ≡ true → (i : ℕ) → i < k
    → array_good b (eqb (g + i) (a / b.wide)) (array_of b cs i) ≡ true
unfolding arrays_good
arrays_split zero g b a cs h i l = let none : ⊥ = omega arith in absurd none
arrays_split (suc k) g b a cs h zero l =
    let e : g + 0 ≡ g = omega arith in
    rw (e, ← (first_array b cs))
    (and_left (array_good b (eqb g (a / b.wide)) (take (columns b) cs)) (arrays_good k (suc g) b a (drop (columns b) cs)) h)
arrays_split (suc k) g b a cs h (suc i) l =
    let e : g + suc i ≡ suc g + i = omega arith in
    rw (e, ← (next_array b cs i))
    (arrays_split k (suc g) b a (drop (columns b) cs)
    (and_right (array_good b (eqb g (a / b.wide)) (take (columns b) cs)) (arrays_good k (suc g) b a (drop (columns b) cs)) h) i (omega arith))

arrays_joined : (k g : ℕ) (b : Board) (a : ℕ) (cs : List ℕ)
    → ((i : ℕ) → i < k → array_good b (eqb (g + i) (a / b.wide)) (array_of b cs i) ≡ true) → arrays_good k g b a cs ≡ true
unfolding arrays_good
arrays_joined zero g b a cs h = refl
arrays_joined (suc k) g b a cs h =
    and_both (array_good b (eqb g (a / b.wide)) (take (columns b) cs)) (arrays_good k (suc g) b a (drop (columns b) cs))
    (let e : g + 0 ≡ g = omega arith in rw (first_array b cs) (rw e at (h 0 (omega arith))))
    (arrays_joined k (suc g) b a (drop (columns b) cs)
    (λ i l. let e : g + suc i ≡ suc g + i = omega arith in rw (next_array b cs i) (rw e at (h (suc i) (omega arith)))))

-- all arrays by grid row and column: odd in one grid row, even in the others
pub record ArraysIn (b : Board) (odd_row : ℕ) (cs : List ℕ) : Type 0 where
  pub long : length cs ≡ grid_rows b * columns b
  pub below : (g j : ℕ) → g < grid_rows b → j < columns b → column b cs g j < 2 ^ b.p
  pub parity : (g j : ℕ) → g < grid_rows b → j < columns b → is_odd (column b cs g j) ≡ eqb g odd_row
  pub once : (g j k : ℕ) → g < grid_rows b → j < columns b → k < columns b → column b cs g j ≡ column b cs g k → j ≡ k

pub arrays_in : (b : Board) (a : ℕ) (cs : List ℕ) → length cs ≡ grid_rows b * columns b → arrays_good (grid_rows b) 0 b a cs ≡ true → ArraysIn b (a / b.wide) cs
arrays_in b a cs e h = record { long = e; below = below_of; parity = parity_of; once = once_of }
  where
    one : (g : ℕ) → g < grid_rows b → ArrayIn b (eqb (0 + g) (a / b.wide)) (array_of b cs g)
    one g l = array_in b (eqb (0 + g) (a / b.wide)) (array_of b cs g) (arrays_split (grid_rows b) 0 b a cs h g l)

    inside : (g j : ℕ) → g < grid_rows b → j < columns b → j < length (array_of b cs g)
    inside g j l m = rw (array_long b cs e g l) m

    below_of : (g j : ℕ) → g < grid_rows b → j < columns b → column b cs g j < 2 ^ b.p
    below_of g j l m = rw (← (array_at b cs g j m)) ((one g l).below j (inside g j l m))

    parity_of : (g j : ℕ) → g < grid_rows b → j < columns b → is_odd (column b cs g j) ≡ eqb g (a / b.wide)
    parity_of g j l m =
        let z : 0 + g ≡ g = omega arith in
        rw (← (array_at b cs g j m)) (rw z at ((one g l).parity j (inside g j l m)))

    once_of : (g j k : ℕ) → g < grid_rows b → j < columns b → k < columns b → column b cs g j ≡ column b cs g k → j ≡ k
    once_of g j k l m n q =
        (one g l).once j k (inside g j l m) (inside g k l n) (array_at b cs g j m ∙ q ∙ sym (array_at b cs g k n))

pub arrays_accepted : (b : Board) (a : ℕ) (cs : List ℕ) → ArraysIn b (a / b.wide) cs → arrays_good (grid_rows b) 0 b a cs ≡ true
arrays_accepted b a cs t = arrays_joined (grid_rows b) 0 b a cs one
  where
    inside : (g j : ℕ) → g < grid_rows b → j < length (array_of b cs g) → j < columns b
    inside g j l m = rw (array_long b cs t.long g l) at m

    one : (g : ℕ) → g < grid_rows b → array_good b (eqb (0 + g) (a / b.wide)) (array_of b cs g) ≡ true
    one g l =
        let z : 0 + g ≡ g = omega arith in
        rw z
        (array_accepted b (eqb g (a / b.wide)) (array_of b cs g)
        (record {
          below = λ j m. rw (array_at b cs g j (inside g j l m)) (t.below g j l (inside g j l m));
          parity = λ j m. rw (array_at b cs g j (inside g j l m)) (t.parity g j l (inside g j l m));
          once = λ j k m n q. t.once g j k l (inside g j l m) (inside g k l n)
              (sym (array_at b cs g j (inside g j l m)) ∙ q ∙ array_at b cs g k (inside g k l n));
        }))

-- ROWS AND WORDS

pub each_word : (n : ℕ) (xs : List (List ℕ)) → each_long n xs ≡ true → (i : ℕ) → i < length xs → Word n (get_or xs i [])
unfolding each_long
each_word n [] h i l = let none : ⊥ = omega arith in absurd none
each_word n (x ∷ xs) h zero l =
    let head = and_left (eqb (length x) n && bytes_good x) (each_long n xs) h in
    record {
      long = eqb-true (length x) n (and_left (eqb (length x) n) (bytes_good x) head);
      good = and_right (eqb (length x) n) (bytes_good x) head;
    }
each_word n (x ∷ xs) h (suc i) l =
    each_word n xs (and_right (eqb (length x) n && bytes_good x) (each_long n xs) h) i (omega arith)

pub words_long : (n : ℕ) (xs : List (List ℕ)) → ((i : ℕ) → i < length xs → Word n (get_or xs i [])) → each_long n xs ≡ true
unfolding each_long
words_long n [] h = refl
words_long n (x ∷ xs) h =
    let head : Word n x = h 0 (omega arith) in
    and_both (eqb (length x) n && bytes_good x) (each_long n xs)
    (and_both (eqb (length x) n) (bytes_good x) (eq-eqb (length x) n head.long) head.good)
    (words_long n xs (λ i l. h (suc i) (omega arith)))

-- freely drawn rows, by grid row and column
pub record RowsIn (b : Board) (rs : List (List ℕ)) : Type 0 where
  pub long : length rs ≡ grid_rows b * columns b
  pub each : (g j : ℕ) → g < grid_rows b → j < columns b → Word (row_long b) (row_of b rs g j)

pub rows_in : (b : Board) (rs : List (List ℕ)) → length rs ≡ grid_rows b * columns b → each_long (row_long b) rs ≡ true → RowsIn b rs
unfolding row_of
rows_in b rs e h =
    record { long = e; each = λ g j l m. each_word (row_long b) rs h (g * columns b + j) (rw e (digits_lt l m)) }

pub rows_accepted : (b : Board) (rs : List (List ℕ)) → RowsIn b rs → each_long (row_long b) rs ≡ true
unfolding row_of
rows_accepted b rs t =
    words_long (row_long b) rs
    (λ i l.
    rw (div-add-mod' i (columns b)) at
    (t.each (i / columns b) (i % columns b) ((div-lt_iff_lt-mul (columns_pos b)).1 (rw t.long at l)) (mod-lt i (columns_pos b))))

-- the lent words, one fewer than there are columns
pub record WordsIn (b : Board) (ws : List (List ℕ)) : Type 0 where
  pub long : length ws ≡ columns b - 1
  pub each : (j : ℕ) → j < columns b - 1 → Word (row_long b) (get_or ws j [])

pub words_in : (b : Board) (ws : List (List ℕ)) → length ws ≡ columns b - 1 → each_long (row_long b) ws ≡ true → WordsIn b ws
words_in b ws e h = record { long = e; each = λ j l. each_word (row_long b) ws h j (rw e l) }

pub words_accepted : (b : Board) (ws : List (List ℕ)) → WordsIn b ws → each_long (row_long b) ws ≡ true
words_accepted b ws t = words_long (row_long b) ws (λ i l. t.each i (rw t.long at l))

-- DEALINGS

pub record Facts (b : Board) (d : Dealing) : Type 0 where
  pub board : BoardIn b
  pub point_in : d.point < b.n
  pub value : Word b.w d.value
  pub arrays : ArraysIn b (d.point / b.wide) d.arrays
  pub rows : RowsIn b d.rows
  pub words : WordsIn b d.words

-- a length and a test, as they stand side by side in the dealing's test
sized : (size asked : ℕ) (test : Bool) → (eqb size asked && test) ≡ true → (size ≡ asked) × (test ≡ true)
sized k n t h = (eqb-true k n (and_left (eqb k n) t h), and_right (eqb k n) t h)

sized_test : (size asked : ℕ) (test : Bool) → size ≡ asked → test ≡ true → (eqb size asked && test) ≡ true
sized_test k n t e h = and_both (eqb k n) t (eq-eqb k n e) h

-- four tests in the grouping of the dealing's test
four : (s t u v : Bool) → (s && (t && (u && v))) ≡ true → (s ≡ true) × (t ≡ true) × (u ≡ true) × (v ≡ true)
four s t u v h =
    let tuv = and_right s (t && (u && v)) h in
    let uv = and_right t (u && v) tuv in
    (and_left s (t && (u && v)) h, and_left t (u && v) tuv, and_left u v uv, and_right u v uv)

pub facts : (b : Board) (d : Dealing) → dealing_good b d ≡ true → Facts b d
unfolding dealing_good
facts b d h =
    let place = eqb (board_refusal b) 0 && ltb d.point b.n in
    let valued = eqb (length d.value) b.w && bytes_good d.value in
    let arrayed = eqb (length d.arrays) (grid_rows b * columns b) && arrays_good (grid_rows b) 0 b d.point d.arrays in
    let rowed = eqb (length d.rows) (grid_rows b * columns b) && each_long (row_long b) d.rows in
    let worded = eqb (length d.words) (columns b - 1) && each_long (row_long b) d.words in
    let tests = four (place && valued) arrayed rowed worded h in
    let at = sized (board_refusal b) 0 (ltb d.point b.n) (and_left place valued tests.0) in
    let value = sized (length d.value) b.w (bytes_good d.value) (and_right place valued tests.0) in
    let arrays = sized (length d.arrays) (grid_rows b * columns b) (arrays_good (grid_rows b) 0 b d.point d.arrays) tests.1 in
    let rows = sized (length d.rows) (grid_rows b * columns b) (each_long (row_long b) d.rows) tests.2 in
    let words = sized (length d.words) (columns b - 1) (each_long (row_long b) d.words) tests.3 in
    record {
      board = board_in b at.0;
      point_in = ltb-true d.point b.n at.1;
      value = record { long = value.0; good = value.1 };
      arrays = arrays_in b d.point d.arrays arrays.0 arrays.1;
      rows = rows_in b d.rows rows.0 rows.1;
      words = words_in b d.words words.0 words.1;
    }

pub dealing_accepted : (b : Board) (d : Dealing) → Facts b d → dealing_good b d ≡ true
unfolding dealing_good
dealing_accepted b d f =
    let place = eqb (board_refusal b) 0 && ltb d.point b.n in
    let valued = eqb (length d.value) b.w && bytes_good d.value in
    let arrayed = eqb (length d.arrays) (grid_rows b * columns b) && arrays_good (grid_rows b) 0 b d.point d.arrays in
    let rowed = eqb (length d.rows) (grid_rows b * columns b) && each_long (row_long b) d.rows in
    let worded = eqb (length d.words) (columns b - 1) && each_long (row_long b) d.words in
    and_both (place && valued) (arrayed && (rowed && worded))
    (and_both place valued
    (sized_test (board_refusal b) 0 (ltb d.point b.n) (board_accepted b f.board) (lt-ltb d.point b.n f.point_in))
    (sized_test (length d.value) b.w (bytes_good d.value) f.value.long f.value.good))
    (and_both arrayed (rowed && worded)
    (sized_test (length d.arrays) (grid_rows b * columns b) (arrays_good (grid_rows b) 0 b d.point d.arrays) f.arrays.long
    (arrays_accepted b d.point d.arrays f.arrays))
    (and_both rowed worded
    (sized_test (length d.rows) (grid_rows b * columns b) (each_long (row_long b) d.rows) f.rows.long (rows_accepted b d.rows f.rows))
    (sized_test (length d.words) (columns b - 1) (each_long (row_long b) d.words) f.words.long (words_accepted b d.words f.words))))
