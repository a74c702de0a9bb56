-- Marks packed into bytes: what is packed is read back, mark by mark, and what is read is packed into the same bytes again when the
-- spare bits are zero. Assumes nothing.
use mathlib.Core.Path.{◌≡◌, refl, sym, ap, ◌∙◌}
use mathlib.Core.Bool.{Bool, true, false, not, cond}
use mathlib.Core.List.{List, [], ◌∷◌, ◌++◌}
use Prim.Native.Nat.{ℕ, zero, suc, ◌+◌, ◌*◌, ◌-◌, ◌/◌, ◌%◌, ◌^◌, ◌≤◌, ◌<◌}
use native.Mathlib.Omega.{arith}
use lib.Dec.{ltb, eqb}
use lib.ListN.{length, get_or, take, drop, get_or-eq_default}
use lib.Pow.{shr-shr}
use lib.Seq.{drop-cons, get_or-drop, drop-drop, take_all}
use borrow.Author.Tests.{ltb-true, ltb-false, eqb-true, eqb-false, eq-eqb, ne_eqb, not-true}
use Rattle.xor.specs.Xor.{bytes_good}
use Rattle.xor.proofs.Laws.{and_left, and_right, good_head, good_tail, good_cons}
use Rattle.grid.specs.Grid.{bit, marks_of}
use Rattle.keys.specs.Keys.{packed_from, packed, count_marks, spare_from, marks_in, byte_of, packed_marks}

-- ONE BYTE of marks

pub bit_lowest : (v : ℕ) → bit v 0 ≡ eqb (v % 2) 1
unfolding bit
bit_lowest v =
    let same : v / 2 ^ 0 ≡ v = omega arith in
    rw same

pub bit_above : (v j : ℕ) → bit v (suc j) ≡ bit (v / 2) j
unfolding bit
bit_above v j =
    let power : suc j ≡ 1 + j = omega arith in
    rw (power, ← shr-shr v 1 j)

pub bit_nothing : (j : ℕ) → bit 0 j ≡ false
unfolding bit
bit_nothing zero = refl
bit_nothing (suc j) = bit_above 0 j ∙ bit_nothing j

mark_higher : (m : Bool) (k : ℕ) → cond m (2 ^ suc k) 0 ≡ 2 * cond m (2 ^ k) 0
mark_higher true k = let twice : 2 ^ suc k ≡ 2 * 2 ^ k = omega arith in twice
mark_higher false k = refl

-- places one higher count twice as much
byte_higher : (l k : ℕ) (ms : List Bool) → byte_of l (suc k) ms ≡ 2 * byte_of l k ms
unfolding byte_of
byte_higher zero k ms = refl
byte_higher (suc l) k [] = refl
byte_higher (suc l) k (m ∷ ms) = omega (arith, byte_higher l (suc k) ms, mark_higher m k)

byte_split : (l : ℕ) (ms : List Bool) → byte_of (suc l) 0 ms ≡ cond (get_or ms 0 false) 1 0 + 2 * byte_of l 0 (drop 1 ms)
unfolding byte_of
byte_split zero [] = refl
byte_split (suc l) [] = refl
byte_split l (m ∷ ms) = omega (arith, byte_higher l 0 ms)

mark_of : (m : Bool) (r : ℕ) → bit (cond m 1 0 + 2 * r) 0 ≡ m
mark_of true r = bit_lowest (1 + 2 * r) ∙ eq-eqb ((1 + 2 * r) % 2) 1 (omega arith)
mark_of false r = bit_lowest (0 + 2 * r) ∙ ne_eqb ((0 + 2 * r) % 2) 1 (omega arith)

marks_above : (m : Bool) (r : ℕ) → (cond m 1 0 + 2 * r) / 2 ≡ r
marks_above true r = omega arith
marks_above false r = omega arith

-- the j-th bit of the byte is the j-th mark
pub bit_byte : (l j : ℕ) (ms : List Bool) → j < l → bit (byte_of l 0 ms) j ≡ get_or ms j false
bit_byte zero j ms h = let none : ⊥ = omega arith in absurd none
bit_byte (suc l) zero ms h = rw (byte_split l ms) (mark_of (get_or ms 0 false) (byte_of l 0 (drop 1 ms)))
bit_byte (suc l) (suc j) ms h =
    let rest = byte_of l 0 (drop 1 ms) in
    rw (byte_split l ms, bit_above (cond (get_or ms 0 false) 1 0 + 2 * rest) j, marks_above (get_or ms 0 false) rest)
    (bit_byte l j (drop 1 ms) (omega arith) ∙ get_or-drop 1 ms j false ∙ ap (λ (n : ℕ). get_or ms n false) (omega arith))

lowest_back : (v : ℕ) → cond (bit v 0) 1 0 ≡ v % 2
lowest_back v = rw (bit_lowest v) (go (eqb (v % 2) 1) refl)
  where
    go : (t : Bool) → eqb (v % 2) 1 ≡ t → cond t 1 0 ≡ v % 2
    go true e = sym (eqb-true (v % 2) 1 e)
    go false e = let odd = eqb-false (v % 2) 1 e in omega arith

-- marks that are a byte's bits make that byte
pub byte_back : (l v : ℕ) (ms : List Bool) → v < 2 ^ l → ((j : ℕ) → j < l → get_or ms j false ≡ bit v j) → byte_of l 0 ms ≡ v
unfolding byte_of
byte_back zero v ms h e = omega arith
byte_back (suc l) v ms h e =
    let lowest : cond (get_or ms 0 false) 1 0 ≡ v % 2 = rw (e 0 (omega arith)) (lowest_back v) in
    let above : byte_of l 0 (drop 1 ms) ≡ v / 2 =
    byte_back l (v / 2) (drop 1 ms) (omega arith)
    (λ j k. get_or-drop 1 ms j false ∙ ap (λ (n : ℕ). get_or ms n false) (omega arith) ∙ e (suc j) (omega arith) ∙ bit_above v j) in
    byte_split l ms ∙ omega arith

-- THE MARK BYTES of a grid row

get_or-packed : (l q : ℕ) (ms : List Bool) (rest : List ℕ) → q < l → get_or (packed_marks l ms ++ rest) q 0 ≡ byte_of 8 0 (drop (8 * q) ms)
unfolding packed_marks
get_or-packed zero q ms rest h = let none : ⊥ = omega arith in absurd none
get_or-packed (suc l) zero ms rest h = refl
get_or-packed (suc l) (suc q) ms rest h =
    let next : 8 * suc q ≡ 8 + 8 * q = omega arith in
    rw (next, ← drop-drop (8 * q) 8 ms) (get_or-packed l q (drop 8 ms) rest (omega arith))

-- the mark of column j, as it is read from packed marks with anything behind them; past the last mark there is none
pub mark_read : (l j : ℕ) (ms : List Bool) (rest : List ℕ) → j < 8 * l → bit (get_or (packed_marks l ms ++ rest) (j / 8) 0) (j % 8) ≡ get_or ms j false
mark_read l j ms rest h =
    let whole : 8 * (j / 8) + j % 8 ≡ j = omega arith in
    rw (get_or-packed l (j / 8) ms rest (omega arith))
    (bit_byte 8 (j % 8) (drop (8 * (j / 8)) ms) (omega arith) ∙ get_or-drop (8 * (j / 8)) ms (j % 8) false ∙ ap (λ (n : ℕ). get_or ms n false) whole)

-- marks that are read one by one
pub marks_read : (k j : ℕ) (ps : List ℕ) (ms : List Bool) → j + k ≤ length ms →
    ((m : ℕ) → j ≤ m → m < j + k → bit (get_or ps (m / 8) 0) (m % 8) ≡ get_or ms m false) → marks_in k j ps ≡ take k (drop j ms)
unfolding marks_in
marks_read zero j ps ms h e = refl
marks_read (suc k) j ps ms h e =
    rw (e j (omega arith) (omega arith), drop-cons ms j false (omega arith))
    (ap (λ (l : List Bool). get_or ms j false ∷ l) (marks_read k (suc j) ps ms (omega arith) (λ m p q. e m (omega arith) (omega arith))))

-- the j-th and later marks that are read from a part
pub get_or_marks : (k j m : ℕ) (ps : List ℕ) → m < k → get_or (marks_in k j ps) m false ≡ bit (get_or ps ((j + m) / 8) 0) ((j + m) % 8)
unfolding marks_in
get_or_marks zero j m ps h = let none : ⊥ = omega arith in absurd none
get_or_marks (suc k) j zero ps h =
    let same : j + zero ≡ j = omega arith in
    rw same
get_or_marks (suc k) j (suc m) ps h =
    let next : j + suc m ≡ suc j + m = omega arith in
    rw next (get_or_marks k (suc j) m ps (omega arith))

pub length_marks : (k j : ℕ) (ps : List ℕ) → length (marks_in k j ps) ≡ k
unfolding marks_in
length_marks zero j ps = refl
length_marks (suc k) j ps = ap suc (length_marks k (suc j) ps)

-- bytes whose bits are the marks
pub packed_back : (l : ℕ) (ms : List Bool) (bs : List ℕ) → bytes_good bs ≡ true → l ≤ length bs →
    ((j : ℕ) → j < 8 * l → get_or ms j false ≡ bit (get_or bs (j / 8) 0) (j % 8)) → packed_marks l ms ≡ take l bs
unfolding packed_marks
packed_back zero ms bs g h e = refl
packed_back (suc l) ms [] g h e = let none : ⊥ = omega arith in absurd none
packed_back (suc l) ms (x ∷ bs) g h e =
    let first : byte_of 8 0 ms ≡ x =
    byte_back 8 x ms (good_head x bs g) (λ j k. e j (omega arith) ∙ (let at : j / 8 ≡ 0 = omega arith in let place : j % 8 ≡ j = omega arith in rw (at, place))) in
    let others : packed_marks l (drop 8 ms) ≡ take l bs =
    packed_back l (drop 8 ms) bs (good_tail x bs g) (omega arith)
    (λ j k. get_or-drop 8 ms j false ∙ e (8 + j) (omega arith)
    ∙ (let at : (8 + j) / 8 ≡ suc (j / 8) = omega arith in let place : (8 + j) % 8 ≡ j % 8 = omega arith in rw (at, place))) in
    rw (first, others)

-- SPARE BITS

pub spare_bits : (k j : ℕ) (ps : List ℕ) → spare_from k j ps ≡ true → (m : ℕ) → j ≤ m → m < j + k → bit (get_or ps (m / 8) 0) (m % 8) ≡ false
unfolding spare_from
spare_bits zero j ps h m p q = let none : ⊥ = omega arith in absurd none
spare_bits (suc k) j ps h m p q =
    let here = not-true (bit (get_or ps (j / 8) 0) (j % 8)) (and_left (not (bit (get_or ps (j / 8) 0) (j % 8))) (spare_from k (suc j) ps) h) in
    let later = and_right (not (bit (get_or ps (j / 8) 0) (j % 8))) (spare_from k (suc j) ps) h in
    go (eqb m j) refl here (λ r. spare_bits k (suc j) ps later m r (omega arith))
  where
    go : (t : Bool) → eqb m j ≡ t → bit (get_or ps (j / 8) 0) (j % 8) ≡ false → (suc j ≤ m → bit (get_or ps (m / 8) 0) (m % 8) ≡ false) →
        bit (get_or ps (m / 8) 0) (m % 8) ≡ false
    go true e here later = rw (eqb-true m j e) here
    go false e here later = let other = eqb-false m j e in later (omega arith)

pub bits_spare : (k j : ℕ) (ps : List ℕ) → ((m : ℕ) → j ≤ m → m < j + k → bit (get_or ps (m / 8) 0) (m % 8) ≡ false) → spare_from k j ps ≡ true
unfolding spare_from
bits_spare zero j ps e = refl
bits_spare (suc k) j ps e = rw (e j (omega arith) (omega arith)) (bits_spare k (suc j) ps (λ m p q. e m (omega arith) (omega arith)))

-- a grid row's mark bytes are the packing of its marks, when the spare bits are zero
pub packed_marks_back : (l k : ℕ) (ps : List ℕ) → bytes_good ps ≡ true → l ≤ length ps → k ≤ 8 * l → spare_from (8 * l - k) k ps ≡ true →
    packed_marks l (marks_in k 0 ps) ≡ take l ps
packed_marks_back l k ps g h fits spare = packed_back l (marks_in k 0 ps) ps g h (λ j p. go j p (ltb j k) refl)
  where
    go : (j : ℕ) → j < 8 * l → (t : Bool) → ltb j k ≡ t → get_or (marks_in k 0 ps) j false ≡ bit (get_or ps (j / 8) 0) (j % 8)
    go j p true e = get_or_marks k 0 j ps (ltb-true j k e) ∙ (let same : 0 + j ≡ j = omega arith in rw same)
    go j p false e =
        let past = ltb-false j k e in
        get_or-eq_default (marks_in k 0 ps) false (rw (length_marks k 0 ps) past) ∙ sym (spare_bits (8 * l - k) k ps spare j past (omega arith))

-- and what is packed is read back, with zero spare bits
pub marks_read_back : (l k : ℕ) (ms : List Bool) (rest : List ℕ) → length ms ≡ k → k ≤ 8 * l → marks_in k 0 (packed_marks l ms ++ rest) ≡ ms
marks_read_back l k ms rest e fits =
    marks_read k 0 (packed_marks l ms ++ rest) ms (omega arith) (λ m p q. mark_read l m ms rest (omega arith)) ∙ take_all k ms (omega arith)

pub spare_read_back : (l k : ℕ) (ms : List Bool) (rest : List ℕ) → length ms ≡ k → k ≤ 8 * l → spare_from (8 * l - k) k (packed_marks l ms ++ rest) ≡ true
spare_read_back l k ms rest e fits =
    bits_spare (8 * l - k) k (packed_marks l ms ++ rest)
    (λ m p q. mark_read l m ms rest (omega arith) ∙ get_or-eq_default ms false (omega arith))

pub length-packed : (l : ℕ) (ms : List Bool) → length (packed_marks l ms) ≡ l
unfolding packed_marks
length-packed zero ms = refl
length-packed (suc l) ms = ap suc (length-packed l (drop 8 ms))

byte_lt : (l : ℕ) (ms : List Bool) → byte_of l 0 ms < 2 ^ l
unfolding byte_of
byte_lt zero ms = omega arith
byte_lt (suc l) ms = rw (byte_split l ms) (go (get_or ms 0 false) (byte_lt l (drop 1 ms)))
  where
    go : (m : Bool) → byte_of l 0 (drop 1 ms) < 2 ^ l → cond m 1 0 + 2 * byte_of l 0 (drop 1 ms) < 2 ^ suc l
    go true h = omega arith
    go false h = omega arith

pub good_packed : (l : ℕ) (ms : List Bool) → bytes_good (packed_marks l ms) ≡ true
unfolding packed_marks bytes_good
good_packed zero ms = refl
good_packed (suc l) ms = good_cons (byte_of 8 0 ms) (packed_marks l (drop 8 ms)) (byte_lt 8 ms) (good_packed l (drop 8 ms))

-- COUNTED MARKS

-- how many are set
unfoldable pub marks_set : List Bool → ℕ
marks_set [] = 0
marks_set (m ∷ ms) = cond m 1 0 + marks_set ms

pub count_marks_is : (k j : ℕ) (ps : List ℕ) → count_marks k j ps ≡ marks_set (marks_in k j ps)
unfolding count_marks marks_in marks_set
count_marks_is zero j ps = refl
count_marks_is (suc k) j ps = ap (λ (n : ℕ). cond (bit (get_or ps (j / 8) 0) (j % 8)) 1 0 + n) (count_marks_is k (suc j) ps)

-- A PLAYER'S MARKS of an array

pub drop_marks : (m i : ℕ) (cs : List ℕ) → marks_of i (drop m cs) ≡ drop m (marks_of i cs)
unfolding marks_of
drop_marks zero i cs = refl
drop_marks (suc m) i [] = refl
drop_marks (suc m) i (c ∷ cs) = drop_marks m i cs

pub take_marks : (m i : ℕ) (cs : List ℕ) → marks_of i (take m cs) ≡ take m (marks_of i cs)
unfolding marks_of
take_marks zero i cs = refl
take_marks (suc m) i [] = refl
take_marks (suc m) i (c ∷ cs) = ap (λ (ms : List Bool). bit c i ∷ ms) (take_marks m i cs)

pub length-marks_of : (i : ℕ) (cs : List ℕ) → length (marks_of i cs) ≡ length cs
unfolding marks_of
length-marks_of i [] = refl
length-marks_of i (c ∷ cs) = ap suc (length-marks_of i cs)

packed_byte : (l k i : ℕ) (cs : List ℕ) → packed_from l k i cs ≡ byte_of l k (marks_of i cs)
unfolding packed_from byte_of marks_of
packed_byte zero k i cs = refl
packed_byte (suc l) k i [] = refl
packed_byte (suc l) k i (c ∷ cs) = ap (λ (n : ℕ). cond (bit c i) (2 ^ k) 0 + n) (packed_byte l (suc k) i cs)

-- dealing packs a player's marks
pub packed_is : (l i : ℕ) (cs : List ℕ) → packed l i cs ≡ packed_marks l (marks_of i cs)
unfolding packed packed_marks
packed_is zero i cs = refl
packed_is (suc l) i cs = rw (packed_byte 8 0 i cs, packed_is l i (drop 8 cs), drop_marks 8 i cs)
